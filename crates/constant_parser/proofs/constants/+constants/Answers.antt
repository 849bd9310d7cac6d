use Rattle.std.proofs.Common.{◌≡◌, ◌∷◌, ◌++◌, [], cond, Some, None, List, map, ap, ◌∙◌, sym, arith, rules}
use mir.Syntax.{w128}
use mir.Val.{SFits}
use Rattle.std.specs.Option.{option_map}
use Rattle.std.proofs.lemmas.Int.{to_z-of_z}
use Rattle.std.proofs.lemmas.Result.{IfOk-weaker}
use Rattle.slang_lexer.specs.declared.token.TokenKind.TheVariants as kind
use Rattle.slang_tree.specs.declared.declaration.Const.{Const}
use Rattle.slang_tree.specs.declared.declaration.Const.TheVariants as consts
use Rattle.slang_tree.specs.TypeTree.{type_tree}
use Rattle.slang_tree.specs.DeclTree as d
use Rattle.slang_tree.specs.DeclTree.{const_tree, consts_of}
use Rattle.slang_tree.proofs.Lines.{const_tree-Number, const_tree-True, const_tree-False}
use Rattle.slang_tokens.specs.Tok.{tok}
use Rattle.slang_machine.specs.Open.{constants_in, fields_in, of_constants, whole_type}
use Rattle.slang_machine.specs.States.{want_const, const_or_end, consts_type, consts_left, fields_left}
use Rattle.slang_machine.specs.Declarations.{end_const}
use Rattle.token_cursor.specs.Outcome.{outcome}
use Rattle.token_cursor.specs.Gives.{ahead}
use Rattle.token_cursor.proofs.Exits.{passed_on, built, refused_by, refused_as, kept_with, kept_refused}
use Rattle.expression_parser.proofs.Turns.{list_start, map_push}
use Rattle.constant_parser.specs.Constants.{behind_const_head}
use Rattle.constant_parser.proofs.ReadConstants.{opens_constants, constants_open, reads_elements, reads_fields, fields_due}
use Rattle.constant_parser.proofs.Turns.{const_or_end_turn, const_end, consts_start}
use Rattle.constant_parser.proofs.constants.+constants.Goals as goal

pub constant-returns-in_err-head-clause-refused : goal.constant-returns-in_err-head-clause-refused
constant-returns-in_err-head-clause-refused t c =
    passed_on c.from_residual.result _ _ _ c.from_residual.ensures.1 c.in_err-head.ensures.refused (λ due none around. none around)

pub constant-returns-clause-reads : goal.constant-returns-clause-reads
constant-returns-clause-reads t c =
    IfOk-weaker c.constant_behind.result _ _ (λ made reads around.
    c.in_ok-head.ensures.reads around ∙ reads around) c.constant_behind.ensures.reads

pub constant-returns-clause-refused : goal.constant-returns-clause-refused
constant-returns-clause-refused t c =
    refused_as c.constant_behind.result _ _ (λ due none around.
    c.in_ok-head.ensures.reads around ∙ none around) c.constant_behind.ensures.refused

pub constant_behind-returns-in-Number-clause-reads : goal.constant_behind-returns-in-Number-clause-reads
constant_behind-returns-in-Number-clause-reads t c = λ around.
    let more = ahead c.args.tokens.now in
    let place = c.args.token.now.place in
    let fits : SFits w128 c.in-Number.value = search rules in
    ap (λ h. outcome (behind_const_head around (tok c.args.token.now) h) (ahead c.args.tokens.now)) c.in-Number.is
    ∙ ap (λ x. outcome (end_const x around) more) (sym (const_tree-Number place c.in-Number.value))
    ∙ ap (λ z. outcome (end_const (const_tree (consts.Number place z)) around) more) (sym (to_z-of_z w128 c.in-Number.value fits))

pub constant_behind-returns-in-True-clause-reads : goal.constant_behind-returns-in-True-clause-reads
constant_behind-returns-in-True-clause-reads t c = λ around.
    ap (λ h. outcome (behind_const_head around (tok c.args.token.now) h) (ahead c.args.tokens.now)) c.in-True.is
    ∙ ap (λ x. outcome (end_const x around) (ahead c.args.tokens.now)) (sym (const_tree-True c.args.token.now.place))

pub constant_behind-returns-in-False-clause-reads : goal.constant_behind-returns-in-False-clause-reads
constant_behind-returns-in-False-clause-reads t c = λ around.
    ap (λ h. outcome (behind_const_head around (tok c.args.token.now) h) (ahead c.args.tokens.now)) c.in-False.is
    ∙ ap (λ x. outcome (end_const x around) (ahead c.args.tokens.now)) (sym (const_tree-False c.args.token.now.place))

pub constant_behind-returns-in-Minus-clause-reads : goal.constant_behind-returns-in-Minus-clause-reads
constant_behind-returns-in-Minus-clause-reads t c =
    IfOk-weaker c.minus.result _ _ (λ made reads around.
    ap (λ h. outcome (behind_const_head around (tok c.args.token.now) h) (ahead c.args.tokens.now)) c.in-Minus.is
    ∙ reads around) c.minus.ensures.reads

pub constant_behind-returns-in-Minus-clause-refused : goal.constant_behind-returns-in-Minus-clause-refused
constant_behind-returns-in-Minus-clause-refused t c =
    refused_as c.minus.result _ _ (λ due none around.
    ap (λ h. outcome (behind_const_head around (tok c.args.token.now) h) (ahead c.args.tokens.now)) c.in-Minus.is
    ∙ none around) c.minus.ensures.refused

pub constant_behind-returns-in-Sequence-clause-reads : goal.constant_behind-returns-in-Sequence-clause-reads
constant_behind-returns-in-Sequence-clause-reads t c =
    IfOk-weaker c.sequence_value.result _ _ (λ made reads around.
    ap (λ h. outcome (behind_const_head around (tok c.args.token.now) h) (ahead c.args.tokens.now)) c.in-Sequence.is
    ∙ reads around) c.sequence_value.ensures.reads

pub constant_behind-returns-in-Sequence-clause-refused : goal.constant_behind-returns-in-Sequence-clause-refused
constant_behind-returns-in-Sequence-clause-refused t c =
    refused_as c.sequence_value.result _ _ (λ due none around.
    ap (λ h. outcome (behind_const_head around (tok c.args.token.now) h) (ahead c.args.tokens.now)) c.in-Sequence.is
    ∙ none around) c.sequence_value.ensures.refused

pub constant_behind-returns-in-Name-clause-reads : goal.constant_behind-returns-in-Name-clause-reads
constant_behind-returns-in-Name-clause-reads t c =
    IfOk-weaker c.record_value.result _ _ (λ made reads around.
    ap (λ h. outcome (behind_const_head around (tok c.args.token.now) h) (ahead c.args.tokens.now)) c.in-Name.is
    ∙ reads around) c.record_value.ensures.reads

pub constant_behind-returns-in-Name-clause-refused : goal.constant_behind-returns-in-Name-clause-refused
constant_behind-returns-in-Name-clause-refused t c =
    refused_as c.record_value.result _ _ (λ due none around.
    ap (λ h. outcome (behind_const_head around (tok c.args.token.now) h) (ahead c.args.tokens.now)) c.in-Name.is
    ∙ none around) c.record_value.ensures.refused

pub sequence_value-returns-in_err-ty-clause-refused : goal.sequence_value-returns-in_err-ty-clause-refused
sequence_value-returns-in_err-ty-clause-refused t c =
    passed_on c.from_residual.result _ _ _ c.from_residual.ensures.1 c.in_err-ty.ensures.refused (λ due none around.
    let place = c.args.place in
    none (consts_type place around) (whole_type (of_constants place around)) (λ ty. consts_left place (Some ty) around)
    (want_const (constants_in place None [] around)) (λ ty. const_or_end (constants_in place (Some ty) [] around)) (opens_constants place around))

pub sequence_value-returns-clause-reads : goal.sequence_value-returns-clause-reads
sequence_value-returns-clause-reads t c =
    let place = c.args.place in
    let ty = option_map type_tree c.in_ok-ty.ty in
    built c.sequence_of.result c.constants.result (λ made read. const_tree made ≡ d.const_sequence place ty (consts_of (map const_tree read))) _ _ c.sequence_of.ensures.made c.constants.ensures.reads (λ made read reads same around.
    c.in_ok-ty.ensures.reads (consts_type place around) (whole_type (of_constants place around)) (λ ty. consts_left place (Some ty) around)
    (want_const (constants_in place None [] around)) (λ ty. const_or_end (constants_in place (Some ty) [] around)) (opens_constants place around)
    ∙ ap (λ s. outcome s (ahead c.sequence_head.new.tokens)) (constants_open place around c.in_ok-ty.ty c.is_none-some.result c.is_none-some.ensures)
    ∙ reads (λ consts. constants_in place ty consts around) (λ consts. end_const (d.const_sequence place ty (consts_of consts)) around) (reads_elements place ty around)
    ∙ ap (λ tree. outcome (end_const tree around) (ahead c.constants.new.tokens)) (sym same))

pub sequence_value-returns-clause-refused : goal.sequence_value-returns-clause-refused
sequence_value-returns-clause-refused t c =
    let place = c.args.place in
    let ty = option_map type_tree c.in_ok-ty.ty in
    refused_by c.sequence_of.result c.constants.result _ _ c.sequence_of.ensures.refused c.constants.ensures.refused (λ due none around.
    c.in_ok-ty.ensures.reads (consts_type place around) (whole_type (of_constants place around)) (λ ty. consts_left place (Some ty) around)
    (want_const (constants_in place None [] around)) (λ ty. const_or_end (constants_in place (Some ty) [] around)) (opens_constants place around)
    ∙ ap (λ s. outcome s (ahead c.sequence_head.new.tokens)) (constants_open place around c.in_ok-ty.ty c.is_none-some.result c.is_none-some.ensures)
    ∙ none (λ consts. constants_in place ty consts around) (λ consts. end_const (d.const_sequence place ty (consts_of consts)) around) (reads_elements place ty around))

pub record_value-returns-clause-reads : goal.record_value-returns-clause-reads
record_value-returns-clause-reads t c =
    built c.record_of.result c.fields.result (λ made read. const_tree made ≡ d.const_record c.in_ok-name.name (consts_of (map const_tree read))) _ _ c.record_of.ensures.made c.fields.ensures.reads (λ made read reads same around.
    ap (λ n. outcome (fields_left n around) (ahead c.args.tokens.now)) (sym c.in_ok-name.ensures)
    ∙ reads c.in_ok-name.name around
    ∙ ap (λ tree. outcome (end_const tree around) (ahead c.fields.new.tokens)) (sym same))

pub record_value-returns-clause-refused : goal.record_value-returns-clause-refused
record_value-returns-clause-refused t c =
    refused_by c.record_of.result c.fields.result _ _ c.record_of.ensures.refused c.fields.ensures.refused (λ due none around.
    ap (λ n. outcome (fields_left n around) (ahead c.args.tokens.now)) (sym c.in_ok-name.ensures)
    ∙ none c.in_ok-name.name around)

pub fields-returns-in_err-expect-clause-refused : goal.fields-returns-in_err-expect-clause-refused
fields-returns-in_err-expect-clause-refused t c =
    passed_on c.from_residual.result _ _ _ c.from_residual.ensures.1 c.in_err-expect.ensures.refused (λ due none written around. none (fields_left written around) (want_const (fields_in written [] around)) (fields_due _ written around))

pub fields-returns-clause-reads : goal.fields-returns-clause-reads
fields-returns-clause-reads t c =
    IfOk-weaker c.constants.result _ _ (λ made reads written around.
    c.in_ok-expect.ensures.reads (fields_left written around) (want_const (fields_in written [] around)) (fields_due _ written around)
    ∙ reads (λ consts. fields_in written consts around) (λ consts. end_const (d.const_record written (consts_of consts)) around) (reads_fields written around)) c.constants.ensures.reads

pub fields-returns-clause-refused : goal.fields-returns-clause-refused
fields-returns-clause-refused t c =
    refused_as c.constants.result _ _ (λ due none written around.
    c.in_ok-expect.ensures.reads (fields_left written around) (want_const (fields_in written [] around)) (fields_due _ written around)
    ∙ none (λ consts. fields_in written consts around) (λ consts. end_const (d.const_record written (consts_of consts)) around) (reads_fields written around)) c.constants.ensures.refused

pub constants-returns-in_err-refuse_empty-clause-refused : goal.constants-returns-in_err-refuse_empty-clause-refused
constants-returns-in_err-refuse_empty-clause-refused t c =
    passed_on c.from_residual.result _ _ _ c.from_residual.ensures.1 c.in_err-refuse_empty.ensures.refused (λ due none at over x. none at)

pub constants-returns-clause-reads : goal.constants-returns-clause-reads
constants-returns-clause-reads t c =
    kept_with c.kept.result c.add_constants-end.new.list c.add_constants-end.result _ _ c.kept.ensures c.add_constants-end.ensures.reads (λ reads at over x.
    consts_start at over c.args.some (ahead c.args.tokens.now) x c.in_ok-refuse_empty.ensures.begun
    ∙ ap (λ (l : List Const). outcome (const_or_end (at (map const_tree l))) (ahead c.args.tokens.now)) (sym c.new-list.ensures)
    ∙ reads at over x)

pub constants-returns-clause-refused : goal.constants-returns-clause-refused
constants-returns-clause-refused t c =
    kept_refused c.kept.result c.add_constants-end.new.list c.add_constants-end.result _ _ c.kept.ensures c.add_constants-end.ensures.refused (λ due none at over x.
    consts_start at over c.args.some (ahead c.args.tokens.now) x c.in_ok-refuse_empty.ensures.begun
    ∙ ap (λ (l : List Const). outcome (const_or_end (at (map const_tree l))) (ahead c.args.tokens.now)) (sym c.new-list.ensures)
    ∙ none at over x)

pub add_constants-members-init : goal.add_constants-members-init
add_constants-members-init t c = record {
  reads = λ at over x.
      let so_far = map const_tree c.args.list.now in
      list_start kind.RightParen (const_or_end (at so_far)) (want_const (at so_far)) (over so_far) (ahead c.args.tokens.now) (ahead c.take-more.new.self) c.take-more.result
      (const_or_end_turn at over so_far (ahead c.args.tokens.now) x) c.take-more.ensures.found c.take-more.ensures.moved;
  no_longer = c.take-more.ensures.no_longer;
}

pub add_constants-members-preserved : goal.add_constants-members-preserved
add_constants-members-preserved t c =
    let so_far = map const_tree c.members.list in
    let const = const_tree c.in_ok-member.member in
    let next_far = so_far ++ const ∷ [] in
    let grown = map_push const_tree c.members.list c.push.new.self c.in_ok-member.member c.in_ok-push.ensures.ok in
    record {
      reads = λ at over x.
          c.members.invariant.reads at over x
          ∙ ap (λ b. outcome (cond b (want_const (at so_far)) (over so_far)) (ahead c.members.tokens)) c.members-test.true
          ∙ c.in_ok-member.ensures.reads (at so_far)
          ∙ ap (λ s. outcome s (ahead c.constant.new.tokens)) (x.inside so_far const)
          ∙ const_end at over so_far const (ahead c.constant.new.tokens) x
          ∙ c.in_ok-more.ensures.reads (want_const (at next_far)) (over next_far)
          ∙ ap (λ xs. outcome (cond c.in_ok-more.more (want_const (at xs)) (over xs)) (ahead c.goes_on.new.self)) (sym grown);
      no_longer = omega (arith, c.members.invariant.no_longer, c.in_ok-member.ensures.shorter, c.in_ok-more.ensures.shorter);
    }

pub add_constants-returns-in_err-member-clause-refused : goal.add_constants-returns-in_err-member-clause-refused
add_constants-returns-in_err-member-clause-refused t c =
    passed_on c.from_residual.result _ _ _ c.from_residual.ensures.1 c.in_err-member.ensures.refused (λ due none at over x.
    let so_far = map const_tree c.members.list in
    c.members.invariant.reads at over x
    ∙ ap (λ b. outcome (cond b (want_const (at so_far)) (over so_far)) (ahead c.members.tokens)) c.members-test.true
    ∙ none (at so_far))

pub add_constants-returns-in_err-more-clause-refused : goal.add_constants-returns-in_err-more-clause-refused
add_constants-returns-in_err-more-clause-refused t c =
    passed_on c.from_residual-in_err-more.result _ _ _ c.from_residual-in_err-more.ensures.1 c.in_err-more.ensures.refused (λ due none at over x.
    let so_far = map const_tree c.members.list in
    let const = const_tree c.in_ok-member.member in
    let next_far = so_far ++ const ∷ [] in
    c.members.invariant.reads at over x
    ∙ ap (λ b. outcome (cond b (want_const (at so_far)) (over so_far)) (ahead c.members.tokens)) c.members-test.true
    ∙ c.in_ok-member.ensures.reads (at so_far)
    ∙ ap (λ s. outcome s (ahead c.constant.new.tokens)) (x.inside so_far const)
    ∙ const_end at over so_far const (ahead c.constant.new.tokens) x
    ∙ none (want_const (at next_far)) (over next_far))
