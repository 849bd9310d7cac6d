use Rattle.std.proofs.Common.{◌≡◌, ◌∙◌, ◌∷◌, ◌++◌, ◌+◌, [], ap, map, subst, sym, take, SFits, rules}
use Rattle.std.specs.Int.{w128}
use Rattle.std.proofs.lemmas.Int.{to_z-of_z}
use Rattle.std.proofs.lemmas.Result.{IfOk-at_ok, IfOk-weaker}
use Rattle.std.proofs.lemmas.List.{map_more}
use Rattle.std.specs.Option.{option_map}
use Rattle.slang_values.specs.Tree.{record_of, sequence_of}
use Rattle.slang_tree.specs.TypeTree.{type_tree}
use Rattle.slang_tree.specs.DeclTree.{const_tree, consts_of, const_sequence, const_record}
use Rattle.slang_tree.proofs.Lines.{const_tree-Number, const_tree-Minus, const_tree-True, const_tree-False, const_tree-Sequence, const_tree-Record}
use Rattle.program_trees.specs.Programs.{listed, number}
use Rattle.lk_programs.specs.Expr.{typed_expr, typed_exprs}
use Rattle.lk_programs.proofs.Exprs.{typed_expr-Rec, typed_expr-SeqLit}
use Rattle.type_rules.specs.Meanings.{meaning_of}
use Rattle.type_rules.specs.Constants.{judged_consts}
use Rattle.type_rules.specs.Expressions.{written_elements}
use Rattle.typed_names.specs.Nodes.{IsMade}
use Rattle.typed_texts.specs.Claims.{type_of_elements}
use Rattle.typed_texts.specs.Numbered.{single}
use Rattle.typed_texts.specs.Values.{record_meant}
use Rattle.constant_making.specs.Constants.{constants_in, minus_in}
use Rattle.constant_making.proofs.Forms.{constant_by, constants_more, made_listed}
use Rattle.constant_making.proofs.making.+constant.Goals as goal

pub constant_of-returns-in-Number : goal.constant_of-returns-in-Number
constant_of-returns-in-Number t c =
    let z = c.in-Number.z in
    let within : SFits w128 z = search rules in
    IfOk-weaker c.literal.result _ _ (λ v made at fits.
    constant_by at _ _ (ap const_tree c.in-Number.is ∙ const_tree-Number c.in-Number.place z)
    (subst (λ n. IsMade c.args.nodes.now c.literal.new.nodes (typed_expr v) (single c.in-Number.place (λ node. number node n))) (to_z-of_z w128 z within) made)) c.literal.ensures

pub constant_of-returns-in-Minus : goal.constant_of-returns-in-Minus
constant_of-returns-in-Minus t c =
    let z = c.in-Minus.z in
    let within : SFits w128 z = search rules in
    IfOk-weaker c.minus.result _ _ (λ v made at fits.
    constant_by at _ _ (ap const_tree c.in-Minus.is ∙ const_tree-Minus c.in-Minus.place c.in-Minus.digits z)
    (subst (λ n. IsMade c.args.nodes.now c.minus.new.nodes (typed_expr v) (minus_in at c.in-Minus.place c.in-Minus.digits n)) (to_z-of_z w128 z within) (made at))) c.minus.ensures

pub constant_of-returns-in-True : goal.constant_of-returns-in-True
constant_of-returns-in-True t c =
    IfOk-weaker c.truth.result _ _ (λ v made at fits.
    constant_by at _ _ (ap const_tree c.in-True.is ∙ const_tree-True c.in-True.place) made) c.truth.ensures

pub constant_of-returns-in-False : goal.constant_of-returns-in-False
constant_of-returns-in-False t c =
    IfOk-weaker c.truth-in-False.result _ _ (λ v made at fits.
    constant_by at _ _ (ap const_tree c.in-False.is ∙ const_tree-False c.in-False.place) made) c.truth-in-False.ensures

pub constant_of-returns-in-Sequence : goal.constant_of-returns-in-Sequence
constant_of-returns-in-Sequence t c =
    let place = c.in-Sequence.place in
    let ty = option_map type_tree c.in-Sequence.ty in
    IfOk-weaker c.sequence.result _ _ (λ v made at fits.
    constant_by at _ _
    (ap const_tree c.in-Sequence.is ∙ const_tree-Sequence place c.in-Sequence.ty c.in-Sequence.elements
    ∙ ap (λ es. const_sequence place ty (consts_of (map const_tree es))) (sym c.as_slice.ensures))
    (made at fits)) c.sequence.ensures

pub constant_of-returns-in-Record : goal.constant_of-returns-in-Record
constant_of-returns-in-Record t c =
    let name = c.in-Record.name in
    IfOk-weaker c.record.result _ _ (λ v made at fits.
    constant_by at _ _
    (ap const_tree c.in-Record.is ∙ const_tree-Record name c.in-Record.fields
    ∙ ap (λ es. const_record name (consts_of (map const_tree es))) (sym c.as_slice-in-Record.ensures))
    (made at fits)) c.record.ensures

pub sequence-returns : goal.sequence-returns
sequence-returns t c = λ at fits.
    let parts = c.in_ok-ty.ensures.parts in
    let trees = consts_of (map const_tree c.args.elements.now) in
    let element = type_of_elements (written_elements at (option_map type_tree c.args.ty.now)) (judged_consts at trees) in
    made_listed c.args.nodes.now c.add.new.self c.args.place c.in_ok-node.node.0 c.in_ok-node.ensures.number c.in_ok-node.ensures.added at _
    (sequence_of element) _ _ trees
    (IfOk-at_ok _ parts.1 c.constants_of.ensures at fits)
    (typed_expr-SeqLit c.in_ok-node.node c.in_ok-ty.ty c.in_ok-ty.elements
    ∙ ap (λ type. listed c.in_ok-node.node.0 (sequence_of type) (typed_exprs c.in_ok-ty.elements)) (IfOk-at_ok _ parts.0 c.elements_ty.ensures at fits))

pub record-returns : goal.record-returns
record-returns t c = λ at fits.
    let trees = consts_of (map const_tree c.args.fields.now) in
    let number = record_meant (meaning_of at c.args.name.now.text) in
    made_listed c.args.nodes.now c.add.new.self c.args.name.now.place c.in_ok-node.node.0 c.in_ok-node.ensures.number c.in_ok-node.ensures.added at _
    (record_of number) _ _ trees (c.in_ok-fields.ensures at fits)
    (typed_expr-Rec c.in_ok-node.node c.record_number-number.result c.in_ok-fields.fields
    ∙ ap (λ n. listed c.in_ok-node.node.0 (record_of n) (typed_exprs c.in_ok-fields.fields))
    (c.record_number-number.ensures at fits ∙ ap (λ text. record_meant (meaning_of at text)) c.as_str.ensures))

pub constants_of-loop-constant-preserved : goal.constants_of-loop-constant-preserved
constants_of-loop-constant-preserved t c =
    let i = c.loop-constant.constant-index in
    let constants = c.args.constants.now in
    let before = map const_tree (take i constants) in
    let more : map const_tree (take (i + 1) constants) ≡ before ++ const_tree c.constant-item.result ∷ [] =
    map_more const_tree constants i c.constant-item.result c.loop-constant-test.true ∙ ap (λ x. before ++ const_tree x ∷ []) (sym c.constant-item.is) in
    λ at fits.
    subst (λ values. IsMade c.args.nodes.now c.constant_of.new.nodes (typed_exprs values) (constants_in at (consts_of (map const_tree (take (i + 1) constants)))))
    (sym c.in_ok-push.ensures.ok)
    (constants_more at c.args.nodes.now c.loop-constant.nodes c.constant_of.new.nodes c.loop-constant.values c.in_ok-value.value before (const_tree c.constant-item.result)
    (map const_tree (take (i + 1) constants)) more (c.loop-constant.invariant at fits) (c.in_ok-value.ensures at fits))
