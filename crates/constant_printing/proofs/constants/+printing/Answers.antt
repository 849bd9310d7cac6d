use Rattle.std.proofs.Common.{codes, refl, ap, ◌∙◌, SFits, rules}
use Rattle.std.specs.Option.{option_map}
use Rattle.std.specs.Int.{w128}
use Rattle.std.proofs.lemmas.Int.{to_z-of_z}
use Rattle.std.proofs.lemmas.Result.{on_ok_weaker}
use Rattle.slang_lexer.specs.declared.token.TokenKind.TheVariants as kind
use Rattle.slang_lexer.specs.Spelling.{signs, words}
use Rattle.slang_tree.specs.TypeTree.{type_tree}
use Rattle.slang_tree.specs.DeclTree.{const_tree, const_number, const_minus, const_truth, const_falsity, const_sequence, const_record}
use Rattle.slang_tree.proofs.Lines.{const_tree-Number, const_tree-Minus, const_tree-True, const_tree-False, const_tree-Sequence, const_tree-Record}
use Rattle.print_expressions.specs.Bare.{nowhere}
use Rattle.print_layout.specs.Pieces.{none}
use Rattle.token_printing.specs.Gaps.{gap_seen}
use Rattle.expression_printing.proofs.Adds.{adds_word}
use Rattle.constant_printing.proofs.Forms.{adds_const, number_held, minus_added, listed_added, one_behind, enclosed_added, sequence_added, record_added}
use Rattle.constant_printing.proofs.constants.+printing.Goals as goal

pub add_const-returns-in-Number : goal.add_const-returns-in-Number
add_const-returns-in-Number t c =
    let within : SFits w128 c.in-Number.z = search rules in
    on_ok_weaker c.add_number.result
    (λ h. adds_const (gap_seen c.args.gap) (const_tree c.args.constant.now) _ (ap const_tree c.in-Number.is ∙ const_tree-Number c.in-Number.field-0 c.in-Number.z)
    (number_held (gap_seen c.args.gap) _ c.in-Number.z (to_z-of_z w128 c.in-Number.z within) h)) c.add_number.ensures

pub add_const-returns-in_ok-add_word-in-Minus : goal.add_const-returns-in_ok-add_word-in-Minus
add_const-returns-in_ok-add_word-in-Minus t c =
    let within : SFits w128 c.in-Minus.z = search rules in
    on_ok_weaker c.add_number-in-Minus.result
    (λ h. adds_const (gap_seen c.args.gap) (const_tree c.args.constant.now) _
    (ap const_tree c.in-Minus.is ∙ const_tree-Minus c.in-Minus.field-0 c.in-Minus.field-1 c.in-Minus.z)
    (minus_added (gap_seen c.args.gap) c.in-Minus.field-0 c.in-Minus.field-1 c.in-Minus.z c.in_ok-add_word-in-Minus.ensures
    (number_held none _ c.in-Minus.z (to_z-of_z w128 c.in-Minus.z within) h))) c.add_number-in-Minus.ensures

pub add_const-returns-in-True : goal.add_const-returns-in-True
unfolding signs words
add_const-returns-in-True t c =
    on_ok_weaker c.add_word-in-True.result
    (λ h. adds_const (gap_seen c.args.gap) (const_tree c.args.constant.now) _ (ap const_tree c.in-True.is ∙ const_tree-True c.in-True.field-0)
    (adds_word (gap_seen c.args.gap) kind.True nowhere (codes "T") refl h)) c.add_word-in-True.ensures

pub add_const-returns-in-False : goal.add_const-returns-in-False
unfolding signs words
add_const-returns-in-False t c =
    on_ok_weaker c.add_word-in-False.result
    (λ h. adds_const (gap_seen c.args.gap) (const_tree c.args.constant.now) _ (ap const_tree c.in-False.is ∙ const_tree-False c.in-False.field-0)
    (adds_word (gap_seen c.args.gap) kind.False nowhere (codes "F") refl h)) c.add_word-in-False.ensures

pub add_const-returns-in_ok-add_element-in-Sequence : goal.add_const-returns-in_ok-add_element-in-Sequence
add_const-returns-in_ok-add_element-in-Sequence t c =
    on_ok_weaker c.add_enclosed.result
    (λ h. adds_const (gap_seen c.args.gap) (const_tree c.args.constant.now) _
    (ap const_tree c.in-Sequence.is ∙ const_tree-Sequence c.in-Sequence.field-0 c.in-Sequence.ty c.in-Sequence.elements)
    (sequence_added (gap_seen c.args.gap) c.in-Sequence.field-0 c.in-Sequence.ty c.in-Sequence.elements _ c.as_slice.ensures c.in_ok-add_word-in-Sequence.ensures
    c.in_ok-add_element-in-Sequence.ensures h)) c.add_enclosed.ensures

pub add_const-returns-in_ok-add_name-in-Record : goal.add_const-returns-in_ok-add_name-in-Record
add_const-returns-in_ok-add_name-in-Record t c =
    on_ok_weaker c.add_enclosed-in-Record.result
    (λ h. adds_const (gap_seen c.args.gap) (const_tree c.args.constant.now) _ (ap const_tree c.in-Record.is ∙ const_tree-Record c.in-Record.name c.in-Record.fields)
    (record_added (gap_seen c.args.gap) c.in-Record.name c.in-Record.fields _ c.as_slice-in-Record.ensures c.in_ok-add_name-in-Record.ensures h))
    c.add_enclosed-in-Record.ensures

pub add_enclosed-returns : goal.add_enclosed-returns
add_enclosed-returns t c =
    on_ok_weaker c.add_text-2.result (λ h. enclosed_added c.args.constants.now c.in_ok-add_text.ensures c.in_ok-add_listed.ensures h) c.add_text-2.ensures

pub add_listed-returns-in_ok-add_const-in-Some : goal.add_listed-returns-in_ok-add_const-in-Some
add_listed-returns-in_ok-add_const-in-Some t c =
    on_ok_weaker c.add_behind.result
    (λ h. listed_added c.args.constants.now _ _ c.in-Some.ensures.cases.0 c.in_ok-add_const-in-Some.ensures h) c.add_behind.ensures

pub add_behind-loop-constant-preserved : goal.add_behind-loop-constant-preserved
add_behind-loop-constant-preserved t c =
    one_behind c.args.constants.now c.loop-constant.constant-index _ c.loop-constant-test.true c.constant-item.is c.loop-constant.invariant c.in_ok-add_text.ensures
    c.in_ok-add_const.ensures
