use Rattle.std.proofs.Common.{[], ◌∷◌, ◌++◌, ◌+◌, ◌≡◌, ◌∙◌, ap, map, subst, sym, take}
use Rattle.std.specs.Prelude.{IfOk}
use Rattle.std.specs.Option.{option_map}
use Rattle.std.proofs.lemmas.List.{map_more}
use Rattle.slang_tree.specs.TypeTree.{type_tree}
use Rattle.slang_tree.specs.DeclTree.{const_tree, consts_of}
use Rattle.slang_tree.proofs.Lines.{const_tree-Record, const_tree-Sequence}
use Rattle.type_rules.specs.Meanings.{Scope, meaning_of}
use Rattle.type_rules.specs.Constants.{judged_applied, judged_const, judged_consts}
use Rattle.type_rules.specs.Expressions.{judged_elements, judged_listed, written_elements}
use Rattle.text_types.specs.Found.{AreJudged, IsJudged, seen}
use Rattle.name_scopes.specs.Fits.{Fits}
use Rattle.expression_forms.specs.Forms.{front_seen}
use Rattle.expression_forms.proofs.Lists.{listed_alone}
use Rattle.constant_judging.proofs.Each.{applied_parts, each_more, listed_typed}
use Rattle.constant_judging.proofs.judged.+judged.Goals as goal

pub judged_const-returns-in-Sequence : goal.judged_const-returns-in-Sequence
judged_const-returns-in-Sequence t c =
    subst (λ tree. IfOk c.judged_sequence.result (λ found. (at : Scope) → Fits c.args.scope.now at
    → IsJudged c.args.told.now.found c.judged_sequence.new.told.found found (judged_const at tree)))
    (sym (ap const_tree c.in-Sequence.is ∙ const_tree-Sequence c.in-Sequence.place c.in-Sequence.ty c.in-Sequence.parts))
    (subst (λ parts. IfOk c.judged_sequence.result (λ found. (at : Scope) → Fits c.args.scope.now at
    → IsJudged c.args.told.now.found c.judged_sequence.new.told.found found
    (judged_listed c.in-Sequence.place (written_elements at (option_map type_tree c.in-Sequence.ty)) (judged_consts at (consts_of (map const_tree parts))))))
    c.as_slice.ensures c.judged_sequence.ensures)

pub judged_const-returns-in-Record : goal.judged_const-returns-in-Record
judged_const-returns-in-Record t c =
    subst (λ tree. IfOk c.judged_record.result (λ found. (at : Scope) → Fits c.args.scope.now at
    → IsJudged c.args.told.now.found c.judged_record.new.told.found found (judged_const at tree)))
    (sym (ap const_tree c.in-Record.is ∙ const_tree-Record c.in-Record.name c.in-Record.fields))
    (subst (λ fields. IfOk c.judged_record.result (λ found. (at : Scope) → Fits c.args.scope.now at
    → IsJudged c.args.told.now.found c.judged_record.new.told.found found
    (judged_applied at c.in-Record.name.place (meaning_of at c.in-Record.name.text) (judged_consts at (consts_of (map const_tree fields))))))
    c.as_slice-in-Record.ensures c.judged_record.ensures)

pub judged_consts-loop-constant-preserved : goal.judged_consts-loop-constant-preserved
judged_consts-loop-constant-preserved t c = λ at fits.
    let i = c.loop-constant.constant-index in
    let constants = c.args.constants.now in
    let before = map const_tree (take i constants) in
    let more : map const_tree (take (i + 1) constants) ≡ before ++ const_tree c.constant-item.result ∷ [] =
    map_more const_tree constants i c.constant-item.result c.loop-constant-test.true ∙ ap (λ x. before ++ const_tree x ∷ []) (sym c.constant-item.is) in
    subst (λ founds. AreJudged c.args.told.now.found c.judged_const.new.told.found founds (judged_consts at (consts_of (map const_tree (take (i + 1) constants)))))
    (sym c.in_ok-push.ensures.ok)
    (each_more at before (map const_tree (take (i + 1) constants)) (const_tree c.constant-item.result) more (c.loop-constant.invariant at fits) (c.in_ok-found.ensures at fits))

pub judged_record-returns : goal.judged_record-returns
judged_record-returns t c = λ at fits.
    let place = c.args.name.now.place in
    let meaning = meaning_of at c.args.name.now.text in
    applied_parts at place meaning (judged_consts at (consts_of (map const_tree c.args.fields.now)))
    (c.in_ok-founds.ensures at fits)
    (subst (λ founds. IsJudged c.judged_consts.new.told.found c.applied.new.told.found c.applied.result (judged_applied at place meaning (map seen founds)))
    c.as_slice.ensures (c.applied.ensures at fits))

pub judged_sequence-returns-in_ok-founds-in-None : goal.judged_sequence-returns-in_ok-founds-in-None
judged_sequence-returns-in_ok-founds-in-None t c = λ at fits.
    let parts = judged_consts at (consts_of (map const_tree c.args.parts.now)) in
    subst (λ ty. IsJudged c.args.told.now.found c.elements.new.told.found c.elements.result (judged_listed c.args.place (written_elements at (option_map type_tree ty)) parts))
    (sym c.in-None.is)
    (listed_alone c.args.place parts (c.in_ok-founds-in-None.ensures at fits)
    (subst (λ founds. IsJudged c.judged_consts.new.told.found c.elements.new.told.found c.elements.result (judged_elements c.args.place (map seen founds)))
    c.as_slice.ensures c.elements.ensures))

pub judged_sequence-returns-in_ok-founds-in-Some : goal.judged_sequence-returns-in_ok-founds-in-Some
judged_sequence-returns-in_ok-founds-in-Some t c = λ at fits.
    let parts = judged_consts at (consts_of (map const_tree c.args.parts.now)) in
    let front = c.element_of-front.result in
    subst (λ ty. IsJudged c.args.told.now.found c.listed.new.told.found c.listed.result (judged_listed c.args.place (written_elements at (option_map type_tree ty)) parts))
    (sym c.in-Some.is)
    (listed_typed c.args.scope.now at front c.args.place (type_tree c.in-Some.ty) parts fits c.element_of-front.ensures (c.in_ok-founds-in-Some.ensures at fits)
    (λ F. subst (λ founds. IsJudged c.judged_consts-in-Some.new.told.found c.listed.new.told.found c.listed.result (judged_listed c.args.place (front_seen F front ∷ []) (map seen founds)))
    c.as_slice-in-Some.ensures (c.listed.ensures F)))
