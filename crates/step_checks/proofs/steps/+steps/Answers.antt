use Rattle.std.proofs.Common.{◌≡◌, true, false, map, IfOk, sym, ap, ap₂, ◌∙◌, subst}
use Rattle.lk_claims.specs.Claim.{claim_tree, value_type}
use Rattle.lk_claims.specs.Step.{step_tree, step_trees}
use Rattle.lk_claims.proofs.Steps.{step_tree-Line, step_tree-Sub}
use Rattle.claim_types.specs.Views.{records_of}
use Rattle.step_checks.specs.Tests.{with_symbol, given_passes, step_passes, block_passes}
use Rattle.step_checks.proofs.Passing.{block_is, none_there, refused, lowest, deeper, line_passes, line_refused}
use Rattle.step_checks.proofs.steps.+steps.Goals as goal

pub block_passes-returns-then-not-given_passes-clause-answer : goal.block_passes-returns-then-not-given_passes-clause-answer
block_passes-returns-then-not-given_passes-clause-answer t c =
    let records = records_of c.args.records.now in
    let variables = map value_type c.args.vars.now in
    let given = claim_tree c.args.assumption.now in
    refused records variables c.args.labels.now given (step_trees c.args.steps.now) c.args.depth
    (subst (λ ls. given_passes records variables ls given ≡ false) c.as_slice.ensures (sym c.given_passes.ensures ∙ c.if-not-given_passes.true))

pub block_passes-returns-then-depth-eq0-clause-answer : goal.block_passes-returns-then-depth-eq0-clause-answer
block_passes-returns-then-depth-eq0-clause-answer t c =
    let records = records_of c.args.records.now in
    let variables = map value_type c.args.vars.now in
    let given = claim_tree c.args.assumption.now in
    lowest records variables c.args.labels.now given (step_trees c.args.steps.now) c.args.depth c.is_empty.result
    (subst (λ ls. given_passes records variables ls given ≡ true) c.as_slice.ensures (sym c.given_passes.ensures ∙ c.if-not-given_passes.false))
    c.if-depth-eq0.true (c.is_empty.ensures ∙ none_there c.args.steps.now)

pub block_passes-returns-clause-answer : goal.block_passes-returns-clause-answer
block_passes-returns-clause-answer t c =
    let records = records_of c.args.records.now in
    let variables = map value_type c.args.vars.now in
    let given = claim_tree c.args.assumption.now in
    deeper records variables c.args.labels.now given (step_trees c.args.steps.now) c.args.depth c.steps_pass.result
    (subst (λ ls. given_passes records variables ls given ≡ true) c.as_slice.ensures (sym c.given_passes.ensures ∙ c.if-not-given_passes.false))
    c.if-depth-eq0.false c.steps_pass.ensures.answer

pub step_passes-returns-then-given_passes-clause-answer : goal.step_passes-returns-then-given_passes-clause-answer
step_passes-returns-then-given_passes-clause-answer t c =
    let records = records_of c.args.records.now in
    let variables = map value_type c.args.vars.now in
    let claim = claim_tree c.in-Line.claim in
    line_passes records variables c.args.labels.now c.in-Line.label claim c.in-Line.rule c.in-Line.cites c.args.depth c.is_rule.result
    (subst (λ ls. given_passes records variables ls claim ≡ true) c.as_slice.ensures (sym c.given_passes.ensures ∙ c.if-given_passes.true)) c.is_rule.ensures
    ∙ sym (ap (step_passes records variables c.args.labels.now c.args.depth)
    (ap step_tree c.in-Line.is ∙ step_tree-Line c.in-Line.label c.in-Line.claim c.in-Line.rule c.in-Line.cites))

pub step_passes-returns-else-given_passes-clause-answer : goal.step_passes-returns-else-given_passes-clause-answer
step_passes-returns-else-given_passes-clause-answer t c =
    let records = records_of c.args.records.now in
    let variables = map value_type c.args.vars.now in
    let claim = claim_tree c.in-Line.claim in
    line_refused records variables c.args.labels.now c.in-Line.label claim c.in-Line.rule c.in-Line.cites c.args.depth c.given_passes.result
    (subst (λ ls. given_passes records variables ls claim ≡ false) c.as_slice.ensures (sym c.given_passes.ensures ∙ c.if-given_passes.false))
    c.if-given_passes.false
    ∙ sym (ap (step_passes records variables c.args.labels.now c.args.depth)
    (ap step_tree c.in-Line.is ∙ step_tree-Line c.in-Line.label c.in-Line.claim c.in-Line.rule c.in-Line.cites))

pub step_passes-returns-in_ok-passes-in-Sub-clause-answer : goal.step_passes-returns-in_ok-passes-in-Sub-clause-answer
step_passes-returns-in_ok-passes-in-Sub-clause-answer t c =
    let records = records_of c.args.records.now in
    let variables = map value_type c.args.vars.now in
    let s = c.in-Sub in
    let labels = c.args.labels.now in
    let given = claim_tree s.assumption in
    let own : c.push.new.self ≡ with_symbol s.bind s.label labels =
    c.in_ok-push-in-Sub.ensures.ok ∙ sym (ap (λ b. with_symbol b s.label labels) c.if-bind.true) in
    c.in_ok-passes-in-Sub.ensures.answer
    ∙ ap₂ (λ ls steps. block_passes records variables ls c.args.depth given (step_trees steps)) own c.as_slice-then-bind.ensures
    ∙ sym (block_is records variables labels s.bind s.label c.args.depth s.assumed given (step_trees s.steps))
    ∙ sym (ap (step_passes records variables labels c.args.depth) (ap step_tree s.is
    ∙ step_tree-Sub s.label s.bind s.assumed s.assumption s.steps))

pub step_passes-returns-else-bind-clause-answer : goal.step_passes-returns-else-bind-clause-answer
step_passes-returns-else-bind-clause-answer t c =
    let records = records_of c.args.records.now in
    let variables = map value_type c.args.vars.now in
    let s = c.in-Sub in
    let labels = c.args.labels.now in
    let given = claim_tree s.assumption in
    let own : labels ≡ with_symbol s.bind s.label labels = sym (ap (λ b. with_symbol b s.label labels) c.if-bind.false) in
    subst (λ p. IfOk c.block_passes-else-bind.result (λ b. b ≡ p))
    (ap₂ (λ ls steps. block_passes records variables ls c.args.depth given (step_trees steps)) own c.as_slice-else-bind.ensures
    ∙ sym (block_is records variables labels s.bind s.label c.args.depth s.assumed given (step_trees s.steps))
    ∙ sym (ap (step_passes records variables labels c.args.depth) (ap step_tree s.is
    ∙ step_tree-Sub s.label s.bind s.assumed s.assumption s.steps)))
    c.block_passes-else-bind.ensures.answer
