use Rattle.std.proofs.Common.{◌∙◌, ap, subst}
use Rattle.slang_values.specs.Value.{truth_of}
use Rattle.slang_values.specs.Tree.{Bounds, value}
use Rattle.lk_programs.specs.Program.{record_types}
use Rattle.run_stops.specs.ClaimStops.{visiting}
use Rattle.claim_values.specs.Claims.{bounds_in, claim_in, names_in}
use Rattle.claim_values.specs.Answers.{IsTruth, visits_of, claim_value}
use Rattle.claim_values.proofs.Places.{none_bound}
use Rattle.claim_values.proofs.visiting.eval_claim.Goals as goal

-- no variable is bound outside
pub returns : goal.returns
returns c =
    let records = record_types c.args.records.now in
    let env = c.args.env.now in
    let claim = c.args.claim.now in
    subst (λ (e : Bounds). IsTruth (visiting records (names_in env) e (claim_in env claim) c.args.visits.now) c.held.new.visits
    (truth_of (value records (names_in env) e (claim_in env claim))) c.truth_found.result) (ap bounds_in c.new-bound.ensures ∙ none_bound)
    (c.truth_found.ensures (visits_of records env c.new-bound.result claim c.args.visits.now) c.held.new.visits (claim_value records env c.new-bound.result claim) c.held.ensures.answer)
