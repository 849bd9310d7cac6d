use Rattle.std.proofs.Common.{◌≡◌, Option, refl, sym, subst}
use Rattle.std.specs.Prelude.{Ok, false}
use Rattle.program_trees.specs.Programs.{CodeTree, claim_of}
use Rattle.program_trees.specs.Variables.{Variable}
use Rattle.run_rules.specs.Values.{is_true}
use Rattle.run_stops.specs.ExpressionStops.{stopping}
use Rattle.expression_values.specs.Environment.{values_in}
use Rattle.stopped_runs.specs.Runs.{on_stop}
use Rattle.run_frames.specs.Frames.{loop_where}
use Rattle.std.specs.Borrow.{Bor}
use Rattle.lk_programs.specs.declared.program.Code.{Code}
use Rattle.run_steps.specs.Ends.{Gives}
use Rattle.frame_steps.specs.Places.{IsThere}
use Rattle.frame_steps.proofs.places.holds_at.Goals as goal

pub returns-in-None : goal.returns-in-None
returns-in-None c program method path n there =
    let values = values_in c.args.env.now in
    subst (λ (found : Option (CodeTree Variable)). Gives (λ b. b ≡ is_true program.records values (claim_of (loop_where found).test))
    (on_stop (stopping program.records values (loop_where found).test)) (Ok false))
    (sym (subst (λ (o : Option (Bor Code)). IsThere program method c.args.env.now path n o) c.in-None.is there)) (λ next. refl, refl)

pub returns-in-Some : goal.returns-in-Some
returns-in-Some c program method path n there =
    let values = values_in c.args.env.now in
    subst (λ (found : Option (CodeTree Variable)). Gives (λ b. b ≡ is_true program.records values (claim_of (loop_where found).test))
    (on_stop (stopping program.records values (loop_where found).test)) c.loop_holds.result)
    (sym (subst (λ (o : Option (Bor Code)). IsThere program method c.args.env.now path n o) c.in-Some.is there)) (c.loop_holds.ensures program)
