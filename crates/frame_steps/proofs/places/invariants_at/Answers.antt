use Rattle.std.proofs.Common.{Option, ap, sym, subst, ◌∙◌}
use Rattle.std.specs.Borrow.{Bor}
use Rattle.lk_programs.specs.declared.program.Code.{Code}
use Rattle.program_trees.specs.Programs.{CodeTree}
use Rattle.program_trees.specs.Variables.{Variable}
use Rattle.run_frames.specs.Frames.{loop_where}
use Rattle.frame_steps.specs.Places.{IsThere}
use Rattle.frame_steps.proofs.places.invariants_at.Goals as goal

pub returns-in-None : goal.returns-in-None
returns-in-None c program method path n there =
    ap (λ (found : Option (CodeTree Variable)). (loop_where found).invariants)
    (sym (subst (λ (o : Option (Bor Code)). IsThere program method c.args.env.now path n o) c.in-None.is there))

pub returns-in-Some : goal.returns-in-Some
returns-in-Some c program method path n there =
    c.invariants_of.ensures
    ∙ ap (λ (found : Option (CodeTree Variable)). (loop_where found).invariants)
    (sym (subst (λ (o : Option (Bor Code)). IsThere program method c.args.env.now path n o) c.in-Some.is there))
