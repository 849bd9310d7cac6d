use Rattle.std.proofs.Common.{◌≡◌, Bool, true, false, not, if◌then◌else◌, refl, ap, sym, ◌∙◌}
use Rattle.program_trees.specs.Programs.{CodeTrees}
use Rattle.program_trees.specs.Variables.{Variable}
use Rattle.run_rules.specs.Runs.{begin}
use Rattle.expression_values.specs.Environment.{values_in}
use Rattle.run_steps.proofs.statement.part.Goals as goal

other_way : (b : Bool) (x y : CodeTrees Variable) → (if b then x else y) ≡ (if not b then y else x)
other_way true x y = refl
other_way false x y = refl

pub returns-in-Ok-clause-does : goal.returns-in-Ok-clause-does
returns-in-Ok-clause-does c limit program node on_true on_false more rest =
    let values = values_in c.args.env.now in
    let found = c.in-Ok.ensures program in
    found.0 _
    ∙ ap (λ (b : Bool). more (begin (if b then on_true else on_false) rest) values) (sym found.1)
    ∙ ap (λ (codes : CodeTrees Variable). more (begin codes rest) values) (other_way c.in-Ok.holds on_true on_false)
