use Rattle.std.proofs.Common.{ap₂, sym, ◌∙◌, Some, map}
use Rattle.std.proofs.lemmas.List.{length-map}
use Rattle.std.proofs.lemmas.Result.{on_ok_weaker}
use Rattle.program_trees.specs.Programs.{renamed_global, renamed_method}
use Rattle.program_trees.specs.Variables.{global, variable_of}
use Rattle.lk_claims.specs.Claim.{value_type}
use Rattle.lk_programs.specs.Program.{global_tree, method_tree}
use Rattle.leg_orders.specs.Places.{program_of}
use Rattle.leg_orders.proofs.FoundTypes.{method_is}
use Rattle.leg_paths.proofs.walk.add_called.Goals as goal

pub returns-in-Some : goal.returns-in-Some
returns-in-Some c =
    let typed = c.args.typed.now in
    let callee = c.in-Some.callee.now in
    on_ok_weaker c.add_call.result
    (λ h. h (program_of typed)
    (length-map (map global_tree typed.globals) (renamed_global global) ∙ length-map typed.globals global_tree ∙ sym c.len-in-Some.ensures)
    (method_is typed c.args.method (Some callee) (sym c.in-Some.ensures.value)
    ∙ ap₂ (λ l g. renamed_method (variable_of l g) (method_tree callee)) (length-map callee.locals value_type ∙ sym c.len.ensures) (length-map typed.globals global_tree ∙ sym c.len-in-Some.ensures)))
    c.add_call.ensures
