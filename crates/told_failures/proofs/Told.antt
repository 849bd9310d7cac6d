-- What is told of a failure is what has failed.
use Rattle.std.proofs.Common.{◌≡◌, ap, ◌∙◌}
use Rattle.program_trees.specs.declared.answer.Kind.TheVariants as kinds
use Rattle.run_rules.specs.Runs.{method_at}
use Rattle.stopped_runs.specs.Runs.{command_run}
use Rattle.run_texts.specs.Texts.{failure_text, run_text}
use Rattle.run_texts.proofs.Told.{failures_are_told}
use Rattle.verified_runs.proofs.Commands.{verified_commands_fail_at_entry_alone}
use Rattle.told_failures.specs.Laws.{VerifiedMethodsAreToldSafe}

pub verified_methods_are_told_safe : VerifiedMethodsAreToldSafe
verified_methods_are_told_safe program node_files files from typed verified names arguments n rest fit h =
    let method = method_at program from in
    let told = failures_are_told names (command_run program method arguments n) rest h in
    let entry = verified_commands_fail_at_entry_alone program node_files files from typed verified arguments n told.kind told.node fit told.failed in
    let same : failure_text names told.kind told.node ≡ failure_text names kinds.Requires method.node =
    ap (λ k. failure_text names k told.node) entry.kind_is ∙ ap (failure_text names kinds.Requires) entry.node_is in
    (ap (run_text names) told.failed ∙ same, ap (run_text names) entry.before_any_turn ∙ same)
