use Rattle.std.proofs.Common.{ℕ, List, Option, MatchOption, map, subst}
use Rattle.std.specs.Prelude.{string_bytes}
use Rattle.run_steps.specs.Steps.{program_of}
use Rattle.run_starts.specs.Methods.{HasName}
use Rattle.run_lines.specs.Lines.{names_in}
use Rattle.run_command.specs.Runs.{IsRunOf}
use Rattle.run_command.specs.declared.command.Ran.{Ran}
use Rattle.run_command.proofs.Runs.{if_ok_map}
use Rattle.run_command.proofs.command.run_program.Goals as goal

pub returns-in-Ok-Some : goal.returns-in-Ok-Some
returns-in-Ok-Some c =
    let typed = c.args.typed.now in
    let program = program_of typed in
    let name = c.args.method.now in
    let words = map string_bytes c.args.words.now in
    let named = subst (λ (o : Option ℕ). MatchOption o ((n : ℕ) → HasName program n name → ⊥) (λ n. HasName program n name)) c.in-Ok-Some.field-0-is
    c.in-Ok-Some.ensures in
    if_ok_map c.run_method.result
    (λ (r : Ran). (method : List ℕ) → HasName program c.in-Ok-Some.number method
    → IsRunOf program (names_in typed) method c.args.turns words r.text.items r.code)
    (λ (r : Ran). IsRunOf program (names_in typed) name c.args.turns words r.text.items r.code) (λ r h. h name named) c.run_method.ensures
