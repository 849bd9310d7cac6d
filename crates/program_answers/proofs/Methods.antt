-- The methods of a program one after the other.
use Rattle.std.proofs.Common.{◌≡◌, ℕ, ◌+◌, ◌<◌, ◌≤◌, List, [], ◌∷◌, ◌++◌, map, take, length, get_or}
use Rattle.std.proofs.Common.{Option, Some, Result, Ok, Err, IfOk, refl, sym, ap, ap₂, ◌∙◌, subst, arith}
use Rattle.std.specs.Prelude.{slice_get}
use Rattle.std.proofs.lemmas.List.{length-map, get_or-map, map_push, take_all, take_more}
use Rattle.validity.specs.Validity.{SequentTree}
use Rattle.deduction_rules.specs.Step.{StepTrees}
use Rattle.program_trees.specs.declared.answer.Reason.{Reason}
use Rattle.program_trees.specs.Programs.{MethodTree, renamed_method}
use Rattle.program_trees.specs.Variables.{Variable, variable_of}
use Rattle.lk_programs.specs.declared.program.Method.{Method}
use Rattle.lk_programs.specs.declared.typed.Typed.{Typed}
use Rattle.lk_programs.specs.Program.{method_tree}
use Rattle.lk_programs.specs.Typed.{program_tree}
use Rattle.run_rules.specs.Runs.{no_method}
use Rattle.leg_orders.specs.Places.{program_of, method_of}
use Rattle.legs.proofs.Whole.{own_is, own_there}
use Rattle.leg_rules.specs.Answers.{verdict}
use Rattle.verdicts.specs.Choice.{plain_verdict}
use Rattle.verdicts.specs.declared.verdict.Verdict.{Verdict}
use Rattle.verdicts.specs.declared.report.Line.{Line}
use Rattle.project_reports.specs.Texts as plain
use Rattle.program_answers.specs.Lines.{line_by, lines_by, plain_line}

pub methods_counted : (typed : Typed) → length (program_of typed).methods ≡ length typed.methods
methods_counted typed =
    length-map (map method_tree typed.methods) (λ t. renamed_method (variable_of (length t.locals) (length (program_tree typed).globals)) t)
    ∙ length-map typed.methods method_tree

-- the name of the method of that number
pub named : (typed : Typed) (number : ℕ) (methods : List Method) (m : Method) → methods ≡ typed.methods → number < length typed.methods
    → m ≡ get_or methods number m → m.name ≡ (method_of typed number).name
named typed number methods m e h is = sym (ap (λ t. t.name) (own_is typed number m (own_there typed number methods m e h is)))

module _ (reason : SequentTree → Option Reason) (accepting : SequentTree → StepTrees → Option ℕ) (typed : Typed) where
  pub next_line : (number : ℕ) (old new : List plain.Line) → number < length typed.methods
      → old ≡ take number (lines_by reason accepting (program_of typed))
      → new ≡ old ++ line_by reason accepting (program_of typed) (method_of typed number) ∷ []
      → new ≡ take (number + 1) (lines_by reason accepting (program_of typed))
  next_line number old new h so_far more =
      let f = λ (method : MethodTree Variable). line_by reason accepting (program_of typed) method in
      let ms = (program_of typed).methods in
      let inside : number < length ms = omega (arith, h, methods_counted typed) in
      more ∙ ap₂ (λ xs x. xs ++ x ∷ []) so_far (sym (get_or-map f ms number no_method (f no_method) inside))
      ∙ sym (take_more (map f ms) number (f no_method) (omega (arith, inside, length-map ms f)))

  -- its line
  pub line_told : {E : Type 0} (number : ℕ) (copied : Result (List ℕ) E) (line : Line) (v : Verdict) (name : List ℕ)
      → name ≡ (method_of typed number).name → IfOk copied (λ t. t ≡ name) → copied ≡ Ok line.method → line.verdict ≡ v
      → plain_verdict v ≡ verdict reason accepting (program_of typed) (method_of typed number)
      → plain_line line ≡ line_by reason accepting (program_of typed) (method_of typed number)
  line_told number copied line v name same_name copy is told e =
      let same : line.method ≡ name = subst (λ r. IfOk r (λ t. t ≡ name)) is copy in
      λ i. record { method = (same ∙ same_name) i; verdict = (ap plain_verdict told ∙ e) i }

  -- one line more
  pub line_pushed : (number m : ℕ) (lines lines' : List Line) (line : Line) → m ≡ number → lines' ≡ lines ++ line ∷ []
      → plain_line line ≡ line_by reason accepting (program_of typed) (method_of typed m)
      → map plain_line lines' ≡ map plain_line lines ++ line_by reason accepting (program_of typed) (method_of typed number) ∷ []
  line_pushed number m lines lines' line is more e =
      ap (map plain_line) more ∙ map_push plain_line lines line
      ∙ ap (λ l. map plain_line lines ++ l ∷ []) (e ∙ ap (λ k. line_by reason accepting (program_of typed) (method_of typed k)) is)

  pub all_lines : (number : ℕ) (lines : List plain.Line) → length typed.methods ≤ number → lines ≡ take number (lines_by reason accepting (program_of typed))
      → lines ≡ lines_by reason accepting (program_of typed)
  all_lines number lines h e =
      let many : length (lines_by reason accepting (program_of typed)) ≤ number =
      omega (arith, h, methods_counted typed, length-map (program_of typed).methods (λ method. line_by reason accepting (program_of typed) method)) in
      e ∙ take_all number (lines_by reason accepting (program_of typed)) many
