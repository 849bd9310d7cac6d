-- Steps of the typed program, as those of the text that they are made from.
use Rattle.std.specs.Prelude.{◌≡◌, ℕ, List, map}
use Rattle.slang_tree.specs.declared.statement.Step.{Step}
use Rattle.slang_tree.specs.StmtTree as text
use Rattle.program_trees.specs.Claims.{ProofStepTree, renamed_step}
use Rattle.program_trees.specs.Variables.{Variable}
use Rattle.lk_claims.specs.declared.step.ProofStep.{ProofStep}
use Rattle.lk_claims.specs.Step.{step_tree}
use Rattle.lk_programs.specs.declared.program.RecordTy.{RecordTy}
use Rattle.type_rules.specs.Meanings.{Scope}
use Rattle.typed_texts.specs.Claims.{step_of_tree}
use Rattle.name_scopes.specs.declared.scope.NameScope.{NameScope}
use Rattle.name_scopes.specs.Fits.{Fits}
use Rattle.typed_names.specs.declared.variables.Numbering.{Numbering}
use Rattle.typed_names.specs.Variables.{number_in}
use Rattle.typed_names.specs.Fields.{HasFields}

-- over the numbers of variables
abbrev pub numbered_step : Numbering → ProofStepTree Variable → ProofStepTree ℕ
numbered_step numbers step = renamed_step (number_in numbers) step

-- The step is this one at each place of the text that the scope fits.
pub record IsStep (records : List RecordTy) (numbers : Numbering) (known : NameScope) (it : Scope → ProofStepTree Variable) (step : ProofStep) : Type 0 where
  pub is : (at : Scope) → Fits known at → HasFields records at → step_tree step ≡ numbered_step numbers (it at)

-- The steps are those of the text, one by one.
pub record AreSteps (records : List RecordTy) (numbers : Numbering) (known : NameScope) (steps : List Step) (made : List ProofStep) : Type 0 where
  pub are : (at : Scope) → Fits known at → HasFields records at →
      map step_tree made ≡ map (λ (s : Step). numbered_step numbers (step_of_tree at (text.step_tree s))) steps
