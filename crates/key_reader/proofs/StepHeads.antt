-- A step by its first byte.
use Rattle.std.proofs.Common.{◌≡◌, ℕ, suc, List, [], ◌∷◌, map, Some, None, Result, Err, refl, sym, ap, ◌∙◌, subst}
use Rattle.program_trees.specs.Claims.{ProofStepTree, step_then}
use Rattle.key_rules.specs.Codes.{StepHead, step_code, step_heads}
use Rattle.key_rules.specs.Readers.{read_byte}
use Rattle.key_rules.specs.Reading.{read_claim, read_step, step_behind, steps_of}
use Rattle.key_cursor.specs.declared.end.ReadEnd.{ReadEnd}
use Rattle.key_cursor.specs.Reads.{Reads}
use Rattle.key_cursor.proofs.Reading.{byte_ends, head_ends, head_known, head_unknown, reads_same}
use Rattle.lk_claims.specs.declared.step.ProofStep.{ProofStep}
use Rattle.lk_claims.specs.Step.{step_tree}
use Rattle.lk_claims.specs.Step.{steps_of as steps_of_claims}
use Rattle.key_reader.specs.Heads.{step_head_coded}

pub step_ends : (depth inner : ℕ) (old middle new : List ℕ) (end : ReadEnd) → depth ≡ suc inner → byte_ends old middle end
    → Reads step_tree (read_step depth) old new (Err end)
step_ends depth inner old middle new end e h =
    subst (λ d. Reads step_tree (read_step d) old new (Err end)) (sym e)
    (head_ends step_tree step_code step_heads (step_behind (read_claim inner) (read_step inner)) old middle new end h)

pub step_unknown : (depth inner : ℕ) (old middle : List ℕ) (byte : ℕ) → depth ≡ suc inner → read_byte old ≡ Some (byte, middle)
    → None ≡ step_head_coded byte → read_step depth old ≡ None
step_unknown depth inner old middle byte e h k =
    ap (λ d. read_step d old) e ∙ head_unknown step_code step_heads (step_behind (read_claim inner) (read_step inner)) old middle byte h (sym k)

pub step_known : (depth inner : ℕ) (old middle new : List ℕ) (byte : ℕ) (head : StepHead) (result : Result ProofStep ReadEnd) → depth ≡ suc inner
    → read_byte old ≡ Some (byte, middle) → Some head ≡ step_head_coded byte
    → Reads step_tree (step_behind (read_claim inner) (read_step inner) head) middle new result → Reads step_tree (read_step depth) old new result
step_known depth inner old middle new byte head result e h k r =
    reads_same step_tree (read_step depth) (step_behind (read_claim inner) (read_step inner) head) old middle new result
    (ap (λ d. read_step d old) e ∙ head_known step_code step_heads (step_behind (read_claim inner) (read_step inner)) old middle byte head h (sym k)) r

-- both ways to make a list of steps
pub same_steps : (steps : List (ProofStepTree ℕ)) → steps_of_claims steps ≡ steps_of steps
same_steps [] = refl
same_steps (step ∷ steps) = ap (λ l. step_then step l) (same_steps steps)
