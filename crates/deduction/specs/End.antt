-- What the end of a check says of the proof.
use Rattle.std.specs.Prelude.{◌≡◌, ℕ, Option, Some, None, Result, Ok, Err}
use Rattle.deduction_rules.specs.Deduction as rule
use Rattle.deduction_rules.specs.Deduction.{Refusal, Progress, refused_at, Deduction, refused}
use Rattle.deduction.specs.declared.end.BadStep.{BadStep}
use Rattle.deduction.specs.declared.end.ProofEnd.{ProofEnd}
use Rattle.proof_closing.specs.declared.prover.CloseEnd.{CloseEnd}

abbrev pub refusal_of : BadStep → Refusal
refusal_of (BadStep.Cite label) = rule.Cite label
refusal_of BadStep.Shape = rule.Shape
refusal_of BadStep.Symbol = rule.Symbol
refusal_of BadStep.NotClosed = rule.NotClosed

abbrev pub refusal_in : Option BadStep → Option Refusal
refusal_in None = None
refusal_in (Some bad) = Some (refusal_of bad)

-- Where the end is of a bad step, the steps are refused there, for that reason.
abbrev pub EndsSteps : ProofEnd → Progress → Type 0
EndsSteps (ProofEnd.Bad step reason) progress = progress ≡ refused_at step (refusal_of reason)
EndsSteps (ProofEnd.Stopped told) progress = Unit {0}
EndsSteps ProofEnd.NoMemory progress = Unit {0}

-- the same of the whole proof
abbrev pub EndsProof : ProofEnd → Deduction → Type 0
EndsProof (ProofEnd.Bad step reason) deduction = deduction ≡ refused step (refusal_of reason)
EndsProof (ProofEnd.Stopped told) deduction = Unit {0}
EndsProof ProofEnd.NoMemory deduction = Unit {0}

abbrev pub stop_of_proof_end : ProofEnd → Option ℕ
stop_of_proof_end (ProofEnd.Bad step reason) = None
stop_of_proof_end (ProofEnd.Stopped told) = Some told
stop_of_proof_end ProofEnd.NoMemory = None

abbrev pub stop_of_proof : {A : Type 0} → Result A ProofEnd → Option ℕ
stop_of_proof (Ok x) = None
stop_of_proof (Err end) = stop_of_proof_end end

abbrev pub end_of_closing : CloseEnd → ProofEnd
end_of_closing (CloseEnd.Stopped told) = ProofEnd.Stopped told
end_of_closing CloseEnd.NoMemory = ProofEnd.NoMemory
