-- Where a part is handed on beside what comes behind it.
use Rattle.std.proofs.Common.{◌≡◌, Result, Ok, Err, sym, subst}
use Rattle.std.specs.Prelude.{IfErr, IfOk, MatchResult}
use Rattle.token_cursor.specs.declared.stop.Due.{Due}
use Rattle.token_cursor.specs.declared.stop.Stop.{Stop}
use Rattle.token_cursor.specs.declared.stop.Stop.TheVariants.{Refused, NoMemory}
use Rattle.token_cursor.specs.Gives.{IfRefused}
use Rattle.token_cursor.proofs.Exits.{weaker}

pub beside_with : {A B : Type 0} (result : Result (A × B) Stop) (part : A) (next : Result B Stop) (Q : B → Type 0) (P : A × B → Type 0)
    → MatchResult result (λ pair. (pair.0 ≡ part) × (next ≡ Ok pair.1)) (λ stop. next ≡ Err stop) → IfOk next Q → ((read : B) → Q read → P (part, read)) → IfOk result P
beside_with (Ok pair) part next Q P h q f = subst (λ x. P (x, pair.1)) (sym h.0) (f pair.1 (subst (λ r. IfOk r Q) h.1 q))
beside_with (Err stop) part next Q P h q f = tt

pub beside_refused : {A B : Type 0} (result : Result (A × B) Stop) (part : A) (next : Result B Stop) (P Q : Due → Type 0)
    → MatchResult result (λ pair. (pair.0 ≡ part) × (next ≡ Ok pair.1)) (λ stop. next ≡ Err stop) → IfErr next (λ stop. IfRefused stop P)
    → ((due : Due) → P due → Q due) → IfErr result (λ stop. IfRefused stop Q)
beside_refused (Ok pair) part next P Q h q f = tt
beside_refused (Err stop) part next P Q h q f = weaker stop P Q f (subst (λ r. IfErr r (λ it. IfRefused it P)) h q)

-- the refusal of a part, which was handed on
pub refusal_at : {B : Type 0} (stop : Stop) (part : Result B Stop) (P : Due → Type 0) → IfRefused stop (λ due. part ≡ Err stop) → IfErr part (λ it. IfRefused it P)
    → IfRefused stop P
refusal_at (Refused due) part P h q = subst (λ r. IfErr r (λ it. IfRefused it P)) h q
refusal_at NoMemory part P h q = tt
