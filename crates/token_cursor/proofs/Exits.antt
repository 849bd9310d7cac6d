-- Where a function passes on what it was given as a result.
use Rattle.std.proofs.Common.{◌≡◌, Result, Ok, Err, sym, subst}
use Rattle.std.specs.Prelude.{IfErr, IsErrAnd, IfOk, IsOk, OnOk, MatchResult}
use Rattle.std.proofs.lemmas.Result.{err_from_is_err_and}
use Rattle.token_cursor.specs.declared.stop.Due.{Due}
use Rattle.token_cursor.specs.declared.stop.Stop.{Stop}
use Rattle.token_cursor.specs.declared.stop.Stop.TheVariants.{Refused, NoMemory}
use Rattle.token_cursor.specs.Gives.{IfRefused}

pub weaker : (stop : Stop) (P Q : Due → Type 0) → ((due : Due) → P due → Q due) → IfRefused stop P → IfRefused stop Q
weaker (Refused due) P Q f h = f due h
weaker NoMemory P Q f h = tt

-- the error that is passed on tells what the callee's told
pub passed_on : {X : Type 0} (result : Result X Stop) (stop : Stop) (P Q : Due → Type 0)
    → IsErrAnd result (λ it. it ≡ stop) → IfRefused stop P → ((due : Due) → P due → Q due) → IfErr result (λ it. IfRefused it Q)
passed_on result stop P Q e h f =
    let p = err_from_is_err_and result e in
    rw (p.1, p.2) (weaker stop P Q f h)

-- a refusal is passed on as it is
pub refused_as : {X : Type 0} (result : Result X Stop) (P Q : Due → Type 0) → ((due : Due) → P due → Q due)
    → IfErr result (λ stop. IfRefused stop P) → IfErr result (λ stop. IfRefused stop Q)
refused_as (Ok it) P Q f h = tt
refused_as (Err stop) P Q f h = weaker stop P Q f h

-- what is built of a part that was read
pub built : {A B : Type 0} (result : Result A Stop) (part : Result B Stop) (Made : A → B → Type 0) (Q : B → Type 0) (P : A → Type 0)
    → IfOk result (λ made. (read : B) × (part ≡ Ok read) × Made made read) → IfOk part Q → ((made : A) (read : B) → Q read → Made made read → P made) → IfOk result P
built (Ok made) part Made Q P h q f = f made h.0 (subst (λ r. IfOk r Q) h.1 q) h.2
built (Err stop) part Made Q P h q f = tt

-- a refusal of the part is passed on
pub refused_by : {A B : Type 0} (result : Result A Stop) (part : Result B Stop) (P Q : Due → Type 0)
    → IfErr result (λ stop. IfRefused stop (λ due. part ≡ Err stop)) → IfErr part (λ stop. IfRefused stop P) → ((due : Due) → P due → Q due)
    → IfErr result (λ stop. IfRefused stop Q)
refused_by (Ok made) part P Q h q f = tt
refused_by (Err (Refused due)) part P Q h q f = f due (subst (λ r. IfErr r (λ stop. IfRefused stop P)) h q)
refused_by (Err NoMemory) part P Q h q f = tt

ok_holds : {U : Type 0} (behind : Result U Stop) (Q : Type 0) → IsOk behind → OnOk behind Q → Q
ok_holds (Ok u) Q e h = h
ok_holds (Err stop) Q e h = absurd (cc)

-- a part is kept where what comes behind it was read
pub kept_with : {A U : Type 0} (result : Result A Stop) (part : A) (behind : Result U Stop) (Q : Type 0) (P : A → Type 0)
    → MatchResult result (λ it. (it ≡ part) × IsOk behind) (λ stop. behind ≡ Err stop) → OnOk behind Q → (Q → P part) → IfOk result P
kept_with (Ok it) part behind Q P h q f = subst P (sym h.0) (f (ok_holds behind Q h.1 q))
kept_with (Err stop) part behind Q P h q f = tt

pub kept_refused : {A U : Type 0} (result : Result A Stop) (part : A) (behind : Result U Stop) (P Q : Due → Type 0)
    → MatchResult result (λ it. (it ≡ part) × IsOk behind) (λ stop. behind ≡ Err stop) → IfErr behind (λ stop. IfRefused stop P) → ((due : Due) → P due → Q due)
    → IfErr result (λ stop. IfRefused stop Q)
kept_refused (Ok it) part behind P Q h q f = tt
kept_refused (Err stop) part behind P Q h q f = weaker stop P Q f (subst (λ r. IfErr r (λ it. IfRefused it P)) h q)
