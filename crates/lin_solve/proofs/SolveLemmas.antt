-- The turns of the code are those of the definition, and its certificates are accepted.
use Rattle.std.proofs.Common.{◌≡◌, ℕ, zero, suc, ◌+◌, ◌-◌, ◌<◌, true, false, cond, ◌||◌, List, [], ◌∷◌, length, take, get_or, Option, Some, None, ap, sym, ◌∙◌, subst, arith, length-take-le, get_or-take}
use Rattle.std.specs.Option.{option_map}
use Rattle.std.specs.List.{list_any}
use Rattle.std.proofs.lemmas.Option.{slice_get-get_or}
use Rattle.lin_rows.specs.Inequality.{Inequality, is_contradiction}
use Rattle.lin_cert.specs.declared.CertLine.{CertLine}
use Rattle.lin_cert.specs.Certificate.{row_at, IsDerivation, is_contradiction_at, IsAccepted}
use Rattle.lin_cert.proofs.Derivations.{IsDerivation-take}
use Rattle.elimination.specs.Elimination.{Ending, Closed, Open, Progress, Going, Ended, and_then, started, variables, chosen, next_rows, eliminated, turn, turns, elimination}
use Rattle.elimination.proofs.Choice.{In-variables}
use Rattle.elimination.proofs.Turns.{live, AllIn, fewer, turns-more, elimination-is}
use Rattle.lin_solve.specs.declared.SolveEnd.{SolveEnd}
use Rattle.lin_solve.specs.declared.SolveEnd.TheVariants.{Rows, Wide, NoMemory}
use Rattle.lin_solve.specs.Answers.{EndsAs, IsEnd}
use Rattle.lin_solve.specs.Lines.{row_of, rows_of}
use Rattle.lin_solve.proofs.KeptLemmas.{or_right}
use Rattle.lin_solve.proofs.LineLemmas.{no_line}

-- ---- turns
-- some number of turns leads to these rows
pub record Reaches (given rows : List Inequality) : Type 0 where
  pub count : ℕ
  pub there : turns count (started given) ≡ Going rows

pub reaches_start : (given rows : List Inequality) → started given ≡ Going rows → Reaches given rows
reaches_start given rows e = record { count = 0; there = e }

one_more : (given rows : List Inequality) (r : Reaches given rows) (p : Progress) → turn rows ≡ p → turns (suc r.count) (started given) ≡ p
one_more given rows r p e = turns-more r.count (started given) ∙ ap (λ (q : Progress). and_then q turn) r.there ∙ e

reaches_next : (given rows next : List Inequality) → Reaches given rows → turn rows ≡ Going next → Reaches given next
reaches_next given rows next r e = record { count = suc r.count; there = one_more given rows r (Going next) e }

ends_so : (given rows : List Inequality) (e : Ending) → Reaches given rows → turn rows ≡ Ended e → elimination given ≡ e
ends_so given rows e r t = sym (elimination-is given (suc r.count) e (one_more given rows r (Ended e) t))

-- ---- what a turn is
closes : (rows : List Inequality) → list_any is_contradiction rows ≡ true → turn rows ≡ Ended Closed
closes rows e = ap (λ b. cond b (Ended Closed) (eliminated (chosen rows) rows)) e

turns_to : (rows : List Inequality) (o : Option ℕ) → list_any is_contradiction rows ≡ false → o ≡ chosen rows → turn rows ≡ eliminated o rows
turns_to rows o e c = ap (λ b. cond b (Ended Closed) (eliminated (chosen rows) rows)) e ∙ ap (λ o. eliminated o rows) (sym c)

-- ---- the ends
pub answered_closed : (given rows : List Inequality) → Reaches given rows → list_any is_contradiction rows ≡ true → elimination given ≡ Closed
answered_closed given rows r e = ends_so given rows Closed r (closes rows e)

pub answered_open : (given rows : List Inequality) (o : Option ℕ) → Reaches given rows → list_any is_contradiction rows ≡ false → o ≡ chosen rows → o ≡ None → elimination given ≡ Open
answered_open given rows o r e c n = ends_so given rows Open r (turns_to rows o e c ∙ ap (λ o. eliminated o rows) n)

end_of_turn : (given rows : List Inequality) (e : SolveEnd) → Reaches given rows → EndsAs e (turn rows) → IsEnd given e
end_of_turn given rows Rows r h = ends_so given rows _ r h
end_of_turn given rows Wide r h = ends_so given rows _ r h
end_of_turn given rows NoMemory r h = tt

pub ends_there : (given rows : List Inequality) (o : Option ℕ) (v : ℕ) (e : SolveEnd) → Reaches given rows → list_any is_contradiction rows ≡ false → o ≡ chosen rows → o ≡ Some v → EndsAs e (next_rows v rows) → IsEnd given e
ends_there given rows o v e r n c s h =
    end_of_turn given rows e r (subst (EndsAs e) (sym (turns_to rows o n c ∙ ap (λ o. eliminated o rows) s)) h)

-- ---- one more turn
-- the rows that stand, and the variables that are left of those at the start
pub record IsUnderWay (given first rows : List Inequality) : Type 0 where
  pub reaches : Reaches given rows
  pub among : AllIn rows (variables first)

pub under_way : (given rows : List Inequality) → started given ≡ Going rows → IsUnderWay given rows rows
under_way given rows e = record { reaches = reaches_start given rows e; among = λ w o. In-variables w rows o }

pub goes_on : (given first rows next : List Inequality) (o : Option ℕ) (v : ℕ) → IsUnderWay given first rows → list_any is_contradiction rows ≡ false → o ≡ chosen rows → o ≡ Some v → next_rows v rows ≡ Going next →
    IsUnderWay given first next × (live (variables first) next < live (variables first) rows)
goes_on given first rows next o v u n c s e =
    let t = turns_to rows o n c ∙ ap (λ o. eliminated o rows) s ∙ e in
    let f = fewer (variables first) rows next u.among t in
    (record { reaches = reaches_next given rows next u.reaches t; among = f.1 }, f.0)

-- ---- the certificate
front : (lines : List CertLine) (k : ℕ) → k < length lines → row_at (take (k + 1) lines) ((k + 1) - 1) ≡ Some (row_of lines k)
front lines k h =
    let n : (k + 1) - 1 ≡ k = omega arith in
    let long : k < length (take (k + 1) lines) = omega (arith, length-take-le (k + 1) lines (omega arith)) in
    ap (row_at (take (k + 1) lines)) n
    ∙ ap (option_map (λ (l : CertLine). l.row)) (slice_get-get_or (take (k + 1) lines) k no_line long)
    ∙ ap (λ (l : CertLine). Some l.row) (get_or-take (k + 1) lines k no_line (omega arith))

pub accepted : (given : List Inequality) (lines : List CertLine) (k : ℕ) → IsDerivation given lines → k < length lines → is_contradiction (row_of lines k) ≡ true → IsAccepted given (take (k + 1) lines)
accepted given lines k d h e = record {
  derives = IsDerivation-take given (k + 1) lines d;
  refutes = ap (λ (n : ℕ). is_contradiction_at (row_at (take (k + 1) lines) (n - 1))) (length-take-le (k + 1) lines (omega arith)) ∙ ap is_contradiction_at (front lines k h) ∙ e;
}

-- as the code reads the lines
pub accepted_read : (given : List Inequality) (lines read : List CertLine) (k : ℕ) → read ≡ lines → IsDerivation given lines → k < length read → is_contradiction (row_of read k) ≡ true → IsAccepted given (take (k + 1) lines)
accepted_read given lines read k e d h t =
    accepted given lines k d (omega (arith, ap length e)) (ap (λ (ls : List CertLine). is_contradiction (row_of ls k)) (sym e) ∙ t)

pub some_contradiction : (lines : List CertLine) (ks : List ℕ) (i d : ℕ) → i < length ks → is_contradiction (row_of lines (get_or ks i d)) ≡ true → list_any is_contradiction (rows_of lines ks) ≡ true
some_contradiction lines [] i d h e = absurd (omega arith)
some_contradiction lines (k ∷ ks) zero d h e = ap (λ b. b || list_any is_contradiction (rows_of lines ks)) e
some_contradiction lines (k ∷ ks) (suc i) d h e = or_right (is_contradiction (row_of lines k)) _ (some_contradiction lines ks i d (omega arith) e)
