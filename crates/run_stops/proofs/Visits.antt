-- No claim leaves more visits than it was given.
use Rattle.std.proofs.Common.{◌≡◌, ℕ, zero, suc, ◌≤◌, ℤ, Bool, true, false, List, [], ◌∷◌, if◌then◌else◌, arith, subst}
use Rattle.slang_values.specs.Number.{numbers_between}
use Rattle.slang_values.specs.Value.{Records, Value, number_of, truth_of}
use Rattle.slang_values.specs.Tree.{Tree, literal, truth_literal, name, bound, unary, binary, update, quantified, listed, Trees, no_trees, tree_then, Bounds, inside, value}
use Rattle.slang_values.specs.declared.operators.Quantifier.{Quantifier}
use Rattle.run_stops.specs.Wide.{is_wide}
use Rattle.run_stops.specs.ClaimStops.{Visited, left, wide, out, and_then, made, decides, visit, visiting, visiting_all}

-- at most so many visits are left
abbrev IsWithin : ℕ → Visited → Type 0
IsWithin visits (left rest) = rest ≤ visits
IsWithin visits wide = Unit {0}
IsWithin visits out = Unit {0}

within_more : (fewer visits : ℕ) (end : Visited) → fewer ≤ visits → IsWithin fewer end → IsWithin visits end
within_more fewer visits (left rest) l h = omega (arith, l, h)
within_more fewer visits wide l h = tt
within_more fewer visits out l h = tt

within_then : (visits : ℕ) (end : Visited) (next : ℕ → Visited) → IsWithin visits end → ((n : ℕ) → IsWithin n (next n))
    → IsWithin visits (and_then end next)
within_then visits (left rest) next h k = within_more rest visits (next rest) h (k rest)
within_then visits wide next h k = tt
within_then visits out next h k = tt

within_made : (v : Value) (visits : ℕ) → IsWithin visits (made v visits)
within_made v visits = by_case (is_wide v)
  where
    by_case : (b : Bool) → IsWithin visits (if b then wide else left visits)
    by_case true = tt
    by_case false = omega arith

within_visit : (q : Quantifier) (holds : ℤ → Bool) (body : ℤ → ℕ → Visited) → ((k : ℤ) (n : ℕ) → IsWithin n (body k n)) → (ks : List ℤ) (visits : ℕ)
    → IsWithin visits (visit q holds body ks visits)
within_visit q holds body h [] visits = omega arith
within_visit q holds body h (k ∷ ks) zero = tt
within_visit q holds body h (k ∷ ks) (suc visits) =
    within_more visits (suc visits) (and_then (body k visits) (λ rest. if decides q (holds k) then left rest else visit q holds body ks rest)) (omega arith)
    (within_then visits (body k visits) (λ rest. if decides q (holds k) then left rest else visit q holds body ks rest)
    (h k visits) (λ rest. by_case (decides q (holds k)) rest (within_visit q holds body h ks rest)))
  where
    by_case : (b : Bool) (rest : ℕ) → IsWithin rest (visit q holds body ks rest)
        → IsWithin rest (if b then left rest else visit q holds body ks rest)
    by_case true rest h = omega arith
    by_case false rest h = h

module _ {A : Type 0} (records : Records) (names : A → Value) where
  mutual
    within_claim : (t : Tree A) (e : Bounds) (visits : ℕ) → IsWithin visits (visiting records names e t visits)
    within_claim (literal z) e visits = within_made (value records names e (literal z)) visits
    within_claim (truth_literal b) e visits = within_made (value records names e (truth_literal b)) visits
    within_claim (name a) e visits = within_made (value records names e (name a)) visits
    within_claim (bound n) e visits = within_made (value records names e (bound n)) visits
    within_claim (unary op a) e visits =
        within_then visits (visiting records names e a visits) (made (value records names e (unary op a))) (within_claim a e visits)
        (within_made (value records names e (unary op a)))
    within_claim (binary op a b) e visits =
        within_then visits (visiting records names e a visits) (λ rest. and_then (visiting records names e b rest) (made (value records names e (binary op a b))))
        (within_claim a e visits)
        (λ rest. within_then rest (visiting records names e b rest) (made (value records names e (binary op a b))) (within_claim b e rest)
        (within_made (value records names e (binary op a b))))
    within_claim (update a i x) e visits =
        within_then visits (visiting records names e a visits)
        (λ rest. and_then (visiting records names e i rest) (λ more. and_then (visiting records names e x more) (made (value records names e (update a i x)))))
        (within_claim a e visits)
        (λ rest. within_then rest (visiting records names e i rest)
        (λ more. and_then (visiting records names e x more) (made (value records names e (update a i x)))) (within_claim i e rest)
        (λ more. within_then more (visiting records names e x more) (made (value records names e (update a i x))) (within_claim x e more)
        (within_made (value records names e (update a i x)))))
    within_claim (quantified q low high body) e visits =
        let holds : ℤ → Bool = λ k. truth_of (value records names (inside k e) body) in
        let ks = numbers_between (number_of (value records names e low)) (number_of (value records names e high)) in
        within_then visits (visiting records names e low visits)
        (λ rest. and_then (visiting records names e high rest) (visit q holds (λ k. visiting records names (inside k e) body) ks)) (within_claim low e visits)
        (λ rest. within_then rest (visiting records names e high rest) (visit q holds (λ k. visiting records names (inside k e) body) ks) (within_claim high e rest)
        (within_visit q holds (λ k. visiting records names (inside k e) body) (λ k. within_claim body (inside k e)) ks))
    within_claim (listed l ts) e visits = within_claims ts e visits

    within_claims : (ts : Trees A) (e : Bounds) (visits : ℕ) → IsWithin visits (visiting_all records names e ts visits)
    within_claims no_trees e visits = omega arith
    within_claims (tree_then t ts) e visits =
        within_then visits (visiting records names e t visits) (visiting_all records names e ts) (within_claim t e visits) (within_claims ts e)

  pub visits_fall : (e : Bounds) (t : Tree A) (before after : ℕ) → visiting records names e t before ≡ left after → after ≤ before
  visits_fall e t before after h = subst (IsWithin before) h (within_claim t e before)
