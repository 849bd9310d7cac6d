-- Where the test of a claim stops.
use Rattle.std.specs.Prelude.{ℕ, zero, suc, ℤ, Bool, not, List, [], ◌∷◌, if◌then◌else◌}
use Rattle.slang_values.specs.Number.{numbers_between}
use Rattle.slang_values.specs.Value.{Records, Value, number_of, truth_of}
use Rattle.slang_values.specs.Tree.{Tree, literal, truth_literal, name, bound, unary, binary, update, quantified, listed, Trees, no_trees, tree_then, Bounds, inside, value}
use Rattle.slang_values.specs.declared.operators.Quantifier.{Quantifier}
use Rattle.run_stops.specs.Wide.{is_wide}

-- What became of an evaluation that is given a number of visits, one for each body of a quantifier.
pub data Visited : Type 0 where
  -- so many visits are left
  left : (visits : ℕ) → Visited
  -- a value does not fit
  wide : Visited
  -- a body is due, and no visit is left
  out : Visited

abbrev pub and_then : Visited → (ℕ → Visited) → Visited
and_then (left visits) next = next visits
and_then wide next = wide
and_then out next = out

-- a value is made
abbrev pub made : Value → ℕ → Visited
made v visits = if is_wide v then wide else left visits

-- whether a body with this truth value decides the quantifier
abbrev pub decides : Quantifier → Bool → Bool
decides Quantifier.All holds = not holds
decides Quantifier.Exists holds = holds

-- The bodies for these numbers, one after the other, up to the first that decides.
abbrev pub visit : Quantifier → (ℤ → Bool) → (ℤ → ℕ → Visited) → List ℤ → ℕ → Visited
visit q holds body [] visits = left visits
visit q holds body (k ∷ ks) zero = out
visit q holds body (k ∷ ks) (suc visits) = and_then (body k visits) (λ rest. if decides q (holds k) then left rest else visit q holds body ks rest)

module _ {A : Type 0} (records : Records) (names : A → Value) where
  abbrev mutual
    -- All parts of a claim are evaluated, from the left, but for the bodies of a quantifier behind the first that decides.
    pub visiting : Bounds → Tree A → ℕ → Visited
    visiting e (literal z) visits = made (value records names e (literal z)) visits
    visiting e (truth_literal b) visits = made (value records names e (truth_literal b)) visits
    visiting e (name a) visits = made (value records names e (name a)) visits
    visiting e (bound n) visits = made (value records names e (bound n)) visits
    visiting e (unary op a) visits = and_then (visiting e a visits) (made (value records names e (unary op a)))
    visiting e (binary op a b) visits =
        and_then (visiting e a visits) (λ rest. and_then (visiting e b rest) (made (value records names e (binary op a b))))
    visiting e (update a i x) visits =
        and_then (visiting e a visits) (λ rest. and_then (visiting e i rest) (λ more. and_then (visiting e x more) (made (value records names e (update a i x)))))
    visiting e (quantified q low high body) visits =
        and_then (visiting e low visits) (λ rest. and_then (visiting e high rest)
        (visit q (λ k. truth_of (value records names (inside k e) body)) (λ k. visiting (inside k e) body)
        (numbers_between (number_of (value records names e low)) (number_of (value records names e high)))))
    visiting e (listed l ts) visits = visiting_all e ts visits

    pub visiting_all : Bounds → Trees A → ℕ → Visited
    visiting_all e no_trees visits = left visits
    visiting_all e (tree_then t ts) visits = and_then (visiting e t visits) (visiting_all e ts)

-- the most bodies that the test of one claim evaluates
abbrev pub visit_limit : ℕ
visit_limit = 1000000
