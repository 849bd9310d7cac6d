-- The end of a case, by its literals or by its rows.
use Rattle.std.proofs.Common.{Option, Some, None, MatchOption, ◌≡◌, ℕ, zero, suc, ◌+◌, ◌<◌, ◌≤◌, take, List, [], ◌∷◌, map, length, get_or, Bool, true, false}
use Rattle.std.proofs.Common.{◌||◌, ◌&&◌, cond, IsTrue, ◌⊎◌, inl, inr, Result, Ok, Err, IfOk, refl, sym, ap, ap₂, ◌∙◌, subst, arith}
use Rattle.std.specs.List.{list_any, list_all, AllByRecursion, All}
use Rattle.std.proofs.lemmas.List.{length-map, map-append}
use Rattle.std.proofs.lemmas.List.Folds.{list_all-append}
use Rattle.store_atoms.proofs.Lists.{take-next}
use Rattle.std.proofs.lemmas.List.Elements.{All-weaker, All-more}
use Rattle.slang_values.specs.Value.{Records}
use Rattle.slang_values.specs.Tree.{Tree}
use Rattle.slang_values.specs.Typing.{NameTypes}
use Rattle.lin_rows.specs.Inequality.{Inequality, is_within}
use Rattle.lin_cert.specs.Certificate.{IsAccepted}
use Rattle.lin_solve.specs.declared.SolveEnd.{SolveEnd}
use Rattle.lin_solve.specs.declared.SolveEnd.TheVariants as solve_ends
use Rattle.lin_solve.specs.Answers.{IsEnd}
use Rattle.elimination.specs.Elimination.{elimination}
use Rattle.closing.specs.Literals.{is_false, is_opposite, are_all_narrow}
use Rattle.closing.specs.Rows.{rows_of_case}
use Rattle.whole_closing.specs.Literals.{is_unequal_itself, closed_by_literals}
use Rattle.whole_closing.specs.Closing.{Closing, closed, too_wide, by_ending, by_rows, closing_of_case}
use Rattle.term_nodes.specs.declared.node.Node.{Node}
use Rattle.term_store.specs.Store.{tree_at, AreWithin, Grows}
use Rattle.term_store.proofs.Stores.{Grows-length}
use Rattle.store_atoms.specs.declared.end.RowsEnd.{RowsEnd}
use Rattle.store_atoms.specs.declared.end.RowsEnd.TheVariants as row_ends
use Rattle.store_literals.specs.Places.{IsFalseAt, AreOppositesAt}
use Rattle.store_leaves.specs.declared.end.LeafEnd.{LeafEnd}
use Rattle.store_leaves.specs.declared.proof.LeafProof.{LeafProof}
use Rattle.store_leaves.specs.declared.found.Found.{Found}
use Rattle.store_leaves.specs.Closes.{literal_in, IsFalseIn, AreOppositesIn, ClosesLeaf, IsFoundIn, IsProofOfRows, IsUnequalAt, is_closed_otherwise}
use Rattle.store_leaves.specs.Closes.{has_opposites}
use Rattle.store_leaves.specs.Ends.{IsLeafEnd, end_of_rows, end_of_solve}

-- ---- truth values

or_true : (b : Bool) → (b || true) ≡ true
or_true true = refl
or_true false = refl

or_either : (a b : Bool) → (a || b) ≡ true → (a ≡ true) ⊎ (b ≡ true)
or_either true b h = inl refl
or_either false b h = inr h

-- ---- literals found in a store

there : (store : List Node) (ks : List ℕ) (place : ℕ) → place < length ks → literal_in (map (tree_at store) ks) place ≡ tree_at store (get_or ks place 0)
there store [] place l = absurd (omega arith)
there store (k ∷ ks) zero l = refl
there store (k ∷ ks) (suc place) l = there store ks place (omega arith)

module _ (records : Records) (types : NameTypes ℕ) (store : List Node) (ks : List ℕ) where
  within_trees : (place : ℕ) → place < length ks → place < length (map (tree_at store) ks)
  within_trees place l = omega (arith, l, length-map ks (tree_at store))

  pub false_found : (place : ℕ) → IsFalseAt store ks place → IsFalseIn records types (map (tree_at store) ks) place
  false_found place h = record {
    within = within_trees place h.within;
    false = ap (λ t. is_false t || is_unequal_itself records types t) (there store ks place h.within)
        ∙ ap (λ b. b || is_unequal_itself records types (tree_at store (get_or ks place 0))) h.false;
  }

  pub unequal_found : (place : ℕ) → IsUnequalAt records types store ks place → IsFalseIn records types (map (tree_at store) ks) place
  unequal_found place h = record {
    within = within_trees place h.within;
    false = ap (λ t. is_false t || is_unequal_itself records types t) (there store ks place h.within)
        ∙ ap (λ b. is_false (tree_at store (get_or ks place 0)) || b) h.unequal ∙ or_true (is_false (tree_at store (get_or ks place 0)));
  }

  pub opposites_found : (first second : ℕ) → AreOppositesAt records types store ks first second → AreOppositesIn records types (map (tree_at store) ks) first
      second
  opposites_found first second h = record {
    first_within = within_trees first h.first_within;
    second_within = within_trees second h.second_within;
    opposite = ap₂ (is_opposite records types) (there store ks first h.first_within) (there store ks second h.second_within) ∙ h.opposite;
  }

-- ---- a case

module _ (records : Records) (types : NameTypes ℕ) (leaf : List (Tree ℕ)) where
  pub none_false : list_any is_false leaf ≡ false → is_closed_otherwise records types leaf ≡ false → closed_by_literals records types leaf ≡ false
  none_false a b = ap₂ (λ x y. x || y) a b

  pub none_apart : list_any (is_unequal_itself records types) leaf ≡ false → has_opposites records types leaf ≡ false →
      is_closed_otherwise records types leaf ≡ false
  none_apart a b = ap₂ (λ x y. x || y) a b

  closed-literals : closed_by_literals records types leaf ≡ true → closing_of_case records types leaf ≡ closed
  closed-literals h = ap (λ b. cond b closed (cond (are_all_narrow leaf) (by_rows (rows_of_case records types leaf)) too_wide)) h

  pub wide-literals : closed_by_literals records types leaf ≡ false → are_all_narrow leaf ≡ false → closing_of_case records types leaf ≡ too_wide
  wide-literals h k =
      ap (λ b. cond b closed (cond (are_all_narrow leaf) (by_rows (rows_of_case records types leaf)) too_wide)) h
      ∙ ap (λ b. cond b (by_rows (rows_of_case records types leaf)) too_wide) k

  closing-rows : closed_by_literals records types leaf ≡ false → are_all_narrow leaf ≡ true → closing_of_case records types leaf ≡ by_rows
      (rows_of_case records types leaf)
  closing-rows h k =
      ap (λ b. cond b closed (cond (are_all_narrow leaf) (by_rows (rows_of_case records types leaf)) too_wide)) h
      ∙ ap (λ b. cond b (by_rows (rows_of_case records types leaf)) too_wide) k

  any_at : (test : Tree ℕ → Bool) (ts : List (Tree ℕ)) (place : ℕ) → place < length ts → test (literal_in ts place) ≡ true → list_any test ts ≡ true
  any_at test [] place l h = absurd (omega arith)
  any_at test (t ∷ ts) zero l h = ap (λ b. b || list_any test ts) h
  any_at test (t ∷ ts) (suc place) l h = ap (λ b. test t || b) (any_at test ts place (omega arith) h) ∙ or_true (test t)

  false_closes : (place : ℕ) → IsFalseIn records types leaf place → closed_by_literals records types leaf ≡ true
  false_closes place h = by_either (or_either _ _ h.false)
    where
      by_either : (is_false (literal_in leaf place) ≡ true) ⊎ (is_unequal_itself records types (literal_in leaf place) ≡ true) →
          closed_by_literals records types leaf ≡ true
      by_either (inl e) = ap
          (λ b. b || (list_any (is_unequal_itself records types) leaf || list_any (λ s. list_any (is_opposite records types s) leaf) leaf))
          (any_at is_false leaf place h.within e)
      by_either (inr e) =
          ap (λ b. list_any is_false leaf || (b || list_any (λ s. list_any (is_opposite records types s) leaf) leaf))
          (any_at (is_unequal_itself records types) leaf place h.within e)
          ∙ or_true (list_any is_false leaf)

  opposites_close : (first second : ℕ) → AreOppositesIn records types leaf first second → closed_by_literals records types leaf ≡ true
  opposites_close first second h =
      let one = any_at (is_opposite records types (literal_in leaf first)) leaf second h.second_within h.opposite in
      let any = any_at (λ s. list_any (is_opposite records types s) leaf) leaf first h.first_within one in
      ap (λ b. list_any is_false leaf || (list_any (is_unequal_itself records types) leaf || b)) any
      ∙ ap (λ b. list_any is_false leaf || b) (or_true (list_any (is_unequal_itself records types) leaf)) ∙ or_true (list_any is_false leaf)

  pub found_closes : (found : Found) → IsFoundIn records types leaf found → closing_of_case records types leaf ≡ closed
  found_closes (Found.False place) h = closed-literals (false_closes place h)
  found_closes (Found.Pair first second) h = closed-literals (opposites_close first second h)

  -- ---- by the rows

  module _ (rows : List Inequality) (open_ : closed_by_literals records types leaf ≡ false) (narrow : are_all_narrow leaf ≡ true) where
    pub end_by_rows : (r : Result LeafProof LeafEnd) → rows ≡ rows_of_case records types leaf → list_all is_within rows ≡ true →
        IsLeafEnd (by_ending (elimination rows)) r → IsLeafEnd (closing_of_case records types leaf) r
    end_by_rows r e within h =
        let is : closing_of_case records types leaf ≡ by_ending (elimination rows) =
        closing-rows open_ narrow ∙ ap by_rows (sym e) ∙ ap (λ b. cond b (by_ending (elimination rows)) too_wide) within in
        subst (λ (c : Closing). IsLeafEnd c r) (sym is) h

  pub end_of_wide_rows : (e : RowsEnd) → closed_by_literals records types leaf ≡ false → are_all_narrow leaf ≡ true →
      (e ≡ row_ends.Wide → list_all is_within (rows_of_case records types leaf) ≡ false) →
      IsLeafEnd (closing_of_case records types leaf) (Err (end_of_rows e))
  end_of_wide_rows row_ends.Wide h k w = closing-rows h k ∙ ap (λ b. cond b (by_ending (elimination (rows_of_case records types leaf))) too_wide) (w refl)
  end_of_wide_rows row_ends.NoMemory h k w = tt

  pub proof_by_rows : (r : Result LeafProof LeafEnd) (rows : List Inequality) → rows ≡ rows_of_case records types leaf → IfOk r (IsProofOfRows rows) →
      IfOk r (ClosesLeaf records types leaf)
  proof_by_rows (Ok (LeafProof.Cert lines)) rows e h = subst (λ (rs : List Inequality). IsAccepted rs lines) e h
  proof_by_rows (Ok (LeafProof.Pair first second)) rows e h = absurd h
  proof_by_rows (Ok (LeafProof.False place)) rows e h = absurd h
  proof_by_rows (Err x) rows e h = tt

-- ---- an elimination

pub solve-end : (rows : List Inequality) (e : SolveEnd) → IsEnd rows e → IsLeafEnd (by_ending (elimination rows)) (Err (end_of_solve e))
solve-end rows solve_ends.Rows h = ap by_ending h
solve-end rows solve_ends.Wide h = ap by_ending h
solve-end rows solve_ends.NoMemory h = tt

pub all_within : (rows : List Inequality) → list_all is_within rows ≡ true → AllByRecursion (λ row. IsTrue (is_within row)) rows
all_within [] h = tt
all_within (row ∷ rows) h = (first (is_within row) (list_all is_within rows) h, all_within rows (second (is_within row) (list_all is_within rows) h))
  where
    first : (a b : Bool) → (a && b) ≡ true → a ≡ true
    first true b h = refl
    first false b h = h

    second : (a b : Bool) → (a && b) ≡ true → b ≡ true
    second true b h = h
    second false b h = absurd (cc)

-- ---- forms

and_false : (b : Bool) → (b && false) ≡ false
and_false true = refl
and_false false = refl

module _ (test : Tree ℕ → Bool) (f : ℕ → Tree ℕ) where
  -- one of the terms is not narrow
  pub one_is_wide : (ks : List ℕ) (i k : ℕ) → i < length ks → k ≡ get_or ks i k → test (f k) ≡ false → false ≡ list_all test (map f ks)
  one_is_wide [] i k l is e = absurd (omega arith)
  one_is_wide (x ∷ ks) zero k l is e = sym (ap (λ b. b && list_all test (map f ks)) (ap (λ y. test (f y)) (sym is) ∙ e))
  one_is_wide (x ∷ ks) (suc i) k l is e = sym (ap (λ b. test (f x) && b) (sym (one_is_wide ks i k (omega arith) is e)) ∙ and_false (test (f x)))

  pub one_more_narrow : (ks : List ℕ) (i k : ℕ) → i < length ks → k ≡ get_or ks i k → list_all test (map f (take i ks)) ≡ true → test (f k) ≡ true →
      list_all test (map f (take (i + 1) ks)) ≡ true
  one_more_narrow ks i k l is h e =
      ap (λ xs. list_all test (map f xs)) (take-next ks i k l is) ∙ ap (list_all test) (map-append f (take i ks) (k ∷ []))
      ∙ list_all-append test (map f (take i ks)) (f k ∷ []) ∙ ap₂ (λ a b. a && (b && true)) h e

-- ---- literals of a store that has grown

pub below_more : (m n : ℕ) (ks : List ℕ) → m ≤ n → All (λ k. k < m) ks → All (λ k. k < n) ks
below_more m n ks l h = All-weaker (λ k. k < m) (λ k. k < n) (λ k b. omega (arith, l, b)) ks h

pub still_within : (old new : List Node) (ks : List ℕ) → Grows old new → AreWithin old ks → AreWithin new ks
still_within old new [] g h = tt
still_within old new (k ∷ ks) g h = (omega (arith, h.0, Grows-length old new g), still_within old new ks g h.1)

pub number_within : (store : List Node) (ks : List ℕ) (i k : ℕ) → AreWithin store ks → i < length ks → k ≡ get_or ks i k → k < length store
number_within store [] i k h l e = absurd (omega arith)
number_within store (x ∷ ks) zero k h l e = let y = h.0 in omega (arith, y, e)
number_within store (x ∷ ks) (suc i) k h l e = number_within store ks i k h.1 (omega arith) e

-- a bound above one more number
pub one_above : (m n : ℕ) (ks : List ℕ) (i k : ℕ) → i < length ks → k ≡ get_or ks i k → All (λ k. k < m) (take i ks) → m ≤ n → k < n →
    All (λ k. k < n) (take (i + 1) ks)
one_above m n ks i k l e h w b = All-more (λ k. k < n) ks i k l (below_more m n (take i ks) w h) (omega (arith, e, b))

-- ---- options

pub none_as : {X : Type 0} {P Q : Type 0} (R : X → Type 0) (o : Option X) → (P → Q) → MatchOption o P R → MatchOption o Q R
none_as R (Some x) f h = h
none_as R None f h = f h
