-- A search that has gone through all that it found has found the methods that are reached.
use Rattle.std.proofs.Common.{◌≡◌, ◌⊎◌, inl, inr, ℕ, zero, suc, ◌+◌, ◌<◌, ◌≤◌, List, [], ◌∷◌, ◌++◌, Bool, true, false, length, get_or, refl, sym, ap, ◌∙◌, subst, true≢false, arith}
use Rattle.std.specs.Prelude.{nat_eq}
use Rattle.std.specs.List.{IsDistinct}
use Rattle.std.specs.List.Sorted.{IsSorted, IsPermutation}
use Rattle.std.specs.Ordering.{nat_cmp, is_lt}
use Rattle.std.specs.declared.cmp.Ordering.TheVariants.{Less}
use Rattle.std.specs.Cmp.{nat_cmp_is}
use Rattle.std.specs.Set.{is_member}
use Rattle.std.proofs.lemmas.Bool.{and_from, and_parts, cases_lt, or_cases, or_left, or_right}
use Rattle.std.proofs.lemmas.Bool.Decides.{Decides-eqb}
use Rattle.std.proofs.lemmas.Cmp.{nat_eq_equiv}
use Rattle.std.proofs.lemmas.List.{get_or_append_left, length-map}
use Rattle.std.proofs.lemmas.List.Sorted.{list_any-IsPermutation, IsNonDecreasingBy-from_all_adjacent}
use Rattle.std.proofs.lemmas.Map.Keys.{IsDistinct-IsPermutation, IsStrictlyIncreasing-from_distinct}
use Rattle.std.proofs.lemmas.Map.Steps.{length-le_from_distinct_below}
use Rattle.program_trees.specs.Programs.{ProgramTree}
use Rattle.program_trees.specs.Variables.{Variable}
use Rattle.run_rules.specs.Reach.{leads, Reaches}
use Rattle.program_trees.specs.Variables.{with_kinds}
use Rattle.lk_programs.specs.Typed.{program_tree}
use Rattle.lk_programs.specs.declared.typed.Typed.{Typed}
use Rattle.method_reach.specs.Reach.{IsReach}
use Rattle.method_reach.specs.Search.{is_marked, IsFound, Marks, called_by, IsSearch}

pub member_at : (xs : List ℕ) (k : ℕ) → k < length xs → is_member nat_eq xs (get_or xs k 0) ≡ true
member_at [] k l = absurd (omega arith)
member_at (x ∷ xs) zero l = or_left (nat_eq x x) (is_member nat_eq xs x) (nat_eq_equiv.refl x)
member_at (x ∷ xs) (suc k) l = or_right (nat_eq (get_or xs k 0) x) (is_member nat_eq xs (get_or xs k 0)) (member_at xs k (omega arith))

pub any_default : (xs : List ℕ) (k d : ℕ) → k < length xs → get_or xs k d ≡ get_or xs k 0
any_default [] k d l = absurd (omega arith)
any_default (x ∷ xs) zero d l = refl
any_default (x ∷ xs) (suc k) d l = any_default xs k d (omega arith)

abbrev Position : List ℕ → ℕ → Type 0
Position xs n = (k : ℕ) × (k < length xs) × (get_or xs k 0 ≡ n)

position_by : (x : ℕ) (xs : List ℕ) (n : ℕ) → (is_member nat_eq xs n ≡ true → Position xs n) → (nat_eq n x ≡ true) ⊎ (is_member nat_eq xs n ≡ true)
    → Position (x ∷ xs) n
position_by x xs n more (inl same) = (0, omega arith, sym ((Decides-eqb n x).0 same))
position_by x xs n more (inr is) = let at = more is in (suc at.0, omega (arith, at.1), at.2)

position : (xs : List ℕ) (n : ℕ) → is_member nat_eq xs n ≡ true → Position xs n
position [] n is = absurd (true≢false (sym is))
position (x ∷ xs) n is = position_by x xs n (position xs n) (or_cases (nat_eq n x) (is_member nat_eq xs n) is)

past_is_unmarked : (marks : List Bool) (n : ℕ) → length marks ≤ n → is_marked marks n ≡ false
past_is_unmarked [] n l = refl
past_is_unmarked (m ∷ marks) zero l = absurd (omega arith)
past_is_unmarked (m ∷ marks) (suc n) l = past_is_unmarked marks n (omega arith)

pub marked_within : (marks : List Bool) (n : ℕ) → is_marked marks n ≡ true → n < length marks
marked_within marks n is = by (cases_lt n (length marks))
  where
    by : (n < length marks) ⊎ (length marks ≤ n) → n < length marks
    by (inl l) = l
    by (inr l) = absurd (true≢false (sym is ∙ past_is_unmarked marks n l))

pub found_at : (marks : List Bool) (found : List ℕ) (k : ℕ) → IsFound marks found → k < length found → is_marked marks (get_or found k 0) ≡ true
found_at marks found k is_found l = is_found.same (get_or found k 0) ∙ member_at found k l

-- no more are found than there are marks
pub found_length : (marks : List Bool) (found : List ℕ) → IsFound marks found → length found ≤ length marks
found_length marks found is_found =
    length-le_from_distinct_below found (length marks) is_found.distinct (λ n is. marked_within marks n (is_found.same n ∙ is))

module _ (program : ProgramTree Variable) where
  leads_on : (number : ℕ) (path : List ℕ) (to called : ℕ) → leads program number path to ≡ true → is_member nat_eq (called_by program to) called ≡ true
      → leads program number (path ++ called ∷ []) called ≡ true
  leads_on number [] to called h calls =
      and_from (is_member nat_eq (called_by program number) called) (nat_eq called called)
      (subst (λ n. is_member nat_eq (called_by program n) called ≡ true) (sym ((Decides-eqb number to).0 h)) calls) (nat_eq_equiv.refl called)
  leads_on number (next ∷ path) to called h calls =
      let first = is_member nat_eq (called_by program number) next in
      let parts = and_parts first (leads program next path to) h in
      and_from first (leads program next (path ++ called ∷ []) called) parts.0 (leads_on next path to called parts.1 calls)

  reaches_on : (from to called : ℕ) → Reaches program from to → is_member nat_eq (called_by program to) called ≡ true → Reaches program from called
  reaches_on from to called reach calls = (reach.0 ++ called ∷ [], leads_on from reach.0 to called reach.1 calls)

module _ (program : ProgramTree Variable) (from : ℕ) where
  pub search_on : (marks after : List Bool) (found now called : List ℕ) (next : ℕ) → IsSearch program from marks found next → next < length found
      → called ≡ called_by program (get_or found next 0) → Marks called marks found after now → IsSearch program from after now (next + 1)
  search_on marks after found now called next search l is_called more = record {
    all_methods = more.same_length ∙ search.all_methods;
    is_found = more.is_found;
    begun = stays from search.begun;
    reached = λ n is. reached n (or_cases (is_marked marks n) (is_member nat_eq called n) (sym (more.marked n) ∙ is));
    gone_through = λ k l' within n is. gone k n (cases_lt k next) l' is;
  }
    where
      method : ℕ
      method = get_or found next 0

      stays : (n : ℕ) → is_marked marks n ≡ true → is_marked after n ≡ true
      stays n is = more.marked n ∙ or_left (is_marked marks n) (is_member nat_eq called n) is

      reached : (n : ℕ) → (is_marked marks n ≡ true) ⊎ (is_member nat_eq called n ≡ true) → Reaches program from n
      reached n (inl is) = search.reached n is
      reached n (inr is) =
          reaches_on program from method n (search.reached method (found_at marks found next search.is_found l))
          (subst (λ ns. is_member nat_eq ns n ≡ true) is_called is)

      same_at : (k : ℕ) → k < length found → get_or now k 0 ≡ get_or found k 0
      same_at k within = ap (λ ns. get_or ns k 0) more.longer ∙ get_or_append_left found more.more 0 k within

      gone : (k n : ℕ) → (k < next) ⊎ (next ≤ k) → k < next + 1 → is_member nat_eq (called_by program (get_or now k 0)) n ≡ true → is_marked after n ≡ true
      gone k n (inl before) l' is =
          let within : k < length found = omega (arith, l, before) in
          stays n (search.gone_through k before within n (subst (λ m. is_member nat_eq (called_by program m) n ≡ true) (same_at k within) is))
      gone k n (inr behind) l' is =
          let at : k ≡ next = omega (arith, l', behind) in
          let now_called : called_by program (get_or now k 0) ≡ called =
          ap (called_by program) (ap (λ i. get_or now i 0) at ∙ same_at next l) ∙ sym is_called in
          more.marked n ∙ or_right (is_marked marks n) (is_member nat_eq called n) (subst (λ ns. is_member nat_eq ns n ≡ true) now_called is)

  pub search_begun : (marks : List Bool) (found : List ℕ) (before : List Bool) → length marks ≡ length program.methods →
      ((n : ℕ) → is_marked before n ≡ false) → IsFound marks found
      → Marks (from ∷ []) before [] marks found → IsSearch program from marks found 0
  search_begun marks found before all none is_found first = record {
    all_methods = all;
    is_found = is_found;
    begun = first.marked from ∙ or_right (is_marked before from) (is_member nat_eq (from ∷ []) from)
        (or_left (nat_eq from from) false (nat_eq_equiv.refl from));
    reached = λ n is. alone n (or_cases (is_marked before n) (is_member nat_eq (from ∷ []) n) (sym (first.marked n) ∙ is));
    gone_through = λ k l within n is. absurd (omega arith);
  }
    where
      same : (n : ℕ) → (nat_eq n from ≡ true) ⊎ (false ≡ true) → Reaches program from n
      same n (inl is) = ([], nat_eq_equiv.symm from n ∙ is)
      same n (inr is) = absurd (true≢false (sym is))

      alone : (n : ℕ) → (is_marked before n ≡ true) ⊎ (is_member nat_eq (from ∷ []) n ≡ true) → Reaches program from n
      alone n (inl is) = absurd (true≢false (sym is ∙ none n))
      alone n (inr is) = same n (or_cases (nat_eq n from) false is)

  module _ (marks : List Bool) (found : List ℕ) (search : IsSearch program from marks found (length found)) where
    closed : (n : ℕ) (path : List ℕ) (to : ℕ) → is_marked marks n ≡ true → leads program n path to ≡ true → is_marked marks to ≡ true
    closed n [] to is leads_there = subst (λ m. is_marked marks m ≡ true) ((Decides-eqb n to).0 leads_there) is
    closed n (called ∷ path) to is leads_there =
        let parts = and_parts (is_member nat_eq (called_by program n) called) (leads program called path to) leads_there in
        let at = position found n (sym (search.is_found.same n) ∙ is) in
        closed called path to
        (search.gone_through at.0 at.1 at.1 called (subst (λ m. is_member nat_eq (called_by program m) called ≡ true) (sym at.2) parts.0)) parts.1

    not_less : (a b : ℕ) → is_lt (nat_cmp b a) ≡ false → a ≤ b
    not_less a b h = by (cases_lt b a)
      where
        by : (b < a) ⊎ (a ≤ b) → a ≤ b
        by (inl l) = absurd (true≢false (ap is_lt (nat_cmp_is b a Less l) ∙ h))
        by (inr l) = l

    pub is_reach : (sorted : List ℕ) → IsPermutation found sorted → IsSorted nat_cmp sorted → IsReach program from sorted
    is_reach sorted permuted in_order = record {
      ascending =
          IsStrictlyIncreasing-from_distinct sorted (IsNonDecreasingBy-from_all_adjacent (λ x. x) sorted (λ k d l. not_less _ _ (in_order k d (omega arith) l)))
          (IsDistinct-IsPermutation nat_eq nat_eq_equiv.symm found sorted permuted search.is_found.distinct);
      reached = λ n. (
        (λ is. search.reached n (search.is_found.same n ∙ list_any-IsPermutation (nat_eq n) found sorted permuted ∙ is)),
        (λ reach. sym (search.is_found.same n ∙ list_any-IsPermutation (nat_eq n) found sorted permuted) ∙ closed from reach.0 n search.begun reach.1),
      );
    }

-- ---- the program of a typed one

pub methods_length : (typed : Typed) → length (with_kinds (program_tree typed)).methods ≡ length typed.methods
methods_length typed = length-map _ _ ∙ length-map _ _

pub nothing_found : (marks : List Bool) (found : List ℕ) → ((n : ℕ) → is_marked marks n ≡ false) → found ≡ [] → IsFound marks found
unfolding IsDistinct
nothing_found marks found none empty = record {
  same = λ n. none n ∙ ap (λ ns. is_member nat_eq ns n) (sym empty);
  distinct = subst (IsDistinct nat_eq) (sym empty) tt;
}

pub found_there : (typed : Typed) (from : ℕ) (marks : List Bool) (found : List ℕ) (next : ℕ) → IsSearch
    (with_kinds (program_tree typed)) from marks found next → next < length found
    → get_or found next 0 < length typed.methods
found_there typed from marks found next search l =
    subst (λ length. get_or found next 0 < length) (search.all_methods ∙ methods_length typed)
    (marked_within marks (get_or found next 0) (found_at marks found next search.is_found l))
