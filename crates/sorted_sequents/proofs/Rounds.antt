-- Records, round by round.
use Rattle.std.proofs.Common.{◌≡◌, ℕ, zero, suc, ◌+◌, ◌<◌, ◌≤◌, min, Bool, true, false, ◌&&◌, true≢false, List, [], ◌∷◌, ◌++◌, map, drop, drop-cons, add-one}
use Rattle.std.proofs.Common.{length, get_or, Option, Some, None, ◌⊎◌, inl, inr, refl, sym, ap, ap₂, ◌∙◌, subst, arith}
use Rattle.std.specs.Prelude.{nat_lt, nat_le}
use Rattle.std.specs.List.{list_all, sum_by}
use Rattle.std.specs.Option.{option_map_or}
use Rattle.std.proofs.lemmas.Bool.{ltb-true, lt-ltb, cases_lt}
use Rattle.std.proofs.lemmas.List.{get_or_push, get_or_append_left, length_push, length-map, get_or-map}
use Rattle.std.proofs.lemmas.List.Sums.{sum_by-cons}
use Rattle.slang_values.specs.Value.{ValueType, unit_type, number_type, truth_type, sequence_type, record_type, Records, fields, named_record, is_known}
use Rattle.slang_values.specs.Value.{parts_of_field, ends_within, parts_within, AreWellFormed}
use Rattle.term_trees.specs.declared.term.Sort.{Sort}
use Rattle.term_trees.specs.Term.{sort_type}
use Rattle.term_sorts.specs.Types.{record_types}
use Rattle.sorted_sequents.specs.Records.{AreEnds, AreCounts, AreKnown}
use Rattle.sorted_sequents.proofs.Typed.{both_true, true_both}

-- ---- tests of all the elements

pub all_at : {X : Type 0} (p : X → Bool) (xs : List X) (i : ℕ) (d : X) → list_all p xs ≡ true → i < length xs → p (get_or xs i d) ≡ true
all_at p [] i d h l = absurd (omega arith)
all_at p (x ∷ xs) zero d h l = (both_true (p x) (list_all p xs) h).0
all_at p (x ∷ xs) (suc i) d h l = all_at p xs i d (both_true (p x) (list_all p xs) h).1 (omega (arith, l))

pub all_from : {X : Type 0} (p : X → Bool) (xs : List X) (d : X) → ((i : ℕ) → i < length xs → p (get_or xs i d) ≡ true) → list_all p xs ≡ true
all_from p [] d h = refl
all_from p (x ∷ xs) d h = true_both (p x) (list_all p xs) (h zero (omega arith)) (all_from p xs d (λ i l. h (suc i) (omega (arith, l))))

-- one of the elements fails the test
pub one_fails : {X Y : Type 0} (p : Y → Bool) (f : X → Y) (xs : List X) (i : ℕ) (d : X) → i < length xs → p (f (get_or xs i d)) ≡ false
    → false ≡ list_all p (map f xs)
one_fails p f [] i d l e = absurd (omega arith)
one_fails p f (x ∷ xs) zero d l e = sym (ap (λ b. b && list_all p (map f xs)) e)
one_fails p f (x ∷ xs) (suc i) d l e =
    sym (ap (λ b. p (f x) && b) (sym (one_fails p f xs i d (omega (arith, l)) e)) ∙ and_false (p (f x)))
  where
    and_false : (b : Bool) → (b && false) ≡ false
    and_false true = refl
    and_false false = refl

pub known_from : (records : Records) → list_all (list_all (is_known records)) records ≡ true → AreKnown records
known_from records h = record { at = λ n l. all_at (list_all (is_known records)) records n [] h l }

-- ---- what the code holds

pub fields_at : (records : List (List Sort)) (n : ℕ) (d : List Sort) → n < length records → map sort_type (get_or records n d) ≡ fields (record_types records) n
fields_at records n d l = sym (get_or-map (map sort_type) records n d [] l)

pub as_many : (records : List (List Sort)) → length (record_types records) ≡ length records
as_many records = length-map records (map sort_type)

-- ---- what ends

module _ (records : Records) (answers : List Bool) (depth : ℕ) (ends : AreEnds records depth answers) where
  field_ends : (t : ValueType) → is_known records t ≡ true →
      option_map_or (λ n. get_or answers n false) (named_record t) true ≡ option_map_or (ends_within records depth) (named_record t) true
  field_ends t k = by (named_record t) k
    where
      by : (o : Option ℕ) → option_map_or (λ n. nat_lt n (length records)) o true ≡ true →
          option_map_or (λ n. get_or answers n false) o true ≡ option_map_or (ends_within records depth) o true
      by None k = refl
      by (Some m) k = ends.at m (ltb-true m (length records) k)

  pub fields_end : (ts : List ValueType) → list_all (is_known records) ts ≡ true →
      list_all (λ t. option_map_or (λ n. get_or answers n false) (named_record t) true) ts
      ≡ list_all (λ t. option_map_or (ends_within records depth) (named_record t) true) ts
  fields_end [] k = refl
  fields_end (t ∷ ts) k =
      let p = both_true (is_known records t) (list_all (is_known records) ts) k in ap₂ (λ a b. a && b) (field_ends t p.0) (fields_end ts p.1)

-- The answers so far, for the records below a number.
pub record EndsBelow (records : Records) (answers next : List Bool) (n : ℕ) : Type 0 where
  pub count : length next ≡ n
  pub at : (m : ℕ) → m < n → get_or next m false ≡ list_all (λ t. option_map_or (λ k. get_or answers k false) (named_record t) true) (fields records m)

pub ends_more : (records : Records) (answers next : List Bool) (n : ℕ) (b : Bool) → EndsBelow records answers next n →
    b ≡ list_all (λ t. option_map_or (λ k. get_or answers k false) (named_record t) true) (fields records n)
    → EndsBelow records answers (next ++ b ∷ []) (n + 1)
ends_more records answers next n b h e = record {
  count = omega (arith, length_push next b, h.count);
  at = λ m l. by m l (cases_lt m (length next));
}
  where
    by : (m : ℕ) → m < n + 1 → (m < length next) ⊎ (length next ≤ m) →
        get_or (next ++ b ∷ []) m false ≡ list_all (λ t. option_map_or (λ k. get_or answers k false) (named_record t) true) (fields records m)
    by m l (inl old) = get_or_append_left next (b ∷ []) false m old ∙ h.at m (omega (arith, old, h.count))
    by m l (inr new) =
        let is : m ≡ n = omega (arith, l, new, h.count) in
        get_or_push next b false m (omega (arith, is, h.count)) ∙ e
        ∙ ap (λ j. list_all (λ t. option_map_or (λ k. get_or answers k false) (named_record t) true) (fields records j)) (sym is)

pub ends_next : (records : Records) (answers next : List Bool) → AreKnown records → EndsBelow records answers next (length records) →
    (depth : ℕ) → AreEnds records depth answers → AreEnds records (suc depth) next
ends_next records answers next known h depth ends = record {
  count = h.count;
  at = λ n l. h.at n l ∙ fields_end records answers depth ends (fields records n) (known.at n l);
}

-- ---- how many parts

module _ (records : Records) (counts : List ℕ) (depth : ℕ) (are : AreCounts records depth counts) where
  field_parts : (t : ValueType) → is_known records t ≡ true →
      parts_of_field (λ n. get_or counts n 0) t ≡ min (parts_of_field (parts_within records depth) t) 1001
  field_parts unit_type k = refl
  field_parts number_type k = refl
  field_parts truth_type k = refl
  field_parts (sequence_type t) k = refl
  field_parts (record_type n) k = are.at n (ltb-true n (length records) k)

  pub fields_parts : (ts : List ValueType) → list_all (is_known records) ts ≡ true →
      min (sum_by (λ t. 1 + parts_of_field (λ n. get_or counts n 0) t) ts) 1001
      ≡ min (length ts + sum_by (parts_of_field (parts_within records depth)) ts) 1001
  fields_parts [] k = refl
  fields_parts (t ∷ ts) k =
      let p = both_true (is_known records t) (list_all (is_known records) ts) k in
      let rest = fields_parts ts p.1 in
      let here = field_parts t p.0 in
      let f : ValueType → ℕ = λ u. 1 + parts_of_field (λ n. get_or counts n 0) u in
      let g : ValueType → ℕ = parts_of_field (parts_within records depth) in
      join (f t) (sum_by f ts) (sum_by f (t ∷ ts)) (g t) (sum_by g ts) (sum_by g (t ∷ ts)) (length ts) (parts_of_field
      (λ n. get_or counts n 0) t) refl here rest
      (sum_by-cons f t ts) (sum_by-cons g t ts)
    where
      join : (ft fs fa gt gs ga n x : ℕ) → ft ≡ 1 + x → x ≡ min gt 1001 → min fs 1001 ≡ min (n + gs) 1001 → fa ≡ ft + fs → ga ≡ gt + gs
          → min fa 1001 ≡ min (suc n + ga) 1001
      join ft fs fa gt gs ga n x a b c d e = omega (arith, a, b, c, d, e)

pub record CountsBelow (records : Records) (counts next : List ℕ) (n : ℕ) : Type 0 where
  pub count : length next ≡ n
  pub at : (m : ℕ) → m < n → get_or next m 0 ≡ min (sum_by (λ t. 1 + parts_of_field (λ k. get_or counts k 0) t) (fields records m)) 1001

pub counts_more : (records : Records) (counts next : List ℕ) (n x : ℕ) → CountsBelow records counts next n →
    x ≡ min (sum_by (λ t. 1 + parts_of_field (λ k. get_or counts k 0) t) (fields records n)) 1001 → CountsBelow records counts (next ++ x ∷ []) (n + 1)
counts_more records counts next n x h e = record {
  count = omega (arith, length_push next x, h.count);
  at = λ m l. by m l (cases_lt m (length next));
}
  where
    by : (m : ℕ) → m < n + 1 → (m < length next) ⊎ (length next ≤ m) →
        get_or (next ++ x ∷ []) m 0 ≡ min (sum_by (λ t. 1 + parts_of_field (λ k. get_or counts k 0) t) (fields records m)) 1001
    by m l (inl old) = get_or_append_left next (x ∷ []) 0 m old ∙ h.at m (omega (arith, old, h.count))
    by m l (inr new) =
        let is : m ≡ n = omega (arith, l, new, h.count) in
        get_or_push next x 0 m (omega (arith, is, h.count)) ∙ e
        ∙ ap (λ j. min (sum_by (λ t. 1 + parts_of_field (λ k. get_or counts k 0) t) (fields records j)) 1001) (sym is)

pub counts_next : (records : Records) (counts next : List ℕ) → AreKnown records → CountsBelow records counts next (length records) →
    (depth : ℕ) → AreCounts records depth counts → AreCounts records (suc depth) next
counts_next records counts next known h depth are = record {
  count = h.count;
  at = λ n l. h.at n l ∙ fields_parts records counts depth are (fields records n) (known.at n l);
}

-- the fields from one on
pub parts_from : (f : ValueType → ℕ) (sorts : List Sort) (i : ℕ) (d : Sort) (p x q : ℕ) → i < length sorts → x ≡ f (sort_type (get_or sorts i d))
    → q ≡ min (p + (1 + x)) 1001 →
    min (p + sum_by (λ t. 1 + f t) (map sort_type (drop i sorts))) 1001 ≡ min (q + sum_by (λ t. 1 + f t) (map sort_type (drop (i + 1) sorts))) 1001
parts_from f sorts i d p x q l e g =
    let here : sum_by (λ t. 1 + f t) (map sort_type (drop i sorts)) ≡ (1 + f (sort_type (get_or sorts i d))) + sum_by (λ t. 1 + f t) (map sort_type (drop
    (i + 1) sorts)) =
    ap (λ ts. sum_by (λ t. 1 + f t) (map sort_type ts)) (drop-cons sorts i d l)
    ∙ sum_by-cons (λ t. 1 + f t) (sort_type (get_or sorts i d)) (map sort_type (drop (suc i) sorts))
    ∙ ap (λ n. (1 + f (sort_type (get_or sorts i d))) + sum_by (λ t. 1 + f t) (map sort_type (drop n sorts))) (sym (add-one i)) in
    join (sum_by (λ t. 1 + f t) (map sort_type (drop i sorts))) (sum_by (λ t. 1 + f t) (map sort_type (drop (i + 1) sorts))) (f (sort_type
    (get_or sorts i d))) here e g
  where
    join : (all rest y : ℕ) → all ≡ (1 + y) + rest → x ≡ y → q ≡ min (p + (1 + x)) 1001 → min (p + all) 1001 ≡ min (q + rest) 1001
    join all rest y a b c = omega (arith, a, b, c)

-- ---- all records

pub well_formed_from : (records : Records) (answers : List Bool) (counts : List ℕ) → AreKnown records → AreEnds records (length records) answers →
    AreCounts records (length records) counts → list_all (λ b. b) answers ≡ true → list_all (λ n. nat_lt n 1001) counts ≡ true → AreWellFormed records
well_formed_from records answers counts known ends are h k = record {
  known = known.at;
  finite = λ n l. sym (ends.at n l) ∙ all_at (λ b. b) answers n false h (omega (arith, l, ends.count));
  small = λ n l.
      let small : get_or counts n 0 < 1001 = ltb-true (get_or counts n 0) 1001 (all_at (λ m. nat_lt m 1001) counts n 0 k (omega (arith, l, are.count))) in
      let is = are.at n l in omega (arith, small, is);
}

pub from_well_formed : (records : Records) (answers : List Bool) (counts : List ℕ) → AreEnds records (length records) answers →
    AreCounts records (length records) counts → AreWellFormed records → (list_all (λ b. b) answers && list_all (λ n. nat_lt n 1001) counts) ≡ true
from_well_formed records answers counts ends are fine =
    true_both (list_all (λ b. b) answers) (list_all (λ n. nat_lt n 1001) counts)
    (all_from (λ b. b) answers false (λ n l. ends.at n (omega (arith, l, ends.count)) ∙ fine.finite n (omega (arith, l, ends.count))))
    (all_from (λ n. nat_lt n 1001) counts 0 (λ n l. lt-ltb (get_or counts n 0) 1001 (small n (omega (arith, l, are.count)))))
  where
    small : (n : ℕ) → n < length records → get_or counts n 0 < 1001
    small n l = let is = are.at n l in let most = fine.small n l in omega (arith, is, most)

pub from_known : (records : Records) → AreWellFormed records → list_all (list_all (is_known records)) records ≡ true
from_known records fine = all_from (list_all (is_known records)) records [] (λ n l. fine.known n l)
