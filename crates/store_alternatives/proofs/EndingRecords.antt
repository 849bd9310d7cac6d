-- Defaults of types whose records end.
use Rattle.std.proofs.Common.{◌≡◌, ℕ, zero, suc, ◌+◌, ◌-◌, ◌<◌, ◌≤◌, List, [], ◌∷◌, ◌++◌, map, take, length, get_or, Bool, true, ◌&&◌, ◌⊎◌, inl, inr, slice_get, Option, Some, None, Result, Ok, Err, IfOk, refl, sym, ap, ap₂, ◌∙◌, subst, arith}
use Rattle.std.specs.List.{AllByRecursion, list_all, sum_by}
use Rattle.std.specs.Option.{option_map, option_map_or, unwrap_or}
use Rattle.std.proofs.lemmas.Bool.{false≢true, and_parts, cases_lt, ltb-true}
use Rattle.std.proofs.lemmas.List.{map_push, take_more, get_or_past}
use Rattle.std.proofs.lemmas.Option.{unwrap_or-slice_get}
use Rattle.std.proofs.Math.ListN.{get_or-map}
use Rattle.slang_values.specs.Value.{ValueType, unit_type, number_type, truth_type, sequence_type, record_type, Records, fields, named_record, ends_within, parts_within, parts_of_field, is_known, AreWellFormed}
use Rattle.slang_values.specs.Tree.{Tree, listed, Trees, tree_then, record_of}
use Rattle.read_rules.specs.Reads.{each_tree, default_tree_within}
use Rattle.term_sorts.specs.Types.{record_types}
use Rattle.term_trees.specs.declared.term.Sort.{Sort}
use Rattle.term_trees.specs.Term.{sort_type, trees_of}
use Rattle.term_nodes.specs.declared.node.Node.{Node}
use Rattle.term_store.specs.Store.{tree_at, Holds, AreWithin, Grows}
use Rattle.term_store.proofs.Stores.{Grows-tree_at, Holds-within, tree_at-Holds}
use Rattle.store_alternatives.specs.Defaults.{Ends, AllEnd, IsDefaultAt, AreDefaultsAt}
use Rattle.store_alternatives.proofs.Numbers.{ok_weaker, all_push, within-grows}

all_true : {X : Type 0} (p : X → Bool) (xs : List X) → list_all p xs ≡ true → AllByRecursion (λ x. p x ≡ true) xs
all_true p [] h = tt
all_true p (x ∷ xs) h = let q = and_parts _ _ h in (q.0, all_true p xs q.1)

-- ---- sorts

pub fields_at : (records : List (List Sort)) (n : ℕ) (o : Option (List Sort)) → slice_get records n ≡ o → map sort_type (unwrap_or o []) ≡ fields (record_types records) n
fields_at records n o is =
    sym (get_or-map (map sort_type) records n [] ∙ ap (map sort_type) (sym (unwrap_or-slice_get records n []) ∙ ap (λ p. unwrap_or p []) is))

pub sort_at : (sorts : List Sort) (i : ℕ) (sort : Sort) → sort ≡ get_or sorts i sort → get_or (map sort_type sorts) i (sort_type sort) ≡ sort_type sort
sort_at sorts i sort e = get_or-map sort_type sorts i sort ∙ ap sort_type (sym e)

module _ (records : Records) where
  -- the records that a known type names end
  pub known_type_ends : AreWellFormed records → (t : ValueType) → is_known records t ≡ true → Ends records (length records) t
  known_type_ends fine unit_type h = refl
  known_type_ends fine number_type h = refl
  known_type_ends fine truth_type h = refl
  known_type_ends fine (sequence_type t) h = known_type_ends fine t h
  known_type_ends fine (record_type n) h = fine.finite n (ltb-true n (length records) h)

  pub some_depth : (depth n : ℕ) → Ends records depth (record_type n) → 1 ≤ depth
  some_depth zero n h = absurd (false≢true h)
  some_depth (suc depth) n h = omega arith

  pub fields_end : (depth n : ℕ) → Ends records depth (record_type n) → AllEnd records (depth - 1) (fields records n)
  fields_end zero n h = absurd (false≢true h)
  fields_end (suc depth) n h =
      let e : depth ≡ suc depth - 1 = omega arith in
      subst (λ d. AllEnd records d (fields records n)) e (all_true (λ t. option_map_or (ends_within records depth) (named_record t) true) (fields records n) h)

  -- ---- records

  each_there : (f : ℕ → Tree ℕ) (ks : List ℕ) → each_tree (map (λ k. Some (f k)) ks) ≡ Some (trees_of (map f ks))
  each_there f [] = refl
  each_there f (k ∷ ks) = ap (option_map (tree_then (f k))) (each_there f ks)

  pub default_of_record : (depth n : ℕ) (store : List Node) (ks : List ℕ) → Ends records depth (record_type n) → AreDefaultsAt records (depth - 1) store ks (fields records n) →
      Some (listed (record_of n) (trees_of (map (tree_at store) ks))) ≡ default_tree_within records depth (record_type n)
  default_of_record zero n store ks h d = absurd (false≢true h)
  default_of_record (suc depth) n store ks h d =
      let e : suc depth - 1 ≡ depth = omega arith in
      let trees = d.trees ∙ ap (λ m. map (default_tree_within records m) (fields records n)) e in
      ap (option_map (λ ts. listed (record_of n) ts)) (sym (each_there (tree_at store) ks) ∙ ap each_tree trees)

  pub held_default : {E : Type 0} (r : Result ℕ E) (store : List Node) (t : Tree ℕ) (depth : ℕ) (s : ValueType) → Some t ≡ default_tree_within records depth s → IfOk r (λ k. Holds store k t) → IfOk r (λ k. IsDefaultAt records depth store k s)
  held_default r store t depth s e h =
      ok_weaker r (λ k. Holds store k t) (λ k. IsDefaultAt records depth store k s) (λ k g. record { within = Holds-within store k t g; tree = ap Some (tree_at-Holds store k t g) ∙ e }) h

  -- ---- one more

  some_grow : (a b : List Node) (ks : List ℕ) → Grows a b → AreWithin a ks → map (λ k. Some (tree_at b k)) ks ≡ map (λ k. Some (tree_at a k)) ks
  some_grow a b [] g h = refl
  some_grow a b (k ∷ ks) g h = ap₂ (λ x xs. x ∷ xs) (ap Some (Grows-tree_at a b k g h.0)) (some_grow a b ks g h.1)

  pub more_defaults : (depth : ℕ) (mid new : List Node) (ks : List ℕ) (ts : List ValueType) (i k : ℕ) (d : ValueType) → AreDefaultsAt records depth mid ks (take i ts) → Grows mid new → i < length ts → IsDefaultAt records depth new k (get_or ts i d) →
      AreDefaultsAt records depth new (ks ++ k ∷ []) (take (i + 1) ts)
  more_defaults depth mid new ks ts i k d h g l one = record {
    within = all_push (λ j. j < length new) ks k (within-grows mid new ks g h.within) one.within;
    trees = map_push (λ j. Some (tree_at new j)) ks k ∙ ap₂ (λ xs x. xs ++ x ∷ []) (some_grow mid new ks g h.within ∙ h.trees) one.tree ∙ sym (map_push (default_tree_within records depth) (take i ts) (get_or ts i d)) ∙ ap (map (default_tree_within records depth)) (sym (take_more ts i d l));
  }

  -- ---- how many fields there are

  fields_few : (depth n : ℕ) → n < length records → ends_within records depth n ≡ true → parts_within records depth n ≤ 1000 → length (fields records n) ≤ 1000
  fields_few zero n l h p = absurd (false≢true h)
  fields_few (suc depth) n l h p =
      let q : length (fields records n) + sum_by (parts_of_field (parts_within records depth)) (fields records n) ≤ 1000 = p in omega arith

pub few_fields : (records : Records) → AreWellFormed records → (n : ℕ) → length (fields records n) ≤ 1000
few_fields records fine n = by_place (cases_lt n (length records))
  where
    by_place : (n < length records) ⊎ (length records ≤ n) → length (fields records n) ≤ 1000
    by_place (inl l) = fields_few records (length records) n l (fine.finite n l) (fine.small n l)
    by_place (inr g) = subst (λ ts. length ts ≤ 1000) (sym (get_or_past records n [] g)) (omega arith)
