-- What a type weighs does not depend on the depth to which records are looked into, once they end within it.
use Rattle.std.proofs.Common.{◌≡◌, ℕ, zero, suc, ◌+◌, ◌-◌, ◌<◌, ◌≤◌, List, [], ◌∷◌, map, length, get_or, true, ◌&&◌, Option, Some, None, refl, sym, ap, ap₂, ◌∙◌, subst, arith}
use Rattle.std.specs.List.{list_all, sum_by}
use Rattle.std.specs.Option.{option_map, option_map_or}
use Rattle.std.proofs.lemmas.Bool.{false≢true, and_parts}
use Rattle.std.proofs.lemmas.List.Sums.{sum_by-cons}
use Rattle.slang_values.specs.Value.{ValueType, unit_type, number_type, truth_type, sequence_type, record_type, Records, fields, named_record, ends_within}
use Rattle.slang_values.specs.Tree.{Tree, listed, Trees, no_trees, tree_then, record_of}
use Rattle.slang_values.specs.Typing.{NameTypes}
use Rattle.read_rules.specs.Reads.{each_tree, default_tree_within}
use Rattle.case_rules.specs.Cases.{equality_weight, default_weight, weight, total_weight}

none_some : {X : Type 0} (x : X) → None ≡ Some x → ⊥
none_some x e = cc

some_inj : {X : Type 0} (x y : X) → Some x ≡ Some y → x ≡ y
some_inj x y e = cc

module _ (records : Records) where
  -- the records that the type names end within the depth
  abbrev pub Ends : ℕ → ValueType → Type 0
  Ends depth t = option_map_or (ends_within records depth) (named_record t) true ≡ true

  abbrev pub EndsAll : ℕ → List ValueType → Type 0
  EndsAll depth ts = list_all (λ t. option_map_or (ends_within records depth) (named_record t) true) ts ≡ true

  -- ---- one more

  same_sums : (f g : ValueType → ℕ) (depth : ℕ) (ts : List ValueType) → ((t : ValueType) → Ends depth t → f t ≡ g t) → EndsAll depth ts → sum_by f ts ≡ sum_by g ts
  same_sums f g depth [] each h = refl
  same_sums f g depth (t ∷ ts) each h =
      let p = and_parts _ _ h in
      let rest = same_sums f g depth ts each p.1 in
      let first = each t p.0 in
      sum_by-cons f t ts ∙ ap₂ (λ m n. m + n) first rest ∙ sym (sum_by-cons g t ts)

  equality_more : (depth : ℕ) (t : ValueType) → Ends depth t → equality_weight records depth t ≡ equality_weight records (suc depth) t
  equality_more depth unit_type h = refl
  equality_more depth number_type h = refl
  equality_more depth truth_type h = refl
  equality_more depth (sequence_type t) h = refl
  equality_more zero (record_type n) h = absurd (false≢true h)
  equality_more (suc depth) (record_type n) h =
      ap (λ m. 4 + m)
      (same_sums (λ t. 4 + equality_weight records depth t) (λ t. 4 + equality_weight records (suc depth) t) depth (fields records n) (λ t g. ap (λ m. 4 + m) (equality_more depth t g)) h)

  default_more : (depth : ℕ) (t : ValueType) → Ends depth t → default_weight records depth t ≡ default_weight records (suc depth) t
  default_more depth unit_type h = refl
  default_more depth number_type h = refl
  default_more depth truth_type h = refl
  default_more depth (sequence_type t) h = ap (λ m. 8 + m) (default_more depth t h)
  default_more zero (record_type n) h = absurd (false≢true h)
  default_more (suc depth) (record_type n) h =
      ap (λ m. 1 + m)
      (same_sums (λ t. 1 + default_weight records depth t) (λ t. 1 + default_weight records (suc depth) t) depth (fields records n) (λ t g. ap (λ m. 1 + m) (default_more depth t g)) h)

  all_more : (depth : ℕ) (ts : List ValueType) → ((t : ValueType) → Ends depth t → Ends (suc depth) t) → EndsAll depth ts → EndsAll (suc depth) ts
  all_more depth [] each h = refl
  all_more depth (t ∷ ts) each h =
      let p = and_parts _ _ h in ap₂ (λ a b. a && b) (each t p.0) (all_more depth ts each p.1)

  ends_more : (depth : ℕ) (t : ValueType) → Ends depth t → Ends (suc depth) t
  ends_more depth unit_type h = refl
  ends_more depth number_type h = refl
  ends_more depth truth_type h = refl
  ends_more depth (sequence_type t) h = ends_more depth t h
  ends_more zero (record_type n) h = absurd (false≢true h)
  ends_more (suc depth) (record_type n) h = all_more depth (fields records n) (ends_more depth) h

  -- ---- many more

  default_later : (more depth : ℕ) (t : ValueType) → Ends depth t → default_weight records depth t ≡ default_weight records (more + depth) t
  default_later zero depth t h = ap (λ m. default_weight records m t) (omega arith)
  default_later (suc more) depth t h =
      default_more depth t h ∙ default_later more (suc depth) t (ends_more depth t h) ∙ ap (λ m. default_weight records m t) (omega arith)

  default_at : (depth m : ℕ) (t : ValueType) → depth ≤ m → Ends depth t → default_weight records depth t ≡ default_weight records m t
  default_at depth m t l h = default_later (m - depth) depth t h ∙ ap (λ k. default_weight records k t) (omega arith)

  -- ---- fields

  -- what one field adds is no more than what all of them add
  field_in_sum : (f : ValueType → ℕ) (depth : ℕ) (ts : List ValueType) (k : ℕ) → EndsAll depth ts → k < length ts → (Ends depth (get_or ts k unit_type)) × (f (get_or ts k unit_type) ≤ sum_by f ts)
  field_in_sum f depth [] k h l = absurd (omega arith)
  field_in_sum f depth (t ∷ ts) zero h l = let p : (Ends depth t) × (EndsAll depth ts) = and_parts _ _ h in (p.0, omega (arith, sum_by-cons f t ts))
  field_in_sum f depth (t ∷ ts) (suc k) h l =
      let p : (Ends depth t) × (EndsAll depth ts) = and_parts _ _ h in
      let rest = field_in_sum f depth ts k p.1 (omega arith) in
      (rest.0, omega (arith, sum_by-cons f t ts, rest.1))

  -- an equality of fields adds less than that of their records
  pub field_lighter : (depth n k : ℕ) → ends_within records depth n ≡ true → k < length (fields records n) → equality_weight records depth (get_or (fields records n) k unit_type) + 8 ≤ equality_weight records depth (record_type n)
  field_lighter zero n k h l = absurd (false≢true h)
  field_lighter (suc depth) n k h l =
      let found = field_in_sum (λ t. 4 + equality_weight records depth t) depth (fields records n) k h l in
      let same = equality_more depth (get_or (fields records n) k unit_type) found.0 in
      omega (arith, found.1, same)

  -- ---- defaults

  module _ (types : NameTypes ℕ) (whole : ℕ) (is_whole : whole ≡ length records) where
    defaults_light : (depth : ℕ) (ts : List ValueType) (ds : Trees ℕ) → ((t : ValueType) (d : Tree ℕ) → Ends depth t → default_tree_within records depth t ≡ Some d → weight records types d ≤ default_weight records depth t) →
        EndsAll depth ts → each_tree (map (default_tree_within records depth) ts) ≡ Some ds → total_weight records types ds ≤ sum_by (λ t. 1 + default_weight records depth t) ts
    defaults_light depth [] ds each h e = subst (λ us. total_weight records types us ≤ 0) (some_inj no_trees ds e) (omega arith)
    defaults_light depth (t ∷ ts) ds each h e =
        let p : (Ends depth t) × (EndsAll depth ts) = and_parts _ _ h in
        by_first (each t) p.0 (λ us g. defaults_light depth ts us each p.1 g) (default_tree_within records depth t) refl e
      where
        by_rest : ((us : Trees ℕ) → each_tree (map (default_tree_within records depth) ts) ≡ Some us → total_weight records types us ≤ sum_by (λ u. 1 + default_weight records depth u) ts) →
            (d : Tree ℕ) (o : Option (Trees ℕ)) → weight records types d ≤ default_weight records depth t → each_tree (map (default_tree_within records depth) ts) ≡ o → option_map (tree_then d) o ≡ Some ds →
            total_weight records types ds ≤ sum_by (λ u. 1 + default_weight records depth u) (t ∷ ts)
        by_rest rest d None f g k = absurd (none_some ds k)
        by_rest rest d (Some us) f g k =
            let below = rest us g in
            subst (λ vs. total_weight records types vs ≤ sum_by (λ u. 1 + default_weight records depth u) (t ∷ ts)) (some_inj (tree_then d us) ds k)
            (omega (arith, f, below, sum_by-cons (λ u. 1 + default_weight records depth u) t ts))

        by_first : ((d : Tree ℕ) → Ends depth t → default_tree_within records depth t ≡ Some d → weight records types d ≤ default_weight records depth t) → Ends depth t →
            ((us : Trees ℕ) → each_tree (map (default_tree_within records depth) ts) ≡ Some us → total_weight records types us ≤ sum_by (λ u. 1 + default_weight records depth u) ts) →
            (o : Option (Tree ℕ)) → default_tree_within records depth t ≡ o → each_tree (o ∷ map (default_tree_within records depth) ts) ≡ Some ds →
            total_weight records types ds ≤ sum_by (λ u. 1 + default_weight records depth u) (t ∷ ts)
        by_first one ends rest None f k = absurd (none_some ds k)
        by_first one ends rest (Some d) f k = by_rest rest d (each_tree (map (default_tree_within records depth) ts)) (one d ends f) refl k

    -- the tree of a default weighs no more than is said of its type
    pub default_light : (depth : ℕ) (t : ValueType) (d : Tree ℕ) → depth ≤ whole → Ends depth t → default_tree_within records depth t ≡ Some d → weight records types d ≤ default_weight records depth t
    default_light depth unit_type d l h e = absurd (none_some d e)
    default_light depth number_type d l h e = subst (λ u. weight records types u ≤ 1) (some_inj _ d e) (omega arith)
    default_light depth truth_type d l h e = subst (λ u. weight records types u ≤ 1) (some_inj _ d e) (omega arith)
    default_light depth (sequence_type t) d l h e =
        let same = default_at depth whole t l h ∙ ap (λ m. default_weight records m t) is_whole in
        subst (λ u. weight records types u ≤ 8 + default_weight records depth t) (some_inj _ d e) (omega (arith, same))
    default_light zero (record_type n) d l h e = absurd (none_some d e)
    default_light (suc depth) (record_type n) d l h e =
        by_fields (λ us f. defaults_light depth (fields records n) us (λ t u g i. default_light depth t u (omega arith) g i) h f) (each_tree (map (default_tree_within records depth) (fields records n))) refl e
      where
        by_fields : ((us : Trees ℕ) → each_tree (map (default_tree_within records depth) (fields records n)) ≡ Some us → total_weight records types us ≤ sum_by (λ t. 1 + default_weight records depth t) (fields records n)) →
            (o : Option (Trees ℕ)) → each_tree (map (default_tree_within records depth) (fields records n)) ≡ o → option_map (λ ts. listed (record_of n) ts) o ≡ Some d →
            weight records types d ≤ default_weight records (suc depth) (record_type n)
        by_fields all None f k = absurd (none_some d k)
        by_fields all (Some us) f k =
            let below = all us f in
            subst (λ u. weight records types u ≤ default_weight records (suc depth) (record_type n)) (some_inj (listed (record_of n) us) d k) (omega (arith, below))
