-- The tree of a default has the default as its value, and its type.
use Rattle.std.proofs.Common.{◌≡◌, ℕ, zero, suc, ◌<◌, List, [], ◌∷◌, map, length, true, Option, Some, None, nat_lt, refl, ap, ap₂, subst}
use Rattle.std.specs.List.{list_all}
use Rattle.std.specs.Option.{option_map}
use Rattle.std.proofs.lemmas.Bool.{and_parts, ltb-true}
use Rattle.slang_values.specs.Value.{ValueType, unit_type, number_type, truth_type, sequence_type, record_type, Records, fields, is_known, AreWellFormed, Value, record_value, value_then, values_of, default_within}
use Rattle.slang_values.specs.Tree.{Tree, listed, Trees, no_trees, tree_then, record_of, Bounds, value, values}
use Rattle.slang_values.specs.Typing.{NameTypes, IsTyped, AreTyped}
use Rattle.read_rules.specs.Reads.{each_tree, default_tree_within}

none_some : {X : Type 0} (x : X) → None ≡ Some x → ⊥
none_some x e = cc

some_inj : {X : Type 0} (x y : X) → Some x ≡ Some y → x ≡ y
some_inj x y e = cc

module _ (records : Records) (fine : AreWellFormed records) (types : NameTypes ℕ) (names : ℕ → Value) (e : Bounds) where
  -- the tree is a default of the type
  pub record IsDefault (depth : ℕ) (t : ValueType) (d : Tree ℕ) : Type 0 where
    pub value : value records names e d ≡ default_within records depth t
    pub typed : is_known records t ≡ true → IsTyped records types d t

  record AreDefaults (depth : ℕ) (ss : List ValueType) (ds : Trees ℕ) : Type 0 where
    values : values records names e ds ≡ values_of (map (default_within records depth) ss)
    typed : list_all (is_known records) ss ≡ true → AreTyped records types ds ss

  then_default : (depth : ℕ) (s : ValueType) (ss : List ValueType) (o : Option (Tree ℕ)) (p : Option (Trees ℕ)) (ds : Trees ℕ) → ((d : Tree ℕ) → o ≡ Some d → IsDefault depth s d) → ((us : Trees ℕ) → p ≡ Some us → AreDefaults depth ss us) →
      (d : Tree ℕ) → o ≡ Some d → option_map (tree_then d) p ≡ Some ds → AreDefaults depth (s ∷ ss) ds
  then_default depth s ss o None ds one rest d f g = absurd (none_some ds g)
  then_default depth s ss o (Some us) ds one rest d f g =
      let h = one d f in
      let r = rest us refl in
      subst (AreDefaults depth (s ∷ ss)) (some_inj (tree_then d us) ds g) (record {
        values = ap₂ value_then h.value r.values;
        typed = λ k. (let p = and_parts _ _ k in (h.typed p.0, r.typed p.1));
      })

  all_defaults : (depth : ℕ) (f : ValueType → Option (Tree ℕ)) → ((t : ValueType) (d : Tree ℕ) → f t ≡ Some d → IsDefault depth t d) → (ss : List ValueType) (ds : Trees ℕ) → each_tree (map f ss) ≡ Some ds → AreDefaults depth ss ds
  all_defaults depth f one [] ds g = subst (AreDefaults depth []) (some_inj no_trees ds g) (record { values = refl; typed = λ k. tt })
  all_defaults depth f one (s ∷ ss) ds g = at_first (f s) refl g (all_defaults depth f one ss)
    where
      at_first : (o : Option (Tree ℕ)) → f s ≡ o → each_tree (o ∷ map f ss) ≡ Some ds → ((us : Trees ℕ) → each_tree (map f ss) ≡ Some us → AreDefaults depth ss us) → AreDefaults depth (s ∷ ss) ds
      at_first None h k rest = absurd (none_some ds k)
      at_first (Some d) h k rest = then_default depth s ss (f s) (each_tree (map f ss)) ds (one s) rest d h k

  record_default : (depth n : ℕ) (p : Option (Trees ℕ)) (d : Tree ℕ) → ((us : Trees ℕ) → p ≡ Some us → AreDefaults depth (fields records n) us) → option_map (λ ts. listed (record_of n) ts) p ≡ Some d →
      IsDefault (suc depth) (record_type n) d
  record_default depth n None d below g = absurd (none_some d g)
  record_default depth n (Some us) d below g =
      let r = below us refl in
      subst (IsDefault (suc depth) (record_type n)) (some_inj (listed (record_of n) us) d g) (record {
        value = ap (record_value n) r.values;
        typed = λ k. (let l = in_range k in (refl, l, r.typed (fine.known n l)));
      })
    where
      in_range : nat_lt n (length records) ≡ true → n < length records
      in_range k = ltb-true n (length records) k

  pub is_default : (depth : ℕ) (t : ValueType) (d : Tree ℕ) → default_tree_within records depth t ≡ Some d → IsDefault depth t d
  is_default depth unit_type d g = absurd (none_some d g)
  is_default depth number_type d g = subst (IsDefault depth number_type) (some_inj _ d g) (record { value = refl; typed = λ k. refl })
  is_default depth truth_type d g = subst (IsDefault depth truth_type) (some_inj _ d g) (record { value = refl; typed = λ k. refl })
  is_default depth (sequence_type t) d g = subst (IsDefault depth (sequence_type t)) (some_inj _ d g) (record { value = refl; typed = λ k. (refl, k, tt) })
  is_default zero (record_type n) d g = absurd (none_some d g)
  is_default (suc depth) (record_type n) d g =
      record_default depth n (each_tree (map (default_tree_within records depth) (fields records n))) d
      (all_defaults depth (default_tree_within records depth) (is_default depth) (fields records n)) g
