-- What a claim is taken apart into is claims that weigh less.
use Rattle.std.proofs.Common.{◌≡◌, ◌⊎◌, inl, inr, ℕ, zero, suc, ◌+◌, ◌<◌, ◌≤◌, pos, List, [], ◌∷◌, ◌++◌, map, length, get_or, true, Option, Some, None, refl, sym, ap, ◌∙◌, subst, arith}
use Rattle.std.specs.List.{AllByRecursion}
use Rattle.std.proofs.lemmas.Bool.{cases_lt, ltb-true}
use Rattle.std.proofs.lemmas.List.{get_or_past}
use Rattle.slang_values.specs.Value.{ValueType, unit_type, number_type, truth_type, sequence_type, record_type, Records, fields, ends_within, is_known, AreWellFormed, unit}
use Rattle.slang_values.specs.Tree.{Tree, literal, truth_literal, name, bound, unary, binary, update, quantified, listed, Trees, no_trees, tree_then, sequence_of, record_of}
use Rattle.slang_values.specs.Typing.{NameTypes, type_of, IsFieldType, IsTyped, EachIsTyped}
use Rattle.slang_values.specs.declared.operators.Unary.{Unary}
use Rattle.slang_values.specs.declared.operators.Binary.{Binary}
use Rattle.validity.specs.Validity.{no_bounds}
use Rattle.validity.proofs.TypeOf.{type_of_typed}
use Rattle.read_rules.specs.Reduced.{trees_length, reduced}
use Rattle.read_rules.specs.Reads.{ReadCase, ReadSite, are_equal, negation, read_tree, is_updated_place, update_cases, append_cases, element_cases, outside_cases, list_cases, binary_read_cases, default_tree, read_cases, first_site}
use Rattle.read_rules.proofs.Defaults.{is_default}
use Rattle.read_rules.proofs.ReducedValues.{sequence_inj, size_unary, typed_reduced}
use Rattle.read_rules.proofs.Sites.{first_site_is}
use Rattle.read_rules.proofs.Some.{all_append}
use Rattle.read_rules.proofs.Typing.{typed_from}
use Rattle.case_rules.specs.Cases.{Alternatives, field, field_equalities, one_is_false, equality_alternatives, inequality_alternatives, binary_alternatives, negated_binary_alternatives, negated_alternatives, top_alternatives, site_alternatives, unless_top, alternatives, equality_weight, default_weight, weight, total_weight}
use Rattle.case_steps.specs.Laws.{IsLightClaim, StepsAreLighter}
use Rattle.case_steps.proofs.Depths.{Ends, field_lighter, default_light}
use Rattle.case_steps.proofs.Sites.{light_site}
use Rattle.case_steps.proofs.Weights.{no_equality_weight, weighs, reduced_lighter}

some_inj : {X : Type 0} (x y : X) → Some x ≡ Some y → x ≡ y
some_inj x y e = cc

none_some : {X : Type 0} (x : X) → None ≡ Some x → ⊥
none_some x e = cc

pub all_weaker : {X : Type 0} (P Q : X → Type 0) → ((x : X) → P x → Q x) → (xs : List X) → AllByRecursion P xs → AllByRecursion Q xs
all_weaker P Q f [] h = tt
all_weaker P Q f (x ∷ xs) h = (f x h.0, all_weaker P Q f xs h.1)

all_map : {X Y : Type 0} (P : Y → Type 0) (f : X → Y) (xs : List X) → AllByRecursion (λ x. P (f x)) xs → AllByRecursion P (map f xs)
all_map P f [] h = tt
all_map P f (x ∷ xs) h = (h.0, all_map P f xs h.1)

-- known records end within as many as there are
known_ends : (records : Records) → AreWellFormed records → (t : ValueType) → is_known records t ≡ true → Ends records (length records) t
known_ends records fine unit_type h = refl
known_ends records fine number_type h = refl
known_ends records fine truth_type h = refl
known_ends records fine (sequence_type t) h = known_ends records fine t h
known_ends records fine (record_type n) h = fine.finite n (ltb-true n (length records) h)

module _ (records : Records) (fine : AreWellFormed records) (types : NameTypes ℕ) where
  abbrev w : Tree ℕ → ℕ
  w t = weight records types t

  abbrev Light : ℕ → Tree ℕ → Type 0
  Light m t = IsLightClaim records types m t

  abbrev AllLight : ℕ → List (Tree ℕ) → Type 0
  AllLight m ts = AllByRecursion (IsLightClaim records types m) ts

  light : (m : ℕ) (t : Tree ℕ) → IsTyped records types t truth_type → w t < m → Light m t
  light m t h l = record { typed = h; less = l }

  later : (m n : ℕ) (ts : List (Tree ℕ)) → m ≤ n → AllLight m ts → AllLight n ts
  later m n [] l h = tt
  later m n (t ∷ ts) l h = (light n t h.0.typed (let g = h.0.less in omega arith), later m n ts l h.1)

  equal_typed : (a b : Tree ℕ) (s : ValueType) → IsTyped records types a s → IsTyped records types b s → IsTyped records types (are_equal a b) truth_type
  equal_typed a b s h k =
      let e = sym (type_of_typed records types a s h) in (refl, subst (IsTyped records types a) e h, subst (IsTyped records types b) e k)

  -- an equality of numbers adds nothing for its type
  of_numbers : (a : Tree ℕ) → IsTyped records types a number_type → equality_weight records (length records) (type_of records types a) ≡ 0
  of_numbers a h = ap (equality_weight records (length records)) (type_of_typed records types a number_type h) ∙ no_equality_weight records (length records)

  -- ---- reads

  -- a case of a read of type s that weighs m: its conditions are lighter, and so is what it has for the read
  record IsLightCase (m : ℕ) (s : ValueType) (c : ReadCase) : Type 0 where
    conditions : AllLight m c.conditions
    typed : IsTyped records types c.instead s
    less : w c.instead < m

  update_light : (a i v j : Tree ℕ) (s : ValueType) → IsTyped records types (read_tree (update a i v) j) s → AllByRecursion (IsLightCase (w (read_tree (update a i v) j)) s) (update_cases a i v j)
  update_light a i v j s h = (
    record { conditions = (light m (is_updated_place a i j) condition (omega (arith, none, weighs records types j)), tt); typed = element; less = omega arith },
    (record { conditions = (light m (negation (is_updated_place a i j)) (refl, condition) (omega (arith, none, weighs records types j)), tt); typed = (on_a, h.1); less = omega (arith, weighs records types i) }, tt),
  )
    where
      m : ℕ
      m = w (read_tree (update a i v) j)

      on_a : IsTyped records types a (sequence_type s)
      on_a = h.0.1

      element : IsTyped records types v s
      element = subst (IsTyped records types v) (sym (sequence_inj h.0.0)) h.0.3

      condition : IsTyped records types (is_updated_place a i j) truth_type
      condition = (refl, equal_typed i j number_type h.0.2 h.1, (refl, (refl, refl, h.0.2), (refl, h.0.2, size_unary records types a s on_a)))

      none : equality_weight records (length records) (type_of records types i) ≡ 0
      none = of_numbers i h.0.2

  append_light : (a v j : Tree ℕ) (s : ValueType) → IsTyped records types (read_tree (binary Binary.Append a v) j) s → AllByRecursion (IsLightCase (w (read_tree (binary Binary.Append a v) j)) s) (append_cases a v j)
  append_light a v j s h = (
    record { conditions = (light m last condition (omega (arith, none)), tt); typed = element; less = omega arith },
    (record { conditions = (light m (negation last) (refl, condition) (omega (arith, none)), tt); typed = (on_a, h.1); less = omega arith }, tt),
  )
    where
      m : ℕ
      m = w (read_tree (binary Binary.Append a v) j)

      last : Tree ℕ
      last = are_equal j (unary Unary.Size a)

      on_a : IsTyped records types a (sequence_type s)
      on_a = h.0.1

      element : IsTyped records types v s
      element = subst (IsTyped records types v) (sym (sequence_inj h.0.0)) h.0.2

      condition : IsTyped records types last truth_type
      condition = equal_typed j (unary Unary.Size a) number_type h.1 (size_unary records types a s on_a)

      none : equality_weight records (length records) (type_of records types j) ≡ 0
      none = of_numbers j h.1

  elements_light : (j : Tree ℕ) (s : ValueType) → IsTyped records types j number_type → (ts : Trees ℕ) (k m : ℕ) → EachIsTyped records types ts s → total_weight records types ts + w j + 8 ≤ m → AllByRecursion (IsLightCase m s) (element_cases k ts j)
  elements_light j s hj no_trees k m h l = tt
  elements_light j s hj (tree_then t ts) k m h l =
      let none = of_numbers j hj in (
        record {
          conditions = (light m (are_equal j (literal (pos k))) (equal_typed j (literal (pos k)) number_type hj refl) (omega (arith, none)), tt);
          typed = h.0;
          less = omega arith;
        },
        elements_light j s hj ts (suc k) m h.1 (omega arith),
      )

  list_light : (t : ValueType) (ts : Trees ℕ) (j : Tree ℕ) (s : ValueType) (o : Option (Tree ℕ)) (cs : List ReadCase) → IsTyped records types (read_tree (listed (sequence_of t) ts) j) s → default_tree records t ≡ o → list_cases ts o j ≡ Some cs →
      AllByRecursion (IsLightCase (w (read_tree (listed (sequence_of t) ts) j)) s) cs
  list_light t ts j s None cs h f g = absurd (none_some cs g)
  list_light t ts j s (Some d) cs h f g = subst (AllByRecursion (IsLightCase m s)) (some_inj _ cs g) (all_append (IsLightCase m s) (element_cases 0 ts j) (outside_cases (trees_length ts) d j) inner outer)
    where
      m : ℕ
      m = w (read_tree (listed (sequence_of t) ts) j)

      same : t ≡ s
      same = sym (sequence_inj h.0.0)

      inner : AllByRecursion (IsLightCase m s) (element_cases 0 ts j)
      inner = elements_light j s h.1 ts 0 m (subst (EachIsTyped records types ts) same h.0.2) (omega arith)

      typed : IsTyped records types d s
      typed = subst (IsTyped records types d) same ((is_default records fine types (λ n. unit) no_bounds (length records) t d f).typed h.0.1)

      below : w d ≤ default_weight records (length records) t
      below = default_light records types (length records) refl (length records) t d (omega arith) (known_ends records fine t h.0.1) f

      outer : AllByRecursion (IsLightCase m s) (outside_cases (trees_length ts) d j)
      outer = (
        record { conditions = (light m (binary Binary.Lt j (literal (pos 0))) (refl, h.1, refl) (omega arith), tt); typed = typed; less = omega (arith, below) },
        (record { conditions = (light m (binary Binary.Le (literal (pos (trees_length ts))) j) (refl, refl, h.1) (omega arith), tt); typed = typed; less = omega (arith, below) }, tt),
      )

  binary_light : (op : Binary) (a v j : Tree ℕ) (s : ValueType) (cs : List ReadCase) → binary_read_cases op a v j ≡ Some cs → IsTyped records types (read_tree (binary op a v) j) s → AllByRecursion (IsLightCase (w (read_tree (binary op a v) j)) s) cs
  binary_light Binary.Append a v j s cs e h = subst (AllByRecursion (IsLightCase (w (read_tree (binary Binary.Append a v) j)) s)) (some_inj _ cs e) (append_light a v j s h)
  binary_light Binary.Add a v j s cs e h = absurd (none_some cs e)
  binary_light Binary.Sub a v j s cs e h = absurd (none_some cs e)
  binary_light Binary.Mul a v j s cs e h = absurd (none_some cs e)
  binary_light Binary.Div a v j s cs e h = absurd (none_some cs e)
  binary_light Binary.Rem a v j s cs e h = absurd (none_some cs e)
  binary_light Binary.And a v j s cs e h = absurd (none_some cs e)
  binary_light Binary.Or a v j s cs e h = absurd (none_some cs e)
  binary_light Binary.Imply a v j s cs e h = absurd (none_some cs e)
  binary_light Binary.Eq a v j s cs e h = absurd (none_some cs e)
  binary_light Binary.Lt a v j s cs e h = absurd (none_some cs e)
  binary_light Binary.Le a v j s cs e h = absurd (none_some cs e)
  binary_light Binary.Read a v j s cs e h = absurd (none_some cs e)

  read_light : (a j : Tree ℕ) (s : ValueType) (cs : List ReadCase) → read_cases records a j ≡ Some cs → IsTyped records types (read_tree a j) s → AllByRecursion (IsLightCase (w (read_tree a j)) s) cs
  read_light (update a i v) j s cs e h = subst (AllByRecursion (IsLightCase (w (read_tree (update a i v) j)) s)) (some_inj _ cs e) (update_light a i v j s h)
  read_light (binary op a v) j s cs e h = binary_light op a v j s cs e h
  read_light (listed (sequence_of t) ts) j s cs e h = list_light t ts j s (default_tree records t) cs h refl e
  read_light (listed (record_of n) ts) j s cs e h = absurd (none_some cs e)
  read_light (literal z) j s cs e h = absurd (none_some cs e)
  read_light (truth_literal b) j s cs e h = absurd (none_some cs e)
  read_light (name n) j s cs e h = absurd (none_some cs e)
  read_light (bound n) j s cs e h = absurd (none_some cs e)
  read_light (unary op a) j s cs e h = absurd (none_some cs e)
  read_light (quantified q low high body) j s cs e h = absurd (none_some cs e)

  site_light : (t : Tree ℕ) (s : ReadSite) → first_site records t ≡ Some s → IsTyped records types t truth_type → AllByRecursion (AllLight (w t)) (site_alternatives s)
  site_light t s f h =
      let site = first_site_is records types (λ n. unit) t s f in
      let lighter = light_site records types t s (truth_type, h) f in
      let whole : IsTyped records types (s.instead s.read) truth_type = subst (λ u. IsTyped records types u truth_type) (sym site.same) h in
      let inner = site.context.inner s.read truth_type whole in
      let cases = read_light site.sequence site.place inner.0 s.cases site.are_cases (subst (λ u. IsTyped records types u inner.0) site.is_read inner.1) in
      let same : w (read_tree site.sequence site.place) ≡ w s.read = ap w (sym site.is_read) in
      all_map (AllLight (w t)) (λ (c : ReadCase). c.conditions ++ s.instead c.instead ∷ []) s.cases
      (all_weaker (IsLightCase (w (read_tree site.sequence site.place)) inner.0) (λ (c : ReadCase). AllLight (w t) (c.conditions ++ s.instead c.instead ∷ [])) (λ c k. (
      let as_read = typed_from records types s.read c.instead inner.0 inner.1 k.typed in
      let less = lighter.less c.instead as_read (let below = k.less in omega (arith, same)) in
      all_append (Light (w t)) c.conditions (s.instead c.instead ∷ []) (later (w (read_tree site.sequence site.place)) (w t) c.conditions (omega (arith, same, lighter.part)) k.conditions)
      (light (w t) (s.instead c.instead) (site.context.typed s.read c.instead as_read truth_type whole) less, tt))) s.cases cases)

  -- ---- records

  field_typed : (n k : ℕ) (a : Tree ℕ) → IsTyped records types a (record_type n) → k < length (fields records n) → IsTyped records types (field k a) (get_or (fields records n) k unit_type)
  field_typed n k a h l =
      let e = sym (type_of_typed records types a (record_type n) h) in
      (subst (λ r. IsFieldType records k r (get_or (fields records n) k unit_type)) e (l, refl), subst (IsTyped records types a) e h)

  -- a record that has fields is one of the records
  has_fields : (n k : ℕ) → k < length (fields records n) → ends_within records (length records) n ≡ true
  has_fields n k l = by_place (cases_lt n (length records))
    where
      by_place : (n < length records) ⊎ (length records ≤ n) → ends_within records (length records) n ≡ true
      by_place (inl h) = fine.finite n h
      by_place (inr h) = absurd (omega (arith, l, ap length (get_or_past records n [] h)))

  -- the equality of one field, and that it does not hold
  field_light : (n k m : ℕ) (a b : Tree ℕ) → IsTyped records types a (record_type n) → IsTyped records types b (record_type n) → k < length (fields records n) → 4 + equality_weight records (length records) (record_type n) + w a + w b ≤ m →
      Light m (are_equal (field k a) (field k b)) × Light m (negation (are_equal (field k a) (field k b)))
  field_light n k m a b h g l le =
      let s = get_or (fields records n) k unit_type in
      let on_a = field_typed n k a h l in
      let typed = equal_typed (field k a) (field k b) s on_a (field_typed n k b g l) in
      let of_type : equality_weight records (length records) (type_of records types (field k a)) ≡ equality_weight records (length records) s = ap (equality_weight records (length records)) (type_of_typed records types (field k a) s on_a) in
      let less = field_lighter records (length records) n k (has_fields n k l) l in
      (light m (are_equal (field k a) (field k b)) typed (omega (arith, of_type, less)), light m (negation (are_equal (field k a) (field k b))) (refl, typed) (omega (arith, of_type, less)))

  fields_light : (n m : ℕ) (a b : Tree ℕ) → IsTyped records types a (record_type n) → IsTyped records types b (record_type n) → 4 + equality_weight records (length records) (record_type n) + w a + w b ≤ m →
      (count k : ℕ) → count + k ≤ length (fields records n) → AllLight m (field_equalities count k a b)
  fields_light n m a b h g le zero k l = tt
  fields_light n m a b h g le (suc count) k l = ((field_light n k m a b h g (omega arith) le).0, fields_light n m a b h g le count (suc k) (omega arith))

  unequal_light : (n m : ℕ) (a b : Tree ℕ) → IsTyped records types a (record_type n) → IsTyped records types b (record_type n) → 4 + equality_weight records (length records) (record_type n) + w a + w b ≤ m →
      (count k : ℕ) → count + k ≤ length (fields records n) → AllByRecursion (AllLight m) (one_is_false (field_equalities count k a b))
  unequal_light n m a b h g le zero k l = tt
  unequal_light n m a b h g le (suc count) k l = (((field_light n k m a b h g (omega arith) le).1, tt), unequal_light n m a b h g le count (suc k) (omega arith))

  -- ---- what stands at the top

  equality_light : (s : ValueType) (a b : Tree ℕ) (m : ℕ) (as' : Alternatives) → IsTyped records types a s → IsTyped records types b s → 4 + equality_weight records (length records) s + w a + w b ≤ m → equality_alternatives records s a b ≡ Some as' → AllByRecursion (AllLight m) as'
  equality_light unit_type a b m as' h k l f = absurd (none_some as' f)
  equality_light number_type a b m as' h k l f = absurd (none_some as' f)
  equality_light truth_type a b m as' h k l f =
      subst (AllByRecursion (AllLight m)) (some_inj _ as' f)
      ((light m a h (omega arith), (light m b k (omega arith), tt)), ((light m (negation a) (refl, h) (omega arith), (light m (negation b) (refl, k) (omega arith), tt)), tt))
  equality_light (sequence_type t) a b m as' h k l f = absurd (none_some as' f)
  equality_light (record_type n) a b m as' h k l f =
      subst (AllByRecursion (AllLight m)) (some_inj _ as' f) (fields_light n m a b h k l (length (fields records n)) 0 (omega arith), tt)

  inequality_light : (s : ValueType) (a b : Tree ℕ) (m : ℕ) (as' : Alternatives) → IsTyped records types a s → IsTyped records types b s → 5 + equality_weight records (length records) s + w a + w b ≤ m → inequality_alternatives records s a b ≡ Some as' → AllByRecursion (AllLight m) as'
  inequality_light unit_type a b m as' h k l f = absurd (none_some as' f)
  inequality_light number_type a b m as' h k l f =
      subst (AllByRecursion (AllLight m)) (some_inj _ as' f)
      ((light m (binary Binary.Lt a b) (refl, h, k) (omega arith), tt), ((light m (binary Binary.Lt b a) (refl, k, h) (omega arith), tt), tt))
  inequality_light truth_type a b m as' h k l f =
      subst (AllByRecursion (AllLight m)) (some_inj _ as' f)
      ((light m a h (omega arith), (light m (negation b) (refl, k) (omega arith), tt)), ((light m (negation a) (refl, h) (omega arith), (light m b k (omega arith), tt)), tt))
  inequality_light (sequence_type t) a b m as' h k l f = absurd (none_some as' f)
  inequality_light (record_type n) a b m as' h k l f =
      subst (AllByRecursion (AllLight m)) (some_inj _ as' f) (unequal_light n m a b h k (omega arith) (length (fields records n)) 0 (omega arith))

  binary_apart : (op : Binary) (a b : Tree ℕ) (as' : Alternatives) → binary_alternatives records types op a b ≡ Some as' → IsTyped records types (binary op a b) truth_type → AllByRecursion (AllLight (w (binary op a b))) as'
  binary_apart Binary.And a b as' f h =
      subst (AllByRecursion (AllLight (w (binary Binary.And a b)))) (some_inj _ as' f) ((light _ a h.1 (omega arith), (light _ b h.2 (omega arith), tt)), tt)
  binary_apart Binary.Or a b as' f h =
      subst (AllByRecursion (AllLight (w (binary Binary.Or a b)))) (some_inj _ as' f) ((light _ a h.1 (omega arith), tt), ((light _ b h.2 (omega arith), tt), tt))
  binary_apart Binary.Imply a b as' f h =
      subst (AllByRecursion (AllLight (w (binary Binary.Imply a b)))) (some_inj _ as' f) ((light _ (negation a) (refl, h.1) (omega arith), tt), ((light _ b h.2 (omega arith), tt), tt))
  binary_apart Binary.Eq a b as' f h = equality_light (type_of records types a) a b (w (binary Binary.Eq a b)) as' h.1 h.2 (omega arith) f
  binary_apart Binary.Add a b as' f h = absurd (none_some as' f)
  binary_apart Binary.Sub a b as' f h = absurd (none_some as' f)
  binary_apart Binary.Mul a b as' f h = absurd (none_some as' f)
  binary_apart Binary.Div a b as' f h = absurd (none_some as' f)
  binary_apart Binary.Rem a b as' f h = absurd (none_some as' f)
  binary_apart Binary.Lt a b as' f h = absurd (none_some as' f)
  binary_apart Binary.Le a b as' f h = absurd (none_some as' f)
  binary_apart Binary.Read a b as' f h = absurd (none_some as' f)
  binary_apart Binary.Append a b as' f h = absurd (none_some as' f)

  denied_apart : (op : Binary) (a b : Tree ℕ) (as' : Alternatives) → negated_binary_alternatives records types op a b ≡ Some as' → IsTyped records types (binary op a b) truth_type → AllByRecursion (AllLight (1 + w (binary op a b))) as'
  denied_apart Binary.And a b as' f h =
      subst (AllByRecursion (AllLight (1 + w (binary Binary.And a b)))) (some_inj _ as' f) ((light _ (negation a) (refl, h.1) (omega arith), tt), ((light _ (negation b) (refl, h.2) (omega arith), tt), tt))
  denied_apart Binary.Or a b as' f h =
      subst (AllByRecursion (AllLight (1 + w (binary Binary.Or a b)))) (some_inj _ as' f) ((light _ (negation a) (refl, h.1) (omega arith), (light _ (negation b) (refl, h.2) (omega arith), tt)), tt)
  denied_apart Binary.Imply a b as' f h =
      subst (AllByRecursion (AllLight (1 + w (binary Binary.Imply a b)))) (some_inj _ as' f) ((light _ a h.1 (omega arith), (light _ (negation b) (refl, h.2) (omega arith), tt)), tt)
  denied_apart Binary.Eq a b as' f h = inequality_light (type_of records types a) a b (1 + w (binary Binary.Eq a b)) as' h.1 h.2 (omega arith) f
  denied_apart Binary.Add a b as' f h = absurd (none_some as' f)
  denied_apart Binary.Sub a b as' f h = absurd (none_some as' f)
  denied_apart Binary.Mul a b as' f h = absurd (none_some as' f)
  denied_apart Binary.Div a b as' f h = absurd (none_some as' f)
  denied_apart Binary.Rem a b as' f h = absurd (none_some as' f)
  denied_apart Binary.Lt a b as' f h = absurd (none_some as' f)
  denied_apart Binary.Le a b as' f h = absurd (none_some as' f)
  denied_apart Binary.Read a b as' f h = absurd (none_some as' f)
  denied_apart Binary.Append a b as' f h = absurd (none_some as' f)

  negated_apart : (t : Tree ℕ) (as' : Alternatives) → negated_alternatives records types t ≡ Some as' → IsTyped records types t truth_type → AllByRecursion (AllLight (1 + w t)) as'
  negated_apart (unary Unary.Not a) as' f h = subst (AllByRecursion (AllLight (1 + w (unary Unary.Not a)))) (some_inj _ as' f) ((light _ a h.1 (omega arith), tt), tt)
  negated_apart (unary Unary.Neg a) as' f h = absurd (none_some as' f)
  negated_apart (unary Unary.Size a) as' f h = absurd (none_some as' f)
  negated_apart (unary (Unary.Field k) a) as' f h = absurd (none_some as' f)
  negated_apart (binary op a b) as' f h = denied_apart op a b as' f h
  negated_apart (literal z) as' f h = absurd (none_some as' f)
  negated_apart (truth_literal b) as' f h = absurd (none_some as' f)
  negated_apart (name n) as' f h = absurd (none_some as' f)
  negated_apart (bound n) as' f h = absurd (none_some as' f)
  negated_apart (update a i x) as' f h = absurd (none_some as' f)
  negated_apart (quantified q low high body) as' f h = absurd (none_some as' f)
  negated_apart (listed l ts) as' f h = absurd (none_some as' f)

  top_apart : (t : Tree ℕ) (as' : Alternatives) → top_alternatives records types t ≡ Some as' → IsTyped records types t truth_type → AllByRecursion (AllLight (w t)) as'
  top_apart (unary Unary.Not a) as' f h = negated_apart a as' f h.1
  top_apart (unary Unary.Neg a) as' f h = absurd (none_some as' f)
  top_apart (unary Unary.Size a) as' f h = absurd (none_some as' f)
  top_apart (unary (Unary.Field k) a) as' f h = absurd (none_some as' f)
  top_apart (binary op a b) as' f h = binary_apart op a b as' f h
  top_apart (literal z) as' f h = absurd (none_some as' f)
  top_apart (truth_literal b) as' f h = absurd (none_some as' f)
  top_apart (name n) as' f h = absurd (none_some as' f)
  top_apart (bound n) as' f h = absurd (none_some as' f)
  top_apart (update a i x) as' f h = absurd (none_some as' f)
  top_apart (quantified q low high body) as' f h = absurd (none_some as' f)
  top_apart (listed l ts) as' f h = absurd (none_some as' f)

  by_top : (t : Tree ℕ) (o : Option Alternatives) (p : Option ReadSite) (as' : Alternatives) → top_alternatives records types t ≡ o → first_site records t ≡ p → unless_top o p ≡ Some as' → IsTyped records types t truth_type → AllByRecursion (AllLight (w t)) as'
  by_top t (Some bs) p as' e f g h = top_apart t as' (e ∙ g) h
  by_top t None None as' e f g h = absurd (none_some as' g)
  by_top t None (Some s) as' e f g h = subst (AllByRecursion (AllLight (w t))) (some_inj _ as' g) (site_light t s f h)

  pub alternatives_light : (t : Tree ℕ) (as' : Alternatives) → IsTyped records types t truth_type → alternatives records types t ≡ Some as' → AllByRecursion (AllByRecursion (IsLightClaim records types (weight records types t))) as'
  alternatives_light t as' h g = by_top t (top_alternatives records types t) (first_site records t) as' refl refl g h

pub steps_are_lighter : StepsAreLighter
steps_are_lighter records fine types t as' h e =
    let r = typed_reduced records types t truth_type h in
    all_weaker (AllByRecursion (IsLightClaim records types (weight records types (reduced t)))) (AllByRecursion (IsLightClaim records types (weight records types t)))
    (λ ts k. later records fine types (weight records types (reduced t)) (weight records types t) ts (reduced_lighter records types t (truth_type, h)) k) as' (alternatives_light records fine types (reduced t) as' r e)
