-- The records of a leg in their order: the fields of each name records that stand before it.
use Rattle.std.proofs.Common.{◌≡◌, ℕ, zero, suc, ◌<◌, ◌⊎◌, inl, inr, ⊎_elim, Bool, true, false, cond, List, [], ◌∷◌, ◌++◌, length, Option, Some, None, refl, sym, ap, subst}
use Rattle.std.specs.Prelude.{nat_lt, nat_eq, slice_get}
use Rattle.std.specs.Option.{option_map_or}
use Rattle.std.specs.List.{AllByRecursion, flat_map, fold, list_all}
use Rattle.std.specs.Set.{is_member}
use Rattle.std.proofs.lemmas.Bool.{false≢true, and_parts, ltb-true}
use Rattle.std.proofs.lemmas.Bool.Decides.{Decides-eqb}
use Rattle.slang_values.specs.Value.{ValueType, unit_type, number_type, truth_type, sequence_type, record_type, Records, fields, named_record, is_known, ends_within, AreWellFormed}
use Rattle.program_trees.specs.Programs.{MethodTree, ProgramTree}
use Rattle.program_trees.specs.Variables.{Variable}
use Rattle.leg_rules.specs.Numbering.{Appearance, of_variable, of_type, with_new, leg_name_type, records_within, appearing_records}
use Rattle.numbering_laws.proofs.Places.{none≢some, some_inj, In, Grows, got_below, grows_push, all_mapped, new_in, all_in_firsts, all_append}
use Rattle.numbering_laws.proofs.Values.{TypeIn}

pub TypeIn-map : (S T : ℕ → Type 0) → ((k : ℕ) → S k → T k) → (t : ValueType) → TypeIn S t → TypeIn T t
TypeIn-map S T f unit_type h = tt
TypeIn-map S T f number_type h = tt
TypeIn-map S T f truth_type h = tt
TypeIn-map S T f (sequence_type t) h = TypeIn-map S T f t h
TypeIn-map S T f (record_type n) h = f n h

-- the record that a type names, where it names one
abbrev NamedIn : (ℕ → Type 0) → Option ℕ → Type 0
NamedIn S None = Unit {0}
NamedIn S (Some n) = S n

type_of_named : (S : ℕ → Type 0) (t : ValueType) → NamedIn S (named_record t) → TypeIn S t
type_of_named S unit_type h = tt
type_of_named S number_type h = tt
type_of_named S truth_type h = tt
type_of_named S (sequence_type t) h = type_of_named S t h
type_of_named S (record_type n) h = h

pub numbers-true : (x y : ℕ) → nat_eq x y ≡ true → x ≡ y
numbers-true x y = (Decides-eqb x y).0

pub numbers-self : (x : ℕ) → nat_eq x x ≡ true
numbers-self x = (Decides-eqb x x).1 refl

pub fold_append : {A B : Type 0} (f : B → A → B) (b : B) (xs ys : List A) → fold f b (xs ++ ys) ≡ fold f (fold f b xs) ys
fold_append f b [] ys = refl
fold_append f b (x ∷ xs) ys = fold_append f (f b x) xs ys

split_push : {A : Type 0} (xs : List A) (y : A) (i : ℕ) (x : A) → slice_get (xs ++ y ∷ []) i ≡ Some x → (slice_get xs i ≡ Some x) ⊎ ((i ≡ length xs) × (y ≡ x))
split_push [] y zero x h = inr (refl, some_inj h)
split_push [] y (suc i) x h = absurd (none≢some h)
split_push (z ∷ xs) y zero x h = inl h
split_push (z ∷ xs) y (suc i) x h = ⊎_elim (λ e. inl e) (λ e. inr (ap suc e.0, e.1)) (split_push xs y i x h)

module _ (records : Records) where
  -- the record stands before that place
  abbrev pub Before : List ℕ → ℕ → ℕ → Type 0
  Before order m k = (i : ℕ) × (i < m) × (slice_get order i ≡ Some k)

  -- Each record stands behind those that its fields name.
  abbrev pub Behind : List ℕ → Type 0
  Behind order = (m n : ℕ) → slice_get order m ≡ Some n → AllByRecursion (TypeIn (Before order m)) (fields records n)

  grows_types : (old new : List ℕ) → Grows old new → (ts : List ValueType) → AllByRecursion (TypeIn (In old)) ts → AllByRecursion (TypeIn (In new)) ts
  grows_types old new grows ts h =
      all_mapped (TypeIn (In old)) (TypeIn (In new)) (TypeIn-map (In old) (In new) (λ k at. (at.0, grows at.0 k at.1))) ts h

  behind_push : (order : List ℕ) (n : ℕ) → Behind order → AllByRecursion (TypeIn (In order)) (fields records n) → Behind (order ++ n ∷ [])
  behind_push order n behind named m k h = ⊎_elim
      (λ old. all_mapped (TypeIn (Before order m)) (TypeIn (Before (order ++ n ∷ []) m))
      (TypeIn-map _ _ (λ j at. (at.0, at.1, grows_push order n at.0 j at.2))) (fields records k) (behind m k old))
      (λ new. subst (λ z. AllByRecursion (TypeIn (Before (order ++ n ∷ []) m)) (fields records z)) new.1
      (all_mapped (TypeIn (In order)) (TypeIn (Before (order ++ n ∷ []) m))
      (TypeIn-map _ _ (λ j at. (
        at.0,
        subst (λ z. at.0 < z) (sym new.0) (got_below order at.0 j at.1),
        grows_push order n at.0 j at.1,
      ))) (fields records n) named))
      (split_push order n m k h)

  behind_new : (order : List ℕ) (n : ℕ) → Behind order → AllByRecursion (TypeIn (In order)) (fields records n) → Behind (with_new nat_eq order n)
  behind_new order n behind named = by (is_member nat_eq order n)
    where
      by : (b : Bool) → Behind (cond b order (order ++ n ∷ []))
      by true = behind
      by false = behind_push order n behind named

  pub record Adds (old new : List ℕ) : Type 0 where
    pub grows : Grows old new
    pub behind : Behind new

  adds_nothing : (order : List ℕ) → Behind order → Adds order order
  adds_nothing order behind = record { grows = λ i x h. h; behind = behind }

  -- the type names no record, or one from which no chain of names is longer
  abbrev pub TypeEnds : ℕ → ValueType → Type 0
  TypeEnds depth t = option_map_or (ends_within records depth) (named_record t) true ≡ true

  abbrev pub joined : List ℕ → List ℕ → List ℕ
  joined order more = fold (with_new nat_eq) order more

  module _ (within : ValueType → List ℕ) where
    -- what the records of a type do to an order
    abbrev TypeAdds : ValueType → Type 0
    TypeAdds t = (order : List ℕ) → Behind order → Adds order (joined order (within t)) × TypeIn (In (joined order (within t))) t

    fields_add : (depth : ℕ) → ((t : ValueType) → TypeEnds depth t → TypeAdds t) → (ts : List ValueType)
        → list_all (λ t. option_map_or (ends_within records depth) (named_record t) true) ts ≡ true
        → (order : List ℕ) → Behind order
        → Adds order (joined order (flat_map within ts)) × AllByRecursion (TypeIn (In (joined order (flat_map within ts)))) ts
    fields_add depth each [] ends order behind = (adds_nothing order behind, tt)
    fields_add depth each (t ∷ ts) ends order behind =
        let p = and_parts _ _ ends in
        let middle = joined order (within t) in
        let one = each t p.0 order behind in
        let end = joined middle (flat_map within ts) in
        let rest = fields_add depth each ts p.1 middle one.0.behind in
        subst (λ new. Adds order new × AllByRecursion (TypeIn (In new)) (t ∷ ts)) (sym (fold_append (with_new nat_eq) order (within t) (flat_map within ts))) (
          record { grows = λ i x h. rest.0.grows i x (one.0.grows i x h); behind = rest.0.behind },
          (TypeIn-map (In middle) (In end) (λ k at. (at.0, rest.0.grows at.0 k at.1)) t one.1, rest.1),
        )

    named_add : (depth : ℕ) → ((t : ValueType) → TypeEnds depth t → TypeAdds t) → (named : Option ℕ)
        → option_map_or (ends_within records (suc depth)) named true ≡ true → (order : List ℕ) → Behind order
        → Adds order (joined order (option_map_or (λ n. flat_map within (fields records n) ++ n ∷ []) named []))
        × NamedIn (In (joined order (option_map_or (λ n. flat_map within (fields records n) ++ n ∷ []) named []))) named
    named_add depth each None ends order behind = (adds_nothing order behind, tt)
    named_add depth each (Some n) ends order behind =
        let inner = fields_add depth each (fields records n) ends order behind in
        let middle = joined order (flat_map within (fields records n)) in
        let new = new_in nat_eq numbers-true numbers-self (λ k. Unit {0}) middle n (λ i k h. tt) tt in
        subst (λ end. Adds order end × In end n) (sym (fold_append (with_new nat_eq) order (flat_map within (fields records n)) (n ∷ []))) (
          record {
            grows = λ i x h. new.0 i x (inner.0.grows i x h);
            behind = behind_new middle n inner.0.behind inner.1;
          },
          new.1,
        )

zero_named : (records : Records) (S : ℕ → Type 0) (named : Option ℕ) → option_map_or (ends_within records zero) named true ≡ true → NamedIn S named
zero_named records S None h = tt
zero_named records S (Some n) h = absurd (false≢true h)

-- ---- the records of a leg

module _ (program : ProgramTree Variable) (method : MethodTree Variable) where
  type_adds : (depth : ℕ) (t : ValueType) → TypeEnds program.records depth t → TypeAdds program.records (records_within program method depth) t
  type_adds zero t ends order behind =
      (adds_nothing program.records order behind, type_of_named _ t (zero_named program.records _ (named_record t) ends))
  type_adds (suc depth) t ends order behind =
      let h = named_add program.records (records_within program method depth) depth (type_adds depth) (named_record t) ends order behind in
      (h.0, type_of_named _ t h.1)

  -- the type of what appears
  abbrev pub appearing_type : Appearance → ValueType
  appearing_type (of_variable x) = leg_name_type program method x
  appearing_type (of_type t) = t

  one_adds : (a : Appearance) → TypeEnds program.records (length program.records) (appearing_type a) → (order : List ℕ) → Behind program.records order
      → Adds program.records order (joined program.records order (appearing_records program method a))
      × TypeIn (In (joined program.records order (appearing_records program method a))) (appearing_type a)
  one_adds (of_variable x) ends order behind = type_adds (length program.records) (leg_name_type program method x) ends order behind
  one_adds (of_type t) ends order behind = type_adds (length program.records) t ends order behind

  pub all_add : (as' : List Appearance) → AllByRecursion (λ a. TypeEnds program.records (length program.records) (appearing_type a)) as'
      → (order : List ℕ) → Behind program.records order
      → Adds program.records order (joined program.records order (flat_map (appearing_records program method) as'))
      × AllByRecursion (λ a. TypeIn (In (joined program.records order (flat_map (appearing_records program method) as'))) (appearing_type a)) as'
  all_add [] ends order behind = (adds_nothing program.records order behind, tt)
  all_add (a ∷ as') ends order behind =
      let first = appearing_records program method a in
      let others = flat_map (appearing_records program method) as' in
      let middle = joined program.records order first in
      let one = one_adds a ends.0 order behind in
      let rest = all_add as' ends.1 middle one.0.behind in
      let end = joined program.records middle others in
      subst (λ new. Adds program.records order new × AllByRecursion (λ b. TypeIn (In new) (appearing_type b)) (a ∷ as'))
      (sym (fold_append (with_new nat_eq) order first others)) (
        record { grows = λ i x h. rest.0.grows i x (one.0.grows i x h); behind = rest.0.behind },
        (TypeIn-map (In middle) (In end) (λ k at. (at.0, rest.0.grows at.0 k at.1)) (appearing_type a) one.1, rest.1),
      )

  -- ---- all of them are there

  known_named : (t : ValueType) → is_known program.records t ≡ true → NamedIn (λ n. n < length program.records) (named_record t)
  known_named t h = by (named_record t) h
    where
      by : (o : Option ℕ) → option_map_or (λ n. nat_lt n (length program.records)) o true ≡ true → NamedIn (λ n. n < length program.records) o
      by None e = tt
      by (Some n) e = ltb-true n (length program.records) e

  pub known_ends : AreWellFormed program.records → (t : ValueType) → is_known program.records t ≡ true → TypeEnds program.records (length program.records) t
  known_ends fine t h = by (named_record t) (known_named t h)
    where
      by : (o : Option ℕ) → NamedIn (λ n. n < length program.records) o → option_map_or (ends_within program.records (length program.records)) o true ≡ true
      by None e = refl
      by (Some n) e = fine.finite n e

  abbrev pub IsThere : ℕ → Type 0
  IsThere n = n < length program.records

  module _ (fine : AreWellFormed program.records) where
    there_fields : (within : ValueType → List ℕ) → ((t : ValueType) → is_known program.records t ≡ true → AllByRecursion IsThere (within t))
        → (ts : List ValueType) → list_all (is_known program.records) ts ≡ true → AllByRecursion IsThere (flat_map within ts)
    there_fields within each [] h = tt
    there_fields within each (t ∷ ts) h =
        let p = and_parts _ _ h in
        all_append IsThere (within t) (flat_map within ts) (each t p.0) (there_fields within each ts p.1)

    there_named : (within : ValueType → List ℕ) → ((t : ValueType) → is_known program.records t ≡ true → AllByRecursion IsThere (within t))
        → (o : Option ℕ) → NamedIn IsThere o → AllByRecursion IsThere (option_map_or (λ n. flat_map within (fields program.records n) ++ n ∷ []) o [])
    there_named within each None e = tt
    there_named within each (Some n) e =
        all_append IsThere (flat_map within (fields program.records n)) (n ∷ []) (there_fields within each (fields program.records n) (fine.known n e)) (e, tt)

    there_within : (depth : ℕ) (t : ValueType) → is_known program.records t ≡ true → AllByRecursion IsThere (records_within program method depth t)
    there_within zero t h = tt
    there_within (suc depth) t h = there_named (records_within program method depth) (there_within depth) (named_record t) (known_named t h)

    there_one : (a : Appearance) → is_known program.records (appearing_type a) ≡ true → AllByRecursion IsThere (appearing_records program method a)
    there_one (of_variable x) h = there_within (length program.records) (leg_name_type program method x) h
    there_one (of_type t) h = there_within (length program.records) t h

    pub there_all : (as' : List Appearance) → AllByRecursion (λ a. is_known program.records (appearing_type a) ≡ true) as'
        → AllByRecursion IsThere (flat_map (appearing_records program method) as')
    there_all [] h = tt
    there_all (a ∷ as') h = all_append IsThere (appearing_records program method a) (flat_map (appearing_records program method) as') (there_one a h.0) (there_all as' h.1)

    -- The order of the records of a leg on which all types are known.
    pub record IsRecordOrder (order : List ℕ) (as' : List Appearance) : Type 0 where
      pub behind : Behind program.records order
      pub there : (i n : ℕ) → slice_get order i ≡ Some n → n < length program.records
      pub types : AllByRecursion (λ a. TypeIn (In order) (appearing_type a)) as'

    pub is_record_order : (as' : List Appearance) → AllByRecursion (λ a. is_known program.records (appearing_type a) ≡ true) as'
        → IsRecordOrder (joined program.records [] (flat_map (appearing_records program method) as')) as'
    is_record_order as' known =
        let adds = all_add as' (all_mapped _ _ (λ a. known_ends fine (appearing_type a)) as' known) [] (λ m n h. absurd (none≢some h)) in
        let firsts_there = all_in_firsts nat_eq numbers-true numbers-self IsThere [] (flat_map (appearing_records program method) as')
        (λ i y h. absurd (none≢some h)) (there_all as' known) in
        record { behind = adds.0.behind; there = firsts_there.2; types = adds.1 }
