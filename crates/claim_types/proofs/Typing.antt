-- A tree has the type that is worked out exactly where it is well typed.
use Rattle.std.proofs.Common.{◌≡◌, ℕ, ◌<◌, Bool, true, false, ◌&&◌, true≢false, List, [], ◌∷◌, length, get_or, Option, Some, None, refl, sym, ap, ◌∙◌, subst}
use Rattle.std.specs.Prelude.{nat_lt, slice_get}
use Rattle.std.proofs.lemmas.Bool.{ltb-true, lt-ltb}
use Rattle.std.proofs.lemmas.Option.{same_Some, slice_get-get_or, slice_get_within, get_or_from_slice_get}
use Rattle.slang_values.specs.Value.{ValueType, unit_type, number_type, truth_type, sequence_type, record_type, Records, fields, is_known, same_type, element_type}
use Rattle.slang_values.specs.Tree.{Tree, literal, truth_literal, name, bound, unary, binary, update, quantified, listed, Trees, no_trees, tree_then, sequence_of, record_of}
use Rattle.slang_values.specs.Typing.{NameTypes, type_of, IsFieldType, IsTyped, EachIsTyped, AreTyped}
use Rattle.slang_values.specs.declared.operators.Unary.{Unary}
use Rattle.slang_values.specs.declared.operators.Binary.{Binary}
use Rattle.slang_values.proofs.Equality.{same_type-true, same_type_refl}
use Rattle.validity.proofs.TypeOf.{type_of_typed}
use Rattle.claim_types.specs.Judged.{given_if, is_type, size_type, place_type, read_type, with_element, equal_type, between, of_one, judged, each_judged, all_judged}

-- ---- truth values

pub both_true : (a b : Bool) → (a && b) ≡ true → (a ≡ true) × (b ≡ true)
both_true true b h = (refl, h)
both_true false b h = absurd (true≢false (sym h))

pub true_both : (a b : Bool) → a ≡ true → b ≡ true → (a && b) ≡ true
true_both a b h k = ap (λ x. x && b) h ∙ k

-- ---- types that are there

is_type-true : (t : ValueType) (o : Option ValueType) → is_type t o ≡ true → o ≡ Some t
is_type-true t None h = absurd (true≢false (sym h))
is_type-true t (Some s) h = ap Some (same_type-true s t h)

is_type_of : (t : ValueType) (o : Option ValueType) → o ≡ Some t → is_type t o ≡ true
is_type_of t o h = ap (is_type t) h ∙ same_type_refl t

given-some : (b : Bool) (t u : ValueType) → given_if b t ≡ Some u → (b ≡ true) × (u ≡ t)
given-some true t u h = (refl, sym (same_Some t u h))
given-some false t u h = cc (h)

given_true : (b : Bool) (t u : ValueType) → b ≡ true → u ≡ t → given_if b t ≡ Some u
given_true b t u h e = ap (λ x. given_if x t) h ∙ ap Some (sym e)

-- ---- what an answer says of its parts

record Sized (o : Option ValueType) (t : ValueType) : Type 0 where
  element : ValueType
  sequence : o ≡ Some (sequence_type element)
  number : t ≡ number_type

sized : (o : Option ValueType) (t : ValueType) → size_type o ≡ Some t → Sized o t
sized None t h = cc (h)
sized (Some unit_type) t h = cc (h)
sized (Some number_type) t h = cc (h)
sized (Some truth_type) t h = cc (h)
sized (Some (sequence_type s)) t h = record { element = s; sequence = refl; number = sym (same_Some number_type t h) }
sized (Some (record_type n)) t h = cc (h)

record Placed (records : Records) (k : ℕ) (o : Option ValueType) (t : ValueType) : Type 0 where
  number : ℕ
  of_record : o ≡ Some (record_type number)
  field : slice_get (fields records number) k ≡ Some t

placed : (records : Records) (k : ℕ) (o : Option ValueType) (t : ValueType) → place_type records k o ≡ Some t → Placed records k o t
placed records k None t h = cc (h)
placed records k (Some unit_type) t h = cc (h)
placed records k (Some number_type) t h = cc (h)
placed records k (Some truth_type) t h = cc (h)
placed records k (Some (sequence_type s)) t h = cc (h)
placed records k (Some (record_type n)) t h = record { number = n; of_record = refl; field = h }

record Taken (o i : Option ValueType) (t : ValueType) : Type 0 where
  sequence : o ≡ Some (sequence_type t)
  number : is_type number_type i ≡ true

taken : (o i : Option ValueType) (t : ValueType) → read_type o i ≡ Some t → Taken o i t
taken None i t h = cc (h)
taken (Some unit_type) i t h = cc (h)
taken (Some number_type) i t h = cc (h)
taken (Some truth_type) i t h = cc (h)
taken (Some (sequence_type s)) i t h =
    let g = given-some (is_type number_type i) s t h in record { sequence = ap (λ u. Some (sequence_type u)) (sym g.1); number = g.0 }
taken (Some (record_type n)) i t h = cc (h)

record Joined (rest : Bool) (o x : Option ValueType) (t : ValueType) : Type 0 where
  element : ValueType
  sequence : o ≡ Some (sequence_type element)
  others : rest ≡ true
  member : is_type element x ≡ true
  same : t ≡ sequence_type element

joined : (rest : Bool) (o x : Option ValueType) (t : ValueType) → with_element rest o x ≡ Some t → Joined rest o x t
joined rest None x t h = cc (h)
joined rest (Some unit_type) x t h = cc (h)
joined rest (Some number_type) x t h = cc (h)
joined rest (Some truth_type) x t h = cc (h)
joined rest (Some (sequence_type s)) x t h =
    let g = given-some (rest && is_type s x) (sequence_type s) t h in
    let p = both_true rest (is_type s x) g.0 in
    record { element = s; sequence = refl; others = p.0; member = p.1; same = g.1 }
joined rest (Some (record_type n)) x t h = cc (h)

record Equal (o b : Option ValueType) (t : ValueType) : Type 0 where
  side : ValueType
  first : o ≡ Some side
  second : is_type side b ≡ true
  truth : t ≡ truth_type

equal : (o b : Option ValueType) (t : ValueType) → equal_type o b ≡ Some t → Equal o b t
equal None b t h = cc (h)
equal (Some s) b t h = let g = given-some (is_type s b) truth_type t h in record { side = s; first = refl; second = g.0; truth = g.1 }

element_is : (o : ValueType) (s : ValueType) → o ≡ sequence_type s → sequence_type (element_type o) ≡ sequence_type s
element_is o s h = ap (λ u. sequence_type (element_type u)) h

field_is : (records : Records) (k n : ℕ) (r t : ValueType) → r ≡ record_type n → slice_get (fields records n) k ≡ Some t → IsFieldType records k r t
field_is records k n r t e h =
    subst (λ u. IsFieldType records k u t) (sym e) (slice_get_within (fields records n) k t h, sym (get_or_from_slice_get (fields records n) k t unit_type h))

at_field : (records : Records) (k : ℕ) (r t : ValueType) → IsFieldType records k r t → place_type records k (Some r) ≡ Some t
at_field records k unit_type t h = absurd h
at_field records k number_type t h = absurd h
at_field records k truth_type t h = absurd h
at_field records k (sequence_type s) t h = absurd h
at_field records k (record_type n) t h = slice_get-get_or (fields records n) k unit_type h.0 ∙ ap Some (sym h.1)

module _ {A : Type 0} (records : Records) (types : NameTypes A) where
  abbrev own : Tree A → Option ValueType
  own a = judged records types a

  -- an operator between two parts of one type, where each is of it
  record Two (s u : ValueType) (a b : Tree A) (t : ValueType) : Type 0 where
    result : t ≡ u
    first : own a ≡ Some s
    second : own b ≡ Some s

  two : (s u : ValueType) (a b : Tree A) (t : ValueType) → given_if (is_type s (own a) && is_type s (own b)) u ≡ Some t → Two s u a b t
  two s u a b t h =
      let g = given-some (is_type s (own a) && is_type s (own b)) u t h in
      let p = both_true (is_type s (own a)) (is_type s (own b)) g.0 in
      record { result = g.1; first = is_type-true s (own a) p.0; second = is_type-true s (own b) p.1 }

  of_two : (s u : ValueType) (a b : Tree A) (t : ValueType) → t ≡ u → own a ≡ Some s → own b ≡ Some s
      → given_if (is_type s (own a) && is_type s (own b)) u ≡ Some t
  of_two s u a b t e h k =
      given_true (is_type s (own a) && is_type s (own b)) u t (true_both (is_type s (own a)) (is_type s (own b)) (is_type_of s (own a) h) (is_type_of s (own b) k)) e

  mutual
    pub typed : (a : Tree A) (t : ValueType) → own a ≡ Some t → IsTyped records types a t
    typed (literal z) t h = sym (same_Some number_type t h)
    typed (truth_literal b) t h = sym (same_Some truth_type t h)
    typed (name a) t h = h
    typed (bound n) t h = sym (same_Some number_type t h)
    typed (unary Unary.Neg a) t h = let g = given-some (is_type number_type (own a)) number_type t h in (g.1, typed a number_type (is_type-true number_type (own a) g.0))
    typed (unary Unary.Not a) t h = let g = given-some (is_type truth_type (own a)) truth_type t h in (g.1, typed a truth_type (is_type-true truth_type (own a) g.0))
    typed (unary Unary.Size a) t h =
        let g = sized (own a) t h in
        let part = typed a (sequence_type g.element) g.sequence in
        let same = element_is (type_of records types a) g.element (type_of_typed records types a (sequence_type g.element) part) in
        (g.number, subst (λ u. IsTyped records types a u) (sym same) part)
    typed (unary (Unary.Field k) a) t h =
        let g = placed records k (own a) t h in
        let part = typed a (record_type g.number) g.of_record in
        let same = type_of_typed records types a (record_type g.number) part in
        (field_is records k g.number (type_of records types a) t same g.field, subst (λ u. IsTyped records types a u) (sym same) part)
    typed (binary Binary.Add a b) t h = let g = two number_type number_type a b t h in (g.result, typed a number_type g.first, typed b number_type g.second)
    typed (binary Binary.Sub a b) t h = let g = two number_type number_type a b t h in (g.result, typed a number_type g.first, typed b number_type g.second)
    typed (binary Binary.Mul a b) t h = let g = two number_type number_type a b t h in (g.result, typed a number_type g.first, typed b number_type g.second)
    typed (binary Binary.Div a b) t h = let g = two number_type number_type a b t h in (g.result, typed a number_type g.first, typed b number_type g.second)
    typed (binary Binary.Rem a b) t h = let g = two number_type number_type a b t h in (g.result, typed a number_type g.first, typed b number_type g.second)
    typed (binary Binary.And a b) t h = let g = two truth_type truth_type a b t h in (g.result, typed a truth_type g.first, typed b truth_type g.second)
    typed (binary Binary.Or a b) t h = let g = two truth_type truth_type a b t h in (g.result, typed a truth_type g.first, typed b truth_type g.second)
    typed (binary Binary.Imply a b) t h = let g = two truth_type truth_type a b t h in (g.result, typed a truth_type g.first, typed b truth_type g.second)
    typed (binary Binary.Eq a b) t h =
        let g = equal (own a) (own b) t h in
        let part = typed a g.side g.first in
        let same = type_of_typed records types a g.side part in (
          g.truth,
          subst (λ u. IsTyped records types a u) (sym same) part,
          subst (λ u. IsTyped records types b u) (sym same) (typed b g.side (is_type-true g.side (own b) g.second)),
        )
    typed (binary Binary.Lt a b) t h = let g = two number_type truth_type a b t h in (g.result, typed a number_type g.first, typed b number_type g.second)
    typed (binary Binary.Le a b) t h = let g = two number_type truth_type a b t h in (g.result, typed a number_type g.first, typed b number_type g.second)
    typed (binary Binary.Read a i) t h =
        let g = taken (own a) (own i) t h in (typed a (sequence_type t) g.sequence, typed i number_type (is_type-true number_type (own i) g.number))
    typed (binary Binary.Append a x) t h =
        let g = joined true (own a) (own x) t h in
        let member = typed x g.element (is_type-true g.element (own x) g.member) in
        let same = type_of_typed records types x g.element member in
        (g.same ∙ ap sequence_type (sym same), typed a t (g.sequence ∙ ap Some (sym g.same)), subst (λ u. IsTyped records types x u) (sym same) member)
    typed (update a i x) t h =
        let g = joined (is_type number_type (own i)) (own a) (own x) t h in
        let member = typed x g.element (is_type-true g.element (own x) g.member) in
        let same = type_of_typed records types x g.element member in (
          g.same ∙ ap sequence_type (sym same),
          typed a t (g.sequence ∙ ap Some (sym g.same)),
          typed i number_type (is_type-true number_type (own i) g.others),
          subst (λ u. IsTyped records types x u) (sym same) member,
        )
    typed (quantified q low high body) t h =
        let g = given-some (is_type number_type (own low) && (is_type number_type (own high) && is_type truth_type (own body))) truth_type t h in
        let p = both_true (is_type number_type (own low)) (is_type number_type (own high) && is_type truth_type (own body)) g.0 in
        let r = both_true (is_type number_type (own high)) (is_type truth_type (own body)) p.1 in (
          g.1,
          typed low number_type (is_type-true number_type (own low) p.0),
          typed high number_type (is_type-true number_type (own high) r.0),
          typed body truth_type (is_type-true truth_type (own body) r.1),
        )
    typed (listed (sequence_of s) ts) t h =
        let g = given-some (is_known records s && each_judged records types ts s) (sequence_type s) t h in
        let p = both_true (is_known records s) (each_judged records types ts s) g.0 in
        (g.1, p.0, each_typed ts s p.1)
    typed (listed (record_of n) ts) t h =
        let g = given-some (nat_lt n (length records) && all_judged records types ts (fields records n)) (record_type n) t h in
        let p = both_true (nat_lt n (length records)) (all_judged records types ts (fields records n)) g.0 in
        (g.1, ltb-true n (length records) p.0, all_typed ts (fields records n) p.1)

    each_typed : (ts : Trees A) (t : ValueType) → each_judged records types ts t ≡ true → EachIsTyped records types ts t
    each_typed no_trees t h = tt
    each_typed (tree_then a ts) t h =
        let p = both_true (is_type t (own a)) (each_judged records types ts t) h in (typed a t (is_type-true t (own a) p.0), each_typed ts t p.1)

    all_typed : (as' : Trees A) (ts : List ValueType) → all_judged records types as' ts ≡ true → AreTyped records types as' ts
    all_typed no_trees [] h = tt
    all_typed no_trees (t ∷ ts) h = absurd (true≢false (sym h))
    all_typed (tree_then a as') [] h = absurd (true≢false (sym h))
    all_typed (tree_then a as') (t ∷ ts) h =
        let p = both_true (is_type t (own a)) (all_judged records types as' ts) h in (typed a t (is_type-true t (own a) p.0), all_typed as' ts p.1)

  mutual
    pub judged_as : (a : Tree A) (t : ValueType) → IsTyped records types a t → own a ≡ Some t
    judged_as (literal z) t h = ap Some (sym h)
    judged_as (truth_literal b) t h = ap Some (sym h)
    judged_as (name a) t h = h
    judged_as (bound n) t h = ap Some (sym h)
    judged_as (unary Unary.Neg a) t h = given_true (is_type number_type (own a)) number_type t (is_type_of number_type (own a) (judged_as a number_type h.1)) h.0
    judged_as (unary Unary.Not a) t h = given_true (is_type truth_type (own a)) truth_type t (is_type_of truth_type (own a) (judged_as a truth_type h.1)) h.0
    judged_as (unary Unary.Size a) t h = ap size_type (judged_as a (sequence_type (element_type (type_of records types a))) h.1) ∙ ap Some (sym h.0)
    judged_as (unary (Unary.Field k) a) t h =
        ap (place_type records k) (judged_as a (type_of records types a) h.1) ∙ at_field records k (type_of records types a) t h.0
    judged_as (binary Binary.Add a b) t h = of_two number_type number_type a b t h.0 (judged_as a number_type h.1) (judged_as b number_type h.2)
    judged_as (binary Binary.Sub a b) t h = of_two number_type number_type a b t h.0 (judged_as a number_type h.1) (judged_as b number_type h.2)
    judged_as (binary Binary.Mul a b) t h = of_two number_type number_type a b t h.0 (judged_as a number_type h.1) (judged_as b number_type h.2)
    judged_as (binary Binary.Div a b) t h = of_two number_type number_type a b t h.0 (judged_as a number_type h.1) (judged_as b number_type h.2)
    judged_as (binary Binary.Rem a b) t h = of_two number_type number_type a b t h.0 (judged_as a number_type h.1) (judged_as b number_type h.2)
    judged_as (binary Binary.And a b) t h = of_two truth_type truth_type a b t h.0 (judged_as a truth_type h.1) (judged_as b truth_type h.2)
    judged_as (binary Binary.Or a b) t h = of_two truth_type truth_type a b t h.0 (judged_as a truth_type h.1) (judged_as b truth_type h.2)
    judged_as (binary Binary.Imply a b) t h = of_two truth_type truth_type a b t h.0 (judged_as a truth_type h.1) (judged_as b truth_type h.2)
    judged_as (binary Binary.Eq a b) t h =
        let s = type_of records types a in
        ap (λ o. equal_type o (own b)) (judged_as a s h.1) ∙ given_true (is_type s (own b)) truth_type t (is_type_of s (own b) (judged_as b s h.2)) h.0
    judged_as (binary Binary.Lt a b) t h = of_two number_type truth_type a b t h.0 (judged_as a number_type h.1) (judged_as b number_type h.2)
    judged_as (binary Binary.Le a b) t h = of_two number_type truth_type a b t h.0 (judged_as a number_type h.1) (judged_as b number_type h.2)
    judged_as (binary Binary.Read a i) t h =
        ap (λ o. read_type o (own i)) (judged_as a (sequence_type t) h.0)
        ∙ given_true (is_type number_type (own i)) t t (is_type_of number_type (own i) (judged_as i number_type h.1)) refl
    judged_as (binary Binary.Append a x) t h =
        let s = type_of records types x in
        ap (λ o. with_element true o (own x)) (judged_as a t h.1 ∙ ap Some h.0)
        ∙ given_true (is_type s (own x)) (sequence_type s) t (is_type_of s (own x) (judged_as x s h.2)) h.0
    judged_as (update a i x) t h =
        let s = type_of records types x in
        ap (λ o. with_element (is_type number_type (own i)) o (own x)) (judged_as a t h.1 ∙ ap Some h.0)
        ∙ given_true (is_type number_type (own i) && is_type s (own x)) (sequence_type s) t
        (true_both (is_type number_type (own i)) (is_type s (own x)) (is_type_of number_type (own i) (judged_as i number_type h.2)) (is_type_of s (own x) (judged_as x s h.3)))
        h.0
    judged_as (quantified q low high body) t h =
        given_true (is_type number_type (own low) && (is_type number_type (own high) && is_type truth_type (own body))) truth_type t
        (true_both (is_type number_type (own low)) (is_type number_type (own high) && is_type truth_type (own body))
        (is_type_of number_type (own low) (judged_as low number_type h.1))
        (true_both (is_type number_type (own high)) (is_type truth_type (own body)) (is_type_of number_type (own high) (judged_as high number_type h.2))
        (is_type_of truth_type (own body) (judged_as body truth_type h.3)))) h.0
    judged_as (listed (sequence_of s) ts) t h =
        given_true (is_known records s && each_judged records types ts s) (sequence_type s) t
        (true_both (is_known records s) (each_judged records types ts s) h.1 (each_as ts s h.2)) h.0
    judged_as (listed (record_of n) ts) t h =
        given_true (nat_lt n (length records) && all_judged records types ts (fields records n)) (record_type n) t
        (true_both (nat_lt n (length records)) (all_judged records types ts (fields records n)) (lt-ltb n (length records) h.1) (all_as ts (fields records n) h.2)) h.0

    each_as : (ts : Trees A) (t : ValueType) → EachIsTyped records types ts t → each_judged records types ts t ≡ true
    each_as no_trees t h = refl
    each_as (tree_then a ts) t h = true_both (is_type t (own a)) (each_judged records types ts t) (is_type_of t (own a) (judged_as a t h.0)) (each_as ts t h.1)

    all_as : (as' : Trees A) (ts : List ValueType) → AreTyped records types as' ts → all_judged records types as' ts ≡ true
    all_as no_trees [] h = refl
    all_as no_trees (t ∷ ts) h = absurd h
    all_as (tree_then a as') [] h = absurd h
    all_as (tree_then a as') (t ∷ ts) h =
        true_both (is_type t (own a)) (all_judged records types as' ts) (is_type_of t (own a) (judged_as a t h.0)) (all_as as' ts h.1)
