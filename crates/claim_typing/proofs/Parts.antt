-- What follows for the parts of a form that has a type.
use Rattle.std.proofs.Common.{◌≡◌, ℕ, ◌+◌, ◌<◌, Bool, true, false, cond, not, List, [], ◌∷◌, ◌++◌, map, length, get_or, find, Option, Some, None, is_some, unwrap_or, option_map, refl, sym, ap, ◌∙◌, subst, arith, one-add}
use Rattle.std.specs.List.{position_or_len}
use Rattle.std.proofs.lemmas.Bool.{true≢false, false≢true, and_parts}
use Rattle.slang_values.specs.Value.{ValueType, unit_type, number_type, truth_type, sequence_type, record_type, same_type, element_type}
use Rattle.slang_values.proofs.Equality.{same_type-true}
use Rattle.slang_tree.specs.declared.place.Place.{Place}
use Rattle.slang_tree.specs.declared.place.Fault.{Fault}
use Rattle.type_rules.specs.Faults.{unless, type_differs}
use Rattle.type_rules.specs.Meanings.{Field, all_typed}
use Rattle.type_rules.specs.Judged.{Judged, are_typed, known_type, typed_without, over, expects, is_sequence}

pub inside : {s t : ValueType} → Some s ≡ Some t → s ≡ t
inside e = ap (λ o. unwrap_or o unit_type) e

pub some_is_none : {A B : Type 0} {a : A} → Some a ≡ None → B
some_is_none {A} {B} {a} e = absurd (true≢false (ap is_some e))

pub none_is_some : {A B : Type 0} {a : A} → None ≡ Some a → B
none_is_some {A} {B} {a} e = absurd (false≢true (ap is_some e))

abbrev is_nil : {A : Type 0} → List A → Bool
is_nil [] = true
is_nil (a ∷ as') = false

pub one_is_none : {A B : Type 0} {a : A} {others : List A} → a ∷ others ≡ [] → B
one_is_none {A} {B} {a} {others} e = absurd (false≢true (ap is_nil e))

pub both_nil : {A : Type 0} (xs ys : List A) → xs ++ ys ≡ [] → (xs ≡ []) × (ys ≡ [])
both_nil [] ys e = (refl, e)
both_nil (x ∷ xs) ys e = one_is_none e

-- ---- a form over its parts

pub record IsOver (parts : List Judged) (own : List Fault) (type : Option ValueType) (t : ValueType) : Type 0 where
  pub typed : are_typed parts ≡ true
  pub none : own ≡ []
  pub same : type ≡ Some t

over_at : (typed : Bool) (parts : List Judged) (own : List Fault) (type : Option ValueType) (t : ValueType) → are_typed parts ≡ typed →
    cond typed (typed_without own type) None ≡ Some t → IsOver parts own type t
over_at false parts own type t e h = none_is_some h
over_at true parts [] type t e h = record { typed = e; none = refl; same = h }
over_at true parts (found ∷ own) type t e h = none_is_some h

pub over-typed : (place : Place) (parts : List Judged) (own : List Fault) (type : Option ValueType) (t : ValueType) →
    (over place parts own type).type ≡ Some t → IsOver parts own type t
over-typed place parts own type t h = over_at (are_typed parts) parts own type t refl h

-- ---- one part

has_type : (o : Option ValueType) → is_some o ≡ true → o ≡ Some (unwrap_or o unit_type)
has_type None h = absurd (false≢true h)
has_type (Some t) h = refl

pub first_typed : (part : Judged) (parts : List Judged) → are_typed (part ∷ parts) ≡ true →
    (part.type ≡ Some (known_type part)) × (are_typed parts ≡ true)
first_typed part parts h =
    let p = and_parts (is_some part.type) (are_typed parts) h in
    (has_type part.type p.0, p.1)

unless_nil : (holds : Bool) (found : Fault) → unless holds found ≡ [] → holds ≡ true
unless_nil true found e = refl
unless_nil false found e = one_is_none e

pub unless-nil : (holds : Bool) (found : Fault) → unless holds found ≡ [] → holds ≡ true
unless-nil = unless_nil

pub expected : (t : ValueType) (part : Judged) → expects t part ≡ [] → t ≡ known_type part
expected t part e = same_type-true t (known_type part) (unless_nil (same_type t (known_type part)) (type_differs part.place) e)

pub cond_nil : (holds : Bool) (own others : List Fault) (found : Fault) → cond holds own (found ∷ others) ≡ [] → (holds ≡ true) × (own ≡ [])
cond_nil true own others found e = (refl, e)
cond_nil false own others found e = one_is_none e

pub sequence-is : (t : ValueType) → is_sequence t ≡ true → t ≡ sequence_type (element_type t)
sequence-is (sequence_type t) h = refl
sequence-is unit_type h = absurd (false≢true h)
sequence-is number_type h = absurd (false≢true h)
sequence-is truth_type h = absurd (false≢true h)
sequence-is (record_type n) h = absurd (false≢true h)

-- ---- fields

all_typed-cons : (o : Option ValueType) (others : List (Option ValueType)) (ts : List ValueType) → all_typed (o ∷ others) ≡ Some ts →
    (t : ValueType) × (rest : List ValueType) × (o ≡ Some t) × (all_typed others ≡ Some rest) × (ts ≡ t ∷ rest)
all_typed-cons None others ts e = none_is_some e
all_typed-cons (Some t) others ts e = go (all_typed others) refl e
  where
    go : (rest : Option (List ValueType)) → all_typed others ≡ rest → option_map (λ others. t ∷ others) rest ≡ Some ts →
        (s : ValueType) × (more : List ValueType) × (Some t ≡ Some s) × (all_typed others ≡ Some more) × (ts ≡ s ∷ more)
    go None h k = none_is_some k
    go (Some rest) h k = (t, rest, refl, h, sym (ap (λ o. unwrap_or o []) k))

-- the field that a name finds, at its place among the types of the fields
pub record IsFieldAt (ts : List ValueType) (k : ℕ) (t : ValueType) : Type 0 where
  pub there : k < length ts
  pub same : t ≡ get_or ts k unit_type

pub found-step : (found : Bool) (f : Field) (fs : List Field) (p : Field → Bool) (ts : List ValueType) (g : Field) (t : ValueType) →
    all_typed (f.type ∷ map (λ other. other.type) fs) ≡ Some ts → cond found (Some f) (find p fs) ≡ Some g → g.type ≡ Some t →
    ((rest : List ValueType) → all_typed (map (λ other. other.type) fs) ≡ Some rest → find p fs ≡ Some g → IsFieldAt rest (position_or_len p fs) t) →
    IsFieldAt ts (cond (not found) (1 + position_or_len p fs) 0) t
found-step true f fs p ts g t all e h next =
    let c = all_typed-cons f.type (map (λ other. other.type) fs) ts all in
    let s : t ≡ c.0 = inside (sym h ∙ (ap (λ o. (unwrap_or o f).type) (sym e) ∙ c.2)) in
    subst (λ types. IsFieldAt types 0 t) (sym c.4) (record { there = omega arith; same = s })
found-step false f fs p ts g t all e h next =
    let c = all_typed-cons f.type (map (λ other. other.type) fs) ts all in
    let k = next c.1 c.3 e in
    subst (λ types. IsFieldAt types (1 + position_or_len p fs) t) (sym c.4)
    (record { there = omega (arith, k.there); same = subst (λ n. t ≡ get_or (c.0 ∷ c.1) n unit_type) (sym (one-add (position_or_len p fs))) k.same })

pub found-field : (p : Field → Bool) (fs : List Field) (ts : List ValueType) (g : Field) (t : ValueType) →
    all_typed (map (λ other. other.type) fs) ≡ Some ts → find p fs ≡ Some g → g.type ≡ Some t → IsFieldAt ts (position_or_len p fs) t
found-field p [] ts g t all e h = none_is_some e
found-field p (f ∷ fs) ts g t all e h =
    found-step (p f) f fs p ts g t all e h (λ rest k l. found-field p fs rest g t k l h)
