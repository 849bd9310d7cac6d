-- Fields, one after the other.
use Rattle.std.proofs.Common.{◌≡◌, ℕ, zero, suc, ◌+◌, ◌<◌, ◌≤◌, Bool, true, false, cond, not, ◌||◌, Option, Some, None, List, [], ◌∷◌, ◌++◌, length, take, drop, get_or, map, refl, sym, subst, ap, ◌∙◌, append_assoc, append-nil, arith, true≢false}
use Rattle.std.specs.Prelude.{find}
use Rattle.std.specs.Option.{is_some, option_map}
use Rattle.std.specs.List.{slice_get}
use Rattle.std.specs.Set.{is_member}
use Rattle.std.specs.Str.{bytes_eq}
use Rattle.std.proofs.Math.Seq.{drop-cons}
use Rattle.std.proofs.lemmas.List.{map-append}
use Rattle.slang_values.specs.Value.{ValueType}
use Rattle.slang_tree.specs.declared.place.Place.{Place}
use Rattle.slang_tree.specs.declared.place.Fault.{Fault}
use Rattle.slang_tree.specs.declared.declaration.FieldDecl.{FieldDecl}
use Rattle.slang_tree.specs.TypeTree.{TypeTree, type_place}
use Rattle.slang_tree.specs.DeclTree.{TypedName, field_tree}
use Rattle.name_maps.specs.Names.{is_named, named, with_name}
use Rattle.name_maps.proofs.Named.{named-with}
use Rattle.name_maps.proofs.Tables.{bytes_eq-symm}
use Rattle.name_scopes.proofs.Named.{is_named-with}
use Rattle.name_scopes.specs.declared.meaning.Meaning.{Meaning as CodeMeaning}
use Rattle.name_scopes.specs.Meanings.{declared_in}
use Rattle.text_types.specs.declared.text_type.TextType.{TextType}
use Rattle.text_types.specs.declared.found.Found.{Found}
use Rattle.text_types.specs.TextType.{text_value}
use Rattle.text_types.specs.Found.{IsJudged, bare, seen}
use Rattle.text_types.proofs.Parts.{with_none}
use Rattle.type_faults.specs.FirstFault.{with_first}
use Rattle.type_faults.proofs.First.{in_turn}
use Rattle.type_names.proofs.Types.{type-alike, type-place}
use Rattle.type_rules.specs.Faults.{duplicate_name, type_differs, unless}
use Rattle.type_rules.specs.Judged.{Judged}
use Rattle.type_rules.specs.Meanings.{Declared, Field, all_typed}
use Rattle.type_rules.specs.TypeNames.{judged_type}
use Rattle.type_rules.specs.Records.{FieldTypes, allowed_type, is_allowed}
use Rattle.type_rules.specs.Projects.{field_faults, fields_from}
use Rattle.signature_judging.specs.Knows.{Knows}
use Rattle.signature_judging.proofs.Parameters.{alike}
use Rattle.record_judging.specs.Fields.{AreAllFields, AreAllowed, AreTypes, ByName, FieldsSoFar, IsField, typed_by, with_type}

pub type_known : {a b : Option Fault} {found : Found} (table : List (List ℕ × CodeMeaning)) (names : List Declared) → Knows table names → (t : TypeTree) →
    IsJudged a b found (judged_type (declared_in table) t) → IsJudged a b found (judged_type names t)
type_known {a} {b} {found} table names knows t h = subst (IsJudged a b found) (type-alike (declared_in table) names (alike table names knows) t) h

pub from : {X : Type 0} (xs : List X) (i : ℕ) (x : X) → i < length xs → x ≡ get_or xs i x → drop i xs ≡ x ∷ drop (i + 1) xs
from xs i x within is =
    let next : suc i ≡ i + 1 = omega arith in
    drop-cons xs i x within ∙ ap (λ n. get_or xs i x ∷ drop n xs) next ∙ ap (λ y. y ∷ drop (i + 1) xs) (sym is)

-- ---- types of fields so far

pub no_type : (typed : Bool) (types : List TextType) → typed_by false types ≡ with_type (typed_by typed types) None
no_type true types = refl
no_type false types = refl

pub more_type : (typed : Bool) (types : List TextType) (ty : TextType) → typed_by typed (types ++ ty ∷ []) ≡ with_type (typed_by typed types) (Some ty)
more_type true types ty = refl
more_type false types ty = refl

-- ---- one field

pub field_is : {a b c d : Option Fault} {found : Found} (table : List (List ℕ × Option TextType)) (own : List Bool) (k : ℕ) (names : List Declared) (field : TypedName)
    (known allowed : Bool) (type : Option TextType) →
    known ≡ is_named table field.written.text → b ≡ with_first a (unless (not known) (duplicate_name field.written.place)) →
    IsJudged b c found (judged_type names field.ty) → allowed ≡ get_or own k false → d ≡ with_first c (unless allowed (type_differs found.place)) →
    type ≡ cond allowed found.ty None → IsField a d type table own k names field
field_is {a} {b} {c} {d} {found} table own k names field known allowed type knows first judged may last is =
    let J = judged_type names field.ty in
    let dup = unless (not (is_named table field.written.text)) (duplicate_name field.written.place) in
    let place : found.place ≡ type_place field.ty = ap (λ (j : Judged). j.place) judged.is ∙ type-place names field.ty in
    let own-type : option_map text_value found.ty ≡ J.type = ap (λ (j : Judged). j.type) judged.is in
    record {
      told = last
          ∙ ap (λ b. with_first c (unless b (type_differs found.place))) may
          ∙ ap (λ p. with_first c (unless (get_or own k false) (type_differs p))) place
          ∙ ap (λ f. with_first f (unless (get_or own k false) (type_differs (type_place field.ty)))) (judged.told ∙ ap (λ f. with_first f J.faults) (first ∙ ap (λ b. with_first a (unless (not b) (duplicate_name field.written.place))) knows) ∙ in_turn a dup J.faults)
          ∙ in_turn a (dup ++ J.faults) (unless (get_or own k false) (type_differs (type_place field.ty)));
      is = ap (option_map text_value) (is ∙ ap (λ b. cond b found.ty None) may) ∙ typed_if (get_or own k false) found.ty ∙ ap (λ t. cond (get_or own k false) t None) own-type;
    }
  where
    typed_if : (b : Bool) (t : Option TextType) → option_map text_value (cond b t None) ≡ cond b (option_map text_value t) None
    typed_if true t = refl
    typed_if false t = refl

-- ---- by their names

either : {X : Type 0} (b : Bool) (x : X) (rest last : Option X) → cond b (Some x) (cond (is_some rest) rest last) ≡ cond (is_some (cond b (Some x) rest)) (cond b (Some x) rest) last
either true x rest last = refl
either false x rest last = refl

find_last : {X : Type 0} (p : X → Bool) (xs : List X) (x : X) → find p (xs ++ x ∷ []) ≡ cond (is_some (find p xs)) (find p xs) (cond (p x) (Some x) None)
find_last p [] x = refl
find_last p (y ∷ ys) x = ap (cond (p y) (Some y)) (find_last p ys x) ∙ either (p y) y (find p ys) (cond (p x) (Some x) None)

mapped : {X Y : Type 0} (f : X → Y) (o : Option X) (b : Bool) (x : X) →
    option_map f (cond (is_some o) o (cond b (Some x) None)) ≡ cond (is_some (option_map f o)) (option_map f o) (cond b (Some (f x)) None)
mapped f (Some y) b x = refl
mapped f None true x = refl
mapped f None false x = refl

by_name_more : (table : List (List ℕ × Option TextType)) (fields : List Field) (field : Field) (type : Option TextType) → option_map text_value type ≡ field.type →
    ByName table fields → ByName (with_name table field.text type) (fields ++ field ∷ [])
by_name_more table fields field type is known text =
    let see = option_map text_value in
    let p = λ (f : Field). bytes_eq f.text text in
    ap (option_map see) (named-with table field.text type text)
    ∙ mapped see (named table text) (bytes_eq field.text text) type
    ∙ ap (λ o. cond (is_some o) o (cond (bytes_eq field.text text) (Some (see type)) None)) (known text)
    ∙ ap (λ t. cond (is_some (option_map (λ (f : Field). f.type) (find p fields))) (option_map (λ (f : Field). f.type) (find p fields)) (cond (bytes_eq field.text text) (Some t) None)) is
    ∙ sym (ap (option_map (λ (f : Field). f.type)) (find_last p fields field) ∙ mapped (λ (f : Field). f.type) (find p fields) (bytes_eq field.text text) field)

-- ---- whether all have types

with_value : {A : Type 0} → Option (List A) → Option A → Option (List A)
with_value None o = None
with_value (Some xs) None = None
with_value (Some xs) (Some x) = Some (xs ++ x ∷ [])

value_behind : {A : Type 0} (x : A) (os : Option (List A)) (o : Option A) → option_map (λ xs. x ∷ xs) (with_value os o) ≡ with_value (option_map (λ xs. x ∷ xs) os) o
unfolding with_value
value_behind x None o = refl
value_behind x (Some xs) None = refl
value_behind x (Some xs) (Some y) = refl

all_typed_last : {A : Type 0} (xs : List (Option A)) (o : Option A) → all_typed (xs ++ o ∷ []) ≡ with_value (all_typed xs) o
unfolding with_value
all_typed_last [] None = refl
all_typed_last [] (Some x) = refl
all_typed_last (None ∷ xs) o = refl
all_typed_last (Some x ∷ xs) o = ap (option_map (λ ys. x ∷ ys)) (all_typed_last xs o) ∙ value_behind x (all_typed xs) o

type_mapped : (types : Option (List TextType)) (type : Option TextType) →
    option_map (map text_value) (with_type types type) ≡ with_value (option_map (map text_value) types) (option_map text_value type)
unfolding with_value
type_mapped None type = refl
type_mapped (Some types) None = refl
type_mapped (Some types) (Some type) = ap Some (map-append text_value types (type ∷ []))

types_more : (types new : Option (List TextType)) (fields : List Field) (field : Field) (type : Option TextType) → option_map text_value type ≡ field.type →
    new ≡ with_type types type → AreTypes types fields → AreTypes new (fields ++ field ∷ [])
types_more types new fields field type is more known =
    ap (option_map (map text_value)) more
    ∙ type_mapped types type
    ∙ ap (λ o. with_value o (option_map text_value type)) known
    ∙ ap (with_value (all_typed (map (λ (f : Field). f.type) fields))) is
    ∙ sym (ap all_typed (map-append (λ (f : Field). f.type) fields (field ∷ [])) ∙ all_typed_last (map (λ (f : Field). f.type) fields) field.type)

-- ---- one field more

get_field : (fields : List FieldDecl) (i : ℕ) (field : FieldDecl) → i < length fields → field ≡ get_or fields i field → slice_get (map field_tree fields) i ≡ Some (field_tree field)
get_field [] i field within is = absurd (omega (arith, within))
get_field (first ∷ fields) zero field within is = ap (λ f. Some (field_tree f)) (sym is)
get_field (first ∷ fields) (suc i) field within is = get_field fields i field (omega (arith, within)) is

pub fields_next : {start told new : Option Fault} (typed all_are : Bool) (types more_types : List TextType) (table more : List (List ℕ × Option TextType)) (own : List Bool)
    (names : List Declared) (written : FieldTypes) (n : ℕ) (fields : List FieldDecl) (k : ℕ) (field : FieldDecl) (type : Option TextType) →
    k < length fields → field ≡ get_or fields k field → AreAllowed own names written n (map field_tree fields) →
    IsField told new type table own k names (field_tree field) →
    typed_by all_are more_types ≡ with_type (typed_by typed types) type → more ≡ with_name table field.name.text type →
    FieldsSoFar start told typed types table own names written n (map field_tree fields) k (map field_tree (drop k fields)) →
    FieldsSoFar start new all_are more_types more own names written n (map field_tree fields) (k + 1) (map field_tree (drop (k + 1) fields))
fields_next {start} {told} {new} typed all_are types more_types table more own names written n fields k field type within is allowed judged typed-more table-more before =
    let tree = field_tree field in
    let J = judged_type names tree.ty in
    let others = map field_tree (drop (k + 1) fields) in
    let rest : map field_tree (drop k fields) ≡ tree ∷ others = ap (map field_tree) (from fields k field within is) in
    let may : get_or own k false ≡ is_allowed written n k J.type = allowed k tree (get_field fields k field within is) in
    let found : Field = record { text = tree.written.text; type = allowed_type written n k J.type } in
    let has : option_map text_value type ≡ found.type = judged.is ∙ ap (λ b. cond b J.type None) may in
    let later = field_faults names written n (k + 1) (tree.written.text ∷ before.before) others in
    let dup = unless (not (is_member bytes_eq before.before tree.written.text)) (duplicate_name tree.written.place) in
    let differs = unless (is_allowed written n k J.type) (type_differs (type_place tree.ty)) in
    let now : new ≡ with_first told (dup ++ J.faults ++ differs) =
    judged.told
    ∙ ap (λ b. with_first told (unless (not b) (duplicate_name tree.written.place) ++ J.faults ++ unless (get_or own k false) (type_differs (type_place tree.ty)))) (before.seen tree.written.text)
    ∙ ap (λ b. with_first told (dup ++ J.faults ++ unless b (type_differs (type_place tree.ty)))) may in
    record {
      done = before.done ++ found ∷ [];
      before = tree.written.text ∷ before.before;
      are = append_assoc before.done (found ∷ []) (fields_from names written n (k + 1) others)
          ∙ ap (λ fs. before.done ++ fields_from names written n k fs) (sym rest) ∙ before.are;
      by_name = subst (λ t. ByName t (before.done ++ found ∷ [])) (sym table-more) (by_name_more table before.done found type has before.by_name);
      are_typed = types_more (typed_by typed types) (typed_by all_are more_types) before.done found type has typed-more before.are_typed;
      seen = λ text. ap (λ t. is_named t text) table-more ∙ is_named-with table tree.written.text type text
          ∙ ap (λ b. b || is_named table text) (bytes_eq-symm tree.written.text text)
          ∙ ap (λ b. bytes_eq text tree.written.text || b) (before.seen text);
      faults = ap (λ f. with_first f later) now
          ∙ in_turn told (dup ++ J.faults ++ differs) later
          ∙ ap (λ fs. with_first told (field_faults names written n k before.before fs)) (sym rest)
          ∙ before.faults;
    }

pub fields_none : (start : Option Fault) (types : List TextType) (table : List (List ℕ × Option TextType)) (own : List Bool) (names : List Declared) (written : FieldTypes) (n : ℕ) (all : List TypedName) →
    types ≡ [] → table ≡ [] → FieldsSoFar start start true types table own names written n all 0 all
fields_none start types table own names written n all none nothing = record {
  done = [];
  before = [];
  are = refl;
  by_name = λ text. ap (λ t. option_map (option_map text_value) (named t text)) nothing;
  are_typed = ap (λ ts. option_map (map text_value) (Some ts)) none;
  seen = λ text. ap (λ t. is_named t text) nothing;
  faults = refl;
}

pub fields_end : {start told : Option Fault} (typed : Bool) (types : List TextType) (table : List (List ℕ × Option TextType)) (own : List Bool) (names : List Declared) (written : FieldTypes) (n : ℕ) (all : List TypedName) (k : ℕ) →
    FieldsSoFar start told typed types table own names written n all k [] → AreAllFields start told typed types table names written n all
fields_end {start} {told} typed types table own names written n all k h =
    let done : h.done ≡ fields_from names written n 0 all = sym (append-nil h.done) ∙ h.are in
    record {
      told_of = sym (with_none told) ∙ h.faults;
      by_name = subst (ByName table) done h.by_name;
      are_typed = subst (AreTypes (typed_by typed types)) done h.are_typed;
    }

pub drop_all : {X : Type 0} (xs : List X) (n : ℕ) → length xs ≤ n → drop n xs ≡ []
drop_all [] zero h = refl
drop_all [] (suc n) h = refl
drop_all (x ∷ xs) zero h = absurd (omega (arith, h))
drop_all (x ∷ xs) (suc n) h = drop_all xs n (omega (arith, h))
