-- What is written is read, and only that: of whole legs.
use Rattle.std.specs.Prelude.{nat_eq}
use Rattle.std.proofs.Common.{◌≡◌, Bool, true, false, cond, ℕ, ◌≤◌, List, [], ◌∷◌, ◌++◌, length, append_assoc, append-nil, Option, Some, None, refl, sym, ap, ◌∙◌, arith}
use Rattle.std.specs.List.{AllByRecursion}
use Rattle.std.proofs.lemmas.Option.{same_Some}
use Rattle.slang_values.specs.Value.{ValueType}
use Rattle.program_trees.specs.Legs.{LegTree}
use Rattle.key_rules.specs.Codes
use Rattle.key_rules.specs.Writing.{list_bytes, type_bytes, item_bytes, encode}
use Rattle.key_rules.specs.Fits.{FitsList, FitsType, FitsItem, FitsLeg}
use Rattle.key_rules.specs.Depths.{type_depth, item_depth, IsWithin}
use Rattle.key_rules.specs.Readers.{Reader, given, ◌>>=◌, read_coded, read_list}
use Rattle.key_rules.specs.Reading.{read_type, read_item, itself, read_leg, whole, all_of, decode}
use Rattle.key_rules.specs.Laws.{KeysAreRead, OnlyKeysAreRead, KeysTellLegsApart, KeysOfWellFormedLegs}
use Rattle.key_rules.proofs.Readers.{bind, unbind, none_some, TakesOnly, ReadsBack, given_back, coded_back, coded_takes, IsFound, list_back, list_takes}
use Rattle.key_rules.proofs.Claims.{Below, type_long, type_back, type_takes}
use Rattle.key_rules.proofs.Steps.{item_long, item_back, item_takes}
use Rattle.key_rules.proofs.Lengths.{keys_are_long}

profile_alone : (n : ℕ) → IsFound itself (Codes.profile ∷ []) n → n ≡ Codes.profile
profile_alone n h = by (nat_eq 1 n) h where
  by : (b : Bool) → cond b (Some 1) None ≡ Some n → n ≡ 1
  by true k = sym (same_Some 1 n k)
  by false k = absurd (none_some n k)

-- what fits and what is low, together
both : {A : Type 0} (measure : A → ℕ) (fits : A → Type 0) (depth : ℕ) (xs : List A) → AllByRecursion fits xs → AllByRecursion (λ x. measure x ≤ depth) xs
    → AllByRecursion (Below measure fits depth) xs
both measure fits depth [] h low = tt
both measure fits depth (x ∷ xs) h low = (record { fit = h.0; low = low.0 }, both measure fits depth xs h.1 low.1)

-- the types of a record's fields
abbrev fields_bytes : List ValueType → List ℕ
fields_bytes types = list_bytes type_bytes types

fields_long : (types : List ValueType) → 1 ≤ length (fields_bytes types)
fields_long types = omega arith

module _ (depth : ℕ) where
  abbrev short_type : ValueType → Type 0
  short_type t = Below type_depth FitsType depth t

  types_back : ReadsBack fields_bytes (FitsList short_type) (read_list (read_type depth))
  types_back = list_back type_bytes short_type (read_type depth) (type_back depth) (λ t h. type_long t h.fit)

  records_back : ReadsBack (list_bytes fields_bytes) (FitsList (FitsList short_type)) (read_list (read_list (read_type depth)))
  records_back = list_back fields_bytes (FitsList short_type) (read_list (read_type depth)) types_back (λ types h. fields_long types)

  items_back : ReadsBack (list_bytes item_bytes) (FitsList (Below item_depth FitsItem depth)) (read_list (read_item depth))
  items_back = list_back item_bytes (Below item_depth FitsItem depth) (read_item depth) (item_back depth) (λ item h. item_long item)

  records_below : (records : List (List ValueType)) → AllByRecursion (FitsList FitsType) records
      → AllByRecursion (AllByRecursion (λ t. type_depth t ≤ depth)) records → AllByRecursion (FitsList short_type) records
  records_below [] h low = tt
  records_below (types ∷ records) h low =
      ((h.0.0, both type_depth FitsType depth types h.0.1 low.0), records_below records h.1 low.1)

  -- ---- legs

  abbrev after_variables : List (List ValueType) → List ValueType → Reader LegTree
  after_variables records variables = read_list (read_item depth) >>= λ items. given (record { records = records; variables = variables; items = items })

  abbrev after_records : List (List ValueType) → Reader LegTree
  after_records records = read_list (read_type depth) >>= after_variables records

  abbrev after_profile : ℕ → Reader LegTree
  after_profile first = read_list (read_list (read_type depth)) >>= after_records

  pub leg_back : (leg : LegTree) (rest : List ℕ) → FitsLeg leg → IsWithin depth leg → read_leg depth (encode leg ++ rest) ≡ Some (leg, rest)
  leg_back leg rest fits within =
      let a = list_bytes fields_bytes leg.records in
      let b = list_bytes type_bytes leg.variables in
      let c = list_bytes item_bytes leg.items in
      let apart : (a ++ (b ++ c)) ++ rest ≡ a ++ (b ++ (c ++ rest)) =
      append_assoc a (b ++ c) rest ∙ ap (λ l. a ++ l) (append_assoc b c rest) in
      coded_back itself (Codes.profile ∷ []) Codes.profile after_profile ((a ++ (b ++ c)) ++ rest) _ refl
      (ap (after_profile Codes.profile) apart
      ∙ bind (read_list (read_list (read_type depth))) after_records (a ++ (b ++ (c ++ rest))) leg.records (b ++ (c ++ rest)) _
      (records_back leg.records (b ++ (c ++ rest)) (fits.records.0, records_below leg.records fits.records.1 within.records))
      (bind (read_list (read_type depth)) (after_variables leg.records) (b ++ (c ++ rest)) leg.variables (c ++ rest) _
      (types_back leg.variables (c ++ rest) (fits.variables.0, both type_depth FitsType depth leg.variables fits.variables.1 within.variables))
      (bind (read_list (read_item depth)) (λ items. given (record { records = leg.records; variables = leg.variables; items = items })) (c ++ rest)
      leg.items rest _ (items_back leg.items rest (fits.items.0, both item_depth FitsItem depth leg.items fits.items.1 within.items)) refl)))

  pub leg_takes : TakesOnly encode FitsLeg (read_leg depth)
  leg_takes bytes leg rest are h =
      let s = unbind (read_coded itself (Codes.profile ∷ [])) after_profile bytes leg rest h in
      let o = coded_takes itself (Codes.profile ∷ []) bytes s.value s.middle are s.first in
      let first : s.value ≡ Codes.profile = profile_alone s.value o.fit in
      let u = unbind (read_list (read_list (read_type depth))) after_records s.middle leg rest s.second in
      let p = list_takes fields_bytes (FitsList FitsType) (read_list (read_type depth))
      (list_takes type_bytes FitsType (read_type depth) (type_takes depth)) s.middle u.value u.middle o.left u.first in
      let v = unbind (read_list (read_type depth)) (after_variables u.value) u.middle leg rest u.second in
      let q = list_takes type_bytes FitsType (read_type depth) (type_takes depth) u.middle v.value v.middle p.left v.first in
      let w = unbind (read_list (read_item depth)) (λ items. given (record { records = u.value; variables = v.value; items = items })) v.middle leg rest
      v.second in
      let r = list_takes item_bytes FitsItem (read_item depth) (item_takes depth) v.middle w.value w.middle q.left w.first in
      let a = list_bytes fields_bytes u.value in
      let b = list_bytes type_bytes v.value in
      let c = list_bytes item_bytes w.value in
      given_back encode FitsLeg bytes (record { records = u.value; variables = v.value; items = w.value }) leg w.middle rest w.second
      (record {
        same = o.same ∙ ap (λ n. n ∷ s.middle) first ∙ ap (λ l. Codes.profile ∷ l)
            (p.same ∙ ap (λ l. a ++ l) (q.same ∙ ap (λ l. b ++ l) r.same ∙ sym (append_assoc b c w.middle)) ∙ sym (append_assoc a (b ++ c) w.middle));
        fit = record { records = p.fit; variables = q.fit; items = r.fit };
        left = r.left;
      })

-- ---- the laws

pub keys_are_read : KeysAreRead
keys_are_read leg h =
    let depth = length (encode leg) in
    ap (λ l. all_of (read_leg depth l)) (sym (append-nil (encode leg)))
    ∙ ap all_of (leg_back depth leg [] h (keys_are_long leg h))

-- this was read, and nothing is left
abbrev pub IsAll : {A : Type 0} → Option (A × List ℕ) → A → Type 0
IsAll o a = o ≡ Some (a, [])

whole_is : {A : Type 0} (a b : A) (rest : List ℕ) → whole a rest ≡ Some b → IsAll (Some (a, rest)) b
whole_is a b [] h = ap (λ x. Some (x, [])) (same_Some a b h)
whole_is a b (first ∷ rest) h = absurd (none_some b h)

pub all_is : {A : Type 0} (o : Option (A × List ℕ)) (a : A) → all_of o ≡ Some a → IsAll o a
all_is None a h = absurd (none_some a h)
all_is (Some p) a h = whole_is p.0 a p.1 h

pub only_keys_are_read : OnlyKeysAreRead
only_keys_are_read bytes leg are h =
    let p = leg_takes (length bytes) bytes leg [] are (all_is (read_leg (length bytes) bytes) leg h) in
    (sym (p.same ∙ append-nil (encode leg)), p.fit)

pub keys_tell_legs_apart : KeysTellLegsApart
keys_tell_legs_apart a b fits_a fits_b same = same_Some a b (sym (keys_are_read a fits_a) ∙ ap decode same ∙ keys_are_read b fits_b)

pub keys_of_well_formed_legs : KeysOfWellFormedLegs
keys_of_well_formed_legs bytes leg are formed = (
  λ key. ap decode (sym key.written) ∙ keys_are_read leg key.fits,
  λ h. (let p = only_keys_are_read bytes leg are h in record { well_formed = formed; fits = p.1; written = p.0 }),
)
