-- The records of a project without faults.
use Rattle.std.proofs.Common.{◌≡◌, ℕ, zero, suc, ◌+◌, ◌<◌, ◌≤◌, Bool, true, false, cond, not, ◌&&◌, ◌||◌, nat_lt, nat_le, List, [], ◌∷◌, ◌++◌, map, take, length, get_or, filter_map, Option, Some, None, is_some, option_map, refl, sym, ap, ap₂, ◌∙◌, subst, arith}
use Rattle.std.specs.List.{AllByRecursion, list_all, list_any, sum, sum_by}
use Rattle.std.specs.Set.{is_member}
use Rattle.std.specs.Str.{bytes_eq}
use Rattle.std.proofs.lemmas.Bool.{and_parts, and_from, or_from, not-true, ltb-true, ltb-false}
use Rattle.std.proofs.lemmas.Bool.Decides.{nat_tests}
use Rattle.std.proofs.lemmas.List.{length-map}
use Rattle.std.proofs.lemmas.List.Sums.{sum_by-cons}
use Rattle.slang_values.specs.Value.{ValueType, unit_type, number_type, truth_type, sequence_type, record_type, Records, fields, is_known, parts_of_field, AreWellFormed, is_value_type}
use Rattle.slang_values.specs.Value as values
use Rattle.slang_tree.specs.TypeTree.{type_place}
use Rattle.slang_tree.specs.DeclTree.{TypedName, RecordDeclTree, DeclTree, import_decl, global_decl, record_decl, method_decl}
use Rattle.typed_programs.specs.WellTyped.{is_program_type}
use Rattle.type_rules.specs.Faults.{unless, duplicate_name, type_differs}
use Rattle.type_rules.specs.Meanings.{record_class, Declared, Field, all_typed, meaning_among}
use Rattle.type_rules.specs.Judged.{known_type}
use Rattle.type_rules.specs.TypeNames.{judged_type}
use Rattle.type_rules.specs.Records.{FieldTypes, types_of_record, leads_back, holds_itself, parts_with, parts_within, parts_brought, is_one_too_many, is_allowed, allowed_type}
use Rattle.type_rules.specs.Projects.{record_of, scope_over, outline_names, written_fields, fields_from, records_from, record_fields, field_faults, decl_faults}
use Rattle.typed_texts.specs.Code.{type_declared}
use Rattle.typed_texts.specs.TypedProjects.{records_of}
use Rattle.claim_typing.proofs.Parts.{both_nil, unless-nil}
use Rattle.value_typing.specs.Records.{without_faults}
use Rattle.value_typing.proofs.Faultless.{type-fair}
use Rattle.value_typing.proofs.Records.{records_end}
use Rattle.statement_typing.proofs.Types.{type_known}
use Rattle.statement_typing.proofs.Typed.{has_known}
use Rattle.declaration_typing.specs.Records.{IsFaultless, RecordsFit, RecordsAreWellFormed}
use Rattle.declaration_typing.proofs.Each.{AtEach, faultless_each, inner_of, count_more, found_among, class_below}

-- ---- lists

get_mapped : {A B : Type 0} (f : A → B) (xs : List A) (n : ℕ) (d : A) → get_or (map f xs) n (f d) ≡ f (get_or xs n d)
get_mapped f [] n d = refl
get_mapped f (x ∷ xs) zero d = refl
get_mapped f (x ∷ xs) (suc n) d = get_mapped f xs n d

get_past : {A : Type 0} (xs : List A) (n : ℕ) (d : A) → length xs ≤ n → get_or xs n d ≡ d
get_past [] n d h = refl
get_past (x ∷ xs) zero d h = absurd (omega (arith, h))
get_past (x ∷ xs) (suc n) d h = get_past xs n d (omega (arith, h))

module _ (names : List Declared) where
  -- the type that is written for a field
  abbrev pub field_is : TypedName → ValueType
  field_is field = known_type (judged_type names field.ty)

  -- The fields of record n from the place k on have types, which are allowed.
  abbrev pub AreAllowed : FieldTypes → ℕ → ℕ → List TypedName → Type 0
  AreAllowed written n k [] = Unit {0}
  AreAllowed written n k (field ∷ fields) =
      ((judged_type names field.ty).type ≡ Some (field_is field)) × (is_allowed written n k (Some (field_is field)) ≡ true)
      × AreAllowed written n (k + 1) fields

  pub allowed_fields : (written : FieldTypes) (n k : ℕ) (before : List (List ℕ)) (fields : List TypedName) →
      field_faults names written n k before fields ≡ [] → AreAllowed written n k fields
  allowed_fields written n k before [] h = tt
  allowed_fields written n k before (field ∷ fields) h =
      let part = judged_type names field.ty in
      let last = field_faults names written n (k + 1) (field.written.text ∷ before) fields in
      let own = unless (is_allowed written n k part.type) (type_differs (type_place field.ty)) in
      let once = unless (not (is_member bytes_eq before field.written.text)) (duplicate_name field.written.place) in
      let r = both_nil (once ++ part.faults ++ own) last h in
      let q = both_nil (once ++ part.faults) own r.0 in
      let p = both_nil once part.faults q.0 in
      let typed = has_known part ((type-fair names field.ty).0 p.1) in (
        typed,
        subst (λ o. is_allowed written n k o ≡ true) typed (unless-nil (is_allowed written n k part.type) (type_differs (type_place field.ty)) q.1),
        allowed_fields written n (k + 1) (field.written.text ∷ before) fields r.1,
      )

  -- of all records from number n on
  abbrev pub AllAllowed : FieldTypes → ℕ → List RecordDeclTree → Type 0
  AllAllowed written n [] = Unit {0}
  AllAllowed written n (decl ∷ decls) = AreAllowed written n 0 decl.fields × AllAllowed written (n + 1) decls

  -- the types of the fields of a record
  abbrev pub record_is : RecordDeclTree → List ValueType
  record_is decl = map field_is decl.fields

  allowed_is : (written : FieldTypes) (n k : ℕ) (field : TypedName) → (judged_type names field.ty).type ≡ Some (field_is field) →
      is_allowed written n k (Some (field_is field)) ≡ true → allowed_type written n k (judged_type names field.ty).type ≡ Some (field_is field)
  allowed_is written n k field typed allowed =
      ap (allowed_type written n k) typed ∙ ap (λ b. cond b (Some (field_is field)) None) allowed

  types_are : (written : FieldTypes) (n k : ℕ) (fields : List TypedName) → AreAllowed written n k fields →
      map (λ f. f.type) (fields_from names written n k fields) ≡ map (λ field. Some (field_is field)) fields
  types_are written n k [] h = refl
  types_are written n k (field ∷ fields) h =
      ap₂ (λ o os. o ∷ os) (allowed_is written n k field h.0 h.1) (types_are written n (k + 1) fields h.2)

  declared_are : (fs : List Field) (fields : List TypedName) → map (λ f. f.type) fs ≡ map (λ field. Some (field_is field)) fields →
      map (λ f. type_declared f.type) fs ≡ map field_is fields
  declared_are fs fields h = sym (mapped fs) ∙ ap (map type_declared) h ∙ back fields
    where
      mapped : (gs : List Field) → map type_declared (map (λ f. f.type) gs) ≡ map (λ f. type_declared f.type) gs
      mapped [] = refl
      mapped (g ∷ gs) = ap (λ ts. type_declared g.type ∷ ts) (mapped gs)

      back : (gs : List TypedName) → map type_declared (map (λ field. Some (field_is field)) gs) ≡ map field_is gs
      back [] = refl
      back (g ∷ gs) = ap (λ ts. field_is g ∷ ts) (back gs)

  all_typed_are : (fields : List TypedName) → all_typed (map (λ field. Some (field_is field)) fields) ≡ Some (map field_is fields)
  all_typed_are [] = refl
  all_typed_are (field ∷ fields) = ap (option_map (λ ts. field_is field ∷ ts)) (all_typed_are fields)

  each_some : (fs : List Field) (fields : List TypedName) → map (λ f. f.type) fs ≡ map (λ field. Some (field_is field)) fields →
      AllByRecursion (λ f. is_some f.type ≡ true) fs
  each_some [] fields h = tt
  each_some (f ∷ fs) [] h = absurd (let e : f.type ∷ map (λ g. g.type) fs ≡ [] = h in cc)
  each_some (f ∷ fs) (field ∷ fields) h = (
    ap (λ os. is_some (get_or os 0 None)) h,
    each_some fs fields (ap tail h),
  )
    where
      tail : List (Option ValueType) → List (Option ValueType)
      tail [] = []
      tail (o ∷ os) = os

  -- what is written for all records, where all is allowed
  written_are : (decls : List RecordDeclTree) (written : FieldTypes) (n : ℕ) → AllAllowed written n decls →
      map (λ decl. map (λ field. (judged_type names field.ty).type) decl.fields) decls ≡ without_faults (map record_is decls)
  written_are [] written n h = refl
  written_are (decl ∷ decls) written n h = ap₂ (λ ts tss. ts ∷ tss) (one decl.fields 0 h.0) (written_are decls written (n + 1) h.1)
    where
      one : (fields : List TypedName) (k : ℕ) → AreAllowed written n k fields →
          map (λ field. (judged_type names field.ty).type) fields ≡ map (λ t. Some t) (map field_is fields)
      one [] k h = refl
      one (field ∷ fields) k h = ap₂ (λ t ts. t ∷ ts) h.0 (one fields (k + 1) h.2)

  records_are : (decls : List RecordDeclTree) (written : FieldTypes) (n : ℕ) → AllAllowed written n decls →
      map (λ fields. map (λ f. type_declared f.type) fields) (records_from names written n decls) ≡ map record_is decls
  records_are [] written n h = refl
  records_are (decl ∷ decls) written n h =
      ap₂ (λ ts tss. ts ∷ tss) (declared_are (fields_from names written n 0 decl.fields) decl.fields (types_are written n 0 decl.fields h.0))
      (records_are decls written (n + 1) h.1)

  -- the record at a place
  record_at : (decls : List RecordDeclTree) (written : FieldTypes) (n k : ℕ) → AllAllowed written n decls → k < length decls →
      (decl : RecordDeclTree) × AreAllowed written (n + k) 0 decl.fields × (get_or (map record_is decls) k [] ≡ record_is decl)
      × (map (λ f. f.type) (get_or (records_from names written n decls) k []) ≡ map (λ field. Some (field_is field)) decl.fields)
  record_at [] written n k h there = absurd (omega (arith, there))
  record_at (decl ∷ decls) written n zero h there = (
    decl,
    subst (λ m. AreAllowed written m 0 decl.fields) (let e : n ≡ n + 0 = omega arith in e) h.0,
    refl,
    types_are written n 0 decl.fields h.0,
  )
  record_at (decl ∷ decls) written n (suc k) h there =
      let r = record_at decls written (n + 1) k h.1 (omega (arith, there)) in
      (r.0, subst (λ m. AreAllowed written m 0 r.0.fields) (let e : n + 1 + k ≡ n + suc k = omega arith in e) r.1, r.2, r.3)

-- ---- chains and parts

module _ (written : FieldTypes) (n : ℕ) where
  none_back : (names : List Declared) (k : ℕ) (fields : List TypedName) → AreAllowed names written n k fields →
      list_any (leads_back written n) (map (λ t. Some t) (map (field_is names) fields)) ≡ false
  none_back names k [] h = refl
  none_back names k (field ∷ fields) h =
      let t = Some (field_is names field) in
      let others = list_any (leads_back written n) (map (λ u. Some u) (map (field_is names) fields)) in
      or_from (leads_back written n t) others
      (not-true (leads_back written n t) (and_parts (not (leads_back written n t)) (holds_itself written n || not (is_one_too_many written n k)) h.1).0)
      (none_back names (k + 1) fields h.2)

  -- no place is the first past the limit
  abbrev NonePast : ℕ → List TypedName → Type 0
  NonePast k [] = Unit {0}
  NonePast k (field ∷ fields) = (is_one_too_many written n k ≡ false) × NonePast (k + 1) fields

  none_past : (names : List Declared) (k : ℕ) (fields : List TypedName) → holds_itself written n ≡ false → AreAllowed names written n k fields →
      NonePast k fields
  none_past names k [] held h = tt
  none_past names k (field ∷ fields) held h =
      let t = Some (field_is names field) in
      let p = and_parts (not (leads_back written n t)) (holds_itself written n || not (is_one_too_many written n k)) h.1 in
      (not-true (is_one_too_many written n k) (subst (λ b. (b || not (is_one_too_many written n k)) ≡ true) held p.1), none_past names (k + 1) fields held h.2)

  abbrev brought : List ℕ
  brought = parts_brought written (types_of_record written n)

  within_limit : (a b : ℕ) → a ≤ 1000 → (nat_le a 1000 && nat_lt 1000 b) ≡ false → b ≤ 1000
  within_limit a b h e = grind (arith, nat_tests)

  up_to : (k : ℕ) (fields : List TypedName) → NonePast k fields → sum (take k brought) ≤ 1000 → sum (take (k + length fields) brought) ≤ 1000
  up_to k [] h low = subst (λ m. sum (take m brought) ≤ 1000) (let e : k ≡ k + length {A = TypedName} [] = omega arith in e) low
  up_to k (field ∷ fields) h low =
      subst (λ m. sum (take m brought) ≤ 1000) (let e : k + 1 + length fields ≡ k + length (field ∷ fields) = omega arith in e)
      (up_to (k + 1) fields h.1 (subst (λ m. sum (take m brought) ≤ 1000) (let e : suc k ≡ k + 1 = omega arith in e)
      (within_limit (sum (take k brought)) (sum (take (suc k) brought)) low h.0)))

all_taken : (xs : List ℕ) (n : ℕ) → n ≡ length xs → take n xs ≡ xs
all_taken [] zero e = refl
all_taken [] (suc n) e = absurd (omega (arith, e))
all_taken (x ∷ xs) zero e = absurd (omega (arith, e))
all_taken (x ∷ xs) (suc n) e = ap (λ ys. x ∷ ys) (all_taken xs n (omega (arith, e)))

-- the parts of typed fields
sum_parts : (P : ℕ → ℕ) (ts : List ValueType) → sum (map (parts_with P) (map (λ t. Some t) ts)) ≡ length ts + sum_by (parts_of_field P) ts
sum_parts P [] = refl
sum_parts P (t ∷ ts) =
    omega (
      arith,
      sum_by-cons (λ (x : ℕ). x) (1 + parts_of_field P t) (map (parts_with P) (map (λ u. Some u) ts)),
      sum_by-cons (parts_of_field P) t ts,
      sum_parts P ts,
    )

field_more : (P Q : ℕ → ℕ) → ((n : ℕ) → P n ≤ Q n) → (t : ValueType) → parts_of_field P t ≤ parts_of_field Q t
field_more P Q h unit_type = omega arith
field_more P Q h number_type = omega arith
field_more P Q h truth_type = omega arith
field_more P Q h (sequence_type t) = omega arith
field_more P Q h (record_type n) = h n

sum_more : (P Q : ℕ → ℕ) → ((n : ℕ) → P n ≤ Q n) → (ts : List ValueType) → sum_by (parts_of_field P) ts ≤ sum_by (parts_of_field Q) ts
sum_more P Q h [] = omega arith
sum_more P Q h (t ∷ ts) =
    omega (arith, sum_by-cons (parts_of_field P) t ts, sum_by-cons (parts_of_field Q) t ts, field_more P Q h t, sum_more P Q h ts)

deeper : (records : Records) (depth n : ℕ) → values.parts_within records depth n ≤ values.parts_within records (suc depth) n
deeper records zero n = omega arith
deeper records (suc depth) n =
    omega (arith, sum_more (values.parts_within records depth) (values.parts_within records (suc depth)) (deeper records depth) (fields records n))

module _ (records : Records) (none : (n : ℕ) → holds_itself (without_faults records) n ≡ false) where
  abbrev all_written : FieldTypes
  all_written = without_faults records

  types_at : (n : ℕ) → types_of_record all_written n ≡ map (λ t. Some t) (fields records n)
  types_at n = get_mapped (map (λ t. Some t)) records n []

  same_parts : (depth n : ℕ) → parts_within all_written depth n ≡ values.parts_within records depth n
  same_parts zero n = refl
  same_parts (suc depth) n =
      ap (λ b. cond b 0 (sum (map (parts_with (parts_within all_written depth)) (types_of_record all_written n)))) (none n)
      ∙ ap (λ os. sum (map (parts_with (parts_within all_written depth)) os)) (types_at n)
      ∙ sum_parts (parts_within all_written depth) (fields records n)
      ∙ ap (λ (P : ℕ → ℕ). length (fields records n) + sum_by (parts_of_field P) (fields records n)) (λ i k. same_parts depth k i)

  -- what the fields of a record bring are its parts
  brought_are : (n : ℕ) → sum (parts_brought all_written (types_of_record all_written n)) ≡ values.parts_within records (suc (length records)) n
  brought_are n =
      ap (λ os. sum (map (parts_with (parts_within all_written (length all_written))) os)) (types_at n)
      ∙ sum_parts (parts_within all_written (length all_written)) (fields records n)
      ∙ ap (λ (P : ℕ → ℕ). length (fields records n) + sum_by (parts_of_field P) (fields records n)) (λ i k. same_parts (length all_written) k i)
      ∙ ap (λ d. length (fields records n) + sum_by (parts_of_field (values.parts_within records d)) (fields records n))
      (length-map records (map (λ t. Some t)))

-- ---- all records of a project

allowed_each : (decls : List DeclTree) (before rest : List DeclTree) → AtEach (λ front decl. decl_faults decls front decl ≡ []) before rest →
    AllAllowed (outline_names decls) (written_fields decls) (length (filter_map record_of before)) (filter_map record_of rest)
allowed_each decls before [] h = tt
allowed_each decls before (import_decl place path ∷ others) h =
    subst (λ n. AllAllowed (outline_names decls) (written_fields decls) n (filter_map record_of others))
    (count_more record_of before (import_decl place path) ∙ (let e : length (filter_map record_of before) + 0 ≡ length (filter_map record_of before) = omega arith in e))
    (allowed_each decls (before ++ import_decl place path ∷ []) others h.1)
allowed_each decls before (global_decl decl ∷ others) h =
    subst (λ n. AllAllowed (outline_names decls) (written_fields decls) n (filter_map record_of others))
    (count_more record_of before (global_decl decl) ∙ (let e : length (filter_map record_of before) + 0 ≡ length (filter_map record_of before) = omega arith in e))
    (allowed_each decls (before ++ global_decl decl ∷ []) others h.1)
allowed_each decls before (method_decl decl ∷ others) h =
    subst (λ n. AllAllowed (outline_names decls) (written_fields decls) n (filter_map record_of others))
    (count_more record_of before (method_decl decl) ∙ (let e : length (filter_map record_of before) + 0 ≡ length (filter_map record_of before) = omega arith in e))
    (allowed_each decls (before ++ method_decl decl ∷ []) others h.1)
allowed_each decls before (record_decl decl ∷ others) h = (
  allowed_fields (outline_names decls) (written_fields decls) (length (filter_map record_of before)) 0 [] decl.fields (inner_of decls before (record_decl decl) h.0),
  subst (λ n. AllAllowed (outline_names decls) (written_fields decls) n (filter_map record_of others)) (count_more record_of before (record_decl decl))
      (allowed_each decls (before ++ record_decl decl ∷ []) others h.1),
)

module _ (decls : List DeclTree) (faultless : IsFaultless decls) where
  abbrev names : List Declared
  names = outline_names decls

  abbrev rs : List RecordDeclTree
  rs = filter_map record_of decls

  abbrev written : FieldTypes
  written = written_fields decls

  allowed : AllAllowed names written 0 rs
  allowed = allowed_each decls [] decls (faultless_each decls [] decls faultless)

  are_records : records_of decls ≡ map (record_is names) rs
  are_records = records_are names rs written 0 allowed

  are_written : written ≡ without_faults (records_of decls)
  are_written = written_are names rs written 0 allowed ∙ ap without_faults (sym are_records)

  count_records : length (records_of decls) ≡ length rs
  count_records = ap length are_records ∙ length-map rs (record_is names)

  class_there : (text : List ℕ) (n : ℕ) → meaning_among names text ≡ Some (record_class n) → n < length (records_of decls)
  class_there text n h =
      omega (arith, class_below (scope_over [] []) decls 0 0 decls text n (found_among (scope_over [] []) decls 0 0 decls text (record_class n) h), count_records)

  fields_at : (n : ℕ) → n < length (records_of decls) → (decl : RecordDeclTree) × AreAllowed names written (0 + n) 0 decl.fields
      × (get_or (map (record_is names) rs) n [] ≡ record_is names decl)
      × (map (λ f. f.type) (get_or (records_from names written 0 rs) n []) ≡ map (λ field. Some (field_is names field)) decl.fields)
  fields_at n there = record_at names rs written 0 n allowed (omega (arith, there, count_records))

  fields_are : (n : ℕ) (there : n < length (records_of decls)) → fields (records_of decls) n ≡ record_is names (fields_at n there).0
  fields_are n there = ap (λ (r : Records). get_or r n []) are_records ∙ (fields_at n there).2

  -- for all numbers, also those of no record
  or_past : (P : ℕ → Type 0) → ((n : ℕ) → n < length (records_of decls) → P n) → ((n : ℕ) → length (records_of decls) ≤ n → P n) → (n : ℕ) → P n
  or_past P inside past n = at (nat_lt n (length (records_of decls))) refl
    where
      at : (b : Bool) → nat_lt n (length (records_of decls)) ≡ b → P n
      at true e = inside n (ltb-true n (length (records_of decls)) e)
      at false e = past n (ltb-false n (length (records_of decls)) e)

  no_fields : (n : ℕ) → length (records_of decls) ≤ n → fields (records_of decls) n ≡ []
  no_fields n h = get_past (records_of decls) n [] h

  holds_none : (n : ℕ) → n < length (records_of decls) → holds_itself written n ≡ false
  holds_none n there =
      let r = fields_at n there in
      let h = subst (λ m. AreAllowed names written m 0 r.0.fields) (let e : 0 + n ≡ n = omega arith in e) r.1 in
      subst (λ ts. list_any (leads_back written n) ts ≡ false)
      (sym (ap (λ (w : FieldTypes). get_or w n []) are_written ∙ get_mapped (map (λ t. Some t)) (records_of decls) n [] ∙ ap (map (λ t. Some t)) (fields_are n there)))
      (none_back written n names 0 r.0.fields h)

  none_hold : (n : ℕ) → holds_itself (without_faults (records_of decls)) n ≡ false
  none_hold = or_past (λ n. holds_itself (without_faults (records_of decls)) n ≡ false)
      (λ n there. subst (λ (w : FieldTypes). holds_itself w n ≡ false) are_written (holds_none n there))
      (λ n past. subst (λ ts. list_any (leads_back (without_faults (records_of decls)) n) ts ≡ false)
      (sym (get_mapped (map (λ t. Some t)) (records_of decls) n [] ∙ ap (map (λ t. Some t)) (no_fields n past))) refl)

  few_parts : (n : ℕ) → n < length (records_of decls) → values.parts_within (records_of decls) (length (records_of decls)) n ≤ 1000
  few_parts n there =
      let r = fields_at n there in
      let h = subst (λ m. AreAllowed names written m 0 r.0.fields) (let e : 0 + n ≡ n = omega arith in e) r.1 in
      let low = up_to written n 0 r.0.fields (none_past written n names 0 r.0.fields (holds_none n there) h) (omega arith) in
      let types = ap (λ (w : FieldTypes). get_or w n []) are_written ∙ get_mapped (map (λ t. Some t)) (records_of decls) n []
      ∙ ap (map (λ t. Some t)) (fields_are n there) in
      let count : 0 + length r.0.fields ≡ length (parts_brought written (types_of_record written n)) =
      (let e : 0 + length r.0.fields ≡ length r.0.fields = omega arith in e) ∙ sym (length-map r.0.fields (field_is names))
      ∙ sym (length-map (record_is names r.0) (λ t. Some t)) ∙ sym (ap length types)
      ∙ sym (length-map (types_of_record written n) (parts_with (parts_within written (length written)))) in
      let all = subst (λ (xs : List ℕ). sum xs ≤ 1000) (all_taken (parts_brought written (types_of_record written n)) (0 + length r.0.fields) count) low in
      let parts = subst (λ (w : FieldTypes). sum (parts_brought w (types_of_record w n)) ≤ 1000) are_written all in
      omega (arith, parts, brought_are (records_of decls) none_hold n, deeper (records_of decls) (length (records_of decls)) n)

  program_types : (n k : ℕ) (fields : List TypedName) → AreAllowed names written n k fields →
      list_all (is_program_type (records_of decls)) (map (field_is names) fields) ≡ true
  program_types n k [] h = refl
  program_types n k (field ∷ fields) h =
      and_from (is_program_type (records_of decls) (field_is names field)) (list_all (is_program_type (records_of decls)) (map (field_is names) fields))
      (type_known (records_of decls) names class_there field.ty (field_is names field) h.0) (program_types n (k + 1) fields h.2)

  all_left : (p q : ValueType → Bool) (ts : List ValueType) → list_all (λ t. p t && q t) ts ≡ true → (list_all p ts ≡ true) × (list_all q ts ≡ true)
  all_left p q [] h = (refl, refl)
  all_left p q (t ∷ ts) h =
      let a = and_parts (p t && q t) (list_all (λ u. p u && q u) ts) h in
      let b = and_parts (p t) (q t) a.0 in
      let c = all_left p q ts a.1 in
      (and_from (p t) (list_all p ts) b.0 c.0, and_from (q t) (list_all q ts) b.1 c.1)

  both_kinds : (n : ℕ) → (list_all is_value_type (fields (records_of decls) n) ≡ true) × (list_all (is_known (records_of decls)) (fields (records_of decls) n) ≡ true)
  both_kinds = or_past
      (λ n. (list_all is_value_type (fields (records_of decls) n) ≡ true) × (list_all (is_known (records_of decls)) (fields (records_of decls) n) ≡ true))
      (λ n there. let r = fields_at n there in
      all_left is_value_type (is_known (records_of decls)) (fields (records_of decls) n)
      (subst (λ ts. list_all (is_program_type (records_of decls)) ts ≡ true) (sym (fields_are n there)) (program_types (0 + n) 0 r.0.fields r.1)))
      (λ n past. subst (λ ts. (list_all is_value_type ts ≡ true) × (list_all (is_known (records_of decls)) ts ≡ true)) (sym (no_fields n past)) (refl, refl))

  same_count : length (record_fields decls) ≡ length (records_of decls)
  same_count = sym (length-map (record_fields decls) (map (λ f. type_declared f.type)))

  pub records_fit : RecordsFit decls
  records_fit = record {
    well_formed = record {
      known = λ n there. (both_kinds n).1;
      finite = records_end (records_of decls) (λ n there. (both_kinds n).1) (λ n there. none_hold n);
      small = few_parts;
    };
    same_fields = or_past (λ n. all_typed (map (λ f. f.type) (get_or (record_fields decls) n [])) ≡ Some (fields (records_of decls) n))
        (λ n there. let r = fields_at n there in ap all_typed r.3 ∙ all_typed_are names r.0.fields ∙ ap Some (sym (fields_are n there)))
        (λ n past. ap (λ fs. all_typed (map (λ (f : Field). f.type) fs)) (get_past (record_fields decls) n [] (omega (arith, past, same_count)))
        ∙ ap Some (sym (no_fields n past)));
    typed_fields = or_past (λ n. AllByRecursion (λ f. is_some f.type ≡ true) (get_or (record_fields decls) n []))
        (λ n there. let r = fields_at n there in each_some names (get_or (record_fields decls) n []) r.0.fields r.3)
        (λ n past. subst (λ fs. AllByRecursion (λ (f : Field). is_some f.type ≡ true) fs) (sym (get_past (record_fields decls) n [] (omega (arith, past, same_count)))) tt);
    known_fields = λ n. (both_kinds n).1;
    value_fields = λ n. (both_kinds n).0;
    classes = class_there;
  }

pub records_well_formed : RecordsAreWellFormed
records_well_formed decls faultless = records_fit decls faultless
