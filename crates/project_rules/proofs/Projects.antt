-- No file of a project has a fault exactly where the project is well typed.
use Rattle.std.proofs.Common.{◌≡◌, ℕ, zero, suc, ◌+◌, ◌==◌, true, false, cond, not, bytes_eq, List, [], ◌∷◌, ◌++◌, map, length, get_or, filter_map, Option, Some, None, is_some, option_map, refl, sym, ap, ◌∙◌, subst, arith, append_assoc, append-nil}
use Rattle.std.specs.List.{AllByRecursion, flat_map, cons_option}
use Rattle.std.specs.Set.{is_member}
use Rattle.std.proofs.lemmas.Bool.{false≢true}
use Rattle.slang_values.specs.Value.{ValueType}
use Rattle.slang_tree.specs.declared.place.Fault.{Fault}
use Rattle.slang_tree.specs.declared.place.FileFault.{FileFault}
use Rattle.slang_tree.specs.TypeTree.{TypeTree, type_place}
use Rattle.slang_tree.specs.DeclTree.{TypedName, GlobalDeclTree, RecordDeclTree, DeclTree, import_decl, global_decl, record_decl, method_decl}
use Rattle.type_rules.specs.Faults.{unless, duplicate_name, type_differs, first_fault}
use Rattle.type_rules.specs.Meanings.{Meaning, Declared, Field, Scope, is_well_declared, all_typed}
use Rattle.type_rules.specs.Records.{FieldTypes, is_allowed, allowed_type}
use Rattle.type_rules.specs.Judged.{Judged, known_type, faults_against_optional}
use Rattle.type_rules.specs.TypeNames.{judged_type}
use Rattle.type_rules.specs.Expressions.{in_program}
use Rattle.type_rules.specs.Constants.{judged_const}
use Rattle.type_rules.specs.Statements.{any_but_unit, unit_faults, declared_type, value_faults}
use Rattle.type_rules.specs.Projects.{FileTree, in_order, declarations, record_of, method_of, name_of, signature_of, fields_from, records_from, record_fields, outline_names, written_fields, outline_of, scope_of, global_faults, field_faults, space_faults, inner_faults, count_faults, decl_faults, decls_faults, files_faults, first_of_file}
use Rattle.claim_typing.proofs.Parts.{both_nil, unless-nil}
use Rattle.value_typing.specs.Faultless.{IsWellDeclared}
use Rattle.value_typing.proofs.Faultless.{type-fair}
use Rattle.statement_typing.proofs.Lists.{AreNew, new_distinct, bytes_flip, unless_not}
use Rattle.statement_typing.proofs.Typed.{has_known}
use Rattle.typing_rules.proofs.Parts.{nil_both, type_to, type_from}
use Rattle.statement_rules.specs.Statements.{DeclaredAs}
use Rattle.statement_rules.proofs.Sides.{distinct_new, none_before, unit_to, unit_from, against_from}
use Rattle.declaration_typing.specs.Records.{IsFaultless, RecordsFit}
use Rattle.declaration_typing.proofs.Each.{AtEach, at_each_weaker, faultless_each, inner_of, count_more, found_among}
use Rattle.declaration_typing.proofs.Records.{records_fit}
use Rattle.project_typing.proofs.Meanings.{AllMeant, found_all, IsClean, clean_each}
use Rattle.project_typing.proofs.Globals.{global_declares}
use Rattle.project_typing.proofs.Methods.{clean_method, signature_there}
use Rattle.project_typing.proofs.Faultless.{project_faultless}
use Rattle.project_rules.specs.Projects.{IsTypedGlobal, AreTypedFields, IsTypedRecord, AreTypedDecls, IsTypedProject, NoFaultWhereTyped}
use Rattle.project_rules.proofs.Constants.{const_to, const_from, const_none}
use Rattle.project_rules.proofs.Methods.{method_to, method_from, typed_signature}
use Rattle.project_rules.proofs.Spaces.{names_to, names_from, count_to, count_from, one_to, one_from}

-- ---- globals

global_to : (decls : List DeclTree) → RecordsFit decls → (decl : GlobalDeclTree) → global_faults (outline_of decls) decl ≡ [] → IsTypedGlobal (outline_of decls) decl
global_to decls fit decl h =
    let d = global_declares decls fit 0 [] decl h in (
      d.0,
      as_written decl.ty d.0 (judged_const (outline_of decls) decl.init) d.1.declared d.1.typed h,
      const_to (outline_of decls) decl.init d.0 d.1.typed,
    )
  where
    as_written : (ty : Option TypeTree) (t : ValueType) (side : Judged) → declared_type (outline_of decls) ty side ≡ Some t → side.type ≡ Some t →
        value_faults (outline_of decls) ty side ≡ [] → DeclaredAs (outline_of decls) ty t
    as_written None t side declared typed k =
        unit_to t side.place (subst (λ o. unit_faults o side.place ≡ []) typed (both_nil side.faults (unit_faults side.type side.place) k).1)
    as_written (Some ty) t side declared typed k = type_to (outline_of decls).names ty t declared

-- what is found of a global that is well typed
record IsFound (outline : Scope) (decl : GlobalDeclTree) : Type 0 where
  none : global_faults outline decl ≡ []
  declared : is_some (declared_type outline decl.ty (judged_const outline decl.init)) ≡ true

value_found : (outline : Scope) (ty : Option TypeTree) (side : Judged) (t : ValueType) → DeclaredAs outline ty t → side.faults ≡ [] → side.type ≡ Some t →
    (value_faults outline ty side ≡ []) × (is_some (declared_type outline ty side) ≡ true)
value_found outline None side t is none typed =
    let u = unit_from t side.place is in (
      nil_both side.faults (unit_faults side.type side.place) none (subst (λ o. unit_faults o side.place ≡ []) (sym typed) u.0),
      ap is_some (ap any_but_unit typed ∙ u.1),
    )
value_found outline (Some ty) side t is none typed =
    let written = judged_type outline.names ty in
    let e = type_from outline.names ty t is in (
      nil_both written.faults (faults_against_optional written.type side) ((type-fair outline.names ty).1 (ap is_some e))
          (subst (λ o. faults_against_optional o side ≡ []) (sym e) (against_from t side none typed)),
      ap is_some e,
    )

global_from : (outline : Scope) (decl : GlobalDeclTree) → IsTypedGlobal outline decl → IsFound outline decl
global_from outline decl h =
    let typed = const_from outline decl.init h.0 h.2 in
    let v = value_found outline decl.ty (judged_const outline decl.init) h.0 h.1 (const_none outline decl.init (ap is_some typed)) typed in
    record { none = v.0; declared = v.1 }

-- ---- records

fields_to : (names : List Declared) (written : FieldTypes) (n k : ℕ) (before : List (List ℕ)) (fields : List TypedName) →
    field_faults names written n k before fields ≡ [] →
    AreNew bytes_eq before (map (λ field. field.written.text) fields) × AreTypedFields names written n k fields
fields_to names written n k before [] h = (tt, tt)
fields_to names written n k before (field ∷ fields) h =
    let part = judged_type names field.ty in
    let once = unless (not (is_member bytes_eq before field.written.text)) (duplicate_name field.written.place) in
    let own = unless (is_allowed written n k part.type) (type_differs (type_place field.ty)) in
    let r = both_nil (once ++ part.faults ++ own) (field_faults names written n (k + 1) (field.written.text ∷ before) fields) h in
    let q = both_nil (once ++ part.faults) own r.0 in
    let p = both_nil once part.faults q.0 in
    let typed = has_known part ((type-fair names field.ty).0 p.1) in
    let rest = fields_to names written n (k + 1) (field.written.text ∷ before) fields r.1 in (
      (unless_not (is_member bytes_eq before field.written.text) (duplicate_name field.written.place) p.0, rest.0),
      (
        (
          known_type part,
          type_to names field.ty (known_type part) typed,
          subst (λ o. is_allowed written n k o ≡ true) typed (unless-nil (is_allowed written n k part.type) (type_differs (type_place field.ty)) q.1),
        ),
        rest.1,
      ),
    )

fields_none : (names : List Declared) (written : FieldTypes) (n k : ℕ) (before : List (List ℕ)) (fields : List TypedName) →
    AreNew bytes_eq before (map (λ field. field.written.text) fields) → AreTypedFields names written n k fields →
    field_faults names written n k before fields ≡ []
fields_none names written n k before [] new h = refl
fields_none names written n k before (field ∷ fields) new h =
    let part = judged_type names field.ty in
    let once = unless (not (is_member bytes_eq before field.written.text)) (duplicate_name field.written.place) in
    let own = unless (is_allowed written n k part.type) (type_differs (type_place field.ty)) in
    let typed = type_from names field.ty h.0.0 h.0.1 in
    nil_both (once ++ part.faults ++ own) (field_faults names written n (k + 1) (field.written.text ∷ before) fields)
    (nil_both (once ++ part.faults) own
    (nil_both once part.faults (ap (λ b. unless (not b) (duplicate_name field.written.place)) new.0) ((type-fair names field.ty).1 (ap is_some typed)))
    (ap (λ o. unless (is_allowed written n k o) (type_differs (type_place field.ty))) typed ∙ ap (λ b. unless b (type_differs (type_place field.ty))) h.0.2))
    (fields_none names written n (k + 1) (field.written.text ∷ before) fields new.1 h.1)

record_to : (decls : List DeclTree) (n : ℕ) (decl : RecordDeclTree) → field_faults (outline_names decls) (written_fields decls) n 0 [] decl.fields ≡ [] →
    IsTypedRecord decls n decl
record_to decls n decl h =
    let r = fields_to (outline_names decls) (written_fields decls) n 0 [] decl.fields h in
    (new_distinct bytes_eq bytes_flip [] (map (λ field. field.written.text) decl.fields) r.0, r.1)

record_from : (decls : List DeclTree) (n : ℕ) (decl : RecordDeclTree) → IsTypedRecord decls n decl →
    field_faults (outline_names decls) (written_fields decls) n 0 [] decl.fields ≡ []
record_from decls n decl h =
    let texts = map (λ (field : TypedName). field.written.text) decl.fields in
    fields_none (outline_names decls) (written_fields decls) n 0 [] decl.fields (distinct_new bytes_eq bytes_flip [] texts (none_before bytes_eq texts) h.0) h.1

-- the fields of records have types
fields_some : (names : List Declared) (written : FieldTypes) (n k : ℕ) (fields : List TypedName) → AreTypedFields names written n k fields →
    AllByRecursion (λ f. is_some f.type ≡ true) (fields_from names written n k fields)
fields_some names written n k [] h = tt
fields_some names written n k (field ∷ fields) h = (
  ap is_some (ap (allowed_type written n k) (type_from names field.ty h.0.0 h.0.1) ∙ ap (λ b. cond b (Some h.0.0) None) h.0.2),
  fields_some names written n (k + 1) fields h.1,
)

records_some : (decls : List DeclTree) (n : ℕ) (rest : List DeclTree) → AreTypedDecls decls n rest →
    AllByRecursion (λ fs. AllByRecursion (λ (f : Field). is_some f.type ≡ true) fs)
    (records_from (outline_names decls) (written_fields decls) n (filter_map record_of rest))
records_some decls n [] h = tt
records_some decls n (import_decl place path ∷ others) h = records_some decls n others h
records_some decls n (global_decl decl ∷ others) h = records_some decls n others h.1
records_some decls n (record_decl decl ∷ others) h =
    (fields_some (outline_names decls) (written_fields decls) n 0 decl.fields h.0.1, records_some decls (n + 1) others h.1)
records_some decls n (method_decl decl ∷ others) h = records_some decls n others h.1

at_number : (xss : List (List Field)) → AllByRecursion (λ fs. AllByRecursion (λ (f : Field). is_some f.type ≡ true) fs) xss → (n : ℕ) →
    AllByRecursion (λ (f : Field). is_some f.type ≡ true) (get_or xss n [])
at_number [] h n = tt
at_number (fs ∷ xss) h zero = h.0
at_number (fs ∷ xss) h (suc n) = at_number xss h.1 n

some_types : (fs : List Field) → AllByRecursion (λ f. is_some f.type ≡ true) fs → is_some (all_typed (map (λ f. f.type) fs)) ≡ true
some_types [] h = refl
some_types (f ∷ fs) h = at f.type h.0 (some_types fs h.1)
  where
    at : (o : Option ValueType) → is_some o ≡ true → is_some (all_typed (map (λ f. f.type) fs)) ≡ true →
        is_some (all_typed (o ∷ map (λ (g : Field). g.type) fs)) ≡ true
    at None h k = absurd (false≢true h)
    at (Some t) h k = more (all_typed (map (λ f. f.type) fs)) k
      where
        more : (ts : Option (List ValueType)) → is_some ts ≡ true → is_some (option_map (λ us. t ∷ us) ts) ≡ true
        more None k = k
        more (Some us) k = refl

-- ---- what is written for the types of names has no fault

-- the declaration has a type, or a signature
abbrev IsOutlined : List DeclTree → DeclTree → Type 0
IsOutlined decls (import_decl place path) = Unit {0}
IsOutlined decls (global_decl decl) = is_some (declared_type (outline_of decls) decl.ty (judged_const (outline_of decls) decl.init)) ≡ true
IsOutlined decls (record_decl decl) = Unit {0}
IsOutlined decls (method_decl decl) = is_some (signature_of (outline_names decls) decl) ≡ true

abbrev Known : List DeclTree → List ℕ → Meaning → Type 0
Known decls text m = is_well_declared (scope_of decls) m ≡ true

all_known : (decls : List DeclTree) → ((n : ℕ) → AllByRecursion (λ (f : Field). is_some f.type ≡ true) (get_or (record_fields decls) n [])) → (g r : ℕ)
    (rest : List DeclTree) → AllByRecursion (IsOutlined decls) rest → AllMeant (outline_of decls) decls (Known decls) g r rest
all_known decls fields g r [] h = tt
all_known decls fields g r (import_decl place path ∷ others) h = all_known decls fields (g + 0) (r + 0) others h.1
all_known decls fields g r (global_decl decl ∷ others) h = (h.0, all_known decls fields (g + 1) (r + 0) others h.1)
all_known decls fields g r (record_decl decl ∷ others) h =
    (some_types (get_or (record_fields decls) r []) (fields r), all_known decls fields (g + 0) (r + 1) others h.1)
all_known decls fields g r (method_decl decl ∷ others) h = (h.0, all_known decls fields (g + 0) (r + 0) others h.1)

fine_scope : (decls : List DeclTree) → ((n : ℕ) → AllByRecursion (λ (f : Field). is_some f.type ≡ true) (get_or (record_fields decls) n [])) →
    AllByRecursion (IsOutlined decls) decls → IsWellDeclared in_program (scope_of decls)
fine_scope decls fields outlined = record {
  names = λ text m h. found_all (outline_of decls) decls (Known decls) 0 0 decls (all_known decls fields 0 0 decls outlined) text m
      (found_among (outline_of decls) decls 0 0 decls text m h);
  fields = fields;
  result = tt;
}

clean_outlined : (decls : List DeclTree) → RecordsFit decls → (rest : List DeclTree) → AllByRecursion (IsClean decls) rest → AllByRecursion (IsOutlined decls) rest
clean_outlined decls fit [] h = tt
clean_outlined decls fit (import_decl place path ∷ others) h = (tt, clean_outlined decls fit others h.1)
clean_outlined decls fit (global_decl decl ∷ others) h =
    (ap is_some (global_declares decls fit 0 [] decl h.0).1.declared, clean_outlined decls fit others h.1)
clean_outlined decls fit (record_decl decl ∷ others) h = (tt, clean_outlined decls fit others h.1)
clean_outlined decls fit (method_decl decl ∷ others) h = (
  ap is_some (signature_there (outline_names decls) (scope_of decls) decl (clean_method (outline_names decls) (scope_of decls) decl h.0)),
  clean_outlined decls fit others h.1,
)

typed_outlined : (decls : List DeclTree) (n : ℕ) (rest : List DeclTree) → AreTypedDecls decls n rest → AllByRecursion (IsOutlined decls) rest
typed_outlined decls n [] h = tt
typed_outlined decls n (import_decl place path ∷ others) h = (tt, typed_outlined decls n others h)
typed_outlined decls n (global_decl decl ∷ others) h = ((global_from (outline_of decls) decl h.0).declared, typed_outlined decls n others h.1)
typed_outlined decls n (record_decl decl ∷ others) h = (tt, typed_outlined decls (n + 1) others h.1)
typed_outlined decls n (method_decl decl ∷ others) h =
    (typed_signature (outline_names decls) (scope_of decls) decl h.0, typed_outlined decls n others h.1)

-- ---- declarations

abbrev Number : List DeclTree → ℕ
Number before = length (filter_map record_of before)

abbrev HasInner : List DeclTree → List DeclTree → DeclTree → Type 0
HasInner decls before decl = inner_faults decls (length (filter_map record_of before)) decl ≡ []

-- a declaration that is no record leaves the number of the next record
same_number : (before : List DeclTree) (decl : DeclTree) → is_some (record_of decl) ≡ false → Number (before ++ decl ∷ []) ≡ Number before
same_number before decl h =
    count_more record_of before decl ∙ ap (λ b. Number before + cond b 1 0) h ∙ (let e : Number before + 0 ≡ Number before = omega arith in e)

module _ (decls : List DeclTree) (fine : IsWellDeclared in_program (scope_of decls)) where
  inner_to : RecordsFit decls → (before rest : List DeclTree) → AtEach (HasInner decls) before rest → AreTypedDecls decls (length (filter_map record_of before)) rest
  inner_to fit before [] h = tt
  inner_to fit before (import_decl place path ∷ others) h =
      subst (λ n. AreTypedDecls decls n others) (same_number before (import_decl place path) refl) (inner_to fit (before ++ import_decl place path ∷ []) others h.1)
  inner_to fit before (global_decl decl ∷ others) h = (
    global_to decls fit decl h.0,
    subst (λ n. AreTypedDecls decls n others) (same_number before (global_decl decl) refl) (inner_to fit (before ++ global_decl decl ∷ []) others h.1),
  )
  inner_to fit before (record_decl decl ∷ others) h = (
    record_to decls (Number before) decl h.0,
    subst (λ n. AreTypedDecls decls n others) (count_more record_of before (record_decl decl)) (inner_to fit (before ++ record_decl decl ∷ []) others h.1),
  )
  inner_to fit before (method_decl decl ∷ others) h = (
    method_to (outline_names decls) (scope_of decls) decl fine h.0,
    subst (λ n. AreTypedDecls decls n others) (same_number before (method_decl decl) refl) (inner_to fit (before ++ method_decl decl ∷ []) others h.1),
  )

  inner_from : (before rest : List DeclTree) → AreTypedDecls decls (length (filter_map record_of before)) rest → AtEach (HasInner decls) before rest
  inner_from before [] h = tt
  inner_from before (import_decl place path ∷ others) h = (
    refl,
    inner_from (before ++ import_decl place path ∷ []) others
        (subst (λ n. AreTypedDecls decls n others) (sym (same_number before (import_decl place path) refl)) h),
  )
  inner_from before (global_decl decl ∷ others) h = (
    (global_from (outline_of decls) decl h.0).none,
    inner_from (before ++ global_decl decl ∷ []) others (subst (λ n. AreTypedDecls decls n others) (sym (same_number before (global_decl decl) refl)) h.1),
  )
  inner_from before (record_decl decl ∷ others) h = (
    record_from decls (Number before) decl h.0,
    inner_from (before ++ record_decl decl ∷ []) others (subst (λ n. AreTypedDecls decls n others) (sym (count_more record_of before (record_decl decl))) h.1),
  )
  inner_from before (method_decl decl ∷ others) h = (
    method_from (outline_names decls) (scope_of decls) decl fine h.0,
    inner_from (before ++ method_decl decl ∷ []) others (subst (λ n. AreTypedDecls decls n others) (sym (same_number before (method_decl decl) refl)) h.1),
  )

-- ---- projects

space_of : (decls before : List DeclTree) (decl : DeclTree) → decl_faults decls before decl ≡ [] → space_faults before (name_of decl) ≡ []
space_of decls before decl h =
    let p = both_nil (space_faults before (name_of decl) ++ count_faults before decl) (inner_faults decls (length (filter_map record_of before)) decl) h in
    (both_nil (space_faults before (name_of decl)) (count_faults before decl) p.0).0

count_of : (decls before : List DeclTree) (decl : DeclTree) → decl_faults decls before decl ≡ [] → count_faults before decl ≡ []
count_of decls before decl h =
    let p = both_nil (space_faults before (name_of decl) ++ count_faults before decl) (inner_faults decls (length (filter_map record_of before)) decl) h in
    (both_nil (space_faults before (name_of decl)) (count_faults before decl) p.0).1

all_none : (decls before rest : List DeclTree) → AtEach (λ front decl. space_faults front (name_of decl) ≡ []) before rest →
    AtEach (λ front decl. is_some (method_of decl) ≡ true → (length (filter_map method_of front) == 10000) ≡ false) before rest →
    AtEach (HasInner decls) before rest → decls_faults decls before rest ≡ []
all_none decls before [] spaces counts inner = refl
all_none decls before (decl ∷ others) spaces counts inner =
    nil_both (decl_faults decls before decl) (decls_faults decls (before ++ decl ∷ []) others)
    (nil_both (space_faults before (name_of decl) ++ count_faults before decl) (inner_faults decls (length (filter_map record_of before)) decl)
    (nil_both (space_faults before (name_of decl)) (count_faults before decl) spaces.0 (one_from before decl counts.0)) inner.0)
    (all_none decls (before ++ decl ∷ []) others spaces.1 counts.1 inner.1)

project_to : (decls : List DeclTree) → IsFaultless decls → IsTypedProject decls
project_to decls faultless =
    let each = faultless_each decls [] decls faultless in
    let fit = records_fit decls faultless in
    let fine = fine_scope decls fit.typed_fields (clean_outlined decls fit decls (clean_each decls [] decls each)) in
    let count = count_to 10000 [] decls
    (at_each_weaker (λ front decl. decl_faults decls front decl ≡ [])
    (λ front decl. is_some (method_of decl) ≡ true → (length (filter_map method_of front) == 10000) ≡ false)
    (λ front decl h. one_to front decl (count_of decls front decl h)) [] decls each) (omega arith) in
    record {
      names = names_to decls
          (at_each_weaker (λ front decl. decl_faults decls front decl ≡ []) (λ front decl. space_faults front (name_of decl) ≡ []) (space_of decls) [] decls each);
      count = omega (arith, count);
      decls_typed = inner_to decls fine fit [] decls
          (at_each_weaker (λ front decl. decl_faults decls front decl ≡ []) (HasInner decls) (λ front decl h. inner_of decls front decl h) [] decls each);
    }

project_from : (decls : List DeclTree) → IsTypedProject decls → IsFaultless decls
project_from decls h =
    let fields = at_number (record_fields decls) (records_some decls 0 decls h.decls_typed) in
    let fine = fine_scope decls fields (typed_outlined decls 0 decls h.decls_typed) in
    let n = h.count in
    all_none decls [] decls (names_from decls h.names) (count_from 10000 [] decls (omega (arith, n))) (inner_from decls fine [] decls h.decls_typed)

-- ---- files

front_none : (decls before xs ys : List DeclTree) → decls_faults decls before (xs ++ ys) ≡ [] →
    (decls_faults decls before xs ≡ []) × (decls_faults decls (before ++ xs) ys ≡ [])
front_none decls before [] ys h = (refl, subst (λ front. decls_faults decls front ys ≡ []) (sym (append-nil before)) h)
front_none decls before (decl ∷ xs) ys h =
    let p = both_nil (decl_faults decls before decl) (decls_faults decls (before ++ decl ∷ []) (xs ++ ys)) h in
    let r = front_none decls (before ++ decl ∷ []) xs ys p.1 in (
      nil_both (decl_faults decls before decl) (decls_faults decls (before ++ decl ∷ []) xs) p.0 r.0,
      subst (λ front. decls_faults decls front ys ≡ []) (append_assoc before (decl ∷ []) xs) r.1,
    )

none_told : (decls before : List DeclTree) (files : List FileTree) → decls_faults decls before (flat_map (λ file. file.decls) files) ≡ [] →
    filter_map first_of_file (files_faults decls before files) ≡ []
none_told decls before [] h = refl
none_told decls before (file ∷ files) h =
    let r = front_none decls before file.decls (flat_map (λ f. f.decls) files) h in
    ap (λ fs. cons_option (option_map (λ (found : Fault). told file.name found) (first_fault fs)) (filter_map first_of_file (files_faults decls (before ++ file.decls) files))) r.0
    ∙ none_told decls (before ++ file.decls) files r.1
  where
    told : List ℕ → Fault → FileFault
    told name found = record { file = name; fault = found }

pub no_fault_where_typed : NoFaultWhereTyped
no_fault_where_typed files = (
  λ h. project_to (declarations files) (project_faultless files h),
  λ h. none_told (declarations files) [] (in_order files) (project_from (declarations files) h),
)
