-- Fields and records, one after another.
use Rattle.std.proofs.Common.{◌≡◌, ℕ, zero, suc, ◌+◌, ◌<◌, Bool, false, cond, Option, Some, None, List, [], ◌∷◌, ◌++◌, length, take, get_or, map, filter_map, refl, sym, ap, ap₂, ◌∙◌, arith}
use Rattle.std.specs.Borrow.{Bor}
use Rattle.std.specs.List.{cons_option, slice_get}
use Rattle.std.proofs.lemmas.List.{length-map, length-take-le, map-append, map_more}
use Rattle.slang_values.specs.Value.{ValueType}
use Rattle.slang_tree.specs.declared.declaration.FieldDecl.{FieldDecl}
use Rattle.slang_tree.specs.declared.declaration.RecordDecl.{RecordDecl as CodeRecord}
use Rattle.slang_tree.specs.TypeTree.{type_tree}
use Rattle.slang_tree.specs.DeclTree.{TypedName, RecordDeclTree, DeclTree, import_decl, global_decl, record_decl, method_decl, field_tree}
use Rattle.lk_claims.specs.Claim.{value_type}
use Rattle.lk_programs.specs.declared.program.FieldTy.{FieldTy}
use Rattle.lk_programs.specs.declared.program.RecordTy.{RecordTy}
use Rattle.lk_programs.specs.Program.{field_types, record_types}
use Rattle.type_rules.specs.Meanings.{Declared, Field}
use Rattle.type_rules.specs.TypeNames.{judged_type}
use Rattle.type_rules.specs.Records.{FieldTypes, allowed_type}
use Rattle.type_rules.specs.Projects.{fields_from, record_of, records_from}
use Rattle.typed_texts.specs.Code.{type_declared}
use Rattle.record_parts.specs.Parts.{allowed_fields}
use Rattle.record_judging.specs.Fields.{AreAllowed}
use Rattle.record_judging.specs.Written.{types_written}
use Rattle.record_judging.proofs.Table.{allowed_here}
use Rattle.typed_names.specs.Fields.{names_of}
use Rattle.record_making.specs.Records.{AreRecords, HasFieldTypes, record_seen, texts_of, types_of, written_of}

-- ---- fields

field_at : List Declared → FieldTypes → ℕ → ℕ → TypedName → Field
field_at names written n k field = record { text = field.written.text; type = allowed_type written n k (judged_type names field.ty).type }

fields_more : (names : List Declared) (written : FieldTypes) (n k m : ℕ) (fields : List TypedName) (field : TypedName) → m ≡ k + length fields →
    fields_from names written n k (fields ++ field ∷ []) ≡ fields_from names written n k fields ++ field_at names written n m field ∷ []
unfolding field_at
fields_more names written n k m [] field e =
    let same : k ≡ m = omega (arith, e) in ap (λ i. field_at names written n i field ∷ []) same
fields_more names written n k m (first ∷ fields) field e =
    let next : m ≡ k + 1 + length fields = omega (arith, e) in
    ap (λ fs. field_at names written n k first ∷ fs) (fields_more names written n (k + 1) m fields field next)

get_field : (fields : List FieldDecl) (i : ℕ) (field : FieldDecl) → i < length fields → field ≡ get_or fields i field → slice_get (map field_tree fields) i
    ≡ Some (field_tree field)
get_field [] i field within is = absurd (omega (arith, within))
get_field (first ∷ fields) zero field within is = ap (λ f. Some (field_tree f)) (sym is)
get_field (first ∷ fields) (suc i) field within is = get_field fields i field (omega (arith, within)) is

-- one field more
pub field_next : (names : List Declared) (written : FieldTypes) (n i : ℕ) (own : List Bool) (fields : List FieldDecl) (field : FieldDecl) (allowed : Bool)
    (made new : List FieldTy) (one : FieldTy) →
    i < length fields → field ≡ get_or fields i field → allowed ≡ get_or own i false → AreAllowed own names written n (map field_tree fields) →
    new ≡ made ++ one ∷ [] → one.name ≡ field.name.text → value_type one.ty ≡ type_declared (cond allowed (judged_type names (type_tree field.ty)).type
    None) →
    HasFieldTypes made (fields_from names written n 0 (map field_tree (take i fields))) →
    HasFieldTypes new (fields_from names written n 0 (map field_tree (take (i + 1) fields)))
unfolding field_at
field_next names written n i own fields field allowed made new one within is may all added name type before =
    let t = (judged_type names (type_tree field.ty)).type in
    let so_far = map field_tree (take i fields) in
    let f = field_at names written n i (field_tree field) in
    let more : map field_tree (take (i + 1) fields) ≡ so_far ++ field_tree field ∷ [] =
    map_more field_tree fields i field within ∙ ap (λ x. so_far ++ field_tree x ∷ []) (sym is) in
    let count : i ≡ 0 + length so_far = omega (arith, length-map (take i fields) field_tree, length-take-le i fields (omega (arith, within))) in
    let are : fields_from names written n 0 (map field_tree (take (i + 1) fields)) ≡ fields_from names written n 0 so_far ++ f ∷ [] =
    ap (fields_from names written n 0) more ∙ fields_more names written n 0 i so_far (field_tree field) count in
    let its : value_type one.ty ≡ type_declared f.type =
    type ∙ ap (λ b. type_declared (cond b t None)) (may ∙ all i (field_tree field) (get_field fields i field within is)) in record {
      names = ap names_of added ∙ map-append (λ (g : FieldTy). g.name) made (one ∷ [])
          ∙ ap₂ (λ (xs : List (List ℕ)) x. xs ++ x ∷ []) before.names name
          ∙ sym (ap texts_of are ∙ map-append (λ (g : Field). g.text) (fields_from names written n 0 so_far) (f ∷ []));
      types = ap field_types added ∙ map-append (λ (g : FieldTy). value_type g.ty) made (one ∷ [])
          ∙ ap₂ (λ (xs : List ValueType) x. xs ++ x ∷ []) before.types its
          ∙ sym (ap types_of are ∙ map-append (λ (g : Field). type_declared g.type) (fields_from names written n 0 so_far) (f ∷ []));
    }

-- ---- records

records_more : (names : List Declared) (written : FieldTypes) (n m : ℕ) (decls : List RecordDeclTree) (decl : RecordDeclTree) → m ≡ n + length decls →
    records_from names written n (decls ++ decl ∷ []) ≡ records_from names written n decls ++ fields_from names written m 0 decl.fields ∷ []
records_more names written n m [] decl e =
    let same : n ≡ m = omega (arith, e) in ap (λ i. fields_from names written i 0 decl.fields ∷ []) same
records_more names written n m (first ∷ decls) decl e =
    let next : m ≡ n + 1 + length decls = omega (arith, e) in
    ap (λ rs. fields_from names written n 0 first.fields ∷ rs) (records_more names written (n + 1) m decls decl next)

written_at : (names : List Declared) (records : List (Bor CodeRecord)) (n : ℕ) (one : Bor CodeRecord) → n < length records → one ≡ get_or records n one →
    get_or (written_of names (map record_seen records)) n [] ≡ types_written names (record_seen one).fields
written_at names [] n one within is = absurd (omega (arith, within))
written_at names (first ∷ records) zero one within is = ap (λ r. types_written names (record_seen r).fields) (sym is)
written_at names (first ∷ records) (suc n) one within is = written_at names records n one (omega (arith, within)) is

-- one record more
pub record_next : (names : List Declared) (records : List (Bor CodeRecord)) (n : ℕ) (decl : Bor CodeRecord) (allowed : List (List Bool)) (own : List Bool)
    (made new : List RecordTy) (one : RecordTy) →
    n < length records → decl ≡ get_or records n decl → own ≡ get_or allowed n [] → allowed ≡ allowed_fields (written_of names (map record_seen records)) →
    new ≡ made ++ one ∷ [] → one.name ≡ (record_seen decl).written.text →
    (AreAllowed own names (written_of names (map record_seen records)) n (record_seen decl).fields
    → HasFieldTypes one.fields (fields_from names (written_of names (map record_seen records)) n 0 (record_seen decl).fields)) →
    AreRecords made (map record_seen (take n records)) (records_from names (written_of names (map record_seen records)) 0 (map record_seen (take n
    records))) →
    AreRecords new (map record_seen (take (n + 1) records)) (records_from names (written_of names (map record_seen records)) 0 (map record_seen (take (n +
    1) records)))
record_next names records n decl allowed own made new one within is own-is allowed-are added name step before =
    let written = written_of names (map record_seen records) in
    let so_far = map record_seen (take n records) in
    let r = record_seen decl in
    let fs = fields_from names written n 0 r.fields in
    let its = step (allowed_here names written n r.fields own (own-is ∙ ap (λ a. get_or a n []) allowed-are) (written_at names records n decl within is)) in
    let more : map record_seen (take (n + 1) records) ≡ so_far ++ r ∷ [] =
    map_more record_seen records n decl within ∙ ap (λ x. so_far ++ record_seen x ∷ []) (sym is) in
    let count : n ≡ 0 + length so_far = omega (arith, length-map (take n records) record_seen, length-take-le n records (omega (arith, within))) in
    let are : records_from names written 0 (map record_seen (take (n + 1) records)) ≡ records_from names written 0 so_far ++ fs ∷ [] =
    ap (records_from names written 0) more ∙ records_more names written 0 n so_far r count in record {
      names = ap (map (λ (t : RecordTy). t.name)) added ∙ map-append (λ (t : RecordTy). t.name) made (one ∷ [])
          ∙ ap₂ (λ (xs : List (List ℕ)) x. xs ++ x ∷ []) before.names name
          ∙ sym (ap (map (λ (d : RecordDeclTree). d.written.text)) more ∙ map-append (λ (d : RecordDeclTree). d.written.text) so_far (r ∷ []));
      fields_are = ap (map (λ (t : RecordTy). names_of t.fields)) added ∙ map-append (λ (t : RecordTy). names_of t.fields) made (one ∷ [])
          ∙ ap₂ (λ (xs : List (List (List ℕ))) x. xs ++ x ∷ []) before.fields_are its.names
          ∙ sym (ap (map texts_of) are ∙ map-append texts_of (records_from names written 0 so_far) (fs ∷ []));
      types = ap record_types added ∙ map-append (λ (t : RecordTy). field_types t.fields) made (one ∷ [])
          ∙ ap₂ (λ (xs : List (List ValueType)) x. xs ++ x ∷ []) before.types its.types
          ∙ sym (ap (map types_of) are ∙ map-append types_of (records_from names written 0 so_far) (fs ∷ []));
    }

-- ---- the records among declarations

pub records_append : (xs ys : List DeclTree) → filter_map record_of (xs ++ ys) ≡ filter_map record_of xs ++ filter_map record_of ys
records_append [] ys = refl
records_append (import_decl place path ∷ xs) ys = records_append xs ys
records_append (global_decl global ∷ xs) ys = records_append xs ys
records_append (record_decl known ∷ xs) ys = ap (λ rs. known ∷ rs) (records_append xs ys)
records_append (method_decl method ∷ xs) ys = records_append xs ys

pub found_next : (found new more : List (Bor CodeRecord)) (before all : List DeclTree) (decl : DeclTree) (o : Option RecordDeclTree) →
    all ≡ before ++ decl ∷ [] → o ≡ record_of decl → new ≡ found ++ more → map record_seen more ≡ cons_option o [] →
    map record_seen found ≡ filter_map record_of before → map record_seen new ≡ filter_map record_of all
found_next found new more before all decl o split is added own known =
    ap (map record_seen) added ∙ map-append record_seen found more ∙ ap₂ (λ (xs ys : List RecordDeclTree). xs ++ ys) known own
    ∙ ap (λ x. filter_map record_of before ++ cons_option x []) is
    ∙ sym (ap (filter_map record_of) split ∙ records_append before (decl ∷ []))

-- ---- none yet

pub no_fields : (made : List FieldTy) → made ≡ [] → HasFieldTypes made []
no_fields made none = record { names = ap names_of none; types = ap field_types none }

pub no_records : (made : List RecordTy) → made ≡ [] → AreRecords made [] []
no_records made none = record {
  names = ap (map (λ (r : RecordTy). r.name)) none;
  fields_are = ap (map (λ (r : RecordTy). names_of r.fields)) none;
  types = ap record_types none;
}
