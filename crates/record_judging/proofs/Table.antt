-- The records of a project, one after the other.
use Rattle.std.proofs.Common.{◌≡◌, ℕ, zero, suc, ◌+◌, ◌<◌, Bool, false, Option, Some, None, List, [], ◌∷◌, ◌++◌, length, take, drop, get_or, map, filter_map, refl, sym, subst, ap, ◌∙◌, append_assoc, append-nil, arith}
use Rattle.std.specs.Borrow.{Bor}
use Rattle.std.specs.Option.{option_map, unwrap_or}
use Rattle.std.specs.List.{cons_option, slice_get}
use Rattle.std.proofs.Math.Seq.{get_or-append_seam}
use Rattle.std.proofs.lemmas.List.{length-map, map-append, map_more, take-append-drop}
use Rattle.std.proofs.lemmas.Option.{unwrap_or-slice_get}
use Rattle.slang_values.specs.Value.{ValueType}
use Rattle.slang_tree.specs.declared.declaration.Decl.{Decl}
use Rattle.slang_tree.specs.DeclTree.{TypedName, RecordDeclTree, DeclTree, import_decl, global_decl, record_decl, method_decl}
use Rattle.text_types.specs.declared.text_type.TextType.{TextType}
use Rattle.name_scopes.specs.declared.scope.RecordFields.{RecordFields}
use Rattle.type_rules.specs.Meanings.{Declared, Field}
use Rattle.type_rules.specs.TypeNames.{judged_type}
use Rattle.type_rules.specs.Records.{FieldTypes, is_allowed}
use Rattle.type_rules.specs.Projects.{fields_from, record_of, records_from}
use Rattle.project_files.specs.Files.{decl_of}
use Rattle.record_parts.specs.Chains.{at_places, fields_seen, types_seen}
use Rattle.record_parts.specs.Parts.{allowed_fields}
use Rattle.record_parts.proofs.Tables.{at_start}
use Rattle.record_judging.specs.Fields.{AreAllowed, AreFields, IsFields}
use Rattle.record_judging.specs.Written.{types_written, written_with}
use Rattle.record_judging.proofs.Judging.{from}

records_append : (xs ys : List DeclTree) → filter_map record_of (xs ++ ys) ≡ filter_map record_of xs ++ filter_map record_of ys
records_append [] ys = refl
records_append (import_decl place path ∷ xs) ys = records_append xs ys
records_append (global_decl global ∷ xs) ys = records_append xs ys
records_append (record_decl known ∷ xs) ys = ap (λ rs. known ∷ rs) (records_append xs ys)
records_append (method_decl method ∷ xs) ys = records_append xs ys

abbrev of_record : List Declared → RecordDeclTree → List (Option ValueType)
of_record names decl = types_written names decl.fields

pub written_next : (names : List Declared) (types new more : List (List (Option TextType))) (before all : List DeclTree) (decl : DeclTree) (found : Option RecordDeclTree) →
    all ≡ before ++ decl ∷ [] → found ≡ record_of decl → new ≡ types ++ more → types_seen more ≡ map (λ (r : RecordDeclTree). types_written names r.fields) (cons_option found []) →
    types_seen types ≡ written_with names before → types_seen new ≡ written_with names all
written_next names types new more before all decl found split is added own known =
    let F = λ (r : RecordDeclTree). types_written names r.fields in
    ap types_seen added
    ∙ map-append fields_seen types more
    ∙ ap (λ ts. ts ++ types_seen more) known
    ∙ ap (λ ts. written_with names before ++ ts) own
    ∙ ap (λ f. written_with names before ++ map F (cons_option f [])) is
    ∙ sym (ap (written_with names) split ∙ ap (map F) (records_append before (decl ∷ [])) ∙ map-append F (filter_map record_of before) (filter_map record_of (decl ∷ [])))

-- ---- what is known of each record

are_more : (table : List RecordFields) (records : List (List Field)) (known : RecordFields) (fields : List Field) → AreFields table records → IsFields known fields →
    AreFields (table ++ known ∷ []) (records ++ fields ∷ [])
are_more [] [] known fields h k = (k, tt)
are_more [] (other ∷ records) known fields h k = absurd h
are_more (other ∷ table) [] known fields h k = absurd h
are_more (other ∷ table) (its ∷ records) known fields h k = (h.0, are_more table records known fields h.1 k)

are_as_many : (table : List RecordFields) (records : List (List Field)) → AreFields table records → length table ≡ length records
are_as_many [] [] h = refl
are_as_many [] (other ∷ records) h = absurd h
are_as_many (other ∷ table) [] h = absurd h
are_as_many (other ∷ table) (its ∷ records) h = ap suc (are_as_many table records h.1)

from_length : (names : List Declared) (written : FieldTypes) (n : ℕ) (decls : List RecordDeclTree) → length (records_from names written n decls) ≡ length decls
from_length names written n [] = refl
from_length names written n (decl ∷ decls) = ap suc (from_length names written (n + 1) decls)

from_more : (names : List Declared) (written : FieldTypes) (n m : ℕ) (decls : List RecordDeclTree) (decl : RecordDeclTree) → m ≡ n + length decls →
    records_from names written n (decls ++ decl ∷ []) ≡ records_from names written n decls ++ fields_from names written m 0 decl.fields ∷ []
from_more names written n m [] decl e =
    let same : n ≡ m = omega (arith, e) in
    ap (λ k. fields_from names written k 0 decl.fields ∷ []) same
from_more names written n m (other ∷ decls) decl e =
    let next : m ≡ n + 1 + length decls = omega (arith, e) in
    ap (λ rs. fields_from names written n 0 other.fields ∷ rs) (from_more names written (n + 1) m decls decl next)

at_none : (written : FieldTypes) (n : ℕ) (o : Option (List (Option ValueType))) →
    unwrap_or (option_map (λ types. at_places (is_allowed written n) 0 types) o) [] ≡ at_places (is_allowed written n) 0 (unwrap_or o [])
at_none written n None = refl
at_none written n (Some types) = refl

get-mapped : {X Y : Type 0} (f : X → Y) (xs : List X) (i : ℕ) → slice_get (map f xs) i ≡ option_map f (slice_get xs i)
get-mapped f [] i = refl
get-mapped f (x ∷ xs) zero = refl
get-mapped f (x ∷ xs) (suc i) = get-mapped f xs i

pub allowed_here : (names : List Declared) (written : FieldTypes) (n : ℕ) (fields : List TypedName) (own : List Bool) →
    own ≡ get_or (allowed_fields written) n [] → get_or written n [] ≡ types_written names fields → AreAllowed own names written n fields
allowed_here names written n fields own is at k field there =
    let see = λ (f : TypedName). (judged_type names f.ty).type in
    let all : own ≡ at_places (is_allowed written n) 0 (types_written names fields) =
    is
    ∙ sym (unwrap_or-slice_get (allowed_fields written) n [])
    ∙ ap (λ o. unwrap_or o []) (at_start (λ m types. at_places (is_allowed written m) 0 types) n written)
    ∙ at_none written n (slice_get written n)
    ∙ ap (at_places (is_allowed written n) 0) (unwrap_or-slice_get written n [] ∙ at) in
    ap (λ bs. get_or bs k false) all
    ∙ sym (unwrap_or-slice_get (at_places (is_allowed written n) 0 (types_written names fields)) k false)
    ∙ ap (λ o. unwrap_or o false) (at_start (is_allowed written n) k (types_written names fields) ∙ ap (option_map (is_allowed written n k)) (get-mapped see fields k ∙ ap (option_map see) there))

whole : (decls : List (Bor Decl)) (i : ℕ) (decl : Bor Decl) → i < length decls → decl ≡ get_or decls i decl →
    map decl_of decls ≡ map decl_of (take i decls) ++ decl_of decl ∷ map decl_of (drop (i + 1) decls)
whole decls i decl within is =
    ap (map decl_of) (sym (take-append-drop i decls))
    ∙ map-append decl_of (take i decls) (drop i decls)
    ∙ ap (λ ds. map decl_of (take i decls) ++ map decl_of ds) (from decls i decl within is)

-- one record more
pub record_next : (names : List Declared) (decls : List (Bor Decl)) (i : ℕ) (decl : Bor Decl) (table new : List RecordFields) (known : RecordFields)
    (allowed : List (List Bool)) (own : List Bool) (n : ℕ) (record_is : RecordDeclTree) →
    i < length decls → decl ≡ get_or decls i decl → Some record_is ≡ record_of (decl_of decl) → new ≡ table ++ known ∷ [] →
    allowed ≡ allowed_fields (written_with names (map decl_of decls)) → n ≡ length table → own ≡ get_or allowed n [] →
    (AreAllowed own names (written_with names (map decl_of decls)) n record_is.fields → IsFields known (fields_from names (written_with names (map decl_of decls)) n 0 record_is.fields)) →
    AreFields table (records_from names (written_with names (map decl_of decls)) 0 (filter_map record_of (map decl_of (take i decls)))) →
    AreFields new (records_from names (written_with names (map decl_of decls)) 0 (filter_map record_of (map decl_of (take (i + 1) decls))))
record_next names decls i decl table new known allowed own n record_is within at is added allowed-are n-is own-is step before =
    let written = written_with names (map decl_of decls) in
    let F = λ (r : RecordDeclTree). types_written names r.fields in
    let first = filter_map record_of (map decl_of (take i decls)) in
    let later = filter_map record_of (map decl_of (drop (i + 1) decls)) in
    let count : n ≡ length first = n-is ∙ are_as_many table (records_from names written 0 first) before ∙ from_length names written 0 first in
    let one : filter_map record_of (decl_of decl ∷ map decl_of (drop (i + 1) decls)) ≡ record_is ∷ later = ap (λ o. cons_option o later) (sym is) in
    let all : filter_map record_of (map decl_of decls) ≡ first ++ record_is ∷ later =
    ap (filter_map record_of) (whole decls i decl within at) ∙ records_append (map decl_of (take i decls)) (decl_of decl ∷ map decl_of (drop (i + 1) decls))
    ∙ ap (λ rs. first ++ rs) one in
    let here : get_or written n [] ≡ types_written names record_is.fields =
    ap (λ rs. get_or (map F rs) n []) all
    ∙ ap (λ ts. get_or ts n []) (map-append F first (record_is ∷ later))
    ∙ ap (λ k. get_or (map F first ++ F record_is ∷ map F later) k []) (count ∙ sym (length-map first F))
    ∙ get_or-append_seam (map F first) (F record_is) (map F later) [] in
    let so_far : filter_map record_of (map decl_of (take (i + 1) decls)) ≡ first ++ record_is ∷ [] =
    ap (filter_map record_of) (map_more decl_of decls i decl within ∙ ap (λ d. map decl_of (take i decls) ++ decl_of d ∷ []) (sym at))
    ∙ records_append (map decl_of (take i decls)) (decl_of decl ∷ [])
    ∙ ap (λ o. first ++ cons_option o []) (sym is) in
    let start : n ≡ 0 + length first = omega (arith, count) in
    let fields = step (allowed_here names written n record_is.fields own (own-is ∙ ap (λ a. get_or a n []) allowed-are) here) in
    subst (λ t. AreFields t (records_from names written 0 (filter_map record_of (map decl_of (take (i + 1) decls))))) (sym added)
    (subst (AreFields (table ++ known ∷ [])) (sym (ap (records_from names written 0) so_far ∙ from_more names written 0 n first record_is start))
    (are_more table (records_from names written 0 first) known (fields_from names written n 0 record_is.fields) before fields))

pub no_record_next : (names : List Declared) (written : FieldTypes) (decls : List (Bor Decl)) (i : ℕ) (decl : Bor Decl) (table : List RecordFields) →
    i < length decls → decl ≡ get_or decls i decl → None ≡ record_of (decl_of decl) →
    AreFields table (records_from names written 0 (filter_map record_of (map decl_of (take i decls)))) →
    AreFields table (records_from names written 0 (filter_map record_of (map decl_of (take (i + 1) decls))))
no_record_next names written decls i decl table within at is before =
    let first = filter_map record_of (map decl_of (take i decls)) in
    let so_far : first ≡ filter_map record_of (map decl_of (take (i + 1) decls)) =
    sym (append-nil first) ∙ ap (λ o. first ++ cons_option o []) is ∙ sym (records_append (map decl_of (take i decls)) (decl_of decl ∷ []))
    ∙ ap (filter_map record_of) (sym (map_more decl_of decls i decl within ∙ ap (λ d. map decl_of (take i decls) ++ decl_of d ∷ []) (sym at))) in
    subst (λ rs. AreFields table (records_from names written 0 rs)) so_far before
