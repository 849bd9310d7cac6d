-- Where no file of a project has a fault, no declaration has one, and the names of its methods are distinct.
use Rattle.std.proofs.Common.{◌≡◌, ℕ, Bool, true, false, ◌||◌, bytes_eq, List, [], ◌∷◌, ◌++◌, map, length, filter_map, option_map, refl, sym, ap, ap₂, ◌∙◌, subst, append_assoc, append-nil}
use Rattle.std.specs.List.{IsDistinct, flat_map, list_any, cons_option}
use Rattle.std.specs.Set.{is_member}
use Rattle.std.proofs.lemmas.Bool.{or_parts, or_from}
use Rattle.std.proofs.lemmas.List.Elements.{filter_map-append}
use Rattle.slang_tree.specs.declared.place.Fault.{Fault}
use Rattle.slang_tree.specs.declared.place.FileFault.{FileFault}
use Rattle.slang_tree.specs.declared.expression.Name.{Name}
use Rattle.slang_tree.specs.DeclTree.{DeclTree, MethodDeclTree, import_decl, global_decl, record_decl, method_decl}
use Rattle.program_trees.specs.Programs.{MethodTree}
use Rattle.program_trees.specs.Variables.{Variable}
use Rattle.type_rules.specs.Faults.{first_fault, duplicate_name}
use Rattle.type_rules.specs.Projects.{FileTree, in_order, declarations, record_of, method_of, name_of, space_faults, count_faults, inner_faults, decl_faults, decls_faults, files_faults, first_of_file, first_faults}
use Rattle.claim_typing.proofs.Parts.{both_nil, one_is_none}
use Rattle.statement_typing.proofs.Lists.{AreNew, new_distinct, bytes_flip, unless_not}
use Rattle.declaration_typing.specs.Records.{IsFaultless}
use Rattle.declaration_typing.proofs.Each.{AtEach, at_each_weaker, faultless_each}
use Rattle.project_typing.proofs.Members.{AllTwo, IsMethodOf}

-- ---- files

none_told : (f : Fault → FileFault) (faults : List Fault) (others : List FileFault) → cons_option (option_map f (first_fault faults)) others ≡ [] →
    (faults ≡ []) × (others ≡ [])
none_told f [] others h = (refl, h)
none_told f (found ∷ faults) others h = one_is_none h

nil_both : (xs ys : List Fault) → xs ≡ [] → ys ≡ [] → xs ++ ys ≡ []
nil_both [] ys h k = k
nil_both (x ∷ xs) ys h k = one_is_none h

both_faultless : (decls before xs ys : List DeclTree) → decls_faults decls before xs ≡ [] → decls_faults decls (before ++ xs) ys ≡ [] →
    decls_faults decls before (xs ++ ys) ≡ []
both_faultless decls before [] ys h k = subst (λ front. decls_faults decls front ys ≡ []) (append-nil before) k
both_faultless decls before (decl ∷ xs) ys h k =
    let p = both_nil (decl_faults decls before decl) (decls_faults decls (before ++ decl ∷ []) xs) h in
    nil_both (decl_faults decls before decl) (decls_faults decls (before ++ decl ∷ []) (xs ++ ys)) p.0
    (both_faultless decls (before ++ decl ∷ []) xs ys p.1
    (subst (λ front. decls_faults decls front ys ≡ []) (sym (append_assoc before (decl ∷ []) xs)) k))

all_files : (decls before : List DeclTree) (files : List FileTree) → filter_map first_of_file (files_faults decls before files) ≡ [] →
    decls_faults decls before (flat_map (λ file. file.decls) files) ≡ []
all_files decls before [] h = refl
all_files decls before (file ∷ files) h =
    let p = none_told (λ found. record { file = file.name; fault = found }) (decls_faults decls before file.decls)
    (filter_map first_of_file (files_faults decls (before ++ file.decls) files)) h in
    both_faultless decls before file.decls (flat_map (λ f. f.decls) files) p.0 (all_files decls (before ++ file.decls) files p.1)

pub project_faultless : (files : List FileTree) → first_faults files ≡ [] → IsFaultless (declarations files)
project_faultless files h = all_files (declarations files) [] (in_order files) h

-- ---- names

any_both : (p : List ℕ → Bool) (xs ys : List (List ℕ)) → list_any p (xs ++ ys) ≡ (list_any p xs || list_any p ys)
any_both p [] ys = refl
any_both p (x ∷ xs) ys = ap (λ b. p x || b) (any_both p xs ys) ∙ sym (or_assoc (p x) (list_any p xs) (list_any p ys))
  where
    or_assoc : (a b c : Bool) → ((a || b) || c) ≡ (a || (b || c))
    or_assoc true b c = refl
    or_assoc false b c = refl

-- a text that is none of the names before is none of these
abbrev AreAmongNames : List (List ℕ) → List DeclTree → Type 0
AreAmongNames texts before =
    (q : List ℕ) → is_member bytes_eq (map (λ name. name.text) (filter_map name_of before)) q ≡ false → is_member bytes_eq texts q ≡ false

pub names_more : (before : List DeclTree) (decl : DeclTree) (q : List ℕ) →
    is_member bytes_eq (map (λ name. name.text) (filter_map name_of (before ++ decl ∷ []))) q
    ≡ (is_member bytes_eq (map (λ name. name.text) (filter_map name_of before)) q
    || is_member bytes_eq (map (λ name. name.text) (filter_map name_of (decl ∷ []))) q)
names_more before decl q =
    ap (λ ns. list_any (bytes_eq q) (map (λ (name : Name). name.text) ns)) (filter_map-append name_of before (decl ∷ []))
    ∙ ap (list_any (bytes_eq q)) (mapped (filter_map name_of before) (filter_map name_of (decl ∷ [])))
    ∙ any_both (bytes_eq q) (map (λ name. name.text) (filter_map name_of before)) (map (λ name. name.text) (filter_map name_of (decl ∷ [])))
  where
    mapped : (xs ys : List Name) → map (λ (name : Name). name.text) (xs ++ ys) ≡ map (λ name. name.text) xs ++ map (λ name. name.text) ys
    mapped [] ys = refl
    mapped (x ∷ xs) ys = ap (λ ts. x.text ∷ ts) (mapped xs ys)

still_among : (texts : List (List ℕ)) (before : List DeclTree) (decl : DeclTree) → AreAmongNames texts before → AreAmongNames texts (before ++ decl ∷ [])
still_among texts before decl h q k =
    h q (or_parts (is_member bytes_eq (map (λ name. name.text) (filter_map name_of before)) q)
    (is_member bytes_eq (map (λ name. name.text) (filter_map name_of (decl ∷ []))) q) (sym (names_more before decl q) ∙ k)).0

with_method_name : (texts : List (List ℕ)) (before : List DeclTree) (decl : MethodDeclTree) → AreAmongNames texts before →
    AreAmongNames (decl.written.text ∷ texts) (before ++ method_decl decl ∷ [])
with_method_name texts before decl h q k =
    let p = or_parts (is_member bytes_eq (map (λ name. name.text) (filter_map name_of before)) q) (bytes_eq q decl.written.text || false)
    (sym (names_more before (method_decl decl) q) ∙ k) in
    or_from (bytes_eq q decl.written.text) (list_any (bytes_eq q) texts) (or_parts (bytes_eq q decl.written.text) false p.1).0 (h q p.0)

new_methods : (texts : List (List ℕ)) (before rest : List DeclTree) → AtEach (λ front decl. space_faults front (name_of decl) ≡ []) before rest →
    AreAmongNames texts before → AreNew bytes_eq texts (map (λ decl. decl.written.text) (filter_map method_of rest))
new_methods texts before [] h among = tt
new_methods texts before (import_decl place path ∷ others) h among =
    new_methods texts (before ++ import_decl place path ∷ []) others h.1 (still_among texts before (import_decl place path) among)
new_methods texts before (global_decl decl ∷ others) h among =
    new_methods texts (before ++ global_decl decl ∷ []) others h.1 (still_among texts before (global_decl decl) among)
new_methods texts before (record_decl decl ∷ others) h among =
    new_methods texts (before ++ record_decl decl ∷ []) others h.1 (still_among texts before (record_decl decl) among)
new_methods texts before (method_decl decl ∷ others) h among = (
  among decl.written.text (unless_not (is_member bytes_eq (map (λ name. name.text) (filter_map name_of before)) decl.written.text)
      (duplicate_name decl.written.place) h.0),
  new_methods (decl.written.text ∷ texts) (before ++ method_decl decl ∷ []) others h.1 (with_method_name texts before decl among),
)

space_of : (decls before : List DeclTree) (decl : DeclTree) → decl_faults decls before decl ≡ [] → space_faults before (name_of decl) ≡ []
space_of decls before decl h =
    let p = both_nil (space_faults before (name_of decl) ++ count_faults before decl) (inner_faults decls (length (filter_map record_of before)) decl) h in
    (both_nil (space_faults before (name_of decl)) (count_faults before decl) p.0).0

same_names : (decls : List DeclTree) (nodes : ℕ) (ds : List MethodDeclTree) (ms : List (MethodTree Variable)) → AllTwo (IsMethodOf decls nodes) ds ms →
    map (λ decl. decl.written.text) ds ≡ map (λ method. method.name) ms
same_names decls nodes [] [] h = refl
same_names decls nodes [] (m ∷ ms) h = absurd h
same_names decls nodes (d ∷ ds) [] h = absurd h
same_names decls nodes (d ∷ ds) (m ∷ ms) h =
    ap₂ (λ name names. name ∷ names) (sym (ap (λ (o : MethodTree Variable). o.name) h.0.same)) (same_names decls nodes ds ms h.1)

pub names_distinct : (decls : List DeclTree) (nodes : ℕ) (ms : List (MethodTree Variable)) → IsFaultless decls →
    AllTwo (IsMethodOf decls nodes) (filter_map method_of decls) ms → IsDistinct bytes_eq (map (λ method. method.name) ms)
names_distinct decls nodes ms faultless two =
    subst (IsDistinct bytes_eq) (same_names decls nodes (filter_map method_of decls) ms two)
    (new_distinct bytes_eq bytes_flip [] (map (λ decl. decl.written.text) (filter_map method_of decls))
    (new_methods [] [] decls
    (at_each_weaker (λ front decl. decl_faults decls front decl ≡ []) (λ front decl. space_faults front (name_of decl) ≡ []) (space_of decls) [] decls
    (faultless_each decls [] decls faultless))
    (λ q h. refl)))
