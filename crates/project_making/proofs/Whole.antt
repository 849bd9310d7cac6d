-- The whole program of a project.
use Rattle.std.proofs.Common.{◌≡◌, ℕ, suc, ◌+◌, cond, List, [], ◌∷◌, ◌++◌, map, filter_map, length, refl, sym, ap, ap₂, ◌∙◌, subst, length-append}
use Rattle.std.proofs.lemmas.List.Elements.{filter_map-append}
use Rattle.slang_tree.specs.DeclTree.{TypedName, RecordDeclTree, DeclTree, import_decl, global_decl, record_decl, method_decl}
use Rattle.program_trees.specs.Programs.{MethodTree, renamed_global}
use Rattle.program_trees.specs.Variables.{Variable, with_kinds, no_number, numbered_method, numbered_program}
use Rattle.typed_programs.specs.WellTyped.{IsTypedProgram}
use Rattle.lk_programs.specs.declared.program.Method.{Method}
use Rattle.lk_programs.specs.declared.program.NodePlace.{NodePlace}
use Rattle.lk_programs.specs.declared.program.RecordTy.{RecordTy}
use Rattle.lk_programs.specs.declared.typed.Typed.{Typed}
use Rattle.lk_programs.specs.Program.{IsTypedOver, global_tree, method_tree, program_over}
use Rattle.type_rules.specs.Faults.{precedes}
use Rattle.type_rules.specs.Meanings.{Declared}
use Rattle.type_rules.specs.Records.{FieldTypes}
use Rattle.type_rules.specs.Projects.{FileTree, declarations, fields_from, global_of, in_order, outline_names, record_of, records_from, written_fields}
use Rattle.height_rules.specs.Faults.{whole_faults}
use Rattle.height_rules.proofs.Projects.{whole_numbered_projects_are_typed}
use Rattle.typed_texts.specs.TypedProjects.{NamedFields, NodeAt, members_from, members_of, sorted, typed_names, typed_project, with_sorted}
use Rattle.typed_names.specs.Fields.{names_of}
use Rattle.method_sorting.specs.Ordered.{in_turn, method_name, put}
use Rattle.method_sorting.proofs.Seen.{in_turn_seen}
use Rattle.record_making.specs.Records.{AreRecordsOf, texts_of}
use Rattle.project_making.specs.declared.members.Members.{Members}
use Rattle.project_making.specs.declared.project.ProjectParts.{ProjectParts}
use Rattle.project_making.specs.declared.project.Sorted.{Sorted}
use Rattle.project_making.specs.Members.{AreFilesAdded, decls_in, global_name, names_declared, node_seen}
use Rattle.project_making.specs.Projects.{AreMembersOf, ArePartsOf, IsTypedOf, record_named}

-- ---- methods in order

abbrev tree_name : {A : Type 0} → MethodTree A → List ℕ
tree_name method = method.name

put_is : (method : MethodTree Variable) (methods : List (MethodTree Variable)) → with_sorted method methods ≡ put tree_name method methods
put_is method [] = refl
put_is method (next ∷ methods) = ap (λ rest. cond (precedes next.name method.name) (next ∷ rest) (method ∷ next ∷ methods)) (put_is method methods)

sorted_is : (methods : List (MethodTree Variable)) → sorted methods ≡ in_turn tree_name methods
sorted_is [] = refl
sorted_is (method ∷ methods) = ap (with_sorted method) (sorted_is methods) ∙ put_is method (in_turn tree_name methods)

methods_sorted : (globals : ℕ) (methods : List Method) (trees : List (MethodTree Variable)) → map method_tree methods ≡ map (numbered_method globals) trees →
    map method_tree (in_turn method_name methods) ≡ map (numbered_method globals) (sorted trees)
methods_sorted globals methods trees same =
    in_turn_seen method_name tree_name method_tree (λ m. refl) methods
    ∙ ap (in_turn tree_name) same
    ∙ sym (in_turn_seen tree_name tree_name (numbered_method globals) (λ m. refl) trees)
    ∙ ap (map (numbered_method globals)) (sym (sorted_is trees))

-- ---- members

pub members_are : (globals : ℕ) (before after : List NodePlace) (old new : Members) (made : Sorted) (decls : List DeclTree) (files : List FileTree) →
    before ≡ [] → old.globals ≡ [] → old.methods.items ≡ [] → AreFilesAdded globals before after old new decls files →
    made.nodes ≡ after → made.globals ≡ new.globals → made.methods ≡ in_turn method_name new.methods.items → AreMembersOf globals made decls files
members_are globals before after old new made decls files no_nodes no_globals no_methods are nodes_is globals_is methods_is =
    let trees = members_from decls 0 files in record {
      nodes = ap (map node_seen) nodes_is ∙ are.made.added ∙ ap (λ ns. map node_seen ns ++ trees.places) no_nodes;
      globals_are = ap (map global_tree) globals_is ∙ are.made.globals_are
          ∙ ap₂ (λ gs (ns : List NodePlace). map global_tree gs ++ map (renamed_global no_number) (trees.from (length ns)).globals) no_globals no_nodes;
      methods_are = ap (map method_tree) methods_is
          ∙ methods_sorted globals new.methods.items (trees.from 0).methods
          (are.made.methods_are
          ∙ ap₂ (λ ms (ns : List NodePlace). map method_tree ms ++ map (numbered_method globals) (trees.from (length ns)).methods) no_methods no_nodes);
      names = ap (map global_name) globals_is ∙ are.names ∙ ap (λ gs. map global_name gs ++ names_declared (decls_in files)) no_globals;
    }

-- ---- how many globals there are

count_decls : (decls xs : List DeclTree) (n : ℕ) → length ((members_of decls xs).from n).globals ≡ length (filter_map global_of xs)
count_decls decls [] n = refl
count_decls decls (import_decl place path ∷ xs) n = count_decls decls xs n
count_decls decls (global_decl decl ∷ xs) n = ap suc (count_decls decls xs _)
count_decls decls (record_decl decl ∷ xs) n = count_decls decls xs n
count_decls decls (method_decl decl ∷ xs) n = count_decls decls xs _

count_files : (decls : List DeclTree) (k n : ℕ) (files : List FileTree) →
    length ((members_from decls k files).from n).globals ≡ length (filter_map global_of (decls_in files))
count_files decls k n [] = refl
count_files decls k n (file ∷ files) =
    let own = members_of decls file.decls in
    let rest = members_from decls (k + 1) files in
    length-append (own.from n).globals (rest.from _).globals
    ∙ ap₂ (λ (a b : ℕ). a + b) (count_decls decls file.decls n) (count_files decls (k + 1) _ files)
    ∙ sym (length-append (filter_map global_of file.decls) (filter_map global_of (decls_in files)))
    ∙ ap length (sym (filter_map-append global_of file.decls (decls_in files)))

-- ---- names of records

abbrev named_with : List ℕ → List (List ℕ) → NamedFields
named_with name fields = record { name = name; fields = fields }

zipped : List (List ℕ) → List (List (List ℕ)) → List NamedFields
zipped [] fields = []
zipped (name ∷ names) [] = []
zipped (name ∷ names) (own ∷ fields) = named_with name own ∷ zipped names fields

zipped_map : {X : Type 0} (f : X → List ℕ) (g : X → List (List ℕ)) (xs : List X) → map (λ x. named_with (f x) (g x)) xs ≡ zipped (map f xs) (map g xs)
unfolding zipped
zipped_map f g [] = refl
zipped_map f g (x ∷ xs) = ap (λ ns. named_with (f x) (g x) ∷ ns) (zipped_map f g xs)

fields_named : (names : List Declared) (written : FieldTypes) (n k : ℕ) (fields : List TypedName) →
    texts_of (fields_from names written n k fields) ≡ typed_names fields
fields_named names written n k [] = refl
fields_named names written n k (field ∷ fields) = ap (λ ts. field.written.text ∷ ts) (fields_named names written n (k + 1) fields)

records_named : (names : List Declared) (written : FieldTypes) (n : ℕ) (decls : List RecordDeclTree) →
    map texts_of (records_from names written n decls) ≡ map (λ (decl : RecordDeclTree). typed_names decl.fields) decls
records_named names written n [] = refl
records_named names written n (decl ∷ decls) =
    ap₂ (λ (t : List (List ℕ)) ts. t ∷ ts) (fields_named names written n 0 decl.fields) (records_named names written (n + 1) decls)

names_are : (records : List RecordTy) (decls : List DeclTree) → AreRecordsOf records decls →
    map record_named records
    ≡ map (λ (decl : RecordDeclTree). named_with decl.written.text (typed_names decl.fields)) (filter_map record_of decls)
names_are records decls are =
    zipped_map (λ (r : RecordTy). r.name) (λ (r : RecordTy). names_of r.fields) records
    ∙ ap₂ zipped are.names (are.fields_are ∙ records_named (outline_names decls) (written_fields decls) 0 (filter_map record_of decls))
    ∙ sym (zipped_map (λ (decl : RecordDeclTree). decl.written.text) (λ (decl : RecordDeclTree). typed_names decl.fields) (filter_map record_of decls))

-- ---- the program

pub program_is : (parts : ProjectParts) (files : List FileTree) → ArePartsOf parts (in_order files) →
    program_over parts.records parts.sorted.globals parts.sorted.methods ≡ numbered_program (typed_project files).program
program_is parts files are =
    let trees = (members_from (declarations files) 0 (in_order files)).from 0 in
    let count = sym (count_files (declarations files) 0 0 (in_order files)) in
    let methods = are.members.methods_are ∙ ap (λ n. map (numbered_method n) (sorted trees.methods)) count in
    λ i. record { records = are.records.types i; globals = are.members.globals_are i; methods = methods i }

file_of_nodes : (nodes : List NodePlace) → map (λ (n : NodePlace). n.file) nodes ≡ map (λ (n : NodeAt). n.file) (map node_seen nodes)
file_of_nodes [] = refl
file_of_nodes (node ∷ nodes) = ap (λ ns. node.file ∷ ns) (file_of_nodes nodes)

pub well_typed : (parts : ProjectParts) (files : List FileTree) → whole_faults files ≡ [] → ArePartsOf parts (in_order files) →
    IsTypedOver (program_over parts.records parts.sorted.globals parts.sorted.methods) parts.sorted.nodes parts.files
well_typed parts files faultless are =
    let project = typed_project files in
    let nodes : map (λ (n : NodePlace). n.file) parts.sorted.nodes ≡ map (λ (n : NodeAt). n.file) project.nodes =
    file_of_nodes parts.sorted.nodes ∙ ap (map (λ (n : NodeAt). n.file)) are.members.nodes in
    subst (λ p. IsTypedProgram (with_kinds p) (map (λ (n : NodePlace). n.file) parts.sorted.nodes) (length parts.files)) (sym (program_is parts files are))
    (subst (λ ns. IsTypedProgram (with_kinds (numbered_program project.program)) ns (length parts.files)) (sym nodes)
    (subst (λ (fs : List (List ℕ)). IsTypedProgram (with_kinds (numbered_program project.program)) (map (λ (n : NodeAt). n.file) project.nodes) (length fs))
    (sym are.files_are) (whole_numbered_projects_are_typed files faultless)))

pub typed_is : (parts : ProjectParts) (files : List FileTree) (made : Typed) → ArePartsOf parts (in_order files) →
    program_over made.records made.globals made.methods ≡ program_over parts.records parts.sorted.globals parts.sorted.methods →
    made.files ≡ parts.files → made.records ≡ parts.records → made.globals ≡ parts.sorted.globals → made.nodes ≡ parts.sorted.nodes →
    IsTypedOf made (typed_project files)
typed_is parts files made are program files_is records_is globals_is nodes_is = record {
  files = files_is ∙ are.files_are;
  record_names = ap (map record_named) records_is ∙ names_are parts.records (declarations files) are.records;
  global_names = ap (map global_name) globals_is ∙ are.members.names;
  program = program ∙ program_is parts files are;
  nodes = ap (map node_seen) nodes_is ∙ are.members.nodes;
}
