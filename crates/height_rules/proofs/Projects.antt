-- No file of a project has a fault of any kind exactly where none has a fault of names and types and nothing is too high.
use Rattle.std.proofs.Common.{◌≡◌, ℕ, List, [], ◌∷◌, ◌++◌, filter_map, option_map, refl, ap, ◌∙◌}
use Rattle.std.specs.List.{AllByRecursion, flat_map, cons_option}
use Rattle.slang_tree.specs.declared.place.Fault.{Fault}
use Rattle.slang_tree.specs.declared.place.FileFault.{FileFault}
use Rattle.slang_tree.specs.DeclTree.{DeclTree}
use Rattle.type_rules.specs.Faults.{first_fault}
use Rattle.type_rules.specs.Projects.{FileTree, in_order, declarations, decls_faults, files_faults, first_of_file, first_faults}
use Rattle.project_typing.specs.Projects.{IsLowDecl}
use Rattle.project_typing.proofs.Projects.{projects_typed}
use Rattle.program_numbers.proofs.Programs.{numbered_typed}
use Rattle.project_rules.proofs.Projects.{no_fault_where_typed}
use Rattle.claim_typing.proofs.Parts.{both_nil, one_is_none}
use Rattle.typing_rules.proofs.Parts.{nil_both}
use Rattle.height_rules.specs.Faults.{decl_too_high, decls_too_high, whole_files_faults, whole_faults}
use Rattle.height_rules.specs.Laws.{WholeProjectsAreTyped, WholeNumberedProjectsAreTyped, NoFaultWhereTypedAndLow}
use Rattle.height_rules.proofs.Low.{decl_to, decl_from}

-- ---- declarations

decls_to : (decls others : List DeclTree) → decls_too_high decls ≡ [] → AllByRecursion IsLowDecl others → AllByRecursion IsLowDecl (decls ++ others)
decls_to [] others h k = k
decls_to (decl ∷ decls) others h k =
    let p = both_nil (decl_too_high decl) (decls_too_high decls) h in (decl_to decl p.0, decls_to decls others p.1 k)

decls_from : (decls others : List DeclTree) → AllByRecursion IsLowDecl (decls ++ others) →
    (decls_too_high decls ≡ []) × AllByRecursion IsLowDecl others
decls_from [] others h = (refl, h)
decls_from (decl ∷ decls) others h =
    let r = decls_from decls others h.1 in (nil_both (decl_too_high decl) (decls_too_high decls) (decl_from decl h.0) r.0, r.1)

-- ---- files

abbrev told : List ℕ → Fault → FileFault
told name found = record { file = name; fault = found }

-- a file is told of exactly where it has a fault
told_to : (f : Fault → FileFault) (faults : List Fault) (others : List FileFault) → cons_option (option_map f (first_fault faults)) others ≡ [] →
    (faults ≡ []) × (others ≡ [])
told_to f [] others h = (refl, h)
told_to f (found ∷ faults) others h = one_is_none h

told_from : (f : Fault → FileFault) (faults : List Fault) (others : List FileFault) → faults ≡ [] → others ≡ [] →
    cons_option (option_map f (first_fault faults)) others ≡ []
told_from f faults others h k = ap (λ fs. cons_option (option_map f (first_fault fs)) others) h ∙ k

files_to : (decls before : List DeclTree) (files : List FileTree) → filter_map first_of_file (whole_files_faults decls before files) ≡ [] →
    (filter_map first_of_file (files_faults decls before files) ≡ []) × AllByRecursion IsLowDecl (flat_map (λ file. file.decls) files)
files_to decls before [] h = (refl, tt)
files_to decls before (file ∷ files) h =
    let own = decls_faults decls before file.decls in
    let p = told_to (told file.name) (own ++ decls_too_high file.decls) (filter_map first_of_file (whole_files_faults decls (before ++ file.decls) files)) h in
    let q = both_nil own (decls_too_high file.decls) p.0 in
    let r = files_to decls (before ++ file.decls) files p.1 in (
      told_from (told file.name) own (filter_map first_of_file (files_faults decls (before ++ file.decls) files)) q.0 r.0,
      decls_to file.decls (flat_map (λ f. f.decls) files) q.1 r.1,
    )

files_from : (decls before : List DeclTree) (files : List FileTree) → filter_map first_of_file (files_faults decls before files) ≡ [] →
    AllByRecursion IsLowDecl (flat_map (λ file. file.decls) files) → filter_map first_of_file (whole_files_faults decls before files) ≡ []
files_from decls before [] h k = refl
files_from decls before (file ∷ files) h k =
    let own = decls_faults decls before file.decls in
    let p = told_to (told file.name) own (filter_map first_of_file (files_faults decls (before ++ file.decls) files)) h in
    let q = decls_from file.decls (flat_map (λ f. f.decls) files) k in
    told_from (told file.name) (own ++ decls_too_high file.decls) (filter_map first_of_file (whole_files_faults decls (before ++ file.decls) files))
    (nil_both own (decls_too_high file.decls) p.0 q.0) (files_from decls (before ++ file.decls) files p.1 q.1)

-- ---- projects

whole_to : (files : List FileTree) → whole_faults files ≡ [] → (first_faults files ≡ []) × AllByRecursion IsLowDecl (declarations files)
whole_to files h = files_to (declarations files) [] (in_order files) h

pub whole_projects_are_typed : WholeProjectsAreTyped
whole_projects_are_typed files h = let p = whole_to files h in projects_typed files p.0 p.1

pub whole_numbered_projects_are_typed : WholeNumberedProjectsAreTyped
whole_numbered_projects_are_typed files h = let p = whole_to files h in numbered_typed files p.0 p.1

pub no_fault_where_typed_and_low : NoFaultWhereTypedAndLow
no_fault_where_typed_and_low files = (
  λ h. let p = whole_to files h in ((no_fault_where_typed files).0 p.0, p.1),
  λ h. files_from (declarations files) [] (in_order files) ((no_fault_where_typed files).1 h.0) h.1,
)
