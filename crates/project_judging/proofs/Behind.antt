-- The faults of files, one behind the other.
use Rattle.std.proofs.Common.{◌≡◌, ℕ, ◌+◌, ◌<◌, Option, Some, None, List, [], ◌∷◌, ◌++◌, length, take, drop, get_or, map, filter_map, flat_map, refl, sym, ap, ◌∙◌, append_assoc, append-nil}
use Rattle.std.specs.Borrow.{Bor}
use Rattle.std.specs.List.{cons_option}
use Rattle.std.specs.Option.{option_map}
use Rattle.std.proofs.lemmas.List.{map-append, take-append-drop}
use Rattle.std.proofs.lemmas.List.Elements.{filter_map-append}
use Rattle.std.proofs.lemmas.Grind.{flat_map-append}
use Rattle.slang_tree.specs.declared.place.Fault.{Fault}
use Rattle.slang_tree.specs.declared.declaration.NamedFile.{NamedFile}
use Rattle.slang_tree.specs.DeclTree.{DeclTree, file_tree}
use Rattle.type_rules.specs.Faults.{first_fault}
use Rattle.type_rules.specs.Projects.{FaultyFile, FileTree, first_of_file}
use Rattle.height_rules.specs.Faults.{whole_files_faults}
use Rattle.project_files.specs.Files.{file_of}
use Rattle.record_judging.proofs.Judging.{from}
use Rattle.project_judging.specs.Ordered.{decls_of, fault_in, faults_behind, file_faults}

files-append : (all front : List DeclTree) (xs ys : List FileTree) →
    whole_files_faults all front (xs ++ ys) ≡ whole_files_faults all front xs ++ whole_files_faults all (front ++ decls_of xs) ys
files-append all front [] ys = ap (λ before. whole_files_faults all before ys) (sym (append-nil front))
files-append all front (x ∷ xs) ys =
    let own : FaultyFile = record { name = x.name; faults = file_faults all front x.decls } in
    let inner = front ++ x.decls in
    ap (λ fs. own ∷ fs) (files-append all inner xs ys)
    ∙ ap (λ before. (own ∷ whole_files_faults all inner xs) ++ whole_files_faults all before ys) (append_assoc front x.decls (decls_of xs))

one_fault : (name : List ℕ) (found : Option Fault) → cons_option (option_map (λ (fault : Fault). record { file = name; fault = fault }) found) [] ≡ fault_in name found
one_fault name None = refl
one_fault name (Some fault) = refl

-- the faults of a file more
pub faults_more : (all front : List DeclTree) (files : List FileTree) (file : FileTree) →
    faults_behind all front (files ++ file ∷ [])
    ≡ faults_behind all front files ++ fault_in file.name (first_fault (file_faults all (front ++ decls_of files) file.decls))
faults_more all front files file =
    let before = whole_files_faults all front files in
    ap (filter_map first_of_file) (files-append all front files (file ∷ []))
    ∙ filter_map-append first_of_file before (whole_files_faults all (front ++ decls_of files) (file ∷ []))
    ∙ ap (λ fs. filter_map first_of_file before ++ fs) (one_fault file.name (first_fault (file_faults all (front ++ decls_of files) file.decls)))

-- ---- one file of several

-- the declarations of a file more
pub decls_more : (files : List FileTree) (file : FileTree) → decls_of (files ++ file ∷ []) ≡ decls_of files ++ file.decls
decls_more files file =
    flat_map-append (λ (f : FileTree). f.decls) files (file ∷ []) ∙ ap (λ ds. decls_of files ++ ds) (append-nil file.decls)

-- where the declarations of a file stand in a project in which those of all the files stand
pub stands_among : (all front rest : List DeclTree) (files : List (Bor NamedFile)) (i : ℕ) (file : Bor NamedFile) → i < length files → file ≡ get_or files i file →
    all ≡ front ++ decls_of (map file_of files) ++ rest →
    all ≡ (front ++ decls_of (map file_of (take i files))) ++ file_tree file.now.tree ++ (decls_of (map file_of (drop (i + 1) files)) ++ rest)
stands_among all front rest files i file within at stands =
    let first = decls_of (map file_of (take i files)) in
    let later = decls_of (map file_of (drop (i + 1) files)) in
    let own = file_tree file.now.tree in
    let parts : decls_of (map file_of files) ≡ first ++ (own ++ later) =
    ap (λ fs. decls_of (map file_of fs)) (sym (take-append-drop i files))
    ∙ ap decls_of (map-append file_of (take i files) (drop i files))
    ∙ flat_map-append (λ (f : FileTree). f.decls) (map file_of (take i files)) (map file_of (drop i files))
    ∙ ap (λ fs. first ++ decls_of (map file_of fs)) (from files i file within at) in
    stands
    ∙ ap (λ ds. front ++ ds ++ rest) parts
    ∙ ap (λ ds. ds ++ rest) (sym (append_assoc front first (own ++ later)) ∙ sym (append_assoc (front ++ first) own later))
    ∙ append_assoc ((front ++ first) ++ own) later rest
