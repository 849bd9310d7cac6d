-- One text more is read, or is none.
use Rattle.std.proofs.Common.{◌≡◌, ℕ, List, [], ◌∷◌, ◌++◌, map, refl, sym, ap, ◌∙◌, subst}
use Rattle.std.proofs.lemmas.List.{map-append}
use Rattle.slang_tree.specs.declared.place.Fault.{Fault}
use Rattle.slang_tree.specs.declared.place.FileFault.{FileFault}
use Rattle.slang_tree.specs.declared.declaration.File.{File}
use Rattle.slang_tree.specs.declared.declaration.NamedFile.{NamedFile}
use Rattle.slang_tree.specs.DeclTree.{DeclTree, file_tree}
use Rattle.slang_grammar.specs.Texts.{Reads}
use Rattle.slang_grammar.specs.Faults.{HasFault}
use Rattle.type_rules.specs.Projects.{FileTree}
use Rattle.project_files.specs.Files.{file_seen}
use Rattle.project_reports.specs.Projects.{NamedText, AreRead, AreUnread}
use Rattle.project_reports.specs.Projects as p
use Rattle.project_reading.specs.Texts.{HasRead}

also_read : (texts : List NamedText) (files : List FileTree) (text : NamedText) (decls : List DeclTree) → AreRead texts files → Reads text.bytes decls
    → AreRead (texts ++ text ∷ []) (files ++ record { name = text.name; decls = decls } ∷ [])
also_read [] files text decls p.none reads = p.read reads p.none
also_read (next ∷ texts) files text decls (p.read {files = others} h more) reads = p.read h (also_read texts others text decls more reads)

unread_and_read : (texts : List NamedText) (faults : List FileFault) (text : NamedText) (decls : List DeclTree) → AreUnread texts faults → Reads text.bytes decls
    → AreUnread (texts ++ text ∷ []) faults
unread_and_read [] faults text decls p.none reads = p.read reads p.none
unread_and_read (next ∷ texts) faults text decls (p.read h more) reads = p.read h (unread_and_read texts faults text decls more reads)
unread_and_read (next ∷ texts) faults text decls (p.unread {faults = found} h more) reads = p.unread h (unread_and_read texts found text decls more reads)

also_unread : (texts : List NamedText) (faults : List FileFault) (text : NamedText) (fault : Fault) → AreUnread texts faults → HasFault text.bytes fault
    → AreUnread (texts ++ text ∷ []) (faults ++ record { file = text.name; fault = fault } ∷ [])
also_unread [] faults text fault p.none has = p.unread has p.none
also_unread (next ∷ texts) faults text fault (p.read h more) has = p.read h (also_unread texts faults text fault more has)
also_unread (next ∷ texts) faults text fault (p.unread {faults = found} h more) has = p.unread h (also_unread texts found text fault more has)

not_empty : {A : Type 0} (xs : List A) (x : A) → xs ++ x ∷ [] ≡ [] → ⊥
not_empty [] x h = cc (h)
not_empty (y ∷ xs) x h = cc (h)

pub with_file : (texts : List NamedText) (files new : List NamedFile) (faults : List FileFault) (text : NamedText) (name : List ℕ) (tree : File)
    → name ≡ text.name → new ≡ files ++ record { name = name; tree = tree } ∷ [] → Reads text.bytes (file_tree tree) → HasRead texts files faults
    → HasRead (texts ++ text ∷ []) new faults
with_file texts files new faults text name tree named added reads before = record {
  unread = unread_and_read texts faults text (file_tree tree) before.unread reads;
  read = λ none.
      let made : map file_seen new ≡ map file_seen files ++ record { name = text.name; decls = file_tree tree } ∷ [] =
      ap (map file_seen) added ∙ map-append file_seen files _ ∙ ap (λ n. map file_seen files ++ record { name = n; decls = file_tree tree } ∷ []) named in
      subst (AreRead (texts ++ text ∷ [])) (sym made) (also_read texts (map file_seen files) text (file_tree tree) (before.read none) reads);
}

pub with_fault : (texts : List NamedText) (files : List NamedFile) (faults new : List FileFault) (text : NamedText) (name : List ℕ) (fault : Fault)
    → name ≡ text.name → new ≡ faults ++ record { file = name; fault = fault } ∷ [] → HasFault text.bytes fault → HasRead texts files faults
    → HasRead (texts ++ text ∷ []) files new
with_fault texts files faults new text name fault named added has before = record {
  unread =
      subst (AreUnread (texts ++ text ∷ []))
      (sym (added ∙ ap (λ n. faults ++ record { file = n; fault = fault } ∷ []) named)) (also_unread texts faults text fault before.unread has);
  read = λ none. absurd (not_empty faults _ (sym added ∙ none));
}

pub none_read : (files : List NamedFile) (faults : List FileFault) → files ≡ [] → faults ≡ [] → HasRead [] files faults
none_read files faults no_files no_faults = record {
  unread = subst (AreUnread []) (sym no_faults) p.none;
  read = λ none. subst (λ read. AreRead [] (map file_seen read)) (sym no_files) p.none;
}
