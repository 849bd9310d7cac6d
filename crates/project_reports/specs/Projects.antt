-- The texts of a project, what the grammar reads of them, and what is wrong with them.
use Rattle.std.specs.Prelude.{◌≡◌, ◌≢◌, ℕ, List, [], ◌∷◌, if◌then◌else◌}
use Rattle.slang_tree.specs.declared.place.Fault.{Fault}
use Rattle.slang_tree.specs.declared.place.FileFault.{FileFault}
use Rattle.slang_tree.specs.DeclTree.{DeclTree}
use Rattle.slang_grammar.specs.Texts.{Reads}
use Rattle.slang_grammar.specs.Faults.{HasFault}
use Rattle.type_rules.specs.Faults.{precedes}
use Rattle.type_rules.specs.Projects.{FileTree}
use Rattle.height_rules.specs.Faults.{whole_faults}

pub record NamedText : Type 0 where
  pub name : List ℕ
  pub bytes : List ℕ

abbrev pub with_named : {X : Type 0} → (X → List ℕ) → X → List X → List X
with_named name x [] = x ∷ []
with_named name x (next ∷ xs) = if precedes (name next) (name x) then next ∷ with_named name x xs else x ∷ next ∷ xs

-- what has names, in the order of the names' bytes
abbrev pub ordered : {X : Type 0} → (X → List ℕ) → List X → List X
ordered name [] = []
ordered name (x ∷ xs) = with_named name x (ordered name xs)

-- the texts in the order of their names' bytes
abbrev pub in_order : List NamedText → List NamedText
in_order texts = ordered (λ text. text.name) texts

-- each text is one of the grammar, with this tree
pub data AreRead : List NamedText → List FileTree → Type 0 where
  none : AreRead [] []
  read : {text : NamedText} {decls : List DeclTree} {texts : List NamedText} {files : List FileTree} → Reads text.bytes decls → AreRead texts files
      → AreRead (text ∷ texts) (record { name = text.name; decls = decls } ∷ files)

-- the first faults of those texts that are none of the grammar
pub data AreUnread : List NamedText → List FileFault → Type 0 where
  none : AreUnread [] []
  read : {text : NamedText} {decls : List DeclTree} {texts : List NamedText} {faults : List FileFault} → Reads text.bytes decls → AreUnread texts faults
      → AreUnread (text ∷ texts) faults
  unread : {text : NamedText} {fault : Fault} {texts : List NamedText} {faults : List FileFault} → HasFault text.bytes fault → AreUnread texts faults
      → AreUnread (text ∷ texts) (record { file = text.name; fault = fault } ∷ faults)

-- The first fault of each file that has one, in the order of the files' names. Where some text is none of the grammar, only such texts have faults;
-- else those of names, types and heights count.
pub data HasFaults (texts : List NamedText) (faults : List FileFault) : Type 0 where
  no_texts : AreUnread (in_order texts) faults → faults ≢ [] → HasFaults texts faults
  no_project : (files : List FileTree) → AreRead (in_order texts) files → whole_faults files ≡ faults → faults ≢ [] → HasFaults texts faults

-- the texts, in the order of their names, have these trees, and nothing is wrong with them
pub record IsProject (texts : List NamedText) (files : List FileTree) : Type 0 where
  pub read : AreRead (in_order texts) files
  pub faultless : whole_faults files ≡ []
