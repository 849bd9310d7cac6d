-- What is found of the texts of a project is all that there is to find.
use Rattle.std.proofs.Common.{◌≡◌, List, [], ◌∷◌, Result, Ok, Err, map, refl, sym, ap, ◌∙◌, subst}
use Rattle.std.specs.Prelude.{IfErr, IfOk, IsErrAnd, MatchResult, OnOk}
use Rattle.slang_tree.specs.declared.place.FileFault.{FileFault}
use Rattle.slang_tree.specs.declared.declaration.NamedFile.{NamedFile}
use Rattle.lk_programs.specs.declared.typed.Typed.{Typed}
use Rattle.slang_grammar.proofs.Fronts.{no_fault}
use Rattle.type_rules.specs.Projects.{FileTree}
use Rattle.height_rules.specs.Faults.{whole_faults}
use Rattle.typed_texts.specs.TypedProjects.{typed_project}
use Rattle.project_files.specs.Files.{file_seen}
use Rattle.project_reports.specs.Projects.{AreRead, AreUnread, HasFaults, IsProject, NamedText, in_order, no_project, no_texts}
use Rattle.project_reports.specs.Projects as p
use Rattle.project_reports.proofs.Reports.{one_list, one_reading}
use Rattle.project_reading.specs.declared.read.Reading.{Reading}
use Rattle.project_reading.specs.declared.read.Reading.TheVariants as reading
use Rattle.project_reading.specs.Texts.{IsReading}
use Rattle.project_making.specs.Projects.{IsTypedOf}
use Rattle.project_loading.specs.declared.checking.CheckEnd.{CheckEnd}
use Rattle.project_loading.specs.declared.checking.CheckEnd.TheVariants as check_end
use Rattle.project_loading.specs.Ends.{AreFaultsOf, IfFaults, IsProgramOf, IsWell}
use Rattle.project_loading.proofs.Files.{well_faultless}

-- ---- what reading comes to

-- texts that are none are told
pub faults_read : (found : Reading) (faults : List FileFault) → found ≡ reading.Faults faults → (texts : List NamedText) → IsReading (in_order texts) found →
    HasFaults texts faults
faults_read found faults is texts read = let r = subst (IsReading (in_order texts)) is read in no_texts r.0 r.1

files_read : (found : Reading) (files lent : List NamedFile) → found ≡ reading.Files files → lent ≡ files → (texts : List NamedText) →
    IsReading (in_order texts) found → AreRead (in_order texts) (map file_seen lent)
files_read found files lent is same texts read =
    subst (λ fs. AreRead (in_order texts) (map file_seen fs)) (sym same) (subst (IsReading (in_order texts)) is read)

pub program_read : (found : Reading) (files lent : List NamedFile) (result : Result Typed CheckEnd) → found ≡ reading.Files files → lent ≡ files →
    IfOk result (λ made. IsTypedOf made (typed_project (map file_seen lent))) → OnOk result (IsWell (map file_seen lent)) →
    IfOk result (λ made. (texts : List NamedText) → IsReading (in_order texts) found → IsProgramOf texts made)
program_read found files lent (Ok made) is same typed well = λ texts read. record {
  files = map file_seen lent;
  project = record { read = files_read found files lent is same texts read; faultless = well_faultless (map file_seen lent) well };
  typed = typed;
}
program_read found files lent (Err end) is same typed well = tt

pub faults_found : (found : Reading) (files lent : List NamedFile) (result : Result Typed CheckEnd) → found ≡ reading.Files files → lent ≡ files →
    IfErr result (λ end. IfFaults end (AreFaultsOf (map file_seen lent))) →
    IfErr result (λ end. (texts : List NamedText) → IsReading (in_order texts) found → IfFaults end (HasFaults texts))
faults_found found files lent (Ok made) is same faults = tt
faults_found found files lent (Err (check_end.Faults told)) is same faults =
    λ texts read. no_project (map file_seen lent) (files_read found files lent is same texts read) (sym faults.0) faults.1
faults_found found files lent (Err check_end.NoMemory) is same faults = λ texts read. tt

-- ---- one program, or one list of faults

-- texts that are read have no fault of reading
no_unread : (texts : List NamedText) (files : List FileTree) (found : List FileFault) → AreRead texts files → AreUnread texts found → found ≡ []
no_unread [] files found p.none p.none = refl
no_unread (text ∷ texts) files found (p.read {files = others} reads more) (p.read reads' more') = no_unread texts others found more more'
no_unread (text ∷ texts) files found (p.read {decls = decls} reads more) (p.unread {fault = fault} has more') =
    absurd (no_fault text.bytes decls fault reads has)

one_fault_list : (texts : List NamedText) (a b : List FileFault) → HasFaults texts a → HasFaults texts b → a ≡ b
one_fault_list texts a b (no_texts told some) (no_texts told' some') = one_list (in_order texts) a b told told'
one_fault_list texts a b (no_texts told some) (no_project files all is some') = absurd (some (no_unread (in_order texts) files a all told))
one_fault_list texts a b (no_project files all is some) (no_texts told some') = absurd (some' (no_unread (in_order texts) files b all told))
one_fault_list texts a b (no_project files all is some) (no_project files' all' is' some') =
    sym is ∙ ap whole_faults (one_reading (in_order texts) files files' all all') ∙ is'

no_faults : (texts : List NamedText) (files : List FileTree) (found : List FileFault) → IsProject texts files → HasFaults texts found → ⊥
no_faults texts files found project (no_texts told some) = some (no_unread (in_order texts) files found project.read told)
no_faults texts files found project (no_project files' all is some) =
    some (sym is ∙ ap whole_faults (one_reading (in_order texts) files' files all project.read) ∙ project.faultless)

-- a project of texts has its program
pub only_program : (texts : List NamedText) (result : Result Typed CheckEnd) → IfOk result (IsProgramOf texts) →
    IfErr result (λ end. IfFaults end (HasFaults texts)) → (files : List FileTree) → IsProject texts files →
    MatchResult result (λ made. IsTypedOf made (typed_project files)) (λ end. end ≡ check_end.NoMemory)
only_program texts (Ok made) is faults files project =
    subst (λ fs. IsTypedOf made (typed_project fs)) (one_reading (in_order texts) is.files files is.project.read project.read) is.typed
only_program texts (Err (check_end.Faults told)) is faults files project = absurd (no_faults texts files told project faults)
only_program texts (Err check_end.NoMemory) is faults files project = refl

-- faults that are there are told
pub only_faults : (texts : List NamedText) (result : Result Typed CheckEnd) → IfOk result (IsProgramOf texts) →
    IfErr result (λ end. IfFaults end (HasFaults texts)) → (faults : List FileFault) → HasFaults texts faults →
    IsErrAnd result (λ end. IfFaults end (λ told. told ≡ faults))
only_faults texts (Ok made) is has faults found = absurd (no_faults texts is.files faults is.project found)
only_faults texts (Err (check_end.Faults told)) is has faults found = one_fault_list texts told faults has found
only_faults texts (Err check_end.NoMemory) is has faults found = tt
