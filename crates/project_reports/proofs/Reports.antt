-- A project has one report, and what it calls verified is safe.
use Rattle.std.proofs.Common.{◌≡◌, ℕ, List, [], ◌∷◌, refl, sym, ap, ◌∙◌, subst}
use Rattle.slang_tree.specs.declared.place.Fault.{Fault}
use Rattle.slang_tree.specs.declared.place.FileFault.{FileFault}
use Rattle.slang_tree.specs.DeclTree.{DeclTree}
use Rattle.slang_grammar.specs.Texts.{Reads}
use Rattle.slang_grammar.specs.Faults.{HasFault}
use Rattle.slang_grammar.proofs.Fronts.{one_fault, no_fault}
use Rattle.machine_complete.proofs.Declarations.{one_tree}
use Rattle.type_rules.specs.Projects.{FileTree}
use Rattle.typed_texts.specs.TypedProjects.{typed_project}
use Rattle.height_rules.specs.Faults.{whole_faults}
use Rattle.height_rules.proofs.Projects.{whole_projects_are_typed}
use Rattle.verified_programs.proofs.Verified.{verified_safe}
use Rattle.project_reports.specs.Projects.{NamedText, in_order, AreRead, AreUnread, HasFaults, no_texts, no_project, IsProject}
use Rattle.project_reports.specs.Projects as p
use Rattle.verdicts.specs.Texts.{faults_text}
use Rattle.project_reports.specs.Texts.{verdicts_text, verdicts_code}
use Rattle.project_reports.specs.Reports.{names_of, verdict_lines, IsReport, verdicts, faults}
use Rattle.project_reports.specs.Laws.{ProjectsHaveOneReport, VerifiedMethodsAreSafe}

-- ---- what is read of texts

pub one_reading : (texts : List NamedText) (a b : List FileTree) → AreRead texts a → AreRead texts b → a ≡ b
one_reading [] a b p.none p.none = refl
one_reading (text ∷ texts) a b (p.read {decls = decls} {files = files} reads more) (p.read {decls = decls'} {files = files'} reads' more') =
    ap (λ (trees : List DeclTree). record { name = text.name; decls = trees } ∷ files) (one_tree text.bytes decls decls' reads reads')
    ∙ ap (λ (others : List FileTree). record { name = text.name; decls = decls' } ∷ others) (one_reading texts files files' more more')

pub one_list : (texts : List NamedText) (a b : List FileFault) → AreUnread texts a → AreUnread texts b → a ≡ b
one_list [] a b p.none p.none = refl
one_list (text ∷ texts) a b (p.read reads more) (p.read reads' more') = one_list texts a b more more'
one_list (text ∷ texts) a b (p.read {decls = decls} reads more) (p.unread {fault = fault} has more') = absurd (no_fault text.bytes decls fault reads has)
one_list (text ∷ texts) a b (p.unread {fault = fault} has more) (p.read {decls = decls} reads more') = absurd (no_fault text.bytes decls fault reads has)
one_list (text ∷ texts) a b (p.unread {fault = fault} {faults = found} has more) (p.unread {fault = fault'} {faults = found'} has' more') =
    ap (λ (first : Fault). record { file = text.name; fault = first } ∷ found) (one_fault text.bytes fault fault' has has')
    ∙ ap (λ (others : List FileFault). record { file = text.name; fault = fault' } ∷ others) (one_list texts found found' more more')

-- texts that are read have no fault of reading
no_unread : (texts : List NamedText) (files : List FileTree) (found : List FileFault) → AreRead texts files → AreUnread texts found → found ≡ []
no_unread [] files found p.none p.none = refl
no_unread (text ∷ texts) files found (p.read {files = others} reads more) (p.read reads' more') = no_unread texts others found more more'
no_unread (text ∷ texts) files found (p.read {decls = decls} reads more) (p.unread {fault = fault} has more') = absurd (no_fault text.bytes decls fault reads has)

-- ---- one report

one_fault_list : (texts : List NamedText) (a b : List FileFault) → HasFaults texts a → HasFaults texts b → a ≡ b
one_fault_list texts a b (no_texts unread some) (no_texts unread' some') = one_list (in_order texts) a b unread unread'
one_fault_list texts a b (no_texts unread some) (no_project files all is some') = absurd (some (no_unread (in_order texts) files a all unread))
one_fault_list texts a b (no_project files all is some) (no_texts unread some') = absurd (some' (no_unread (in_order texts) files b all unread))
one_fault_list texts a b (no_project files all is some) (no_project files' all' is' some') =
    sym is ∙ ap whole_faults (one_reading (in_order texts) files files' all all') ∙ is'

no_faults : (texts : List NamedText) (files : List FileTree) (found : List FileFault) → IsProject texts files → HasFaults texts found → ⊥
no_faults texts files found project (no_texts unread some) = some (no_unread (in_order texts) files found project.read unread)
no_faults texts files found project (no_project files' all is some) =
    some (sym is ∙ ap whole_faults (one_reading (in_order texts) files' files all project.read) ∙ project.faultless)

pub projects_have_one_report : ProjectsHaveOneReport
projects_have_one_report revision texts text other code more (verdicts files project written counted) (verdicts files' project' written' counted') =
    let same = one_reading (in_order texts) files files' project.read project'.read in (
      written ∙ ap (λ it. verdicts_text revision (names_of (typed_project it)) (verdict_lines (typed_project it).program)) same ∙ sym written',
      counted ∙ ap (λ it. verdicts_code (verdict_lines (typed_project it).program)) same ∙ sym counted',
    )
projects_have_one_report revision texts text other code more (verdicts files project written counted) (faults found has written' counted') =
    absurd (no_faults texts files found project has)
projects_have_one_report revision texts text other code more (faults found has written counted) (verdicts files project written' counted') =
    absurd (no_faults texts files found project has)
projects_have_one_report revision texts text other code more (faults found has written counted) (faults found' has' written' counted') =
    (written ∙ ap (faults_text revision) (one_fault_list texts found found' has has') ∙ sym written', counted ∙ sym counted')

-- ---- what is verified is safe

pub verified_methods_are_safe : VerifiedMethodsAreSafe
verified_methods_are_safe texts files from project verified =
    verified_safe _ _ _ from (whole_projects_are_typed files project.faultless) verified
