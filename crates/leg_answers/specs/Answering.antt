-- The answer for what is left of a leg, from one item that asks for something to the next.
use Rattle.std.specs.Prelude.{◌≡◌, ℕ, ◌<◌, Bool, List, length, Option, Some, None, Result, Ok, Err, ⊤}
use Rattle.std.specs.List.{All}
use Rattle.validity.specs.Validity.{SequentTree, IsWellSorted}
use Rattle.deduction_rules.specs.Step.{StepTrees}
use Rattle.deduction_rules.specs.Deduction.{deduction}
use Rattle.program_trees.specs.declared.answer.Kind.{Kind}
use Rattle.program_trees.specs.declared.answer.Kind.TheVariants as kinds
use Rattle.program_trees.specs.declared.answer.Reason.{Reason}
use Rattle.program_trees.specs.declared.answer.Reason.TheVariants as reasons
use Rattle.program_trees.specs.declared.answer.Answer.{Answer}
use Rattle.program_trees.specs.declared.answer.Answer.TheVariants as answers
use Rattle.term_nodes.specs.declared.node.Node.{Node}
use Rattle.term_store.specs.Sequent.{sequent_at, IsSequentWithin}
use Rattle.lk_programs.specs.declared.leg.Leg.{Leg}
use Rattle.deduction.specs.Steps.{step_trees}
use Rattle.deduction.specs.Checking.{AreSortedOver}
use Rattle.leg_rules.specs.Answers.{first_unproved}
use Rattle.leg_sequents.specs.Laws.{IsWellSortedObligation}
use Rattle.verdict_laws.specs.Rules.{refused_label}
use Rattle.proof_closing.specs.declared.prover.CloseEnd.{CloseEnd}
use Rattle.sym_exec.specs.declared.exec.Exec.{Exec}
use Rattle.sym_exec.specs.declared.end.Next.{Next}
use Rattle.sym_exec.specs.declared.end.Next.TheVariants as n
use Rattle.sym_exec.specs.declared.end.ExecEnd.{ExecEnd}
use Rattle.sym_exec.specs.declared.end.ExecEnd.TheVariants as e
use Rattle.sym_exec.specs.Steps.{pending, IsReady}

-- ---- what is told at an item

abbrev pub told_at : ℕ → Kind → Option Reason → Option Answer
told_at item kind None = None
told_at item kind (Some reason) = Some (answers.Unproved item kind reason)

abbrev pub refused_at : ℕ → Option ℕ → Option Answer
refused_at item None = None
refused_at item (Some label) = Some (answers.Unproved item kinds.Deduce (reasons.Rule label))

abbrev pub ended : ExecEnd → Result (Option Answer) CloseEnd
ended (e.Size item kind) = Ok (Some (answers.Unproved item kind reasons.Size))
ended e.NoMemory = Err CloseEnd.NoMemory

-- the same of what was found, and the same end
abbrev pub on_ok : {A B E : Type 0} → (A → B) → Result A E → Result B E
on_ok f (Ok x) = Ok (f x)
on_ok f (Err end) = Err end

-- ---- what comes next

-- its numbers are in the store
abbrev pub IsNextWithin : List Node → Next → Type 0
IsNextWithin store (n.Check item kind sequent) = IsSequentWithin store sequent
IsNextWithin store (n.Proof item base steps) = IsSequentWithin store base
IsNextWithin store n.Done = ⊤

-- what it asks for is well sorted
abbrev pub IsNextSorted : List Node → Next → Type 0
IsNextSorted store (n.Check item kind sequent) = IsWellSorted (sequent_at store sequent)
IsNextSorted store (n.Proof item base steps) =
    IsWellSorted (sequent_at store base) × AreSortedOver (sequent_at store base) (step_trees steps)
IsNextSorted store n.Done = ⊤

-- ---- what is left

-- what is to be shown from the place on is well sorted
abbrev pub AreSorted : List Node → Exec → Leg → Type 0
AreSorted store exec leg = All IsWellSortedObligation (pending store exec leg)

-- the label of the first step that is refused, where Auto and Algebra claim what is closed
abbrev pub accepting_by : (SequentTree → Bool) → SequentTree → StepTrees → Option ℕ
accepting_by closes base steps = refused_label (deduction closes base steps)

module _ (reason : SequentTree → Option Reason) (closes : SequentTree → Bool) where
  -- what is told at what comes next
  abbrev pub told_next : List Node → Next → Option Answer
  told_next store (n.Check item kind sequent) = told_at item kind (reason (sequent_at store sequent))
  told_next store (n.Proof item base steps) = refused_at item (accepting_by closes (sequent_at store base) (step_trees steps))
  told_next store n.Done = Some answers.Proved

  -- the answer for what is to be shown from the place on
  abbrev pub remaining : List Node → Exec → Leg → Answer
  remaining store exec leg = first_unproved reason (accepting_by closes) (pending store exec leg)

  -- What is left has the same answer, and is less.
  pub record IsOnward (store : List Node) (exec : Exec) (store' : List Node) (exec' : Exec) (leg : Leg) : Type 0 where
    pub same : remaining store exec leg ≡ remaining store' exec' leg
    pub fewer : length (pending store' exec' leg) < length (pending store exec leg)
    pub ready : IsReady store' exec' leg
    pub begun : exec'.end ≡ None
    pub sorted : AreSorted store' exec' leg

  -- It is the answer, or what is left has the same.
  abbrev pub AnswersNext : Option Answer → List Node → Exec → List Node → Exec → Leg → Type 0
  AnswersNext (Some answer) store exec store' exec' leg = remaining store exec leg ≡ answer
  AnswersNext None store exec store' exec' leg = IsOnward store exec store' exec' leg
