-- What an item that asks for something leaves.
use Rattle.std.proofs.Common.{◌≡◌, ℕ, Bool, List, ◌∷◌, length, Option, Some, None, Result, Ok, Err, IfOk, refl, sym, ap, ◌∙◌, subst, arith}
use Rattle.std.specs.List.{All}
use Rattle.std.proofs.lemmas.List.Elements.{All-from_recursion, recursion_from_All}
use Rattle.validity.specs.Validity.{SequentTree}
use Rattle.term_nodes.specs.declared.node.Node.{Node}
use Rattle.term_store.specs.Store.{Grows}
use Rattle.term_store.specs.Sequent.{sequent_at}
use Rattle.program_trees.specs.declared.answer.Kind.{Kind}
use Rattle.program_trees.specs.declared.answer.Reason.{Reason}
use Rattle.program_trees.specs.declared.answer.Answer.{Answer}
use Rattle.deduction_rules.specs.Step.{StepTrees}
use Rattle.lk_programs.specs.declared.leg.Leg.{Leg}
use Rattle.deduction.specs.Steps.{step_trees}
use Rattle.leg_rules.specs.Sequents.{Obligation, to_show, to_accept}
use Rattle.leg_rules.specs.Answers.{unless_closed, unless_accepted, first_unproved}
use Rattle.leg_sequents.specs.Laws.{IsWellSortedObligation}
use Rattle.proof_closing.specs.Prover.{Work, IsCurrent, Leaves, stop_of}
use Rattle.proof_closing.specs.declared.prover.CloseEnd.{CloseEnd}
use Rattle.sym_exec.specs.declared.exec.Exec.{Exec}
use Rattle.sym_exec.specs.declared.end.Next.{Next}
use Rattle.sym_exec.specs.declared.end.Next.TheVariants as n
use Rattle.sym_exec.specs.declared.end.ExecEnd.{ExecEnd}
use Rattle.sym_exec.specs.declared.end.ExecEnd.TheVariants as e
use Rattle.sym_exec.specs.Steps.{pending, IsReady, IsNext, IsEndOf}
use Rattle.sym_exec.proofs.Places.{growth_laws}
use Rattle.leg_answers.specs.Answering.{told_at, refused_at, ended, on_ok, accepting_by}
use Rattle.leg_answers.specs.Answering.{told_next, IsNextWithin, IsNextSorted, remaining, AnswersNext, AreSorted}

-- ---- results

pub ok_of : {A B E : Type 0} (f : A → B) (r : Result B E) (told : Result A E) (P : A → Type 0) (Q : B → Type 0) → r ≡ on_ok f told → IfOk told P
    → ((x : A) → P x → Q (f x)) → IfOk r Q
ok_of f r (Ok x) P Q e h g = subst (λ s. IfOk s Q) (sym e) (g x h)
ok_of f r (Err end) P Q e h g = subst (λ s. IfOk s Q) (sym e) tt

stop_on : {A B : Type 0} (f : A → B) (told : Result A CloseEnd) → stop_of (on_ok f told) ≡ stop_of told
stop_on f (Ok x) = refl
stop_on f (Err end) = refl

pub stop_as : {A B : Type 0} (f : A → B) (r : Result B CloseEnd) (told : Result A CloseEnd) → r ≡ on_ok f told → stop_of told ≡ stop_of r
stop_as f r told e = sym (ap stop_of e ∙ stop_on f told)

-- what is not called stays as it was
pub stays : (w : Work) → IsCurrent w → Leaves w w None
stays w h = record { mine = refl; told = omega arith; stopped = h }

-- ---- what is left is well sorted

pub first_sorted : (all rest : List Obligation) (o : Obligation) → All IsWellSortedObligation all → all ≡ o ∷ rest → IsWellSortedObligation o
first_sorted all rest o h is = (recursion_from_All IsWellSortedObligation (o ∷ rest) (subst (All IsWellSortedObligation) is h)).0

rest_sorted : (all rest : List Obligation) (o : Obligation) → All IsWellSortedObligation all → all ≡ o ∷ rest → All IsWellSortedObligation rest
rest_sorted all rest o h is =
    All-from_recursion IsWellSortedObligation rest (recursion_from_All IsWellSortedObligation (o ∷ rest) (subst (All IsWellSortedObligation) is h)).1

-- ---- the answer at an item

module _ (reason : SequentTree → Option Reason) (closes : SequentTree → Bool) (leg : Leg) (store mid new : List Node) (exec exec' : Exec)
    (g : Grows mid new) (ready : IsReady mid exec' leg) (begun : exec'.end ≡ None) (sorted : AreSorted store exec leg) where
  abbrev later : Answer
  later = remaining reason closes mid exec' leg

  onward : (o : Obligation) → pending store exec leg ≡ o ∷ pending mid exec' leg
      → first_unproved reason (accepting_by closes) (o ∷ pending mid exec' leg) ≡ later → AnswersNext reason closes None store exec new exec' leg
  onward o front passes =
      let same = growth_laws.pending mid new exec' leg g ready in
      let fewer : length (pending store exec leg) ≡ length (o ∷ pending mid exec' leg) = ap length front in
      let shorter : length (pending new exec' leg) ≡ length (pending mid exec' leg) = ap length same in
      record {
        same = ap (first_unproved reason (accepting_by closes)) front ∙ passes ∙ ap (first_unproved reason (accepting_by closes)) (sym same);
        fewer = omega (arith, fewer, shorter);
        ready = growth_laws.ready mid new exec' leg g ready;
        begun = begun;
        sorted = subst (All IsWellSortedObligation) (sym same) (rest_sorted (pending store exec leg) (pending mid exec' leg) o sorted front);
      }

  pub check_next : (item : ℕ) (kind : Kind) (s : SequentTree) (told : Option Reason) → pending store exec leg ≡ to_show item kind s ∷ pending mid exec' leg
      → told ≡ reason s → AnswersNext reason closes (told_at item kind told) store exec new exec' leg
  check_next item kind s None front e =
      onward (to_show item kind s) front (ap (λ o. unless_closed reason (accepting_by closes) o item kind later) (sym e))
  check_next item kind s (Some why) front e =
      ap (first_unproved reason (accepting_by closes)) front ∙ ap (λ o. unless_closed reason (accepting_by closes) o item kind later) (sym e)

  pub proof_next : (item : ℕ) (base : SequentTree) (steps : StepTrees) (told : Option ℕ)
      → pending store exec leg ≡ to_accept item base steps ∷ pending mid exec' leg → told ≡ accepting_by closes base steps
      → AnswersNext reason closes (refused_at item told) store exec new exec' leg
  proof_next item base steps None front e =
      onward (to_accept item base steps) front (ap (λ o. unless_accepted reason (accepting_by closes) o item later) (sym e))
  proof_next item base steps (Some label) front e =
      ap (first_unproved reason (accepting_by closes)) front ∙ ap (λ o. unless_accepted reason (accepting_by closes) o item later) (sym e)

module _ (leg : Leg) (store mid : List Node) (exec exec' : Exec) where
  pub next_within : (next : Next) → IsNext next store exec mid exec' leg → IsNextWithin mid next
  next_within (n.Check item kind sequent) h = h.1
  next_within (n.Proof item base steps) h = h.1
  next_within n.Done h = tt

  pub next_sorted : (next : Next) → AreSorted store exec leg → IsNext next store exec mid exec' leg → IsNextSorted mid next
  next_sorted (n.Check item kind sequent) s h =
      first_sorted (pending store exec leg) (pending mid exec' leg) (to_show item kind (sequent_at mid sequent)) s h.0
  next_sorted (n.Proof item base steps) s h =
      first_sorted (pending store exec leg) (pending mid exec' leg) (to_accept item (sequent_at mid base) (step_trees steps)) s h.0
  next_sorted n.Done s h = tt

module _ (reason : SequentTree → Option Reason) (closes : SequentTree → Bool) (leg : Leg) (store : List Node) (exec : Exec) where
  pub next_told : (mid new : List Node) (exec' : Exec) (next : Next) → Grows mid new → IsReady mid exec' leg → exec'.end ≡ None → AreSorted store exec leg
      → IsNext next store exec mid exec' leg → AnswersNext reason closes (told_next reason closes mid next) store exec new exec' leg
  next_told mid new exec' (n.Check item kind sequent) g ready begun sorted h =
      check_next reason closes leg store mid new exec exec' g ready begun sorted item kind (sequent_at mid sequent) (reason (sequent_at mid sequent)) h.0 refl
  next_told mid new exec' (n.Proof item base steps) g ready begun sorted h =
      proof_next reason closes leg store mid new exec exec' g ready begun sorted item (sequent_at mid base) (step_trees steps)
      (accepting_by closes (sequent_at mid base) (step_trees steps)) h.0 refl
  next_told mid new exec' n.Done g ready begun sorted h = ap (first_unproved reason (accepting_by closes)) h.0

  pub answers_told : (mid new : List Node) (exec' : Exec) (next : Next) (r : Result (Option Answer) CloseEnd) → Grows mid new → IsReady mid exec' leg
      → exec'.end ≡ None → AreSorted store exec leg → IsNext next store exec mid exec' leg → IfOk r (λ it. it ≡ told_next reason closes mid next)
      → IfOk r (λ it. AnswersNext reason closes it store exec new exec' leg)
  answers_told mid new exec' next (Ok it) g ready begun sorted h e =
      subst (λ a. AnswersNext reason closes a store exec new exec' leg) (sym e) (next_told mid new exec' next g ready begun sorted h)
  answers_told mid new exec' next (Err end) g ready begun sorted h e = tt

  pub end_next : (new : List Node) (exec' : Exec) (end : ExecEnd) (r : Result (Option Answer) CloseEnd) → r ≡ ended end → IsEndOf end (pending store exec leg)
      → IfOk r (λ it. AnswersNext reason closes it store exec new exec' leg)
  end_next new exec' (e.Size item kind) r is h =
      subst (λ s. IfOk s (λ it. AnswersNext reason closes it store exec new exec' leg)) (sym is) (ap (first_unproved reason (accepting_by closes)) h)
  end_next new exec' e.NoMemory r is h = subst (λ s. IfOk s (λ it. AnswersNext reason closes it store exec new exec' leg)) (sym is) tt

pub end_stop : (end : ExecEnd) (r : Result (Option Answer) CloseEnd) → r ≡ ended end → None ≡ stop_of r
end_stop (e.Size item kind) r is = sym (ap stop_of is)
end_stop e.NoMemory r is = sym (ap stop_of is)
