-- What is to be shown along a well-typed leg is well sorted.
use Rattle.std.proofs.Common.{◌≡◌, ℕ, ◌+◌, Bool, true, false, cond, List, [], ◌∷◌, ◌++◌, length, Option, Some, None, refl, ◌∙◌}
use Rattle.std.specs.Prelude.{nat_eq, slice_get, ◌||◌}
use Rattle.std.specs.List.{All, AllByRecursion}
use Rattle.std.proofs.lemmas.List.Elements.{All-from_recursion}
use Rattle.slang_values.specs.Value.{ValueType, number_type, truth_type, Records, is_known, AreWellFormed}
use Rattle.slang_values.specs.Tree.{Tree, truth_literal}
use Rattle.slang_values.specs.Typing.{NameTypes}
use Rattle.validity.specs.Validity.{IsClaim, IsWellSorted}
use Rattle.deduction_rules.specs.Step.{StepTree, line, block, StepTrees, no_steps, step_then, IsNumberSymbol, IsSortedStep, AreSortedSteps}
use Rattle.program_trees.specs.declared.answer.Kind.{Kind}
use Rattle.program_trees.specs.declared.answer.Kind.TheVariants as kinds
use Rattle.program_trees.specs.Claims as claims
use Rattle.program_trees.specs.Claims.{ClaimName, variable, old_variable, let_symbol, ClaimTree, ProofStepTree, ProofStepTrees}
use Rattle.program_trees.specs.Legs.{ItemTree, assume, check, set, fresh, proof, LegTree}
use Rattle.leg_rules.specs.Store.{State, start, read_claim, with_fact, set_variable, make_fresh, is_small}
use Rattle.leg_rules.specs.Sequents.{begin_block, block_symbol, after_step, after_steps, read_term, step_term, step_terms, are_small_steps, outermost, Obligation, to_show, to_accept, sequent, base, where_small, with_facts, obligations_from, obligations}
use Rattle.leg_rules.specs.Typed.{item_names, step_names, IsLegClaim, with_label, IsTypedStep, AreTypedSteps, no_labels, AreTypedItems, IsTypedLeg}
use Rattle.leg_sequents.specs.Laws.{IsWellSortedObligation}
use Rattle.leg_sequents.proofs.Reading.{Wider, wider_push, pushed, known_push, none≢some, IsTyped-more, IsClaim-wider, claims_wider, IsGood, Reads, claim_reads, good_read, typed_term, closed_term, good_set, good_fresh, good_fact}

-- ---- the labels of blocks

let_at : (b l : Bool) (sorts : List ValueType) (n m : ℕ) → cond b (true || l) l ≡ true → slice_get sorts n ≡ Some number_type → (l ≡ true
    → slice_get sorts m ≡ Some number_type)
    → slice_get sorts (cond b n m) ≡ Some number_type
let_at true l sorts n m h here there = here
let_at false l sorts n m h here there = there h

no_let : (b l : Bool) → cond b (false || l) l ≡ true → l ≡ true
no_let true l h = h
no_let false l h = h

still : (b has l : Bool) → l ≡ true → cond b (has || l) l ≡ true
still true true l h = refl
still true false l h = h
still false has l h = h

-- ---- what steps keep

pub record Keeps (old new : State) : Type 0 where
  pub facts : new.facts ≡ old.facts
  pub wider : Wider old.sorts new.sorts

keeps_nothing : (state : State) → Keeps state state
keeps_nothing state = record { facts = refl; wider = λ n t h. h }

keeps_on : (a b c : State) → Keeps a b → Keeps b c → Keeps a c
keeps_on a b c r s = record { facts = s.facts ∙ r.facts; wider = λ n t h. s.wider n t (r.wider n t h) }

keeps_read : (old new : State) → Reads old new → Keeps old new
keeps_read old new r = record { facts = r.facts; wider = r.wider }

keeps_begin : (has : Bool) (label : ℕ) (state : State) → Keeps state (begin_block has label state)
keeps_begin true label state = record { facts = refl; wider = wider_push state.sorts number_type }
keeps_begin false label state = keeps_nothing state

module _ (records : Records) where
  number_wider : (old new : List ValueType) → Wider old new → (symbol : Option ℕ) → IsNumberSymbol (slice_get old) symbol → IsNumberSymbol
      (slice_get new) symbol
  number_wider old new wider None h = h
  number_wider old new wider (Some k) h = wider k number_type h

  mutual
    step_wider : (old new : List ValueType) → Wider old new → (step : StepTree) → IsSortedStep records (slice_get old) step → IsSortedStep records
        (slice_get new) step
    step_wider old new wider (line label claim rule cites) h = IsClaim-wider records old new wider claim h
    step_wider old new wider (block label symbol assumed given steps) h =
        (number_wider old new wider symbol h.0, IsClaim-wider records old new wider given h.1, steps_wider old new wider steps h.2)

    steps_wider : (old new : List ValueType) → Wider old new → (steps : StepTrees) → AreSortedSteps records (slice_get old) steps → AreSortedSteps records
        (slice_get new) steps
    steps_wider old new wider no_steps h = tt
    steps_wider old new wider (step_then step steps) h = (step_wider old new wider step h.0, steps_wider old new wider steps h.1)

  pub outermost_claims : (types : NameTypes ℕ) (steps : StepTrees) → AreSortedSteps records types steps → AllByRecursion (IsClaim records types) (outermost steps)
  outermost_claims types no_steps h = tt
  outermost_claims types (step_then (line label claim rule cites) steps) h = (h.0, outermost_claims types steps h.1)
  outermost_claims types (step_then (block label symbol assumed given inner) steps) h = outermost_claims types steps h.1

  pub claims_append : (types : NameTypes ℕ) (ts us : List (Tree ℕ)) → AllByRecursion (IsClaim records types) ts → AllByRecursion (IsClaim records types) us
      → AllByRecursion (IsClaim records types) (ts ++ us)
  claims_append types [] us h k = k
  claims_append types (t ∷ ts) us h k = (h.0, claims_append types ts us h.1 k)

  symbol_number : (has : Bool) (label : ℕ) (state new : State) → Wider (begin_block has label state).sorts new.sorts → IsNumberSymbol (slice_get new.sorts)
      (block_symbol has state)
  symbol_number true label state new wider = wider (length state.sorts) number_type (pushed state.sorts number_type)
  symbol_number false label state new wider = tt

  module _ (variables : List ValueType) (fine : AllByRecursion (λ t. is_known records t ≡ true) variables) where
    abbrev Good : (ℕ → Bool) → State → Type 0
    Good lets state = IsGood records variables lets state

    pub good_begin : (has : Bool) (label : ℕ) (lets : ℕ → Bool) (state : State) → Good lets state → Good (with_label has label lets) (begin_block has label state)
    good_begin true label lets state g =
        let new = state.sorts ++ number_type ∷ [] in
        let wider = wider_push state.sorts number_type in
        record {
          known = known_push records state.sorts number_type g.known refl;
          closed = g.closed;
          typed = λ x k u t h at. IsTyped-more records (slice_get state.sorts) (slice_get new) wider u t (g.typed x k u t h at);
          symbols = λ other h. let_at (nat_eq other label) (lets other) new (length state.sorts) (state.lets other) h (pushed state.sorts number_type)
              (λ there. wider (state.lets other) number_type (g.symbols other there));
          facts = claims_wider records state.sorts new wider state.facts g.facts;
        }
    good_begin false label lets state g =
        record {
          known = g.known;
          closed = g.closed;
          typed = g.typed;
          symbols = λ other h. g.symbols other (no_let (nat_eq other label)
              (lets other) h);
          facts = g.facts;
        }

    good_outer : (has : Bool) (label : ℕ) (lets : ℕ → Bool) (state : State) → Good (with_label has label lets) state → Good lets state
    good_outer has label lets state g =
        record {
          known = g.known;
          closed = g.closed;
          typed = g.typed;
          symbols = λ other h. g.symbols other (still (nat_eq other label) has
              (lets other) h);
          facts = g.facts;
        }

    pub claim_read : (lets : ℕ → Bool) (claim : ClaimTree ℕ) (state : State) → Good lets state → IsLegClaim records (step_names variables lets) truth_type claim
        → IsClaim records (slice_get (read_claim variables claim state).sorts) (read_term variables state claim)
    claim_read lets claim state g h = record {
      typed = typed_term records variables fine lets claim truth_type state g h;
      closed = closed_term records variables fine lets claim truth_type state g h;
    }

    mutual
      pub sorted_step : (step : ProofStepTree ℕ) (lets : ℕ → Bool) (state : State) → Good lets state → IsTypedStep records variables lets step
          → Good lets (after_step variables state step) × Keeps state (after_step variables state step)
          × IsSortedStep records (slice_get (after_step variables state step).sorts) (step_term variables state step)
      sorted_step (claims.line label claim rule cites) lets state g typed = (
        good_read records variables fine lets claim state g,
        keeps_read state (read_claim variables claim state) (claim_reads records variables fine lets claim state g),
        claim_read lets claim state g typed,
      )
      sorted_step (claims.block label has assumed assumption steps) lets state g typed =
          let inner = with_label has label lets in
          let first = begin_block has label state in
          let second = read_claim variables assumption first in
          let third = after_steps variables second steps in
          let g1 = good_begin has label lets state g in
          let g2 = good_read records variables fine inner assumption first g1 in
          let k2 = keeps_read first second (claim_reads records variables fine inner assumption first g1) in
          let rest = sorted_steps steps inner second g2 typed.1 in
          let from_first = keeps_on first second third k2 rest.1 in (
            good_outer has label lets third rest.0,
            keeps_on state first third (keeps_begin has label state) from_first,
            (
              symbol_number has label state third from_first.wider,
              IsClaim-wider records second.sorts third.sorts rest.1.wider _
                  (claim_read inner assumption first g1 typed.0),
              rest.2,
            ),
          )

      pub sorted_steps : (steps : ProofStepTrees ℕ) (lets : ℕ → Bool) (state : State) → Good lets state → AreTypedSteps records variables lets steps
          → Good lets (after_steps variables state steps) × Keeps state (after_steps variables state steps)
          × AreSortedSteps records (slice_get (after_steps variables state steps).sorts) (step_terms variables state steps)
      sorted_steps claims.no_steps lets state g typed = (g, keeps_nothing state, tt)
      sorted_steps (claims.step_then step steps) lets state g typed =
          let one = sorted_step step lets state g typed.0 in
          let next = after_step variables state step in
          let end = after_steps variables next steps in
          let rest = sorted_steps steps lets next one.0 typed.1 in
          (rest.0, keeps_on state next end one.1 rest.1, (step_wider next.sorts end.sorts rest.1.wider _ one.2, rest.2))

    -- ---- items

    pub in_proof : (type : ValueType) (claim : ClaimTree ℕ) → IsLegClaim records (item_names variables) type claim → IsLegClaim records
        (step_names variables no_labels) type claim
    in_proof type claim h = record {
      typed = IsTyped-more records (item_names variables)
          (step_names variables no_labels) more claim type h.typed;
      closed = h.closed;
    }
      where
        more : (a : ClaimName ℕ) (t : ValueType) → item_names variables a ≡ Some t → step_names variables no_labels a ≡ Some t
        more (variable x) t at = at
        more (old_variable x) t at = absurd (none≢some at)
        more (let_symbol label) t at = absurd (none≢some at)

    small_sorted : (small : Bool) (item : ℕ) (kind : Kind) (rest : List Obligation) → AllByRecursion IsWellSortedObligation rest
        → AllByRecursion IsWellSortedObligation (where_small small item kind rest)
    small_sorted true item kind rest h = h
    small_sorted false item kind rest h = (tt, tt)

    module _ (formed : AreWellFormed records) where
      pub well_sorted : (state : State) (goal : Tree ℕ) → Good no_labels state → IsClaim records (slice_get state.sorts) goal → IsWellSorted
          (sequent records state goal)
      well_sorted state goal g h = record {
        records = formed;
        symbols = All-from_recursion (λ t. is_known records t ≡ true) state.sorts g.known;
        facts = All-from_recursion (IsClaim records (slice_get state.sorts)) state.facts g.facts;
        goal = h;
      }

      sorted_items : (place : ℕ) (state : State) (items : List (ItemTree ℕ)) → Good no_labels state → AreTypedItems records variables items
          → AllByRecursion IsWellSortedObligation (obligations_from records variables place state items)
      sorted_items place state [] g typed = tt
      sorted_items place state (assume claim ∷ items) g typed =
          let h = in_proof truth_type claim typed.0 in
          let read = read_claim variables claim state in
          small_sorted (is_small (read_term variables state claim)) place kinds.Term
          (obligations_from records variables (place + 1) (with_fact (read_term variables state claim) read) items)
          (sorted_items (place + 1) (with_fact (read_term variables state claim) read) items
          (good_fact records variables fine no_labels (read_term variables state claim) read (good_read records variables fine no_labels claim state g)
          (claim_read no_labels claim state g h)) typed.1)
      sorted_items place state (check kind claim ∷ items) g typed =
          let h = in_proof truth_type claim typed.0 in
          let read = read_claim variables claim state in
          let good = good_read records variables fine no_labels claim state g in
          let goal = claim_read no_labels claim state g h in
          small_sorted (is_small (read_term variables state claim)) place kind
          (to_show place kind (sequent records read (read_term variables state claim)) ∷ obligations_from records variables (place + 1) (with_fact
          (read_term variables state claim) read) items) (
            well_sorted read (read_term variables state claim) good goal,
            sorted_items (place + 1) (with_fact (read_term variables state claim) read) items (good_fact records variables fine no_labels
                (read_term variables state claim) read good goal) typed.1,
          )
      sorted_items place state (set x claim ∷ items) g typed =
          let t = typed.0.0 in
          let h = in_proof t claim typed.0.2 in
          let read = read_claim variables claim state in
          let good = good_read records variables fine no_labels claim state g in
          small_sorted (is_small (read_term variables state claim)) place kinds.Term
          (obligations_from records variables (place + 1) (set_variable x (read_term variables state claim) read) items)
          (sorted_items (place + 1) (set_variable x (read_term variables state claim) read) items
          (good_set records variables fine no_labels x t (read_term variables state claim) read good typed.0.1
          (typed_term records variables fine no_labels claim t state g h) (closed_term records variables fine no_labels claim t state g h)) typed.1)
      sorted_items place state (fresh xs ∷ items) g typed =
          sorted_items (place + 1) (make_fresh variables xs state) items (good_fresh records variables fine no_labels xs state g) typed.1
      sorted_items place state (proof steps ∷ items) g typed =
          let after = after_steps variables state steps in
          let terms = step_terms variables state steps in
          let s = sorted_steps steps no_labels state g typed.0 in
          let more = claims_append (slice_get after.sorts) after.facts (outermost terms) s.0.facts (outermost_claims (slice_get after.sorts) terms s.2) in
          small_sorted (are_small_steps terms) place kinds.Deduce
          (to_accept place (base records after) terms ∷ obligations_from records variables (place + 1) (with_facts (outermost terms) after) items) (
            (well_sorted after (truth_literal true) s.0 (record { typed = refl; closed = tt }), s.2),
            sorted_items (place + 1) (with_facts (outermost terms) after) items
                (record { known = s.0.known; closed = s.0.closed; typed = s.0.typed; symbols = s.0.symbols; facts = more }) typed.1,
          )

pub good_start : (records : Records) (variables : List ValueType) → IsGood records variables no_labels start
good_start records variables = record {
  known = tt;
  closed = λ x k u h. absurd (none≢some h);
  typed = λ x k u t h at. absurd (none≢some h);
  symbols = λ label h. absurd (cc);
  facts = tt;
}

pub sequents_well_sorted : (leg : LegTree) → IsTypedLeg leg → All IsWellSortedObligation (obligations leg)
sequents_well_sorted leg h =
    All-from_recursion IsWellSortedObligation (obligations leg)
    (sorted_items leg.records leg.variables h.variables h.records 0 start leg.items (good_start leg.records leg.variables) h.items)
