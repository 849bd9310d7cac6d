-- What comes of tokens that are read from a state on: the tree of a text, or the place where they cannot go on.
use Rattle.std.specs.Prelude.{List, [], ◌∷◌, Option, Some, None}
use Rattle.slang_tree.specs.DeclTree.{DeclTree}
use Rattle.slang_tokens.specs.Tok.{Tok}
use Rattle.slang_machine.specs.States.{State, want, element_or_end, argument_or_end, claim_or_end, call_or_end, loop_claim_or_end, step_due, step_or_end, cite_due, cite_or_end, assumed_due, invariant_due}
use Rattle.slang_machine.specs.Machine.{next, finish}
use Rattle.token_cursor.specs.declared.stop.Due.{Due}
use Rattle.token_cursor.specs.declared.stop.Due.TheVariants as due

-- what may come in a state, as far as the code of a fault goes by it
abbrev pub due_of : State → Due
due_of (want around) = due.Operand
due_of (element_or_end place ty elements around) = due.Operand
due_of (argument_or_end head arguments around) = due.Operand
due_of (claim_or_end word claims draft) = due.Operand
due_of (call_or_end written arguments at) = due.Operand
due_of (loop_claim_or_end head) = due.Operand
due_of (step_due steps around) = due.Label
due_of (step_or_end steps around) = due.Label
due_of (cite_due claim rule at) = due.Label
due_of (cite_or_end claim rule cites at) = due.Label
due_of (assumed_due variable at) = due.Label
due_of (invariant_due place test at) = due.Invariant
due_of _ = due.Other

pub data Outcome : Type 0 where
  -- they are a text with this tree
  read : List DeclTree → Outcome
  -- with the first of these tokens no text goes on, or none ends here, and this may come
  stuck : List Tok → Due → Outcome

abbrev pub ended : State → Option (List DeclTree) → Outcome
ended state (Some file) = read file
ended state None = stuck [] (due_of state)

abbrev pub stepped : (State → Outcome) → Outcome → Option State → Outcome
stepped more otherwise (Some state) = more state
stepped more otherwise None = otherwise

abbrev pub outcome : State → List Tok → Outcome
outcome state [] = ended state (finish state)
outcome state (token ∷ tokens) = stepped (λ state'. outcome state' tokens) (stuck (token ∷ tokens) (due_of state)) (next state token)
