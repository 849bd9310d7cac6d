-- How a run goes on from frames.
use Rattle.std.proofs.Common.{◌≡◌, ℕ, suc, Bool, true, false, not, List, [], ◌∷◌, ◌++◌, if◌then◌else◌, Option, Some, None, refl, sym, ap, ◌∙◌}
use Rattle.program_trees.specs.Claims.{NotedTree}
use Rattle.program_trees.specs.Programs.{TypedExpr, claim_of, CodeTree, branch, loop, CodeTrees, no_code, code_then, ProgramTree}
use Rattle.program_trees.specs.Variables.{Variable}
use Rattle.run_rules.specs.Values.{Values, is_true}
use Rattle.run_rules.specs.Runs.{method_at, Loop, Stack, begin, going, beyond_test}
use Rattle.run_rules.specs.Runs as stack
use Rattle.stopped_runs.specs.Runs.{Stopped, reached, Continuation, after, going_on}
use Rattle.code_paths.specs.declared.inside.Inside.{Inside}
use Rattle.code_paths.specs.Places.{nth_statement, from_statement, part_of, part_where, inner_block, block_in}
use Rattle.code_paths.proofs.Paths.{statements_begin, statements_end, path_on}
use Rattle.run_frames.specs.Frames.{Frame, block, again, at_test, back, loop_where, block_of, loop_at, stack_of}
use Rattle.run_frames.specs.Laws.{step_to}

from_start : {A : Type 0} (codes : CodeTrees A) → from_statement codes 0 ≡ codes
from_start no_code = refl
from_start (code_then code codes) = refl

module _ (program : ProgramTree Variable) (method : ℕ) (path : List Inside) (n : ℕ) (frames : List Frame) where
  abbrev rest : Stack
  rest = stack_of program method frames

  abbrev here : CodeTrees Variable
  here = block_of program method path

  pub block_ends : (limit : ℕ) (next : Option Continuation) (values : Values) → nth_statement here n ≡ None
      → going_on limit program next (stack_of program method (block path n ∷ frames)) values ≡ going_on limit program next rest values
  block_ends limit next values h = ap (λ (codes : CodeTrees Variable). going_on limit program next (begin codes rest) values) (statements_end here n h)

  pub takes_turn : (limit : ℕ) (more : Continuation) (values : Values) (code : CodeTree Variable) → nth_statement here n ≡ Some code
      → going_on limit program (Some more) (stack_of program method (block path n ∷ frames)) values
      ≡ after limit program code values more (stack_of program method (block path (suc n) ∷ frames))
  takes_turn limit more values code h =
      ap (λ (codes : CodeTrees Variable). going_on limit program (Some more) (begin codes rest) values) (statements_begin here n code h)

  pub run_waits : (limit : ℕ) (values : Values) (code : CodeTree Variable) → nth_statement here n ≡ Some code
      → going_on limit program None (stack_of program method (block path n ∷ frames)) values
      ≡ reached (going (stack_of program method (block path n ∷ frames)) values)
  run_waits limit values code h =
      ap (λ (codes : CodeTrees Variable). going_on limit program None (begin codes rest) values) (statements_begin here n code h)
      ∙ ap (λ (codes : CodeTrees Variable). reached (going (begin codes rest) values)) (sym (statements_begin here n code h))

  -- the block inside the statement
  inside_is : (code : CodeTree Variable) (otherwise : Bool) → nth_statement here n ≡ Some code
      → begin (part_of code otherwise) rest ≡ stack_of program method (block (path ++ step_to n otherwise ∷ []) 0 ∷ frames)
  inside_is code otherwise h =
      ap (λ (codes : CodeTrees Variable). begin codes rest)
      (sym (from_start (block_in (method_at program method).body (path ++ step_to n otherwise ∷ []))
      ∙ path_on (method_at program method).body path (step_to n otherwise)
      ∙ ap (λ (found : Option (CodeTree Variable)). part_where found otherwise) h))

  pub branch_begins : (node : ℕ) (test : TypedExpr Variable) (on_true on_false : CodeTrees Variable) (holds : Bool)
      → nth_statement here n ≡ Some (branch node test on_true on_false)
      → begin (if holds then on_true else on_false) rest ≡ stack_of program method (block (path ++ step_to n (not holds) ∷ []) 0 ∷ frames)
  branch_begins node test on_true on_false true h = inside_is (branch node test on_true on_false) false h
  branch_begins node test on_true on_false false h = inside_is (branch node test on_true on_false) true h

  module _ (node : ℕ) (test : TypedExpr Variable) (modifies : List Variable) (invariants : List (NotedTree Variable)) (body : CodeTrees Variable)
      (h : nth_statement here n ≡ Some (loop node test modifies invariants body)) where
    abbrev the_loop : Loop
    the_loop = record { test = test; invariants = invariants; body = body }

    loop_is : loop_at program method path n ≡ the_loop
    loop_is = ap loop_where h

    pub loop_begins : stack.again true the_loop rest ≡ stack_of program method (again true path n ∷ frames)
    loop_begins = ap (λ (l : Loop). stack.again true l rest) (sym loop_is)

    pub loop_goes_on : (values : Values) → beyond_test program (loop_at program method path n) rest values
        ≡ stack_of program method (if is_true program.records values (claim_of test) then (block (path ++ step_to n false ∷ []) 0 ∷ again false path n ∷ frames) else frames)
    loop_goes_on values =
        ap (λ (l : Loop). beyond_test program l rest values) loop_is ∙ by_case (is_true program.records values (claim_of test))
      where
        body_is : begin body (stack.again false the_loop rest) ≡ stack_of program method (block (path ++ step_to n false ∷ []) 0 ∷ again false path n ∷ frames)
        body_is =
            ap (λ (l : Loop). begin body (stack.again false l rest)) (sym loop_is)
            ∙ ap (λ (codes : CodeTrees Variable). begin codes (stack.again false (loop_at program method path n) rest))
            (sym (from_start (block_in (method_at program method).body (path ++ step_to n false ∷ []))
            ∙ path_on (method_at program method).body path (step_to n false)
            ∙ ap (λ (found : Option (CodeTree Variable)). part_where found false) h))

        by_case : (b : Bool) → (if b then begin body (stack.again false the_loop rest) else rest)
            ≡ stack_of program method (if b then (block (path ++ step_to n false ∷ []) 0 ∷ again false path n ∷ frames) else frames)
        by_case true = body_is
        by_case false = refl

pub call_begins : (program : ProgramTree Variable) (method callee : ℕ) (caller : Values) (target : Option Variable) (frames : List Frame)
    → begin (method_at program callee).body (stack.back (method_at program callee) caller target (stack_of program method frames))
    ≡ stack_of program callee (block [] 0 ∷ back method caller target ∷ frames)
call_begins program method callee caller target frames =
    ap (λ (codes : CodeTrees Variable). begin codes (stack.back (method_at program callee) caller target (stack_of program method frames)))
    (sym (from_start (method_at program callee).body))
