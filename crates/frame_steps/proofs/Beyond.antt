-- What comes next behind the test of a loop, as frames.
use Rattle.std.proofs.Common.{◌≡◌, ℕ, Bool, true, false, List, [], ◌∷◌, ◌++◌, if◌then◌else◌, Option, Some, None, refl, sym, ap, ◌∙◌}
use Rattle.program_trees.specs.Programs.{ProgramTree, CodeTree, set, give, assert, deduce, branch, loop, call, CodeTrees, claim_of}
use Rattle.program_trees.specs.Variables.{Variable}
use Rattle.run_rules.specs.Values.{Values, is_true}
use Rattle.run_rules.specs.Runs.{Loop, beyond_test}
use Rattle.code_paths.specs.declared.inside.Inside.{Inside}
use Rattle.code_paths.specs.Places.{nth_statement}
use Rattle.run_frames.specs.Frames as plain
use Rattle.run_frames.specs.Frames.{block, again, no_loop, loop_where, loop_at, block_of, stack_of}
use Rattle.run_frames.specs.Laws.{step_to}
use Rattle.run_frames.proofs.Steps.{loop_goes_on}

module _ (program : ProgramTree Variable) (method : ℕ) (path : List Inside) (n : ℕ) (frames : List plain.Frame) (values : Values) where
  abbrev holds_there : Loop → Bool
  holds_there the_loop = is_true program.records values (claim_of the_loop.test)

  -- the body and the loop again, or what is behind it
  abbrev pub next_frames : Bool → List plain.Frame
  next_frames holds = if holds then (block (path ++ step_to n false ∷ []) 0 ∷ again false path n ∷ frames) else frames

  abbrev Goes : Bool → Type 0
  Goes holds =
      holds ≡ holds_there (loop_at program method path n)
      → beyond_test program (loop_at program method path n) (stack_of program method frames) values ≡ stack_of program method (next_frames holds)

  no_true : true ≡ false → ⊥
  no_true h = cc

  -- behind what is no loop
  none_goes : (holds : Bool) → loop_at program method path n ≡ no_loop → Goes holds
  none_goes true is h = absurd (no_true (h ∙ ap holds_there is))
  none_goes false is h = ap (λ (l : Loop). beyond_test program l (stack_of program method frames) values) is

  pub goes_beyond : (found : Option (CodeTree Variable)) → nth_statement (block_of program method path) n ≡ found → (holds : Bool) → Goes holds
  goes_beyond None is holds h = none_goes holds (ap loop_where is) h
  goes_beyond (Some (set node target value)) is holds h = none_goes holds (ap loop_where is) h
  goes_beyond (Some (give node value)) is holds h = none_goes holds (ap loop_where is) h
  goes_beyond (Some (assert noted)) is holds h = none_goes holds (ap loop_where is) h
  goes_beyond (Some (deduce node steps)) is holds h = none_goes holds (ap loop_where is) h
  goes_beyond (Some (branch node test on_true on_false)) is holds h = none_goes holds (ap loop_where is) h
  goes_beyond (Some (call node target name_node number arguments)) is holds h = none_goes holds (ap loop_where is) h
  goes_beyond (Some (loop node test modifies invariants body)) is holds h =
      loop_goes_on program method path n frames node test modifies invariants body is values
      ∙ ap (λ (b : Bool). stack_of program method (next_frames b)) (sym (h ∙ ap holds_there (ap loop_where is)))
