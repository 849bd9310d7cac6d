-- Tests of the parts of a term, where it has them.
use Rattle.std.specs.Prelude.{ℕ, Bool, false, Option, Some, None}
use Rattle.std.specs.Borrow.{Bor}
use Rattle.slang_values.specs.Tree.{Tree}
use Rattle.term_trees.specs.declared.term.Term.{Term}
use Rattle.term_trees.specs.Term.{tree}

abbrev pub of_one : (Tree ℕ → Bool) → Option (Bor Term) → Bool
of_one test None = false
of_one test (Some t) = test (tree t.now)

abbrev pub of_two : (Tree ℕ → Tree ℕ → Bool) → Option (Bor Term × Bor Term) → Bool
of_two test None = false
of_two test (Some p) = test (tree p.0.now) (tree p.1.now)

abbrev pub of_three : (Tree ℕ → Tree ℕ → Tree ℕ → Bool) → Option (Bor Term × Bor Term × Bor Term) → Bool
of_three test None = false
of_three test (Some p) = test (tree p.0.now) (tree p.1.now) (tree p.2.now)
