-- Methods in the order of their names.
use Rattle.std.specs.Prelude.{◌≡◌, ℕ, ◌<◌, List, map, length, get_or, count_by}
use Rattle.std.specs.List.{IsDistinct}
use Rattle.std.specs.Str.{bytes_eq}
use Rattle.program_trees.specs.Programs.{MethodTree}
use Rattle.program_trees.specs.Variables.{Variable}
use Rattle.run_rules.specs.Runs.{no_method}
use Rattle.typed_programs.specs.WellTyped.{AreAscending}
use Rattle.type_rules.specs.Faults.{precedes}
use Rattle.typed_texts.specs.TypedProjects.{sorted}
use Rattle.statement_typing.specs.Around.{Among}

-- the place of a name in the order of the methods' names
abbrev pub place_of : List (MethodTree Variable) → List ℕ → ℕ
place_of methods name = count_by (λ other. precedes other.name name) methods

-- Methods of distinct names ascend when they are sorted, and each stands at the place of its name.
pub record AreSorted (methods : List (MethodTree Variable)) : Type 0 where
  pub ascending : AreAscending (map (λ method. method.name) (sorted methods))
  pub there : (method : MethodTree Variable) → Among method methods → place_of methods method.name < length (sorted methods)
  pub at_place : (method : MethodTree Variable) → Among method methods → get_or (sorted methods) (place_of methods method.name) no_method ≡ method

abbrev pub SortedMethodsAscend : Type 0
SortedMethodsAscend = (methods : List (MethodTree Variable)) → IsDistinct bytes_eq (map (λ method. method.name) methods) → AreSorted methods
