-- What it is that items were added along a leg.
use Rattle.std.specs.Prelude.{◌≡◌, ℕ, ◌<◌, ◌≤◌, ◌-◌, ◌^◌, List, [], ◌++◌, length, get_or, map, Option, Some, None}
use Rattle.program_trees.specs.Programs.{CodeTree, CodeTrees, renamed_code, renamed_codes}
use Rattle.program_trees.specs.Variables.{Variable}
use Rattle.lk_programs.specs.declared.program.Code.{Code}
use Rattle.lk_programs.specs.Program.{code_tree, code_trees}
use Rattle.leg_rules.specs.Legs.{Items}
use Rattle.leg_items.specs.declared.name.Scope.{Scope}
use Rattle.leg_items.specs.Names.{kind_of}

-- the greatest number of legs that is told
abbrev pub greatest : ℕ
greatest = 2 ^ 64 - 1

-- Of the legs, the one of this number was added. It has ended, or it goes on with one of those that follow.
abbrev pub Goes : (legs following : List Items) (number : ℕ) (old new : Items) → Option ℕ → Type 0
Goes legs following number old new None = new ≡ old ++ get_or legs number []
Goes legs following number old new (Some next) = (next ≤ number) × (next < length following) × (new ++ get_or following next [] ≡ old ++ get_or legs number [])

-- That is so, where there is a leg of that number.
abbrev pub GoesAlong : (legs following : List Items) (number : ℕ) (old new : Items) → Option ℕ → Type 0
GoesAlong legs following number old new next = number < length legs → number < greatest → Goes legs following number old new next

-- statements over the variables by their kinds
abbrev pub code_in : Scope → Code → CodeTree Variable
code_in scope code = renamed_code (kind_of scope) (code_tree code)

abbrev pub codes_in : Scope → List Code → CodeTrees Variable
codes_in scope codes = renamed_codes (kind_of scope) (code_trees codes)
