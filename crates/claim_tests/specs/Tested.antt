-- Claims over the variables of an environment, each with its node, and what they come to.
use Rattle.std.specs.Prelude.{◌≡◌, List, map, Option, Some, None}
use Rattle.program_trees.specs.Claims.{NotedTree, renamed_noted}
use Rattle.program_trees.specs.Variables.{Variable}
use Rattle.stopped_runs.specs.Tests as plain
use Rattle.lk_programs.specs.declared.program.Noted.{Noted}
use Rattle.lk_programs.specs.Program.{noted_tree}
use Rattle.expression_values.specs.declared.environment.Env.{Env}
use Rattle.expression_values.specs.Environment.{variable_in}
use Rattle.claim_tests.specs.declared.testing.Tested.{Tested}
use Rattle.claim_tests.specs.declared.testing.Tested.TheVariants as t

abbrev pub one_noted : Env → Noted → NotedTree Variable
one_noted env noted = renamed_noted (variable_in env) (noted_tree noted)

abbrev pub noted_in : Env → List Noted → List (NotedTree Variable)
noted_in env claims = map (one_noted env) claims

abbrev pub tested : Tested → plain.Tested
tested t.AllHold = plain.all_hold
tested (t.IsFalse node) = plain.is_false node.0
tested (t.IsWide node) = plain.is_wide node.0
tested (t.IsOut node) = plain.is_out node.0

-- the claims come to what was found, or where nothing was found, to what the others come to
abbrev pub IsFailed : plain.Tested → plain.Tested → Option Tested → Type 0
IsFailed all others None = all ≡ others
IsFailed all others (Some t) = tested t ≡ all
