-- Orders in which each record comes with all the records that it is made of.
use Rattle.std.specs.Prelude.{◌≡◌, ℕ, nat_eq, Bool, true, List}
use Rattle.std.specs.List.{AllByRecursion}
use Rattle.std.specs.Option.{option_map_or}
use Rattle.std.specs.Set.{is_member}
use Rattle.slang_values.specs.Value.{ValueType, record_type, Records, named_record, ends_within}
use Rattle.program_trees.specs.Programs.{ProgramTree}
use Rattle.program_trees.specs.Variables.{Variable}
use Rattle.run_rules.specs.Runs.{no_method}
use Rattle.leg_rules.specs.Numbering.{records_within}

-- the records that a type is made of, down to that depth, which are the same on the legs of all methods
abbrev pub records_of : ProgramTree Variable → ℕ → ValueType → List ℕ
records_of program depth type = records_within program no_method depth type

-- all of them are in the order
abbrev pub AreIn : List ℕ → List ℕ → Type 0
AreIn order members = AllByRecursion (λ n. is_member nat_eq order n ≡ true) members

-- A record in the order has those that its fields name in it too, and those that their fields name, to any depth.
abbrev pub IsClosed : ProgramTree Variable → List ℕ → Type 0
IsClosed program order = (n depth : ℕ) → is_member nat_eq order n ≡ true → AreIn order (records_of program depth (record_type n))

-- the type names no record, or one whose fields end within that many
abbrev pub type_ends : Records → ℕ → ValueType → Bool
type_ends records depth type = option_map_or (ends_within records depth) (named_record type) true

abbrev pub TypeEnds : Records → ℕ → ValueType → Type 0
TypeEnds records depth type = type_ends records depth type ≡ true
