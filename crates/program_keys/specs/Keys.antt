-- The keys of the legs of a program.
use Rattle.std.specs.Prelude.{◌≡◌, ℕ, nat_lt, Vec, List, [], ◌++◌, map, if◌then◌else◌}
use Rattle.std.specs.List.{AllByRecursion, flat_map}
use Rattle.program_trees.specs.Programs.{MethodTree, ProgramTree}
use Rattle.program_trees.specs.Variables.{Variable}
use Rattle.program_trees.specs.Legs.{LegTree}
use Rattle.leg_rules.specs.Legs.{legs, leg_count}
use Rattle.leg_rules.specs.Numbering.{leg_tree}
use Rattle.leg_rules.specs.Answers.{leg_limit}
use Rattle.leg_forms.specs.WellFormed.{IsWellFormedLeg}
use Rattle.key_rules.specs.Fits.{FitsLeg}
use Rattle.key_rules.specs.Writing.{encode}

-- the legs of a method over numbers, and none where they are too many
abbrev pub method_legs : ProgramTree Variable → MethodTree Variable → List LegTree
method_legs program method = if nat_lt leg_limit (leg_count method) then [] else map (leg_tree program method) (legs program method)

-- those of all methods, in the order of the methods
abbrev pub program_legs : ProgramTree Variable → List LegTree
program_legs program = flat_map (method_legs program) program.methods

abbrev pub bytes_of : {Z Y : Type 0} → Vec (Vec ℕ Z) Y → List (List ℕ)
bytes_of keys = map (λ key. key.items) keys.items

-- the leg has a key
abbrev pub HasKey : LegTree → Type 0
HasKey leg = IsWellFormedLeg leg × FitsLeg leg

-- Behind the old keys stand those of these legs.
pub record AreAdded (legs : List LegTree) (old new : List (List ℕ)) : Type 0 where
  pub written : new ≡ old ++ map encode legs
  pub have_keys : AllByRecursion HasKey legs

-- The keys are those of these legs, in order.
pub record AreKeysOf (legs : List LegTree) (keys : List (List ℕ)) : Type 0 where
  pub written : keys ≡ map encode legs
  pub have_keys : AllByRecursion HasKey legs
