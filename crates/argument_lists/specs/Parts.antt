-- The members of a list by their types.
use Rattle.std.specs.Prelude.{◌≡◌, ℕ, Bool, true, false, List, [], ◌∷◌, map, Option, Some, None}
use Rattle.slang_values.specs.Value.{ValueType, Records, Values}
use Rattle.slang_grammar.specs.Declarations.{ConstsText}
use Rattle.lk_claims.specs.Claim.{value_type}
use Rattle.lk_programs.specs.Program.{field_types}
use Rattle.argument_rules.specs.Values.{element_values, field_values}
use Rattle.argument_lists.specs.declared.parts.Parts.{Parts}
use Rattle.argument_lists.specs.declared.parts.Parts.TheVariants as p
use Rattle.argument_lists.specs.declared.parts.NextPart.{NextPart}

-- all of one type, or one of each of these
pub data PartTypes : Type 0 where
  same : ValueType → PartTypes
  each : List ValueType → PartTypes

abbrev pub parts_of : Parts → PartTypes
parts_of (p.Same ty) = same (value_type ty.now)
parts_of (p.Each types) = each (field_types types.now)

abbrev pub can_end : PartTypes → Bool
can_end (same t) = true
can_end (each []) = true
can_end (each (t ∷ ts)) = false

-- the type of the next member, and those of the others
pub record NextTypes : Type 0 where
  pub type : ValueType
  pub others : PartTypes

abbrev pub next_types : PartTypes → Option NextTypes
next_types (same t) = Some (record { type = t; others = same t })
next_types (each []) = None
next_types (each (t ∷ ts)) = Some (record { type = t; others = each ts })

abbrev pub IsNextOf : PartTypes → Option NextPart → Type 0
IsNextOf parts None = next_types parts ≡ None
IsNextOf parts (Some next) = next_types parts ≡ Some (record { type = value_type next.ty.now; others = parts_of next.others })

-- the values of the constants, where there are such members
abbrev pub part_values : List (List ℕ) → Records → ConstsText → PartTypes → Option Values
part_values names records consts (same t) = element_values names records consts t
part_values names records consts (each ts) = field_values names records consts ts
