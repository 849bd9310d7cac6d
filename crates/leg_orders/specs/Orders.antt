-- The variables and the records that have appeared, each once, in the order in which they first did.
use Rattle.std.specs.Prelude.{ℕ, nat_eq, List, map}
use Rattle.std.specs.List.{fold}
use Rattle.program_trees.specs.Programs.{MethodTree, ProgramTree}
use Rattle.program_trees.specs.Variables.{Variable}
use Rattle.leg_rules.specs.LegNames.{LegName, same_name}
use Rattle.leg_rules.specs.Numbering.{Appearance, appearing_variables, appearing_records, with_new}
use Rattle.leg_items.specs.declared.name.Name.{Name}
use Rattle.leg_items.specs.Names.{leg_name}

pub record Seen : Type 0 where
  pub variables : List LegName
  pub records : List ℕ

abbrev pub seen : List Name → List ℕ → Seen
seen names records = record { variables = map leg_name names; records = records }

-- these members, each where it is new
abbrev pub with_all_new : List ℕ → List ℕ → List ℕ
with_all_new order members = fold (with_new nat_eq) order members

module _ (program : ProgramTree Variable) (method : MethodTree Variable) where
  -- one appearance more
  abbrev pub sees : Seen → Appearance → Seen
  sees before appearance = record {
    variables = fold (with_new same_name) before.variables (appearing_variables program method appearance);
    records = with_all_new before.records (appearing_records program method appearance);
  }

  -- all of them, one after the other
  abbrev pub sees_all : Seen → List Appearance → Seen
  sees_all before appearances = fold sees before appearances
