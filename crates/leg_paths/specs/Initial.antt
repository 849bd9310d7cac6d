-- The initial values of global `val`s, as the code adds them.
use Rattle.std.specs.Prelude.{ℕ, suc, ◌&&◌, List, [], ◌∷◌, ◌++◌, if◌then◌else◌}
use Rattle.program_trees.specs.Legs.{set}
use Rattle.program_trees.specs.Programs.{claim_of}
use Rattle.program_trees.specs.Variables.{global as global_variable}
use Rattle.lk_programs.specs.declared.program.Global.{Global}
use Rattle.lk_programs.specs.Expr.{typed_expr}
use Rattle.leg_rules.specs.LegNames.{own, same_name}
use Rattle.leg_rules.specs.Legs.{Items, at_node}
use Rattle.leg_rules.specs.Mentions.{leg_mentions}
use Rattle.leg_items.specs.declared.name.Scope.{Scope}
use Rattle.leg_items.specs.declared.name.Frame.TheVariants as f
use Rattle.leg_items.specs.Drafts.{framed}

module _ (scope : Scope) (node : ℕ) (items : Items) where
  -- the global of that number has its initial value, where it is a `val` that the items mention
  abbrev pub one_fixed : ℕ → Global → Items
  one_fixed number global =
      if global.fixed && leg_mentions (same_name (own (global_variable number))) items
      then at_node node (set (own (global_variable number)) (framed (f.Own scope) (claim_of (typed_expr global.init)))) ∷ [] else []

  -- the globals from that number on
  abbrev pub all_fixed : ℕ → List Global → Items
  all_fixed number [] = []
  all_fixed number (global ∷ globals) = one_fixed number global ++ all_fixed (suc number) globals
