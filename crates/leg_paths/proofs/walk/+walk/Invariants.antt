use Rattle.std.proofs.Common.{◌≡◌, ℕ, ◌+◌, ◌-◌, ◌*◌, ◌≤◌, max, drop, length, List, Some}
use Rattle.lk_programs.specs.declared.program.Code.{size-Code}
use Rattle.leg_rules.specs.Legs.{Items, legs_of_code}
use Rattle.leg_count.specs.Capped.{capped}
use Rattle.leg_count.specs.Depth.{deepest}
use Rattle.leg_items.specs.Drafts.{items_of}
use Rattle.leg_orders.specs.Places.{program_of}
use Rattle.leg_paths.specs.Walks.{GoesAlong, codes_in}
use Rattle.leg_paths.proofs.walk.+walk.Given as goal

abbrev pub decreases-add_statements : goal.decreases-add_statements
decreases-add_statements l = 3 * deepest l.codes.now + 1

abbrev pub decreases-add_statement : goal.decreases-add_statement
decreases-add_statement l = 3 * size-Code l.code.now

abbrev pub decreases-add_branch : goal.decreases-add_branch
decreases-add_branch l = 3 * max (deepest l.on_true.now) (deepest l.on_false.now) + 2

abbrev pub decreases-add_loop : goal.decreases-add_loop
decreases-add_loop l = 3 * deepest l.body.now + 2

abbrev pub invariant-add_statements-codes : goal.invariant-add_statements-codes
invariant-add_statements-codes l = record {
  within : l.at ≤ length l.codes;
  there : (tail : List Items) → l.following ≡ capped (length tail) →
      GoesAlong (legs_of_code (program_of l.typed) (codes_in l.scope l.codes) tail) (legs_of_code (program_of l.typed) (codes_in l.scope (drop l.at l.codes)) tail)
      l.fn.number (items_of l.fn.out) (items_of l.out) (Some l.number);
}

abbrev pub decreases-add_statements-codes : goal.decreases-add_statements-codes
decreases-add_statements-codes l = length l.codes - l.at
