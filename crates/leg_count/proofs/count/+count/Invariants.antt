use Rattle.std.proofs.Common.{◌≡◌, ℕ, ◌+◌, ◌*◌, ◌≤◌, drop, length}
use Rattle.lk_programs.specs.declared.program.Code.{size-Code}
use Rattle.lk_programs.specs.Program.{code_trees}
use Rattle.leg_rules.specs.Legs.{leg_count_of_code}
use Rattle.leg_count.specs.Capped.{capped}
use Rattle.leg_count.specs.Depth.{deepest}
use Rattle.leg_count.proofs.count.+count.Given as goal

abbrev pub decreases-leg_count_behind : goal.decreases-leg_count_behind
decreases-leg_count_behind l = 2 * deepest l.codes.now + 1

abbrev pub decreases-count_of : goal.decreases-count_of
decreases-count_of l = 2 * size-Code l.code.now

abbrev pub invariant-leg_count_behind-codes : goal.invariant-leg_count_behind-codes
invariant-leg_count_behind-codes l = record {
  within : l.at ≤ length l.codes;
  counted : (n : ℕ) → l.fn.following ≡ capped n → l.total ≡ capped (leg_count_of_code (code_trees (drop l.at l.codes)) n);
}

abbrev pub decreases-leg_count_behind-codes : goal.decreases-leg_count_behind-codes
decreases-leg_count_behind-codes l = l.at
