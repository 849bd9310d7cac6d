-- The verdict by the rules and the law, tried on a method that calls itself: with its parameter, and with F, which breaks its own Requires.
use Rattle.std.specs.Prelude.{◌≡◌}
use Rattle.program_trees.specs.declared.answer.Kind.TheVariants as kinds
use Rattle.program_trees.specs.declared.answer.Reason.TheVariants as reasons
use Rattle.run_rules.specs.Runs.{IsSafe}
use Rattle.leg_rules.specs.Answers.{verified, unproved}
use Rattle.typed_soundness.specs.Examples.{alone, careful, careless}
use Rattle.verdict_laws.specs.Rules.{verdict_by_rules}

pub record VerdictExamples : Type 0 where
  pub careful_verified : verdict_by_rules (alone careful) careful ≡ verified
  -- by the law alone
  pub careful_safe : IsSafe (alone careful) careful
  pub careless_unproved : verdict_by_rules (alone careless) careless ≡ unproved 0 kinds.Requires reasons.Open
