-- What the verdict by the rules says, as one statement each.
use Rattle.std.specs.Prelude.{◌≡◌}
use Rattle.slang_values.specs.Value.{AreWellFormed}
use Rattle.program_trees.specs.Programs.{MethodTree, ProgramTree}
use Rattle.program_trees.specs.Variables.{Variable}
use Rattle.leg_rules.specs.Answers.{verified}
use Rattle.leg_soundness.specs.Passing.{LegsPass}
use Rattle.answer_laws.specs.Laws.{HasTypedLegs}
use Rattle.verdict_laws.specs.Rules.{verdict_by_rules}

-- The legs of a method pass that is verified by the rules, where they are well typed.
abbrev pub VerifiedByRulesPasses : Type 0
VerifiedByRulesPasses =
    (program : ProgramTree Variable) (method : MethodTree Variable) → AreWellFormed program.records → HasTypedLegs program method →
    verdict_by_rules program method ≡ verified → LegsPass program method
