use Rattle.answer_laws.proofs.Verdicts.{verified_passes}
use Rattle.verdict_laws.specs.Rules.{unclosed, unaccepted}
use Rattle.verdict_laws.proofs.Rules.{closes_only_valid, accepts_only_valid}
use Rattle.verdict_laws.proofs.laws.verified_by_rules_passes.Goals as goal

pub returns : goal.returns
returns c = λ program method fine typed h. verified_passes unclosed unaccepted closes_only_valid accepts_only_valid program method fine typed h
