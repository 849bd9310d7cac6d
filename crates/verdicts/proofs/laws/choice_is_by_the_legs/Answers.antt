use Rattle.verdicts.proofs.Choices.{choice_by_the_legs}
use Rattle.verdicts.proofs.laws.choice_is_by_the_legs.Goals as goal

pub returns : goal.returns
returns c = choice_by_the_legs
