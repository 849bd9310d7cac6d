use Rattle.run_texts.proofs.Examples.{text_examples as law}
use Rattle.run_texts.proofs.laws.texts_of_examples.Goals as goal

pub returns : goal.returns
returns c = law
