use Rattle.slang_grammar.proofs.Fronts.{no_fault}
use Rattle.slang_grammar.proofs.laws.text_has_no_fault.Goals as goal

pub returns : goal.returns
returns c = no_fault
