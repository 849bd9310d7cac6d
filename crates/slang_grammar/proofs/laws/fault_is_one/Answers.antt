use Rattle.slang_grammar.proofs.Fronts.{one_fault}
use Rattle.slang_grammar.proofs.laws.fault_is_one.Goals as goal

pub returns : goal.returns
returns c = one_fault
