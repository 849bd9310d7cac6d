use Rattle.text_types.proofs.expected.over.Goals as goal

pub returns : goal.returns
returns c = λ faults is. c.over_typed.ensures c.args.parts.now faults c.are_typed.ensures is
