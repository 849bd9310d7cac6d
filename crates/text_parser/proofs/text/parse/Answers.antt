use Rattle.text_parser.proofs.Whole.{only_tree, only_fault}
use Rattle.text_parser.proofs.text.parse.Goals as goal

pub returns-clause-only : goal.returns-clause-only
returns-clause-only c = only_tree c.args.bytes.now c.found.result c.found.ensures.read c.found.ensures.fault

pub returns-clause-only_fault : goal.returns-clause-only_fault
returns-clause-only_fault c = only_fault c.args.bytes.now c.found.result c.found.ensures.read c.found.ensures.fault
