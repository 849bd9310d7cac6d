use Rattle.type_rules.specs.Meanings.{meaning_of}
use Rattle.call_making.proofs.RightSides.{number_method, number_record, number_value}
use Rattle.call_making.proofs.calling.method_number.Goals as goal

pub returns-in-Method : goal.returns-in-Method
returns-in-Method c = λ at fits. number_method (meaning_of at c.args.name.now) c.in-Method.number (c.in-Method.ensures at fits)

pub returns-in-Value : goal.returns-in-Value
returns-in-Value c = λ at fits. number_value (meaning_of at c.args.name.now) (c.in-Value.ensures at fits)

pub returns-in-Record : goal.returns-in-Record
returns-in-Record c = λ at fits. number_record (meaning_of at c.args.name.now) c.in-Record.field-0 (c.in-Record.ensures at fits)
