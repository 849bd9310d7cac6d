use Rattle.type_rules.specs.Meanings.{meaning_of}
use Rattle.constant_making.proofs.Classes.{class_meant, method_meant, value_meant}
use Rattle.constant_making.proofs.types.record_number.Goals as goal

pub returns-in-Record : goal.returns-in-Record
returns-in-Record c = λ at fits. class_meant (meaning_of at c.args.name.now) c.in-Record.number (c.in-Record.ensures at fits)

pub returns-in-Value : goal.returns-in-Value
returns-in-Value c = λ at fits. value_meant (meaning_of at c.args.name.now) (c.in-Value.ensures at fits)

pub returns-in-Method : goal.returns-in-Method
returns-in-Method c = λ at fits. method_meant (meaning_of at c.args.name.now) c.in-Method.field-0 (c.in-Method.ensures at fits)
