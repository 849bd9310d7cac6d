use Rattle.std.proofs.Common.{◌<◌, length, arith}
use Rattle.term_store.proofs.Stores.{Grows-Grows, Grows-length, Holds-within}
use Rattle.store_openings.proofs.WorkedOut.{AreTables-grows}
use Rattle.store_instances.proofs.Added.{instance_held}
use Rattle.store_instances.proofs.instances.instance.Goals as goal

pub returns-in_err-above-clause-tables : goal.returns-in_err-above-clause-tables
returns-in_err-above-clause-tables c = AreTables-grows c.args.store.now c.add_binary.new.store c.args.tables.now c.add_binary.ensures.grows c.requires.tables

pub returns-in_err-below-clause-tables : goal.returns-in_err-below-clause-tables
returns-in_err-below-clause-tables c = AreTables-grows c.args.store.now c.add_binary-2.new.store c.args.tables.now (Grows-Grows c.args.store.now c.add_binary.new.store c.add_binary-2.new.store c.add_binary.ensures.grows c.add_binary-2.ensures.grows) c.requires.tables

pub returns-in_err-inside-clause-tables : goal.returns-in_err-inside-clause-tables
returns-in_err-inside-clause-tables c = AreTables-grows c.args.store.now c.add_binary-3.new.store c.args.tables.now (Grows-Grows c.args.store.now c.add_binary-2.new.store c.add_binary-3.new.store (Grows-Grows c.args.store.now c.add_binary.new.store c.add_binary-2.new.store c.add_binary.ensures.grows c.add_binary-2.ensures.grows) c.add_binary-3.ensures.grows) c.requires.tables

pub add_binary-requires-3-clause-left : goal.add_binary-requires-3-clause-left
add_binary-requires-3-clause-left c = let held : c.in_ok-above.above < length c.add_binary.new.store = Holds-within c.add_binary.new.store c.in_ok-above.above _ c.in_ok-above.ensures.number in omega (arith, held, Grows-length c.add_binary.new.store c.add_binary-2.new.store c.add_binary-2.ensures.grows)

pub add_binary-requires-3-clause-right : goal.add_binary-requires-3-clause-right
add_binary-requires-3-clause-right c = Holds-within c.add_binary-2.new.store c.in_ok-below.below _ c.in_ok-below.ensures.number

pub substitute_first-requires-clause-tables : goal.substitute_first-requires-clause-tables
substitute_first-requires-clause-tables c = AreTables-grows c.args.store.now c.add_binary-3.new.store c.args.tables.now (Grows-Grows c.args.store.now c.add_binary-2.new.store c.add_binary-3.new.store (Grows-Grows c.args.store.now c.add_binary.new.store c.add_binary-2.new.store c.add_binary.ensures.grows c.add_binary-2.ensures.grows) c.add_binary-3.ensures.grows) c.requires.tables

pub add_binary-requires-4-clause-left : goal.add_binary-requires-4-clause-left
add_binary-requires-4-clause-left c = let held : c.in_ok-inside.inside < length c.add_binary-3.new.store = Holds-within c.add_binary-3.new.store c.in_ok-inside.inside _ c.in_ok-inside.ensures.number in omega (arith, held, Grows-length c.add_binary-3.new.store c.substitute_first.new.store c.substitute_first.ensures.grows)

pub add_binary-requires-4-clause-right : goal.add_binary-requires-4-clause-right
add_binary-requires-4-clause-right c = Holds-within c.substitute_first.new.store c.in_ok-body.body _ c.in_ok-body.ensures.number

pub returns-clause-number : goal.returns-clause-number
returns-clause-number c =
    instance_held c.add_binary-4.result c.args.store.now c.add_binary.new.store c.add_binary-2.new.store c.add_binary-3.new.store c.substitute_first.new.store c.add_binary-4.new.store c.args.range.low c.args.range.high c.args.range.body c.args.by c.in_ok-above.above c.in_ok-below.below c.in_ok-inside.inside c.in_ok-body.body
    c.add_binary.ensures.grows c.add_binary-2.ensures.grows c.add_binary-3.ensures.grows c.substitute_first.ensures.grows c.requires.low c.requires.high c.requires.body c.requires.by c.in_ok-above.ensures.number c.in_ok-below.ensures.number c.in_ok-inside.ensures.number c.in_ok-body.ensures.number c.add_binary-4.ensures.number

pub returns-clause-tables : goal.returns-clause-tables
returns-clause-tables c = AreTables-grows c.substitute_first.new.store c.add_binary-4.new.store c.substitute_first.new.tables c.add_binary-4.ensures.grows c.in_ok-body.ensures.tables
