use Rattle.std.proofs.Common.{sym}
use Rattle.term_sorts.specs.Types.{record_types, types_of}
use Rattle.store_leaves.proofs.Alike.{alike, unlike}
use Rattle.store_leaves.proofs.apart.are_alike.Goals as goal

pub returns-then-first-second : goal.returns-then-first-second
returns-then-first-second c =
    sym (alike (record_types c.args.records.now) (types_of c.args.symbols.now) c.args.store.now c.args.ids.now c.requires.canonical c.args.a c.args.b
    c.requires.left c.requires.right c.if-first-second.true)

pub returns : goal.returns
returns c =
    sym (unlike (record_types c.args.records.now) (types_of c.args.symbols.now) c.args.store.now c.args.ids.now c.requires.canonical c.args.a c.args.b
    c.requires.is_store c.requires.left c.requires.right c.if-first-second.false)
