use Rattle.std.proofs.Common.{arith}
use Rattle.term_store.specs.Store.{tree_at}
use Rattle.term_store.proofs.Stores.{Grows-length}
use Rattle.store_reads.specs.Written.{instead}
use Rattle.store_reads.proofs.Store.{place-within, with_part-within, with_read_node, with_read-held}
use Rattle.store_reads.proofs.reads.+with_read.Goals as goal

pub with_part-requires : goal.with_part-requires
with_part-requires t c =
    place-within c.args.store.now c.with_read.new.store c.view.result.now c.args.id c.in-Some.part.place c.in-Some.part.id c.in_ok-number-in-Some.ensures.grows (omega arith) c.view.ensures.placed c.in-Some.ensures.1

pub add-requires : goal.add-requires
add-requires t c =
    let e = c.in_ok-node-in-Some.ensures in
    let held = c.in_ok-number-in-Some.ensures.number in
    with_part-within c.with_read.new.store c.view.result.now c.in_ok-node-in-Some.node c.args.id c.in-Some.part.place c.in_ok-number-in-Some.number c.view.ensures.placed (omega (arith, c.requires.within, c.requires.marked.within, Grows-length c.args.store.now c.with_read.new.store c.in_ok-number-in-Some.ensures.grows)) held.within e.1

pub returns-in_ok-node-in-Some-clause-number : goal.returns-in_ok-node-in-Some-clause-number
returns-in_ok-node-in-Some-clause-number t c =
    let e = c.in_ok-node-in-Some.ensures in
    let old = c.args.store.now in
    let mid = c.with_read.new.store in
    let v = tree_at old c.args.by in
    with_read-held c.add.result c.add.new.store mid v (tree_at old c.args.id) c.in_ok-node-in-Some.node
    (with_read_node v old mid c.view.result.now c.in_ok-node-in-Some.node c.args.id c.in-Some.part.place c.in-Some.part.id c.in_ok-number-in-Some.number c.in_ok-number-in-Some.ensures.grows (omega arith) c.view.ensures.placed c.in-Some.ensures.0 c.in-Some.ensures.1
    c.in_ok-number-in-Some.ensures.number e.0 e.1)
    c.add.ensures.number

pub returns-in-None-clause-number : goal.returns-in-None-clause-number
returns-in-None-clause-number t c = record { within = c.requires.by; tree = instead c.in-None.ensures }
