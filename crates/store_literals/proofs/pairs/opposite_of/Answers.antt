use Rattle.std.proofs.Common.{◌<◌, length, get_or, arith}
use Rattle.term_sorts.specs.Types.{record_types, types_of}
use Rattle.store_literals.specs.Places.{literal_at}
use Rattle.store_literals.proofs.Literals.{formed_at, by_number, opposite_of_none}
use Rattle.store_literals.proofs.pairs.opposite_of.Goals as goal

pub denied_by-requires : goal.denied_by-requires
denied_by-requires c =
    let there : get_or c.args.literals.now c.args.place 0 < length c.args.ids.now = formed_at (length c.args.ids.now) c.args.literals.now c.args.place c.requires.formed c.requires.within in
    omega (arith, there, c.requires.canonical.within)

pub returns-in-Some : goal.returns-in-Some
returns-in-Some c =
    let there : get_or c.args.literals.now c.args.place 0 < length c.args.ids.now = formed_at (length c.args.ids.now) c.args.literals.now c.args.place c.requires.formed c.requires.within in
    by_number (record_types c.args.records.now) (types_of c.args.symbols.now) c.args.store.now c.args.ids.now c.requires.canonical c.args.literals.now c.args.place c.in-Some.a c.place_with.result
    c.requires.is_store c.requires.formed (omega (arith, there, c.in-Some.ensures.before)) c.in-Some.ensures.none_or_tree c.place_with.ensures

pub returns-in-None : goal.returns-in-None
returns-in-None c =
    λ k l.
    opposite_of_none (record_types c.args.records.now) (types_of c.args.symbols.now) (literal_at c.args.store.now c.args.literals.now k) (literal_at c.args.store.now c.args.literals.now c.args.place) c.in-None.ensures.none_or_tree
