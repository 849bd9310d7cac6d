use Rattle.slang_values.specs.declared.operators.Binary.{Binary}
use Rattle.term_store.proofs.Stores.{Grows-Holds, Grows-Grows}
use Rattle.store_alternatives.proofs.Numbers.{ok_same, kept, binary_holds}
use Rattle.store_alternatives.proofs.ReadCases.{two_cases_at}
use Rattle.store_alternatives.specs.ReadCases.{AreCasesAt}
use Rattle.store_alternatives.proofs.read_cases.two_cases.Goals as goal

pub returns-clause-cases : goal.returns-clause-cases
returns-clause-cases c =
    let old = c.args.store.now in
    let first = c.add_unary.new.store in
    let new = c.add_binary.new.store in
    let before = c.in_ok-denied.ensures.grows in
    let after = c.in_ok-read.ensures.grows in
    let denied = c.in_ok-denied.denied in
    let read = c.in_ok-read.read in
    let whole = Grows-Grows old first new before after in
    ok_same c.from_slice.result _ _ c.from_slice.ensures
    (two_cases_at new c.args.condition c.args.instead denied read _ _ _ _ (kept old new c.args.condition whole c.requires.condition) (kept old new c.args.instead whole c.requires.instead) (Grows-Holds first new denied _ after c.in_ok-denied.ensures.number)
    (binary_holds first new Binary.Read read c.args.sequence c.args.place _ _ (kept old first c.args.sequence before c.requires.sequence) (kept old first c.args.place before c.requires.place) c.in_ok-read.ensures.number))
