use Rattle.std.proofs.Common.{sym, ◌∙◌}
use Rattle.term_sorts.specs.Types.{types_of, record_types}
use Rattle.term_store.specs.Store.{tree_at}
use Rattle.sorted_sequents.specs.Claims.{is_claim}
use Rattle.sorted_sequents.proofs.Rounds.{one_fails}
use Rattle.sorted_sequents.proofs.sequents.are_claims.Goals as goal

pub returns-then-not-is_claim : goal.returns-then-not-is_claim
returns-then-not-is_claim c =
    one_fails (is_claim (record_types c.args.records.now) (types_of c.args.symbols.now)) (tree_at c.args.store.now) c.args.ids.now
    c.loop-place.place 0 c.loop-place-test.true
    (sym c.is_claim.ensures ∙ c.if-not-is_claim.true)
