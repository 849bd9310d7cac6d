use Rattle.std.proofs.Common.{◌<◌, slice_index_or, subst, sym}
use Rattle.method_reach.proofs.Searching.{member_at}
use Rattle.method_reach.proofs.reach.mark_all.Goals as goal

pub mark-requires-clause-within : goal.mark-requires-clause-within
mark-requires-clause-within c =
    let method = slice_index_or c.args.methods.now c.methods.method-index 0 in
    subst (λ length. method < length) (sym c.methods.invariant.same_length)
    (c.requires.within method (member_at c.args.methods.now c.methods.method-index c.methods-test.true))
