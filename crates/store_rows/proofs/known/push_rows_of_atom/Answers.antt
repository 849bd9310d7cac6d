use Rattle.std.proofs.Common.{arith}
use Rattle.store_rows.proofs.known.push_rows_of_atom.Goals as goal

pub push_rows_of_quotient-requires-clause-dividend : goal.push_rows_of_quotient-requires-clause-dividend
push_rows_of_quotient-requires-clause-dividend c =
    let l = c.in-Quotient.ensures.below in
    omega (arith, l, c.requires.formed)
