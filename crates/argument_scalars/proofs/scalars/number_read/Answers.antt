use Rattle.std.proofs.Common.{◌≡◌, to_z, of_z, arith}
use Rattle.std.specs.Int.{w128}
use Rattle.std.proofs.lemmas.Int.{ints}
use Rattle.slang_tokens.specs.Tok.{toks}
use Rattle.argument_fronts.specs.Numbers.{number_front}
use Rattle.argument_scalars.proofs.Constants.{number_only, number_split}
use Rattle.argument_scalars.proofs.scalars.number_read.Goals as goal

pub returns-in-None-clause-only : goal.returns-in-None-clause-only
returns-in-None-clause-only c names records a h =
    let s = number_split names records (toks c.args.tokens.now) a h in c.in-None.ensures.only s.0 s.1

pub returns-in-Some-clause-only : goal.returns-in-Some-clause-only
returns-in-Some-clause-only c names records =
    let z = c.in-Some.read.number in
    let same : to_z w128 (of_z w128 z) ≡ z = omega (arith, ints) in
    number_only names records (toks c.args.tokens.now) (number_front c.in-Some.read) (to_z w128 (of_z w128 z)) same c.in-Some.ensures.only
