use Rattle.std.proofs.Common.{◌+◌, None, Some, sym, arith}
use Rattle.argument_forms.specs.Machine.{begins}
use Rattle.argument_forms.proofs.Walks.{walk_on, walk_stops}
use Rattle.argument_forms.proofs.constants.walk.Goals as goal

pub returns-in-None : goal.returns-in-None
returns-in-None c =
    let i = c.loop-token.token-index in
    let tokens = c.args.tokens.now in
    sym (walk_stops begins tokens (i + 1)
    (walk_on begins tokens i c.loop-token.state None c.loop-token-test.true c.loop-token.invariant.walked c.in-None.ensures.next))

pub loop-token-preserved : goal.loop-token-preserved
loop-token-preserved c =
    let i = c.loop-token.token-index in
    let near = c.in-Some.ensures.near in
    record {
      walked = walk_on begins c.args.tokens.now i c.loop-token.state (Some c.in-Some.next) c.loop-token-test.true c.loop-token.invariant.walked
          c.in-Some.ensures.next;
      lists = omega (arith, near.lists, c.loop-token.invariant.lists);
      squares = omega (arith, near.squares, c.loop-token.invariant.squares);
    }
