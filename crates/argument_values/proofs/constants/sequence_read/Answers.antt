use Rattle.std.proofs.Common.{◌≡◌, ◌||◌, true, not, ap}
use Rattle.slang_tokens.specs.Tok.{toks}
use Rattle.lk_claims.specs.Claim.{value_type}
use Rattle.run_values.specs.Value.{plain_values}
use Rattle.argument_values.specs.Consts.{is_empty}
use Rattle.argument_values.proofs.Ends.{sequence_only, written_any, some_elements, not_true}
use Rattle.argument_values.proofs.constants.sequence_read.Goals.{else-not-is_written-via-then-not-is_written+else-is_empty}
use Rattle.argument_values.proofs.constants.sequence_read.Goals.{else-not-is_written-via-else-not-is_written}
use Rattle.argument_values.proofs.constants.sequence_read.Goals as goal

pub returns-clause-only : goal.returns-clause-only
returns-clause-only c =
    let some : (c.args.is_written || not (is_empty (plain_values c.args.values))) ≡ true =
    elim c.else-not-is_written.branch as (λ x. (c.args.is_written || not (is_empty (plain_values c.args.values))) ≡ true) [
      | else-not-is_written-via-then-not-is_written+else-is_empty w ↦
          some_elements c.args.is_written c.args.values (λ none. not_true (w.is_empty.ensures.1 none) w.if-is_empty.false)
      | else-not-is_written-via-else-not-is_written w ↦ written_any c.args.is_written c.args.values w.if-not-is_written.false
    ] in
    sequence_only c.args.is_written c.in-Ok.ty (value_type c.args.element.now) c.args.values (toks c.args.rest.now) (ap value_type c.in-Ok.ensures) some
