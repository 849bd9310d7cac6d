use Rattle.std.proofs.Common.{◌≡◌, false, get_or, sym, ◌∙◌}
use Rattle.store_instances.proofs.Added.{one_too_large}
use Rattle.store_instances.proofs.limits.are_within_limits.Goals as goal

pub returns-then-not-is_within_limits : goal.returns-then-not-is_within_limits
returns-then-not-is_within_limits c = one_too_large c.args.store.now c.args.ids.now c.loop-place.place 0 c.loop-place-test.true (sym c.is_within_limits.ensures ∙ c.if-not-is_within_limits.true)
