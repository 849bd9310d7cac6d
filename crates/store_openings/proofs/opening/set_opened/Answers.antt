use Rattle.std.proofs.Common.{refl}
use Rattle.store_openings.proofs.OpenedOnce.{sorts_push, sorts_count, facts_push}
use Rattle.store_openings.proofs.opening.set_opened.Goals as goal

pub returns-clause-opened : goal.returns-clause-opened
returns-clause-opened c = record {
  sorts = sorts_push c.args.sequent.now.sorts c.push.new.self c.in_ok-push.ensures.ok;
  count = sorts_count c.args.sequent.now.sorts c.push.new.self c.in_ok-push.ensures.ok;
  records = refl;
  facts = facts_push c.args.sequent.now.facts c.push-2.new.self c.push-3.new.self c.args.above c.args.below c.in_ok-push-2.ensures.ok c.in_ok-push-3.ensures.ok;
  goal_is = refl;
}
