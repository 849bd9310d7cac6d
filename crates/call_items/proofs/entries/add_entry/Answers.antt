use Rattle.std.proofs.lemmas.Result.{on_ok_weaker}
use Rattle.leg_items.specs.Names.{leg_name}
use Rattle.leg_items.specs.Drafts.{items_of}
use Rattle.call_items.proofs.EntryItems.{entry_absent, entry_present}
use Rattle.call_items.proofs.entries.add_entry.Goals as goal

pub returns-then-not-some_noted_mentions : goal.returns-then-not-some_noted_mentions
returns-then-not-some_noted_mentions c =
    entry_absent c.args.frame c.args.node.0 c.args.global (leg_name c.own_variable-name.result) c.args.claims.now (items_of c.args.out.now) (items_of c.args.out.now)
    c.own_variable-name.ensures c.if-not-some_noted_mentions.ensures

pub returns : goal.returns
returns c =
    on_ok_weaker c.add_variable.result
    (entry_present c.args.frame c.args.node.0 c.args.global (leg_name c.own_variable-name.result) c.args.claims.now (items_of c.args.out.now) (items_of c.add_variable.new.out)
    c.own_variable-name.ensures c.if-not-some_noted_mentions.ensures)
    c.add_variable.ensures
