use Rattle.std.proofs.Common.{ℕ, List, [], ◌∷◌, ◌++◌, if◌then◌else◌, ap, ◌∙◌}
use Rattle.program_trees.specs.Variables.{entry, same_variable}
use Rattle.leg_rules.specs.Legs.{entry_items}
use Rattle.leg_rules.specs.Mentions.{some_mention}
use Rattle.leg_items.specs.Drafts.{items_of}
use Rattle.call_items.specs.Frames.{claims_in, frame_scope, frame_variable}
use Rattle.call_items.proofs.EntryItems.{entries-more}
use Rattle.call_items.proofs.entries.add_entries.Goals as goal

pub loop-global-preserved : goal.loop-global-preserved
loop-global-preserved c =
    let named : ℕ → List ℕ = λ g. if some_mention (same_variable (entry g)) (claims_in (frame_scope c.args.frame) c.args.claims.now) then g ∷ [] else [] in
    entries-more c.args.node.0 (λ g. frame_variable c.args.frame (entry g)) named c.loop-global.global
    (items_of c.args.out.now) (items_of c.loop-global.out) (items_of c.add_entry.new.out) c.loop-global.invariant
    (c.in_ok-add_entry.ensures
    ∙ ap (λ g. items_of c.loop-global.out ++ entry_items c.args.node.0 (λ k. frame_variable c.args.frame (entry k)) (named g)) c.in_ok-number.ensures.1)
