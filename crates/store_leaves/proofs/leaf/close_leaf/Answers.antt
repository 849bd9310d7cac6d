use Rattle.std.proofs.Common.{ℕ, length, List, subst, IfOk}
use Rattle.slang_values.specs.Tree.{Tree}
use Rattle.term_sorts.specs.Types.{record_types, types_of}
use Rattle.term_store.proofs.Gains.{trees-grow}
use Rattle.whole_closing.specs.Closing.{closing_of_case}
use Rattle.store_leaves.specs.Ends.{IsLeafEnd}
use Rattle.store_leaves.specs.Closes.{ClosesLeaf}
use Rattle.store_leaves.proofs.Closings.{below_more, still_within}
use Rattle.store_leaves.proofs.leaf.close_leaf.Goals as goal

pub close_formed_leaf-requires-clause-formed : goal.close_formed_leaf-requires-clause-formed
close_formed_leaf-requires-clause-formed c = below_more c.bound_of-count.result (length c.work_out.new.self.forms.entries.items) c.args.literals.now
    c.in-Ok.ensures.all.forms c.bound_of-count.ensures.above

pub close_formed_leaf-requires-clause-known : goal.close_formed_leaf-requires-clause-known
close_formed_leaf-requires-clause-known c = below_more c.bound_of-count.result (length c.work_out.new.self.canonical.ids.items) c.args.literals.now
    c.in-Ok.ensures.all.canonical c.bound_of-count.ensures.above

pub close_formed_leaf-requires-clause-within : goal.close_formed_leaf-requires-clause-within
close_formed_leaf-requires-clause-within c = still_within c.args.store.now c.work_out.new.store c.args.literals.now c.in-Ok.ensures.grows c.requires.within

pub returns-in-Ok-clause-end : goal.returns-in-Ok-clause-end
returns-in-Ok-clause-end c =
    let same = trees-grow c.args.store.now c.work_out.new.store c.args.literals.now c.in-Ok.ensures.grows c.requires.within in
    subst (λ (ts : List (Tree ℕ)). IsLeafEnd (closing_of_case (record_types c.args.records.now) (types_of c.args.symbols.now) ts) c.close_formed_leaf.result)
    same c.close_formed_leaf.ensures.end

pub returns-in-Ok-clause-proof : goal.returns-in-Ok-clause-proof
returns-in-Ok-clause-proof c =
    let same = trees-grow c.args.store.now c.work_out.new.store c.args.literals.now c.in-Ok.ensures.grows c.requires.within in
    subst (λ (ts : List (Tree ℕ)). IfOk c.close_formed_leaf.result (ClosesLeaf (record_types c.args.records.now) (types_of c.args.symbols.now) ts)) same
    c.close_formed_leaf.ensures.proof
