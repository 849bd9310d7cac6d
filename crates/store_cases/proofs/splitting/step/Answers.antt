use Rattle.std.proofs.Common.{◌<◌, length, arith}
use Rattle.term_sorts.specs.Types.{record_types, types_of}
use Rattle.store_cases.proofs.Branching.{last_within, leaf_search, next_formula, further}
use Rattle.store_cases.proofs.Whole.{on_weaker}
use Rattle.store_cases.proofs.splitting.step.Goals as goal

pub cell-requires : goal.cell-requires
cell-requires c = (last_within (record_types c.args.sequent.now.records) (types_of c.args.sequent.now.sorts) c.args.store.now c.args.search.now.lists c.args.search.now.open_branches c.args.branch c.requires.search.branches).formulas

pub add_leaf-requires : goal.add_leaf-requires
add_leaf-requires c = (last_within (record_types c.args.sequent.now.records) (types_of c.args.sequent.now.sorts) c.args.store.now c.args.search.now.lists c.args.search.now.open_branches c.args.branch c.requires.search.branches).literals

pub returns-in-None-clause-next : goal.returns-in-None-clause-next
returns-in-None-clause-next c =
    let store = c.args.store.now in
    on_weaker c.add_leaf.result _ _ (λ e. leaf_search (record_types c.args.sequent.now.records) (types_of c.args.sequent.now.sorts) store c.args.search.now c.args.branch c.args.leaves.now c.add_leaf.new.leaves c.requires.search c.in-None.ensures e) c.add_leaf.ensures

pub take_apart-requires-clause-within : goal.take_apart-requires-clause-within
take_apart-requires-clause-within c = (next_formula (record_types c.args.sequent.now.records) (types_of c.args.sequent.now.sorts) c.args.store.now c.args.search.now.lists c.args.search.now.open_branches c.args.branch c.in-Some.next.first c.in-Some.next.rest c.requires.search.branches c.in-Some.ensures.is).0

pub take_apart-requires-clause-typed : goal.take_apart-requires-clause-typed
take_apart-requires-clause-typed c = (next_formula (record_types c.args.sequent.now.records) (types_of c.args.sequent.now.sorts) c.args.store.now c.args.search.now.lists c.args.search.now.open_branches c.args.branch c.in-Some.next.first c.in-Some.next.rest c.requires.search.branches c.in-Some.ensures.is).1

pub add_branches-requires-clause-literals : goal.add_branches-requires-clause-literals
add_branches-requires-clause-literals c = (last_within (record_types c.args.sequent.now.records) (types_of c.args.sequent.now.sorts) c.args.store.now c.args.search.now.lists c.args.search.now.open_branches c.args.branch c.requires.search.branches).literals

pub add_branches-requires-clause-rest : goal.add_branches-requires-clause-rest
add_branches-requires-clause-rest c =
    let formulas : c.args.branch.formulas < length c.args.search.now.lists = (last_within (record_types c.args.sequent.now.records) (types_of c.args.sequent.now.sorts) c.args.store.now c.args.search.now.lists c.args.search.now.open_branches c.args.branch c.requires.search.branches).formulas in
    let before : c.in-Some.next.rest < c.args.branch.formulas = c.in-Some.ensures.before in
    omega arith

pub returns-in_ok-apart-in-Some-clause-next : goal.returns-in_ok-apart-in-Some-clause-next
returns-in_ok-apart-in-Some-clause-next c =
    let old = c.args.store.now in
    let new = c.take_apart.new.store in
    let apart = c.in_ok-apart-in-Some.apart in
    let next = c.in-Some.next in
    on_weaker c.add_branches.result _ _
    (λ made. further (record_types c.args.sequent.now.records) (types_of c.args.sequent.now.sorts) c.requires.records old new c.args.search.now c.add_branches.new.search c.args.branch c.args.leaves.now next.first next.rest apart.id apart.alternatives c.in_ok-apart-in-Some.ensures.grows c.requires.search c.in-Some.ensures.is c.in-Some.ensures.before c.in_ok-apart-in-Some.ensures.apart.id c.in_ok-apart-in-Some.ensures.apart.alternatives made) c.add_branches.ensures
