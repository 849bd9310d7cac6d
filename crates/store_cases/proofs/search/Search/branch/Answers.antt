use Rattle.std.proofs.Common.{◌++◌, ◌∙◌, subst, arith}
use Rattle.store_cases.specs.Lists.{list_at, IsListAt}
use Rattle.store_cases.proofs.Whole.{no_branches, branch_more}
use Rattle.store_cases.proofs.search.Search.branch.Goals as goal

pub loop-count-init : goal.loop-count-init
loop-count-init c = no_branches c.args.self.now c.args.literals c.args.rest c.args.alternatives.now _ (omega arith)

pub loop-count-preserved : goal.loop-count-preserved
loop-count-preserved c =
    let ids = c.index-alternatives-alternatives.result in
    let lists = c.add_all.new.self in
    let place = c.in_ok-formulas.formulas in
    branch_more c.args.self.now c.loop-count.self (record { lists = lists; open_branches = c.push.new.self }) c.args.literals c.args.rest c.loop-count.count place c.args.alternatives.now ids c.requires c.loop-count.invariant c.loop-count-test.true c.in_ok-formulas.ensures.lists
    (subst (λ ks. IsListAt lists place (ks ++ list_at c.loop-count.self.lists c.args.rest)) (c.as_slice-ids.ensures ∙ c.index-alternatives-alternatives.is) c.in_ok-formulas.ensures.place) c.in_ok-push.ensures.ok
