use Rattle.std.proofs.Common.{map}
use Rattle.rule_check.specs.Cited.{cited_tree}
use Rattle.proof_scopes.specs.Scope.{labelled_tree}
use Rattle.proof_scopes.proofs.Labels.{cite_missing, cite_more}
use Rattle.proof_scopes.proofs.citing.cite.Goals as goal

pub returns-in-None : goal.returns-in-None
returns-in-None c =
    cite_missing (map labelled_tree c.args.visible.now) c.args.labels.now c.loop-label.label-index (map cited_tree c.loop-label.cited.items)
    c.loop-label-test.true c.loop-label.invariant c.in-None.ensures

pub loop-label-preserved : goal.loop-label-preserved
loop-label-preserved c =
    cite_more (map labelled_tree c.args.visible.now) c.args.labels.now c.loop-label.label-index c.loop-label.cited.items c.push.new.self.items c.in-Some.one
    c.loop-label-test.true c.loop-label.invariant c.in-Some.ensures c.in_ok-push-in-Some.ensures.items
