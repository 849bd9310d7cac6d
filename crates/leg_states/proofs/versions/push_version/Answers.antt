use Rattle.leg_states.proofs.Vecs.{pushed_lists}
use Rattle.leg_states.proofs.versions.push_version.Goals as goal

pub returns : goal.returns
returns c =
    pushed_lists c.args.versions.now.items c.args.x c.args.id c.index_mut.result.now c.push.new.self c.requires c.index_mut.ensures.value
    c.in_ok-push.ensures.items
