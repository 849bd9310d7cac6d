use Rattle.leg_states.proofs.Vecs.{put_lists}
use Rattle.leg_states.proofs.versions.put_number.Goals as goal

pub returns : goal.returns
returns c = put_lists c.args.versions.now.items c.args.x c.args.k c.args.id c.index_mut.result.now c.requires.variable c.index_mut.ensures.value
