use Rattle.std.proofs.lemmas.Result.{on_ok_weaker}
use Rattle.target_making.proofs.Forms.{types_more}
use Rattle.target_making.proofs.declaring.local_more.Goals as goal

pub returns : goal.returns
returns c = on_ok_weaker c.push.result (λ is. types_more c.args.locals.now c.push.new.self c.in_ok-ty.ty _ is c.in_ok-ty.ensures) c.push.ensures.ok
