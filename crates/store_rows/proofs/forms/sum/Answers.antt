use Rattle.std.proofs.Common.{◌<◌, ◌^◌, length, arith}
use Rattle.store_rows.proofs.Rooms.{room_of_sum}
use Rattle.store_rows.proofs.forms.sum.Goals as goal

pub returns-clause-room : goal.returns-clause-room
returns-clause-room c =
    let count : length c.args.right.now.parts.items < 2 ^ 64 = omega arith in
    room_of_sum c.plus.result c.args.store.now c.args.left.now c.args.right.now c.requires.first c.requires.second count c.plus.ensures
