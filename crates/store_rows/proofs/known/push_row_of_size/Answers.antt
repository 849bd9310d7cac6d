use Rattle.std.proofs.Common.{pos}
use Rattle.tree_forms.specs.Form.{atom_form}
use Rattle.term_store.specs.Store.{tree_at}
use Rattle.closing.specs.Rows.{at_least}
use Rattle.store_rows.proofs.Rooms.{atom_room}
use Rattle.store_rows.proofs.Tables.{one_more}
use Rattle.store_rows.proofs.known.push_row_of_size.Goals as goal

pub at_least-requires-clause-room : goal.at_least-requires-clause-room
at_least-requires-clause-room c =
    let store = c.args.store.now in
    atom_room store c.in_ok-size.size (tree_at store c.args.atom) (c.in_ok-size.ensures store c.requires.atom)

pub returns : goal.returns
returns c =
    let store = c.args.store.now in
    let f = atom_form (tree_at store c.args.atom) in
    one_more store c.args.rows.now.items c.push.new.self.items c.in_ok-row.row (at_least f (pos 0)) c.requires.within c.in_ok-push.ensures.items
    (c.in_ok-row.ensures store f (c.in_ok-size.ensures store c.requires.atom))
