use Rattle.term_store.proofs.Whole.{IsWhole-after, number-after, gains-after, stays-after}
use Rattle.term_store.proofs.growing.add_entry.Goals as goal

pub returns : goal.returns
returns c =
    let a = c.args in
    let n = c.push_entry.new in
    let e = c.push_entry.ensures in
    let r = c.requires in
    record {
      whole = IsWhole-after c.push_entry.result a.entries.now.items n.entries.items a.places.now n.places a.entry a.key r.whole r.within r.key r.lacking r.measure e.entry e.place e.entries_stay e.places_stay;
      number = number-after c.push_entry.result a.entries.now.items n.entries.items a.entry e.number e.entry;
      gains = gains-after c.push_entry.result a.entries.now.items n.entries.items a.entry e.entry;
      err = stays-after c.push_entry.result a.entries.now.items n.entries.items e.entries_stay;
    }
