-- What was worked out, as the store grows.
use Rattle.std.proofs.Common.{ℕ, List}
use Rattle.slang_values.specs.Value.{Records}
use Rattle.slang_values.specs.Typing.{NameTypes}
use Rattle.term_nodes.specs.declared.node.Node.{Node}
use Rattle.term_store.specs.Store.{Grows}
use Rattle.store_entries.specs.Entries.{AreEntries}
use Rattle.store_entries.proofs.Kept.{AreEntries-grows}
use Rattle.store_canonical.proofs.Kept.{AreCanonical-grows}
use Rattle.store_outside.proofs.Kept.{AreNarrowOutside-grows}
use Rattle.store_linear.specs.declared.table.FormTable.{FormTable}
use Rattle.store_leaves.specs.declared.work.Workings.{Workings}
use Rattle.store_leaves.specs.Workings.{AreWorkings}

pub AreWorkings-grows : (records : Records) (types : NameTypes ℕ) (old new : List Node) (work : Workings) → Grows old new →
    AreWorkings records types old work → AreWorkings records types new work
AreWorkings-grows records types old new work g h = record {
  forms = AreEntries-grows old new work.forms.entries.items g h.forms;
  canonical = AreCanonical-grows records types old new work.canonical.ids.items g h.canonical;
  outside = AreNarrowOutside-grows records types old new work.outside.narrow.items g h.outside;
}

-- with other forms
pub with_forms : (records : Records) (types : NameTypes ℕ) (old new : List Node) (work : Workings) (forms : FormTable) → Grows old new →
    AreWorkings records types old work → AreEntries new forms.entries.items →
    AreWorkings records types new (record { forms = forms; canonical = work.canonical; outside = work.outside })
with_forms records types old new work forms g h e = record {
  forms = e;
  canonical = AreCanonical-grows records types old new work.canonical.ids.items g h.canonical;
  outside = AreNarrowOutside-grows records types old new work.outside.narrow.items g h.outside;
}
