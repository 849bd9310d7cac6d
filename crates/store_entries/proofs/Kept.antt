-- What is found of a term, as the store and the table grow.
use Rattle.std.proofs.Common.{◌≡◌, ℕ, ◌+◌, ◌<◌, ◌≤◌, List, [], ◌∷◌, ◌++◌, length, get_or, ◌⊎◌, inl, inr, refl, sym, ap, ◌∙◌, subst, arith}
use Rattle.std.proofs.lemmas.Bool.{cases_lt}
use Rattle.std.proofs.lemmas.List.{get_or_append_left, get_or_push, length_push}
use Rattle.slang_values.specs.Tree.{Tree}
use Rattle.tree_forms.specs.Form.{form}
use Rattle.term_nodes.specs.declared.node.Node.{Node}
use Rattle.term_store.specs.Store.{tree_at, Grows}
use Rattle.term_store.proofs.Stores.{Grows-length, Grows-tree_at}
use Rattle.store_forms.proofs.Atoms.{IsForm-grows}
use Rattle.store_entries.specs.declared.entry.Entry.{Entry}
use Rattle.store_entries.specs.declared.entry.Entry.TheVariants.{Form, Wide}
use Rattle.store_entries.specs.Entries.{IsEntryOf, AreEntries}

pub IsEntryOf-grows : (old new : List Node) (t : Tree ℕ) (e : Entry) → Grows old new → IsEntryOf old t e → IsEntryOf new t e
IsEntryOf-grows old new t (Form f) g h = record { is = IsForm-grows old new f (form t) g h.is; narrow = h.narrow }
IsEntryOf-grows old new t Wide g h = h

pub AreEntries-grows : (old new : List Node) (es : List Entry) → Grows old new → AreEntries old es → AreEntries new es
AreEntries-grows old new es g h = record {
  within = omega (arith, h.within, Grows-length old new g);
  at = λ k d l.
      subst (λ (t : Tree ℕ). IsEntryOf new t (get_or es k d)) (sym (Grows-tree_at old new k g (omega (arith, l, h.within))))
      (IsEntryOf-grows old new (tree_at old k) (get_or es k d) g (h.at k d l));
}

-- one more entry, of the next term
pub AreEntries-more : (old new : List Node) (es : List Entry) (id : ℕ) (e : Entry) → Grows old new → AreEntries old es → id ≡ length es → id < length old → IsEntryOf new (tree_at old id) e → AreEntries new (es ++ e ∷ [])
AreEntries-more old new es id e g h is l k = record {
  within = omega (arith, length_push es e, Grows-length old new g);
  at = λ j d m. at j d m (cases_lt j (length es));
}
  where
    grown : AreEntries new es
    grown = AreEntries-grows old new es g h

    at : (j : ℕ) (d : Entry) → j < length (es ++ e ∷ []) → (j < length es) ⊎ (length es ≤ j) → IsEntryOf new (tree_at new j) (get_or (es ++ e ∷ []) j d)
    at j d m (inl before) = subst (IsEntryOf new (tree_at new j)) (sym (get_or_append_left es (e ∷ []) d j before)) (grown.at j d before)
    at j d m (inr last) =
        let last_one : length es ≡ j = omega (arith, length_push es e) in
        subst (IsEntryOf new (tree_at new j)) (sym (get_or_push es e d j last_one))
        (subst (λ (t : Tree ℕ). IsEntryOf new t e) (sym (ap (tree_at new) (sym last_one ∙ sym is) ∙ Grows-tree_at old new id g l)) k)

pub no_entries : (store : List Node) (es : List Entry) → es ≡ [] → AreEntries store es
no_entries store [] e = record { within = omega arith; at = λ k d l. absurd (omega arith) }
no_entries store (x ∷ es) e = absurd (cc)

-- the entry at a place
pub entry_there : (store : List Node) (es : List Entry) (k : ℕ) (e : Entry) → AreEntries store es → k < length es → e ≡ get_or es k e → IsEntryOf store (tree_at store k) e
entry_there store es k e h l is = subst (IsEntryOf store (tree_at store k)) (sym is) (h.at k e l)
