-- The table of canonical trees, as the store and the table grow.
use Rattle.std.proofs.Common.{◌≡◌, ℕ, ◌+◌, ◌<◌, ◌≤◌, List, [], ◌∷◌, ◌++◌, length, get_or, ◌⊎◌, inl, inr, refl, sym, ap, ◌∙◌, subst, arith}
use Rattle.std.proofs.lemmas.Bool.{cases_lt}
use Rattle.std.proofs.lemmas.List.{get_or_append_left, get_or_push, length_push}
use Rattle.slang_values.specs.Value.{Records}
use Rattle.slang_values.specs.Tree.{Tree}
use Rattle.slang_values.specs.Typing.{NameTypes}
use Rattle.tree_forms.specs.Canonical.{canonical}
use Rattle.term_nodes.specs.declared.node.Node.{Node}
use Rattle.term_store.specs.Store.{tree_at, Holds, Grows}
use Rattle.term_store.proofs.Stores.{Grows-length, Grows-tree_at, Grows-Holds}
use Rattle.store_canonical.specs.Canonical.{AreCanonical}

module _ (records : Records) (types : NameTypes ℕ) where
  pub AreCanonical-grows : (old new : List Node) (ids : List ℕ) → Grows old new → AreCanonical records types old ids → AreCanonical records types new ids
  AreCanonical-grows old new ids g h = record {
    within = omega (arith, h.within, Grows-length old new g);
    at = λ k l.
        subst (λ (t : Tree ℕ). Holds new (get_or ids k 0) (canonical records types t)) (sym (Grows-tree_at old new k g (omega (arith, l, h.within))))
        (Grows-Holds old new (get_or ids k 0) (canonical records types (tree_at old k)) g (h.at k l));
  }

  -- one more number, of the next term
  pub AreCanonical-more : (old new : List Node) (ids : List ℕ) (id k : ℕ) → Grows old new → AreCanonical records types old ids → id ≡ length ids → id < length old → Holds new k (canonical records types (tree_at old id)) → AreCanonical records types new (ids ++ k ∷ [])
  AreCanonical-more old new ids id k g h is l held = record {
    within = omega (arith, length_push ids k, Grows-length old new g);
    at = λ j m. at j m (cases_lt j (length ids));
  }
    where
      grown : AreCanonical records types new ids
      grown = AreCanonical-grows old new ids g h

      at : (j : ℕ) → j < length (ids ++ k ∷ []) → (j < length ids) ⊎ (length ids ≤ j) → Holds new (get_or (ids ++ k ∷ []) j 0) (canonical records types (tree_at new j))
      at j m (inl before) = subst (λ (x : ℕ). Holds new x (canonical records types (tree_at new j))) (sym (get_or_append_left ids (k ∷ []) 0 j before)) (grown.at j before)
      at j m (inr last) =
          let last_one : length ids ≡ j = omega (arith, length_push ids k) in
          subst (λ (x : ℕ). Holds new x (canonical records types (tree_at new j))) (sym (get_or_push ids k 0 j last_one))
          (subst (λ (t : Tree ℕ). Holds new k (canonical records types t)) (sym (ap (tree_at new) (sym last_one ∙ sym is) ∙ Grows-tree_at old new id g l)) held)

  pub no_numbers : (store : List Node) (ids : List ℕ) → ids ≡ [] → AreCanonical records types store ids
  no_numbers store [] e = record { within = omega arith; at = λ k l. absurd (omega arith) }
  no_numbers store (x ∷ ids) e = absurd (cc)
