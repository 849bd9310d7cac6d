-- Rows over a store, one after the other.
use Rattle.std.proofs.Common.{◌≡◌, List, [], ◌∷◌, ◌++◌, sym, ap, ◌∙◌, subst}
use Rattle.std.proofs.lemmas.List.{map-append, append-nil, append_assoc}
use Rattle.term_nodes.specs.declared.node.Node.{Node}
use Rattle.closing.specs.Rows.{AtomRow}
use Rattle.store_atoms.specs.declared.row.IdRow.{IdRow}
use Rattle.store_atoms.specs.Views.{row_at, rows_at, RowsWithin, IsRow, AreRows}
use Rattle.store_atoms.proofs.Within.{rows-append}

module _ (store : List Node) where
  pub no_more : (rows : List IdRow) → RowsWithin store rows → AreRows store rows (rows_at store rows ++ [])
  no_more rows h = record { within = h; same = sym (append-nil (rows_at store rows)) }

  pub one_more : (old new : List IdRow) (r : IdRow) (row : AtomRow) → RowsWithin store old → new ≡ old ++ r ∷ [] → IsRow store r row →
      AreRows store new (rows_at store old ++ row ∷ [])
  one_more old new r row h e k = record {
    within = subst (λ (rs : List IdRow). RowsWithin store rs) (sym e) (rows-append store old (r ∷ []) h (k.within, tt));
    same = ap (rows_at store) e ∙ map-append (row_at store) old (r ∷ []) ∙ ap (λ x. rows_at store old ++ x ∷ []) k.same;
  }

  pub two_more : (old one new : List IdRow) (r s : IdRow) (x y : AtomRow) → RowsWithin store old → one ≡ old ++ r ∷ [] → new ≡ one ++ s ∷ [] →
      IsRow store r x → IsRow store s y →
      AreRows store new (rows_at store old ++ (x ∷ y ∷ []))
  two_more old one new r s x y h e f k m =
      let first = one_more old one r x h e k in
      let second = one_more one new s y first.within f m in
      record { within = second.within; same = second.same ∙ ap (λ rs. rs ++ y ∷ []) first.same ∙ append_assoc (rows_at store old) (x ∷ []) (y ∷ []) }

  pub rows_as : (rs : List IdRow) (old xs ys : List AtomRow) → xs ≡ ys → AreRows store rs (old ++ xs) → AreRows store rs (old ++ ys)
  rows_as rs old xs ys e h = record { within = h.within; same = h.same ∙ ap (λ zs. old ++ zs) e }
