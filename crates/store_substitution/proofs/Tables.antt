-- A table of substitutions as it and the store grow.
use Rattle.std.proofs.Common.{◌≡◌, ℕ, ◌<◌, ◌≤◌, List, [], length, Some, None, Bool, true, false, cond, Result, Ok, Err, OnOk, OnErr, Equal, Ordering, refl, sym, ap, ◌∙◌, subst, arith}
use Rattle.std.specs.Ordering.{is_eq, nat_cmp, ordering_then}
use Rattle.std.specs.BTreeMap.{BTreeMap, get, IsUnchanged, Updates, is_at}
use Rattle.std.proofs.lemmas.Map.Lookups.{exact_unsigned, exact_pairs}
use Rattle.std.proofs.lemmas.Option.{none-some, same_Some}
use Rattle.substitution.specs.Substitution.{substituted}
use Rattle.term_nodes.specs.declared.node.Node.{Node}
use Rattle.term_store.specs.Store.{tree_at, Holds, Grows}
use Rattle.term_store.proofs.Stores.{Grows-Holds, Grows-length, Grows-tree_at}
use Rattle.store_substitution.specs.declared.table.Site.{Site}
use Rattle.store_substitution.specs.declared.table.Substitutions.{Substitutions}
use Rattle.store_substitution.specs.Table.{site_cmp, IsSubstituted, AreSubstituted}

is_eq-Equal : (o : Ordering) → is_eq o ≡ true → o ≡ Equal
is_eq-Equal o e = grind arith

-- sites that compare alike are one
same_site : (a b : Site) → is_eq (site_cmp a b) ≡ true → a ≡ b
same_site a b e =
    ap (λ (p : ℕ × (ℕ × ℕ)). record { term = p.0; variable = p.1.0; by = p.1.1 })
    (exact_pairs nat_cmp (λ (x y : ℕ × ℕ). ordering_then (nat_cmp x.0 y.0) (nat_cmp x.1 y.1)) exact_unsigned (exact_pairs nat_cmp nat_cmp exact_unsigned exact_unsigned)
    (a.term, (a.variable, a.by)) (b.term, (b.variable, b.by)) (is_eq-Equal (site_cmp a b) e))

pub IsSubstituted-grows : (old new : List Node) (s : Site) (k : ℕ) → Grows old new → IsSubstituted old s k → IsSubstituted new s k
IsSubstituted-grows old new s k g h = record {
  term = omega (arith, h.term, Grows-length old new g);
  by = omega (arith, h.by, Grows-length old new g);
  number = subst (Holds new k) (sym (λ i. substituted s.variable (Grows-tree_at old new s.by g h.by i) (Grows-tree_at old new s.term g h.term i))) (Grows-Holds old new k (substituted s.variable (tree_at old s.by) (tree_at old s.term)) g h.number);
}

pub AreSubstituted-grows : (old new : List Node) (table : Substitutions) → Grows old new → AreSubstituted old table → AreSubstituted new table
AreSubstituted-grows old new table g h = record { at = λ s k e. IsSubstituted-grows old new s k g (h.at s k e) }

AreSubstituted-kept : (store : List Node) (old new : Substitutions) (s : Site) (k : ℕ) → AreSubstituted store old → Updates site_cmp old.numbers new.numbers s (Some k) → IsSubstituted store s k → AreSubstituted store new
AreSubstituted-kept store old new s k h u is = record { at = λ q j e. by_test q j e (is_at (site_cmp s) q) refl }
  where
    by_test : (q : Site) (j : ℕ) → get site_cmp new.numbers q ≡ Some j → (b : Bool) → is_at (site_cmp s) q ≡ b → IsSubstituted store q j
    by_test q j e true f =
        let there : Some k ≡ Some j = sym (ap (λ b. cond b (Some k) (get site_cmp old.numbers q)) f) ∙ sym (u.0 q) ∙ e in
        subst (λ i. IsSubstituted store q i) (same_Some k j there) (subst (λ r. IsSubstituted store r k) (same_site s q f) is)
    by_test q j e false f =
        let was : get site_cmp old.numbers q ≡ Some j = sym (ap (λ b. cond b (Some k) (get site_cmp old.numbers q)) f) ∙ sym (u.0 q) ∙ e in
        h.at q j was

-- with one entry more, or not
pub AreSubstituted-after : {E : Type 0} (r : Result Unit E) (store : List Node) (old new : Substitutions) (s : Site) (k : ℕ) → AreSubstituted store old → IsSubstituted store s k → OnOk r (Updates site_cmp old.numbers new.numbers s (Some k)) → OnErr r (IsUnchanged old.numbers new.numbers) → AreSubstituted store new
AreSubstituted-after (Ok x) store old new s k h is u e = AreSubstituted-kept store old new s k h u is
AreSubstituted-after (Err x) store old new s k h is u e = record { at = λ q j f. h.at q j (sym (gets q) ∙ f) }
  where
    gets : (q : Site) → get site_cmp new.numbers q ≡ get site_cmp old.numbers q
    gets q = rw e refl

-- what was worked out in a store that has grown
pub substituted_now : (old new : List Node) (id n by k : ℕ) → Grows old new → id < length old → by < length old → Holds new k (substituted n (tree_at old by) (tree_at old id)) → IsSubstituted new (record { term = id; variable = n; by = by }) k
substituted_now old new id n by k g within by_within h = record {
  term = omega (arith, within, Grows-length old new g);
  by = omega (arith, by_within, Grows-length old new g);
  number = subst (Holds new k) (sym (λ i. substituted n (Grows-tree_at old new by g by_within i) (Grows-tree_at old new id g within i))) h;
}

pub AreSubstituted-empty : (store : List Node) (table : Substitutions) → table.numbers.entries ≡ [] → AreSubstituted store table
AreSubstituted-empty store table e = record { at = λ q k f. absurd (none-some k (sym (nothing q) ∙ f)) }
  where
    nothing : (q : Site) → get site_cmp table.numbers q ≡ None
    nothing q = rw e refl
