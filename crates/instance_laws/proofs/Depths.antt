-- Where no bound variable is loose is told by a depth.
use Rattle.std.proofs.Common.{◌≡◌, ℕ, zero, suc, pred, ◌+◌, ◌<◌, ◌≤◌, max, Bool, true, false, ◌&&◌, ◌↔◌, refl, sym, ap, ap₂, ◌∙◌, subst, arith}
use Rattle.std.proofs.lemmas.Bool.{and_parts, lt-ltb, ltb-true}
use Rattle.slang_values.specs.Tree.{Tree, literal, truth_literal, name, bound, unary, binary, update, quantified, listed, Trees, no_trees, tree_then}
use Rattle.store_substitution.specs.Loose.{depth_needed, depth_needed_by_all}
use Rattle.instance_rules.specs.Instances.{is_closed_within, are_closed_within}
use Rattle.instance_laws.specs.Laws.{ClosedByDepth}

both : (a b : Bool) → a ≡ true → b ≡ true → (a && b) ≡ true
both a b e f = ap₂ (λ x y. x && y) e f

mutual
  within : (n : ℕ) (t : Tree ℕ) → is_closed_within n t ≡ true → depth_needed t ≤ n
  within n (literal z) h = omega arith
  within n (truth_literal b) h = omega arith
  within n (name a) h = omega arith
  within n (bound m) h = let l = ltb-true m n h in omega (arith, l)
  within n (unary op a) h = within n a h
  within n (binary op a b) h =
      let p = and_parts _ _ h in omega (arith, within n a p.0, within n b p.1)
  within n (update a i x) h =
      let p = and_parts _ _ h in
      let q = and_parts _ _ p.1 in
      omega (arith, within n a p.0, within n i q.0, within n x q.1)
  within n (quantified op low high body) h =
      let p = and_parts _ _ h in
      let q = and_parts _ _ p.1 in
      omega (arith, within n low p.0, within n high q.0, within (suc n) body q.1)
  within n (listed l ts) h = all_within n ts h

  all_within : (n : ℕ) (ts : Trees ℕ) → are_closed_within n ts ≡ true → depth_needed_by_all ts ≤ n
  all_within n no_trees h = omega arith
  all_within n (tree_then t ts) h =
      let p = and_parts _ _ h in omega (arith, within n t p.0, all_within n ts p.1)

mutual
  closed : (n : ℕ) (t : Tree ℕ) → depth_needed t ≤ n → is_closed_within n t ≡ true
  closed n (literal z) h = refl
  closed n (truth_literal b) h = refl
  closed n (name a) h = refl
  closed n (bound m) h = lt-ltb m n (omega arith)
  closed n (unary op a) h = closed n a h
  closed n (binary op a b) h = both (is_closed_within n a) (is_closed_within n b) (closed n a (omega arith)) (closed n b (omega arith))
  closed n (update a i x) h =
      both (is_closed_within n a) (is_closed_within n i && is_closed_within n x) (closed n a (omega arith)) (both (is_closed_within n i) (is_closed_within n x) (closed n i (omega arith)) (closed n x (omega arith)))
  closed n (quantified op low high body) h =
      both (is_closed_within n low) (is_closed_within n high && is_closed_within (suc n) body) (closed n low (omega arith))
      (both (is_closed_within n high) (is_closed_within (suc n) body) (closed n high (omega arith)) (closed (suc n) body (omega arith)))
  closed n (listed l ts) h = all_closed n ts h

  all_closed : (n : ℕ) (ts : Trees ℕ) → depth_needed_by_all ts ≤ n → are_closed_within n ts ≡ true
  all_closed n no_trees h = refl
  all_closed n (tree_then t ts) h = both (is_closed_within n t) (are_closed_within n ts) (closed n t (omega arith)) (all_closed n ts (omega arith))

pub closed_by_depth : ClosedByDepth
closed_by_depth n t = (within n t, closed n t)
