-- A goal is opened until it is no All: each time it has fewer nodes.
use Rattle.std.proofs.Common.{◌≡◌, ℕ, zero, suc, ◌+◌, ◌<◌, ◌≤◌, Bool, true, false, cond, ◌==◌, length, refl, sym, ap, ap₂, ◌∙◌, subst, arith}
use Rattle.slang_values.specs.Measure.{node_count, total_nodes}
use Rattle.slang_values.specs.Tree.{Tree, literal, truth_literal, name, bound, unary, binary, update, quantified, listed, Trees, no_trees, tree_then}
use Rattle.slang_values.specs.declared.operators.Quantifier.{Quantifier}
use Rattle.validity.specs.Validity.{SequentTree}
use Rattle.lk_terms.specs.Substitution.{substituted, all_substituted}
use Rattle.instance_rules.specs.Instances.{open_quantified, open_once, opened_within}
use Rattle.instance_rules.specs.Laws.{is_all, OpeningEnds}

bound_count : (a m : ℕ) (b : Bool) → node_count (cond b (name a) (bound m)) ≡ 1
bound_count a m true = refl
bound_count a m false = refl

mutual
  -- a symbol in place of a variable leaves the count of nodes as it is
  same_count : (t : Tree ℕ) (n a : ℕ) → node_count (substituted n (name a) t) ≡ node_count t
  same_count (literal z) n a = refl
  same_count (truth_literal b) n a = refl
  same_count (name m) n a = refl
  same_count (bound m) n a = bound_count a m (m == n)
  same_count (unary op b) n a = ap (λ x. x + 1) (same_count b n a)
  same_count (binary op b c) n a = ap₂ (λ x y. x + y + 1) (same_count b n a) (same_count c n a)
  same_count (update b i x) n a = omega (arith, same_count b n a, same_count i n a, same_count x n a)
  same_count (quantified q low high body) n a = omega (arith, same_count low n a, same_count high n a, same_count body (suc n) a)
  same_count (listed l ts) n a = ap (λ x. x + 1) (same_total ts n a)

  same_total : (ts : Trees ℕ) (n a : ℕ) → total_nodes (all_substituted n (name a) ts) ≡ total_nodes ts
  same_total no_trees n a = refl
  same_total (tree_then t ts) n a = ap₂ (λ x y. x + y) (same_count t n a) (same_total ts n a)

some_nodes : (t : Tree ℕ) → 0 < node_count t
some_nodes (literal z) = omega arith
some_nodes (truth_literal b) = omega arith
some_nodes (name n) = omega arith
some_nodes (bound n) = omega arith
some_nodes (unary op a) = omega arith
some_nodes (binary op a b) = omega arith
some_nodes (update a i x) = omega arith
some_nodes (quantified q low high body) = omega arith
some_nodes (listed l ts) = omega arith

-- a goal that is no All stays
stays : (k : ℕ) (s : SequentTree) (goal : Tree ℕ) → s.goal ≡ goal → is_all goal ≡ false → ((r : SequentTree) → open_once goal r ≡ r) → is_all (opened_within k s).goal ≡ false
stays zero s goal e none same = ap is_all e ∙ none
stays (suc k) s goal e none same =
    subst (λ r. is_all (opened_within k r).goal ≡ false) (sym (ap (λ g. open_once g s) e ∙ same s)) (stays k s goal e none same)

ends : (k : ℕ) (s : SequentTree) (goal : Tree ℕ) → s.goal ≡ goal → node_count goal ≤ k → is_all (opened_within k s).goal ≡ false
ends zero s goal e l = absurd (omega (arith, some_nodes goal))
ends (suc k) s (quantified Quantifier.All low high body) e l =
    let new = open_quantified Quantifier.All low high body s in
    subst (λ g. is_all (opened_within k (open_once g s)).goal ≡ false) (sym e)
    (ends k new (substituted 0 (name (length s.types)) body) refl (omega (arith, same_count body 0 (length s.types))))
ends (suc k) s (quantified Quantifier.Exists low high body) e l = stays (suc k) s (quantified Quantifier.Exists low high body) e refl (λ r. refl)
ends (suc k) s (literal z) e l = stays (suc k) s (literal z) e refl (λ r. refl)
ends (suc k) s (truth_literal b) e l = stays (suc k) s (truth_literal b) e refl (λ r. refl)
ends (suc k) s (name n) e l = stays (suc k) s (name n) e refl (λ r. refl)
ends (suc k) s (bound n) e l = stays (suc k) s (bound n) e refl (λ r. refl)
ends (suc k) s (unary op a) e l = stays (suc k) s (unary op a) e refl (λ r. refl)
ends (suc k) s (binary op a b) e l = stays (suc k) s (binary op a b) e refl (λ r. refl)
ends (suc k) s (update a i x) e l = stays (suc k) s (update a i x) e refl (λ r. refl)
ends (suc k) s (listed m ts) e l = stays (suc k) s (listed m ts) e refl (λ r. refl)

pub opening_ends : OpeningEnds
opening_ends s = ends (node_count s.goal) s s.goal refl (omega arith)
