-- A goal is opened All by All.
use Rattle.std.proofs.Common.{◌≡◌, ℕ, zero, suc, ◌+◌, ◌<◌, ◌≤◌, Bool, true, false, cond, ◌==◌, length, refl, sym, ap, ap₂, ◌∙◌, subst, arith, add-one}
use Rattle.std.proofs.lemmas.Bool.{false≢true}
use Rattle.slang_values.specs.Measure.{node_count, total_nodes}
use Rattle.slang_values.specs.Tree.{Tree, literal, truth_literal, name, bound, unary, binary, update, quantified, listed, Trees, no_trees, tree_then}
use Rattle.slang_values.specs.declared.operators.Quantifier.{Quantifier}
use Rattle.validity.specs.Validity.{SequentTree}
use Rattle.lk_terms.specs.Substitution.{substituted, all_substituted}
use Rattle.instance_rules.specs.Instances.{open_quantified, open_once, opened_within, opened}
use Rattle.instance_rules.specs.Laws.{is_all}
use Rattle.instance_laws.specs.Laws.{OpensStepByStep}

bound_count : (a m : ℕ) (b : Bool) → node_count (cond b (name a) (bound m)) ≡ 1
bound_count a m true = refl
bound_count a m false = refl

mutual
  -- a symbol in place of a variable leaves the count of nodes as it is
  pub same_count : (t : Tree ℕ) (n a : ℕ) → node_count (substituted n (name a) t) ≡ node_count t
  same_count (literal z) n a = refl
  same_count (truth_literal b) n a = refl
  same_count (name m) n a = refl
  same_count (bound m) n a = bound_count a m (m == n)
  same_count (unary op b) n a = ap (λ x. x + 1) (same_count b n a)
  same_count (binary op b c) n a = ap₂ (λ x y. x + y + 1) (same_count b n a) (same_count c n a)
  same_count (update b i x) n a = omega (arith, same_count b n a, same_count i n a, same_count x n a)
  same_count (quantified q low high body) n a = omega (arith, same_count low n a, same_count high n a, same_count body (suc n) a)
  same_count (listed l ts) n a = ap (λ x. x + 1) (same_total ts n a)

  same_total : (ts : Trees ℕ) (n a : ℕ) → total_nodes (all_substituted n (name a) ts) ≡ total_nodes ts
  same_total no_trees n a = refl
  same_total (tree_then t ts) n a = ap₂ (λ x y. x + y) (same_count t n a) (same_total ts n a)

some_nodes : (t : Tree ℕ) → 0 < node_count t
some_nodes (literal z) = omega arith
some_nodes (truth_literal b) = omega arith
some_nodes (name n) = omega arith
some_nodes (bound n) = omega arith
some_nodes (unary op a) = omega arith
some_nodes (binary op a b) = omega arith
some_nodes (update a i x) = omega arith
some_nodes (quantified q low high body) = omega arith
some_nodes (listed l ts) = omega arith

-- a goal that is no All stays
not_opened : (goal : Tree ℕ) (s : SequentTree) → is_all goal ≡ false → open_once goal s ≡ s
not_opened (literal z) s e = refl
not_opened (truth_literal b) s e = refl
not_opened (name n) s e = refl
not_opened (bound n) s e = refl
not_opened (unary op a) s e = refl
not_opened (binary op a b) s e = refl
not_opened (update a i x) s e = refl
not_opened (quantified Quantifier.All low high body) s e = absurd (false≢true (sym e))
not_opened (quantified Quantifier.Exists low high body) s e = refl
not_opened (listed l ts) s e = refl

stays : (k : ℕ) (s : SequentTree) → is_all s.goal ≡ false → opened_within k s ≡ s
stays zero s e = refl
stays (suc k) s e = ap (opened_within k) (not_opened s.goal s e) ∙ stays k s e

-- as many times as the goal has nodes, or more
enough : (k m : ℕ) (s : SequentTree) (goal : Tree ℕ) → s.goal ≡ goal → node_count goal ≤ k → node_count goal ≤ m → opened_within k s ≡ opened_within m s
enough zero m s goal e l h = absurd (omega (arith, some_nodes goal))
enough (suc k) zero s goal e l h = absurd (omega (arith, some_nodes goal))
enough (suc k) (suc m) s goal e l h = by_goal goal e l h (λ new g. enough k m new g)
  where
    same : (g : Tree ℕ) → s.goal ≡ g → is_all g ≡ false → opened_within (suc k) s ≡ opened_within (suc m) s
    same g f none = stays (suc k) s (ap is_all f ∙ none) ∙ sym (stays (suc m) s (ap is_all f ∙ none))

    by_goal : (g : Tree ℕ) → s.goal ≡ g → node_count g ≤ suc k → node_count g ≤ suc m →
        ((new : SequentTree) (g : Tree ℕ) → new.goal ≡ g → node_count g ≤ k → node_count g ≤ m → opened_within k new ≡ opened_within m new) → opened_within (suc k) s ≡ opened_within (suc m) s
    by_goal (quantified Quantifier.All low high body) f i j below =
        let new = open_quantified Quantifier.All low high body s in
        let count = same_count body 0 (length s.types) in
        ap (λ g. opened_within k (open_once g s)) f ∙ below new (substituted 0 (name (length s.types)) body) refl (omega (arith, count)) (omega (arith, count)) ∙ sym (ap (λ g. opened_within m (open_once g s)) f)
    by_goal (quantified Quantifier.Exists low high body) f i j below = same (quantified Quantifier.Exists low high body) f refl
    by_goal (literal z) f i j below = same (literal z) f refl
    by_goal (truth_literal b) f i j below = same (truth_literal b) f refl
    by_goal (name n) f i j below = same (name n) f refl
    by_goal (bound n) f i j below = same (bound n) f refl
    by_goal (unary op a) f i j below = same (unary op a) f refl
    by_goal (binary op a b) f i j below = same (binary op a b) f refl
    by_goal (update a i x) f u v below = same (update a i x) f refl
    by_goal (listed l ts) f i j below = same (listed l ts) f refl

pub one_more : (s : SequentTree) (low high body : Tree ℕ) → s.goal ≡ quantified Quantifier.All low high body → opened s ≡ opened (open_quantified Quantifier.All low high body s)
one_more s low high body e =
    let new = open_quantified Quantifier.All low high body s in
    let n = node_count low + node_count high + node_count body in
    ap (λ k. opened_within k s) (ap node_count e ∙ add-one n) ∙ ap (λ g. opened_within n (open_once g s)) e
    ∙ enough n (node_count new.goal) new new.goal refl (omega (arith, same_count body 0 (length s.types))) (omega arith)

pub opens_step_by_step : OpensStepByStep
opens_step_by_step = record { one_more = one_more; last = λ s e. stays (node_count s.goal) s e }
