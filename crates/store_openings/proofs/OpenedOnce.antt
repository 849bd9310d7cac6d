-- A sequent whose goal is opened once.
use Rattle.std.proofs.Common.{◌≡◌, ℕ, zero, suc, ◌<◌, ◌≤◌, ◌+◌, List, [], ◌∷◌, ◌++◌, map, length, false, Option, Some, None, ◌⊎◌, inl, inr, Result, Ok, Err, OnOk, OnErr, refl, sym, ap, ap₂, ◌∙◌, subst, append_assoc, arith}
use Rattle.std.specs.List.{AllByRecursion}
use Rattle.std.proofs.lemmas.List.{length-map, map_push, length_push}
use Rattle.slang_values.specs.Value.{number_type}
use Rattle.slang_values.specs.Measure.{node_count}
use Rattle.slang_values.specs.Tree.{Tree, name, binary, quantified}
use Rattle.slang_values.specs.declared.operators.Binary.{Binary}
use Rattle.slang_values.specs.declared.operators.Quantifier.{Quantifier}
use Rattle.lk_terms.specs.Substitution.{substituted}
use Rattle.instance_rules.specs.Instances.{open_quantified, opened}
use Rattle.instance_rules.specs.Laws.{is_all}
use Rattle.instance_laws.proofs.Openings.{same_count, one_more}
use Rattle.term_trees.specs.Term.{sort_type}
use Rattle.term_trees.specs.declared.term.Sort.{Sort}
use Rattle.term_trees.specs.declared.term.Sort.TheVariants.{Z}
use Rattle.term_trees.proofs.Sorts.{sort_type-Z}
use Rattle.term_nodes.specs.declared.node.Node.{Node}
use Rattle.term_nodes.specs.declared.node.NodeShape.{NodeShape}
use Rattle.term_nodes.specs.Node.{numbers, shape_tree, shape_numbers, IsShapeOf}
use Rattle.term_store.specs.declared.sequent.IdSequent.{IdSequent}
use Rattle.term_store.specs.Sequent.{sequent_at, IsSequentWithin}
use Rattle.term_store.specs.Store.{stored, tree_at, Holds, IsPlaced, AreWithin, Grows}
use Rattle.term_store.proofs.Gains.{trees-grow}
use Rattle.term_store.proofs.Stores.{Grows-Grows, Grows-Holds, Grows-length, Grows-tree_at, Holds-within, tree_at-Holds}
use Rattle.node_parts.proofs.Placed.{shape-tree_at}
use Rattle.store_openings.specs.declared.opening.Range.{Range}
use Rattle.store_openings.specs.Opened.{IsOpenedBy, IsLeftBy}
use Rattle.store_openings.specs.Ranges.{IsAllOf, HasRange, IsRangeOf}

pub range_of_shape : (store : List Node) (id : ℕ) (n : Node) (s : NodeShape) (o : Option Range) → IsPlaced store id n → IsShapeOf n s → id < length store → IsAllOf s o → IsRangeOf store id o
range_of_shape store id n s None h g l e = ap is_all (shape-tree_at store id n s h g) ∙ e (stored store)
range_of_shape store id n s (Some r) h g l e =
    let below = subst (AllByRecursion (λ p. p < id)) (g.numbers ∙ ap shape_numbers e) h.below in
    let low = below.0 in
    let high = below.1.0 in
    let body = below.1.1.0 in
    record { low = omega arith; high = omega arith; body = omega arith; tree = shape-tree_at store id n s h g ∙ ap (shape_tree (stored store)) e }

-- ---- a fact more

append-map : (f : ℕ → Tree ℕ) (ks js : List ℕ) → map f (ks ++ js) ≡ map f ks ++ map f js
append-map f [] js = refl
append-map f (k ∷ ks) js = ap (λ ts. f k ∷ ts) (append-map f ks js)

pub within_append : (store : List Node) (ks js : List ℕ) → AreWithin store ks → AreWithin store js → AreWithin store (ks ++ js)
within_append store [] js h g = g
within_append store (k ∷ ks) js h g = (h.0, within_append store ks js h.1 g)

pub within_grows : (old new : List Node) (ks : List ℕ) → Grows old new → AreWithin old ks → AreWithin new ks
within_grows old new [] g h = tt
within_grows old new (k ∷ ks) g h = (omega (arith, h.0, Grows-length old new g), within_grows old new ks g h.1)

pub sequent_grows : (old new : List Node) (s : IdSequent) → Grows old new → IsSequentWithin old s → IsSequentWithin new s
sequent_grows old new s g h = record { facts = within_grows old new s.facts g h.facts; goal = omega (arith, h.goal, Grows-length old new g) }

-- what is left where memory ran out
pub left_within : (store : List Node) (old new : IdSequent) (above : ℕ) → IsSequentWithin store old → above < length store → IsLeftBy above old new → IsSequentWithin store new
left_within store old new above h l g = record { facts = by_case g.facts; goal = subst (λ k. k < length store) (sym g.goal) h.goal }
  where
    by_case : (new.facts ≡ old.facts) ⊎ (new.facts ≡ old.facts ++ above ∷ []) → AreWithin store new.facts
    by_case (inl e) = subst (AreWithin store) (sym e) h.facts
    by_case (inr e) = subst (AreWithin store) (sym e) (within_append store old.facts (above ∷ []) h.facts (l, tt))

-- the numbers of the new facts and of the new goal
module _ (s0 s1 s2 s3 s4 : List Node) (g1 : Grows s0 s1) (g2 : Grows s1 s2) (g3 : Grows s2 s3) (g4 : Grows s3 s4) (old : IdSequent) (r : Range) (symbol above below goal n : ℕ) (within : IsSequentWithin s0 old) (low : r.low < length s0) (high : r.high < length s0) (body : r.body < length s0)
    (is : Holds s1 symbol (name n)) (above_is : Holds s2 above (binary Binary.Le (tree_at s1 r.low) (tree_at s1 symbol))) (below_is : Holds s3 below (binary Binary.Lt (tree_at s2 symbol) (tree_at s2 r.high))) (goal_is : Holds s4 goal (substituted 0 (tree_at s3 symbol) (tree_at s3 r.body))) where
  symbol_1 : tree_at s1 symbol ≡ name n
  symbol_1 = tree_at-Holds s1 symbol (name n) is

  symbol_2 : tree_at s2 symbol ≡ name n
  symbol_2 = Grows-tree_at s1 s2 symbol g2 (Holds-within s1 symbol (name n) is) ∙ symbol_1

  symbol_3 : tree_at s3 symbol ≡ name n
  symbol_3 = Grows-tree_at s2 s3 symbol g3 (omega (arith, Holds-within s1 symbol (name n) is, Grows-length s1 s2 g2)) ∙ symbol_2

  above_tree : tree_at s4 above ≡ binary Binary.Le (tree_at s0 r.low) (name n)
  above_tree = tree_at-Holds s4 above _ (Grows-Holds s2 s4 above _ (Grows-Grows s2 s3 s4 g3 g4) above_is) ∙ ap₂ (binary Binary.Le) (Grows-tree_at s0 s1 r.low g1 low) symbol_1

  below_tree : tree_at s4 below ≡ binary Binary.Lt (name n) (tree_at s0 r.high)
  below_tree = tree_at-Holds s4 below _ (Grows-Holds s3 s4 below _ g4 below_is) ∙ ap₂ (binary Binary.Lt) symbol_2 (Grows-tree_at s0 s2 r.high (Grows-Grows s0 s1 s2 g1 g2) high)

  goal_tree : tree_at s4 goal ≡ substituted 0 (name n) (tree_at s0 r.body)
  goal_tree = tree_at-Holds s4 goal _ goal_is ∙ ap₂ (substituted 0) symbol_3 (Grows-tree_at s0 s3 r.body (Grows-Grows s0 s2 s3 (Grows-Grows s0 s1 s2 g1 g2) g3) body)

  all : Grows s0 s4
  all = Grows-Grows s0 s2 s4 (Grows-Grows s0 s1 s2 g1 g2) (Grows-Grows s2 s3 s4 g3 g4)

  pub opened_within : (new : IdSequent) → IsOpenedBy above below goal old new → IsSequentWithin s4 new
  opened_within new h = record {
    facts = subst (AreWithin s4) (sym h.facts) (within_append s4 old.facts (above ∷ below ∷ []) (within_grows s0 s4 old.facts all within.facts)
        (omega (arith, Holds-within s2 above _ above_is, Grows-length s2 s4 (Grows-Grows s2 s3 s4 g3 g4)), (omega (arith, Holds-within s3 below _ below_is, Grows-length s3 s4 g4), tt)));
    goal = subst (λ k. k < length s4) (sym h.goal_is) (Holds-within s4 goal _ goal_is);
  }

  pub opened_is : (new : IdSequent) → IsOpenedBy above below goal old new → n ≡ length old.sorts → sequent_at s4 new ≡ open_quantified Quantifier.All (tree_at s0 r.low) (tree_at s0 r.high) (tree_at s0 r.body) (sequent_at s0 old)
  opened_is new h e =
      let count : n ≡ length (map sort_type old.sorts) = e ∙ sym (length-map old.sorts sort_type) in
      let facts : map (tree_at s4) new.facts ≡ map (tree_at s0) old.facts ++ binary Binary.Le (tree_at s0 r.low) (name (length (map sort_type old.sorts))) ∷ binary Binary.Lt (name (length (map sort_type old.sorts))) (tree_at s0 r.high) ∷ [] =
      ap (map (tree_at s4)) h.facts ∙ append-map (tree_at s4) old.facts (above ∷ below ∷ [])
      ∙ (λ i. trees-grow s0 s4 old.facts all within.facts i ++ above_tree i ∷ below_tree i ∷ [])
      ∙ ap (λ m. map (tree_at s0) old.facts ++ binary Binary.Le (tree_at s0 r.low) (name m) ∷ binary Binary.Lt (name m) (tree_at s0 r.high) ∷ []) count in
      let goals : tree_at s4 new.goal ≡ substituted 0 (name (length (map sort_type old.sorts))) (tree_at s0 r.body) =
      ap (tree_at s4) h.goal_is ∙ goal_tree ∙ ap (λ m. substituted 0 (name m) (tree_at s0 r.body)) count in
      λ i. record { types = h.sorts i; records = map (map sort_type) (h.records i); facts = facts i; goal = goals i }

-- the goal has fewer nodes each time
pub smaller : (store new : List Node) (old s : IdSequent) (r : Range) → HasRange store old.goal r → sequent_at new s ≡ open_quantified Quantifier.All (tree_at store r.low) (tree_at store r.high) (tree_at store r.body) (sequent_at store old) →
    node_count (tree_at new s.goal) < node_count (tree_at store old.goal)
smaller store new old s r h e =
    omega (arith, ap node_count (ap (λ q. q.goal) e), same_count (tree_at store r.body) 0 (length (map sort_type old.sorts)), ap node_count h.tree)

pub opened_more : (s0 store new : List Node) (first old s : IdSequent) (r : Range) → HasRange store old.goal r → opened (sequent_at store old) ≡ opened (sequent_at s0 first) →
    sequent_at new s ≡ open_quantified Quantifier.All (tree_at store r.low) (tree_at store r.high) (tree_at store r.body) (sequent_at store old) → opened (sequent_at new s) ≡ opened (sequent_at s0 first)
opened_more s0 store new first old s r h e f = ap opened f ∙ sym (one_more (sequent_at store old) (tree_at store r.low) (tree_at store r.high) (tree_at store r.body) h.tree) ∙ e

-- ---- the sorts

pub sorts_push : (old new : List Sort) → new ≡ old ++ Z ∷ [] → map sort_type new ≡ map sort_type old ++ number_type ∷ []
sorts_push old new e = ap (map sort_type) e ∙ map_push sort_type old Z ∙ ap (λ t. map sort_type old ++ t ∷ []) sort_type-Z

pub sorts_count : (old new : List Sort) → new ≡ old ++ Z ∷ [] → length new ≡ length old + 1
sorts_count old new e = omega (arith, ap length e, length_push old Z)

pub facts_push : (old mid new : List ℕ) (above below : ℕ) → mid ≡ old ++ above ∷ [] → new ≡ mid ++ below ∷ [] → new ≡ old ++ above ∷ below ∷ []
facts_push old mid new above below e f = f ∙ ap (λ ks. ks ++ below ∷ []) e ∙ append_assoc old (above ∷ []) (below ∷ [])

-- ---- by what was answered

pub on_weaker : {E X : Type 0} (r : Result X E) (P Q : Type 0) → (P → Q) → OnOk r P → OnOk r Q
on_weaker (Ok x) P Q f h = f h
on_weaker (Err e) P Q f h = tt

pub either_way : {E X : Type 0} (r : Result X E) (P Q W : Type 0) → (P → W) → (Q → W) → OnOk r P → OnErr r Q → W
either_way (Ok x) P Q W f g h k = f h
either_way (Err e) P Q W f g h k = g k

pub no_range : (store : List Node) (id : ℕ) (o : Option Range) → o ≡ None → IsRangeOf store id o → is_all (tree_at store id) ≡ false
no_range store id o e h = subst (IsRangeOf store id) e h
