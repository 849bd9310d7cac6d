-- The subtrees of what a store holds, and sequents as it grows.
use Rattle.std.proofs.Common.{◌≡◌, ℕ, zero, suc, ◌<◌, List, [], ◌∷◌, map, length, get_or, true, ◌⊎◌, inl, inr, sym, ap, ◌∙◌, subst, arith}
use Rattle.std.specs.List.{Contains, flat_map}
use Rattle.std.proofs.lemmas.List.{get_or-map, length-map}
use Rattle.std.proofs.lemmas.List.Elements.{Contains-get_or, Contains-append_cases}
use Rattle.std.proofs.lemmas.Option.{slice_get_within, get_or_from_slice_get}
use Rattle.slang_values.specs.Tree.{Tree, truth_literal, parts}
use Rattle.term_nodes.specs.declared.node.Node.{Node}
use Rattle.term_store.specs.declared.sequent.IdSequent.{IdSequent}
use Rattle.term_store.specs.Laws.{GrowthLaws, StoreLaws}
use Rattle.term_nodes.specs.Node.{numbers}
use Rattle.term_store.specs.Sequent.{sequent_at, IsSequentWithin}
use Rattle.term_store.specs.Store.{stored, tree_at, IsPlaced, IsStore, Grows, subtrees}
use Rattle.term_store.proofs.Gains.{subtrees-parts, flat_cases, trees-grow}
use Rattle.term_store.proofs.Measures.{at_place}
use Rattle.term_nodes.proofs.Nodes.{parts-node_tree}
use Rattle.term_store.proofs.Stores.{length-stored, Holds-tree_at, Holds-within, tree_at-Holds, Grows-itself, Grows-Grows, Grows-Holds, Grows-tree_at}

one_of_one : {X : Type 0} (x u : X) → Contains (x ∷ []) u → x ≡ u
one_of_one x u (zero, l, e) = e
one_of_one x u (suc k, l, e) = absurd (omega arith)

-- by the places, which fall
subtrees-held : (ns : List Node) → IsStore ns → (n k : ℕ) → k < n → k < length ns → (u : Tree ℕ) → Contains (subtrees (tree_at ns k)) u → Contains (stored ns) u
subtrees-held ns s zero k h l u c = absurd (omega arith)
subtrees-held ns s (suc n) k h l u c =
    by_case (Contains-append_cases (tree_at ns k ∷ []) (flat_map subtrees (parts (tree_at ns k))) u (subst (λ ts. Contains ts u) (subtrees-parts (tree_at ns k)) c)) (λ j g. subtrees-held ns s n j (omega arith) (omega arith) u)
  where
    node : Node
    node = get_or ns k Node.True

    placed : IsPlaced ns k node
    placed = s.placed k Node.True l

    part_trees : parts (tree_at ns k) ≡ map (tree_at ns) (numbers node)
    part_trees = ap parts placed.tree ∙ parts-node_tree (stored ns) node

    by_case : Contains (tree_at ns k ∷ []) u ⊎ Contains (flat_map subtrees (parts (tree_at ns k))) u → ((j : ℕ) → j < k → Contains (subtrees (tree_at ns j)) u → Contains (stored ns) u) → Contains (stored ns) u
    by_case (inl f) below = subst (Contains (stored ns)) (one_of_one (tree_at ns k) u f) (Contains-get_or (stored ns) k (truth_literal true) (omega (arith, length-stored ns)))
    by_case (inr f) below =
        let r = flat_cases subtrees (parts (tree_at ns k)) u f in
        let within : r.at < length (numbers node) = omega (arith, slice_get_within (parts (tree_at ns k)) r.at r.one r.there, ap length part_trees, length-map (numbers node) (tree_at ns)) in
        let j = get_or (numbers node) r.at 0 in
        let is : tree_at ns j ≡ r.one =
        sym (get_or-map (tree_at ns) (numbers node) r.at 0 r.one within) ∙ ap (λ ts. get_or ts r.at r.one) (sym part_trees) ∙ get_or_from_slice_get (parts (tree_at ns k)) r.at r.one r.one r.there in
        below j (at_place (λ p. p < k) (numbers node) r.at 0 placed.below within) (subst (λ t. Contains (subtrees t) u) (sym is) r.inside)

pub store_laws : StoreLaws
store_laws = record {
  one_number = λ ns j k t s h g. s.distinct j k (Holds-within ns j t h) (Holds-within ns k t g) (tree_at-Holds ns j t h ∙ sym (tree_at-Holds ns k t g));
  within = Holds-tree_at;
  subtrees_held = λ ns k t u s h c. subtrees-held ns s (suc k) k (omega arith) (Holds-within ns k t h) u (subst (λ x. Contains (subtrees x) u) (sym (tree_at-Holds ns k t h)) c);
}

sequent-grows : (old new : List Node) (s : IdSequent) → Grows old new → IsSequentWithin old s → sequent_at new s ≡ sequent_at old s
sequent-grows old new s g h =
    let facts = trees-grow old new s.facts g h.facts in
    let goal = Grows-tree_at old new s.goal g h.goal in
    λ i. record { types = (sequent_at old s).types; records = (sequent_at old s).records; facts = facts i; goal = goal i }

pub growth_laws : GrowthLaws
growth_laws = record { itself = Grows-itself; further = Grows-Grows; number = Grows-Holds; tree = Grows-tree_at; sequent = sequent-grows }
