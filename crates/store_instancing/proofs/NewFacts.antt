-- All instances of a sequent's facts, as new facts.
use Rattle.std.proofs.Common.{◌≡◌, ℕ, ◌<◌, ◌≤◌, List, [], ◌∷◌, ◌++◌, map, length, Bool, true, false, cond, refl, sym, ap, ◌∙◌, subst}
use Rattle.std.specs.List.{list_all, flat_map}
use Rattle.std.proofs.lemmas.Bool.{le-ltb, lt-ltb}
use Rattle.std.proofs.lemmas.List.{append-nil, length-map}
use Rattle.slang_values.specs.Tree.{Tree}
use Rattle.validity.specs.Validity.{SequentTree}
use Rattle.instance_rules.specs.Instances.{index_terms, instances_of, lacking, new_facts, instance_limit, is_within_limits, with_new_facts, too_many_instances, too_large_instance, instanced}
use Rattle.term_nodes.specs.declared.node.Node.{Node}
use Rattle.term_store.specs.declared.sequent.IdSequent.{IdSequent}
use Rattle.term_store.specs.Sequent.{sequent_at, IsSequentWithin}
use Rattle.term_store.specs.Store.{tree_at, AreTreesOf, Grows}
use Rattle.term_store.proofs.Gains.{trees-grow}
use Rattle.term_store.proofs.Stores.{Grows-tree_at}
use Rattle.term_trees.specs.Term.{sort_type}
use Rattle.store_instances.specs.Added.{with_lacking, IsAddedTo}

-- what was added to nothing is what the facts lack
pub news_are : (store : List Node) (s : IdSequent) (terms facts start : List ℕ) → AreTreesOf store terms (index_terms (sequent_at store s)) → facts ≡ s.facts → start ≡ [] →
    with_lacking (map (tree_at store) facts) (map (tree_at store) start) (flat_map (instances_of (map (tree_at store) terms)) (map (tree_at store) facts)) ≡ new_facts (sequent_at store s)
news_are store s terms facts start h e f =
    (λ i. with_lacking (map (tree_at store) (e i)) (map (tree_at store) (f i)) (flat_map (instances_of (h.trees i)) (map (tree_at store) (e i))))
    ∙ ap (λ fs. lacking fs (flat_map (instances_of (index_terms (sequent_at store s))) (map (tree_at store) s.facts))) (append-nil (map (tree_at store) s.facts))

pub too_many : (s : SequentTree) (new : List (Tree ℕ)) → instance_limit < length new → with_new_facts s new ≡ too_many_instances
too_many s new h = ap (λ b. cond b too_many_instances (cond (list_all is_within_limits new) (instanced (record s { facts = s.facts ++ new })) too_large_instance)) (lt-ltb instance_limit (length new) h)

pub too_large : (s : SequentTree) (new : List (Tree ℕ)) → length new ≤ instance_limit → list_all is_within_limits new ≡ false → with_new_facts s new ≡ too_large_instance
too_large s new l e =
    ap (λ b. cond b too_many_instances (cond (list_all is_within_limits new) (instanced (record s { facts = s.facts ++ new })) too_large_instance)) (le-ltb instance_limit (length new) l)
    ∙ ap (λ b. cond b (instanced (record s { facts = s.facts ++ new })) too_large_instance) e

pub all_added : (s : SequentTree) (new : List (Tree ℕ)) → length new ≤ instance_limit → list_all is_within_limits new ≡ true → with_new_facts s new ≡ instanced (record s { facts = s.facts ++ new })
all_added s new l e =
    ap (λ b. cond b too_many_instances (cond (list_all is_within_limits new) (instanced (record s { facts = s.facts ++ new })) too_large_instance)) (le-ltb instance_limit (length new) l)
    ∙ ap (λ b. cond b (instanced (record s { facts = s.facts ++ new })) too_large_instance) e

append-map : (f : ℕ → Tree ℕ) (ks js : List ℕ) → map f (ks ++ js) ≡ map f ks ++ map f js
append-map f [] js = refl
append-map f (k ∷ ks) js = ap (λ ts. f k ∷ ts) (append-map f ks js)

-- the sequent with the new facts behind the others
pub facts_behind : (old new : List Node) (s t : IdSequent) (news : List ℕ) → Grows old new → IsSequentWithin old s → t.facts ≡ s.facts ++ news → t.sorts ≡ s.sorts → t.records ≡ s.records → t.goal ≡ s.goal →
    sequent_at new t ≡ record (sequent_at old s) { facts = map (tree_at old) s.facts ++ map (tree_at new) news }
facts_behind old new s t news g h e f i j =
    let facts = ap (map (tree_at new)) e ∙ append-map (tree_at new) s.facts news ∙ ap (λ ts. ts ++ map (tree_at new) news) (trees-grow old new s.facts g h.facts) in
    let goal = ap (tree_at new) j ∙ Grows-tree_at old new s.goal g h.goal in
    λ k. record { types = map sort_type (f k); records = map (map sort_type) (i k); facts = facts k; goal = goal k }

-- ---- what add_all_instances tells, over the numbers that it was given

module _ (old new : List Node) (s : IdSequent) (terms facts start added : List ℕ) (fits : Bool) (places : AreTreesOf old terms (index_terms (sequent_at old s))) (facts_are : facts ≡ s.facts) (start_is : start ≡ [])
    (told : IsAddedTo (map (tree_at old) facts) (map (tree_at old) start) (flat_map (instances_of (map (tree_at old) terms)) (map (tree_at old) facts)) fits (map (tree_at new) added)) where
  pub too_many_told : fits ≡ false → with_new_facts (sequent_at old s) (new_facts (sequent_at old s)) ≡ too_many_instances
  too_many_told t =
      let many : instance_limit < length (with_lacking (map (tree_at old) facts) (map (tree_at old) start) (flat_map (instances_of (map (tree_at old) terms)) (map (tree_at old) facts))) =
      subst (λ b. IsAddedTo (map (tree_at old) facts) (map (tree_at old) start) (flat_map (instances_of (map (tree_at old) terms)) (map (tree_at old) facts)) b (map (tree_at new) added)) t told in
      too_many (sequent_at old s) (new_facts (sequent_at old s)) (subst (λ (ts : List (Tree ℕ)). instance_limit < length ts) (news_are old s terms facts start places facts_are start_is) many)

  pub added_are : fits ≡ true → map (tree_at new) added ≡ new_facts (sequent_at old s)
  added_are t =
      let all : map (tree_at new) added ≡ with_lacking (map (tree_at old) facts) (map (tree_at old) start) (flat_map (instances_of (map (tree_at old) terms)) (map (tree_at old) facts)) =
      subst (λ b. IsAddedTo (map (tree_at old) facts) (map (tree_at old) start) (flat_map (instances_of (map (tree_at old) terms)) (map (tree_at old) facts)) b (map (tree_at new) added)) t told in
      all ∙ news_are old s terms facts start places facts_are start_is

  pub news_are_few : fits ≡ true → length added ≤ instance_limit → length (new_facts (sequent_at old s)) ≤ instance_limit
  news_are_few t few = subst (λ n. n ≤ instance_limit) (sym (length-map added (tree_at new)) ∙ ap length (added_are t)) few

  pub too_large_told : (seen : List ℕ) (within : Bool) → fits ≡ true → length added ≤ instance_limit → seen ≡ added → within ≡ list_all is_within_limits (map (tree_at new) seen) → within ≡ false →
      with_new_facts (sequent_at old s) (new_facts (sequent_at old s)) ≡ too_large_instance
  too_large_told seen within t few e w f =
      too_large (sequent_at old s) (new_facts (sequent_at old s)) (news_are_few t few)
      (ap (list_all is_within_limits) (sym (added_are t)) ∙ ap (λ ks. list_all is_within_limits (map (tree_at new) ks)) (sym e) ∙ sym w ∙ f)

  pub all_added_told : (seen behind : List ℕ) (within : Bool) (r : IdSequent) → fits ≡ true → length added ≤ instance_limit → seen ≡ added → within ≡ list_all is_within_limits (map (tree_at new) seen) → within ≡ true →
      behind ≡ added → r.facts ≡ s.facts ++ behind → r.sorts ≡ s.sorts → r.records ≡ s.records → r.goal ≡ s.goal → Grows old new → IsSequentWithin old s →
      with_new_facts (sequent_at old s) (new_facts (sequent_at old s)) ≡ instanced (sequent_at new r)
  all_added_told seen behind within r t few e w f b facts' sorts' records' goal' grows inside =
      all_added (sequent_at old s) (new_facts (sequent_at old s)) (news_are_few t few)
      (ap (list_all is_within_limits) (sym (added_are t)) ∙ ap (λ ks. list_all is_within_limits (map (tree_at new) ks)) (sym e) ∙ sym w ∙ f)
      ∙ ap instanced (sym (facts_behind old new s r behind grows inside facts' sorts' records' goal'
      ∙ ap (λ (ts : List (Tree ℕ)). record (sequent_at old s) { facts = map (tree_at old) s.facts ++ ts }) (ap (map (tree_at new)) b ∙ added_are t)))
