-- What the fields of a store keep as it grows.
use Rattle.std.proofs.Common.{◌≡◌, ℕ, ◌<◌, ◌≤◌, List, [], ◌∷◌, ◌++◌, map, length, get_or, Some, None, Result, Ok, Err, IfOk, OnOk, OnErr, Bool, true, false, cond, ◌⊎◌, inl, inr, Equal, Ordering, refl, sym, ap, ◌∙◌, subst, arith}
use Rattle.std.specs.Ordering.{is_eq}
use Rattle.std.specs.BTreeMap.{BTreeMap, get, IsUnchanged, Updates, is_at}
use Rattle.std.proofs.lemmas.Bool.{cases_lt}
use Rattle.std.proofs.lemmas.List.{get_or_append_left, get_or_push, length_push, map_push, get_or-map, length-map}
use Rattle.std.proofs.lemmas.Option.{none-some, same_Some}
use Rattle.term_store.specs.declared.entry.Entry.{Entry}
use Rattle.term_nodes.specs.declared.key.Key.{Key}
use Rattle.term_nodes.specs.declared.node.Node.{Node}
use Rattle.term_store.specs.Inside.{nodes_in, AreMeasured, IsMeasureOver, IsIndexOf, IsWhole}
use Rattle.term_nodes.specs.Key.{key_data, node_data, key_cmp}
use Rattle.term_nodes.specs.Node.{node_tree, numbers}
use Rattle.term_store.specs.Store.{stored, tree_at, AreWithin, IsPlaced, IsStore, IsMeasureOf, Holds, GainsAtMost, the_node}
use Rattle.term_store.proofs.Measures.{IsMeasureOf-over}
use Rattle.term_nodes.proofs.Keys.{key_cmp-Equal, key_cmp-same}
use Rattle.term_nodes.proofs.Nodes.{parts-node_tree}
use Rattle.term_store.proofs.Stores.{Holds-at, tree_at-append, tree_at-push, lacks, IsStore-push}

-- ---- the index

is_eq-Equal : (o : Ordering) → is_eq o ≡ true → o ≡ Equal
is_eq-Equal o e = grind arith

pub IsIndexOf-empty : (m : BTreeMap Key ℕ) → m.entries ≡ [] → IsIndexOf [] m
IsIndexOf-empty m e = record {
  sound = λ q k h. absurd (none-some k (sym (nothing q) ∙ h));
  exact = λ q k d h. absurd (none-some k (sym (nothing q) ∙ h));
  complete = λ q k d h i. absurd (omega arith);
}
  where
    nothing : (q : Key) → get key_cmp m q ≡ None
    nothing q = rw e refl

pub IsIndexOf-same : (ns : List Node) (m m' : BTreeMap Key ℕ) → IsIndexOf ns m → IsUnchanged m m' → IsIndexOf ns m'
IsIndexOf-same ns m m' h e = record {
  sound = λ q k f. h.sound q k (sym (gets q) ∙ f);
  exact = λ q k d f. h.exact q k d (sym (gets q) ∙ f);
  complete = λ q k d l i. gets q ∙ h.complete q k d l i;
}
  where
    gets : (q : Key) → get key_cmp m' q ≡ get key_cmp m q
    gets q = rw e refl

module _ (ns : List Node) (n : Node) (key : Key) (m m' : BTreeMap Key ℕ) (h : IsIndexOf ns m) (is : key_data key ≡ node_data n) (absent : get key_cmp m key ≡ None) (u : Updates key_cmp m m' key (Some (length ns))) where
  -- a query that is the new key has its data
  same_data : (q : Key) → is_at (key_cmp key) q ≡ true → key_data q ≡ node_data n
  same_data q e = sym (key_cmp-Equal key q (is_eq-Equal (key_cmp key q) e)) ∙ is

  there : (q : Key) → is_at (key_cmp key) q ≡ true → get key_cmp m' q ≡ Some (length ns)
  there q e = u.0 q ∙ ap (λ b. cond b (Some (length ns)) (get key_cmp m q)) e

  elsewhere : (q : Key) → is_at (key_cmp key) q ≡ false → get key_cmp m' q ≡ get key_cmp m q
  elsewhere q e = u.0 q ∙ ap (λ b. cond b (Some (length ns)) (get key_cmp m q)) e

  sound-push : (q : Key) (k : ℕ) → get key_cmp m' q ≡ Some k → (b : Bool) → is_at (key_cmp key) q ≡ b → k < length (ns ++ n ∷ [])
  sound-push q k f true e = let last : length ns ≡ k = same_Some (length ns) k (sym (there q e) ∙ f) in omega (arith, length_push ns n)
  sound-push q k f false e = let old = h.sound q k (sym (elsewhere q e) ∙ f) in omega (arith, length_push ns n)

  exact-push : (q : Key) (k : ℕ) (d : Node) → get key_cmp m' q ≡ Some k → (b : Bool) → is_at (key_cmp key) q ≡ b → key_data q ≡ node_data (get_or (ns ++ n ∷ []) k d)
  exact-push q k d f true e =
      let last : length ns ≡ k = same_Some (length ns) k (sym (there q e) ∙ f) in
      same_data q e ∙ ap node_data (sym (get_or_push ns n d k last))
  exact-push q k d f false e =
      let was : get key_cmp m q ≡ Some k = sym (elsewhere q e) ∙ f in
      h.exact q k d was ∙ ap node_data (sym (get_or_append_left ns (n ∷ []) d k (h.sound q k was)))

  -- a query with the new node's data is the new key
  at_new : (q : Key) → key_data q ≡ node_data n → is_at (key_cmp key) q ≡ true
  at_new q e = ap is_eq (key_cmp-same key q (is ∙ sym e))

  complete-push : (q : Key) (k : ℕ) (d : Node) → k < length (ns ++ n ∷ []) → key_data q ≡ node_data (get_or (ns ++ n ∷ []) k d) → (k < length ns) ⊎ (length ns ≤ k) → get key_cmp m' q ≡ Some k
  complete-push q k d l e (inl old) =
      let was : get key_cmp m q ≡ Some k = h.complete q k d old (e ∙ ap node_data (get_or_append_left ns (n ∷ []) d k old)) in
      not_new (is_at (key_cmp key) q) refl was
    where
      not_new : (b : Bool) → is_at (key_cmp key) q ≡ b → get key_cmp m q ≡ Some k → get key_cmp m' q ≡ Some k
      not_new true f was =
          absurd (none-some k (sym absent ∙ h.complete key k d old (is ∙ sym (same_data q f) ∙ e ∙ ap node_data (get_or_append_left ns (n ∷ []) d k old))))
      not_new false f was = elsewhere q f ∙ was
  complete-push q k d l e (inr last) =
      let at : length ns ≡ k = omega (arith, length_push ns n) in
      there q (at_new q (e ∙ ap node_data (get_or_push ns n d k at))) ∙ ap Some at

  pub IsIndexOf-push : IsIndexOf (ns ++ n ∷ []) m'
  IsIndexOf-push = record {
    sound = λ q k f. sound-push q k f (is_at (key_cmp key) q) refl;
    exact = λ q k d f. exact-push q k d f (is_at (key_cmp key) q) refl;
    complete = λ q k d l e. complete-push q k d l e (cases_lt k (length ns));
  }

-- ---- the measures

pub length-nodes_in : (es : List Entry) → length (nodes_in es) ≡ length es
length-nodes_in es = length-map es (λ e. e.node)

nodes_in-push : (es : List Entry) (e : Entry) → nodes_in (es ++ e ∷ []) ≡ nodes_in es ++ e.node ∷ []
nodes_in-push es e = map_push (λ x. x.node) es e

AreMeasured-push : (es : List Entry) (e : Entry) → AreMeasured (stored (nodes_in es)) es → IsMeasureOver (map (tree_at (nodes_in es)) (numbers e.node)) e.measure →
    AreMeasured (stored (nodes_in es ++ e.node ∷ [])) (es ++ e ∷ [])
AreMeasured-push es e h g = record { at = λ k d l. at k d l (cases_lt k (length es)) }
  where
    at : (k : ℕ) (d : Entry) → k < length (es ++ e ∷ []) → (k < length es) ⊎ (length es ≤ k) → IsMeasureOf (tree_at (nodes_in es ++ e.node ∷ []) k) (get_or (es ++ e ∷ []) k d).measure
    at k d l (inl old) =
        subst (λ x. IsMeasureOf (tree_at (nodes_in es ++ e.node ∷ []) k) x.measure) (sym (get_or_append_left es (e ∷ []) d k old))
        (subst (λ t. IsMeasureOf t (get_or es k d).measure) (sym (tree_at-append (nodes_in es) (e.node ∷ []) k (omega (arith, length-nodes_in es)))) (h.at k d old))
    at k d l (inr last) =
        let is : length es ≡ k = omega (arith, length_push es e) in
        subst (λ x. IsMeasureOf (tree_at (nodes_in es ++ e.node ∷ []) k) x.measure) (sym (get_or_push es e d k is))
        (subst (λ t. IsMeasureOf t e.measure) (sym (ap (tree_at (nodes_in es ++ e.node ∷ [])) (sym is ∙ sym (length-nodes_in es)) ∙ tree_at-push (nodes_in es) e.node))
        (IsMeasureOf-over (node_tree (stored (nodes_in es)) e.node) (map (tree_at (nodes_in es)) (numbers e.node)) e.measure (parts-node_tree (stored (nodes_in es)) e.node) g))

-- ---- all together

pub IsWhole-empty : (m : BTreeMap Key ℕ) → m.entries ≡ [] → IsWhole [] m
IsWhole-empty m e = record {
  store = record { placed = λ k d h. absurd (omega arith); distinct = λ j k h g f. absurd (omega arith) };
  measured = record { at = λ k d h. absurd (omega arith) };
  index = IsIndexOf-empty m e;
}

-- after a push, or a push that failed
pub IsWhole-after : {E : Type 0} (r : Result ℕ E) (es es' : List Entry) (m m' : BTreeMap Key ℕ) (e : Entry) (key : Key) → IsWhole es m → AreWithin (nodes_in es) (numbers e.node) → key_data key ≡ node_data e.node →
    get key_cmp m key ≡ None → IsMeasureOver (map (tree_at (nodes_in es)) (numbers e.node)) e.measure →
    OnOk r (es' ≡ es ++ e ∷ []) → OnOk r (Updates key_cmp m m' key (Some (length es))) → OnErr r (es' ≡ es) → OnErr r (IsUnchanged m m') → IsWhole es' m'
IsWhole-after (Ok id) es es' m m' e key h within is absent measure grown placed f g =
    let index = IsIndexOf-push (nodes_in es) e.node key m m' h.index is absent (subst (λ n. Updates key_cmp m m' key (Some n)) (sym (length-nodes_in es)) placed) in
    let more = nodes_in-push es e in
    subst (λ x. IsWhole x m') (sym grown) (record {
      store = subst IsStore (sym more) (IsStore-push (nodes_in es) e.node h.store within (lacks (nodes_in es) e.node m key h.store h.index within is absent));
      measured = subst (λ ns. AreMeasured (stored ns) (es ++ e ∷ [])) (sym more) (AreMeasured-push es e h.measured measure);
      index = subst (λ ns. IsIndexOf ns m') (sym more) index;
    })
IsWhole-after (Err x) es es' m m' e key h within is absent measure grown placed f g =
    subst (λ x. IsWhole x m') (sym f) (record { store = h.store; measured = h.measured; index = IsIndexOf-same (nodes_in es) m m' h.index g })

-- the entry at a place has the node there
pub placed_entry : (es : List Entry) (k : ℕ) (e : Entry) → IsStore (nodes_in es) → k < length es → e ≡ get_or es k e → IsPlaced (nodes_in es) k e.node
placed_entry es k e s l is =
    subst (IsPlaced (nodes_in es) k) (get_or-map (λ x. x.node) es k e e.node l ∙ ap (λ x. x.node) (sym is)) (s.placed k e.node (omega (arith, length-nodes_in es)))

-- the number of what was pushed
pub Holds-after : (ns : List Node) (n : Node) (k : ℕ) → k ≡ length ns → Holds (ns ++ n ∷ []) k (node_tree (stored ns) n)
Holds-after ns n k e = Holds-at (ns ++ n ∷ []) k (node_tree (stored ns) n) (omega (arith, length_push ns n)) (ap (tree_at (ns ++ n ∷ [])) e ∙ tree_at-push ns n)

pub number-after : {E : Type 0} (r : Result ℕ E) (es es' : List Entry) (e : Entry) → IfOk r (λ id. id ≡ length es) → OnOk r (es' ≡ es ++ e ∷ []) → IfOk r (λ id. Holds (nodes_in es') id (node_tree (stored (nodes_in es)) e.node))
number-after (Ok k) es es' e h g =
    subst (λ ns. Holds ns k (node_tree (stored (nodes_in es)) e.node)) (sym (ap nodes_in g ∙ nodes_in-push es e)) (Holds-after (nodes_in es) e.node k (h ∙ sym (length-nodes_in es)))
number-after (Err x) es es' e h g = tt

pub gains-after : {E : Type 0} (r : Result ℕ E) (es es' : List Entry) (e : Entry) → OnOk r (es' ≡ es ++ e ∷ []) → OnOk r (GainsAtMost e.node (nodes_in es) (nodes_in es'))
gains-after (Ok k) es es' e g = the_node (ap nodes_in g ∙ nodes_in-push es e)
gains-after (Err x) es es' e g = tt

pub stays-after : {E : Type 0} (r : Result ℕ E) (es es' : List Entry) → OnErr r (es' ≡ es) → OnErr r (nodes_in es' ≡ nodes_in es)
stays-after (Ok k) es es' g = tt
stays-after (Err x) es es' g = ap nodes_in g
