-- Instances, and what is added of them.
use Rattle.std.proofs.Common.{◌≡◌, ℕ, zero, suc, ◌<◌, ◌≤◌, ◌+◌, List, [], ◌∷◌, ◌++◌, map, take, drop, length, get_or, Bool, true, false, cond, ◌&&◌, ◌||◌, Result, Ok, Err, IfOk, refl, sym, ap, ap₂, ◌∙◌, subst, append_assoc, arith, length-append, true≢false, add-one}
use Rattle.std.specs.List.{list_any, list_all, flat_map}
use Rattle.std.proofs.Math.Dec.{eqb}
use Rattle.std.proofs.lemmas.List.{append-nil, take_all, length_push, length-map}
use Rattle.std.proofs.lemmas.List.Folds.{list_any-append}
use Rattle.slang_values.specs.Tree.{Tree, binary}
use Rattle.slang_values.specs.declared.operators.Binary.{Binary}
use Rattle.lk_terms.specs.Substitution.{substituted}
use Rattle.instance_rules.specs.Instances.{instance, instances_of, is_same, lacking, instance_limit, is_within_limits}
use Rattle.instance_laws.proofs.Lacking.{lacks_in_order}
use Rattle.term_nodes.specs.declared.node.Node.{Node}
use Rattle.term_store.specs.Store.{tree_at, Holds, IsStore, AreWithin, Grows}
use Rattle.term_store.proofs.Gains.{trees-grow}
use Rattle.term_store.proofs.Stores.{Grows-Grows, Grows-length, Grows-tree_at, Holds-within, tree_at-Holds}
use Rattle.store_places.proofs.Gathering.{same_any}
use Rattle.store_openings.specs.declared.opening.Range.{Range}
use Rattle.store_instances.specs.Added.{with_lacking, IsAddedTo}

-- ---- one instance

pub instance_held : {E : Type 0} (r : Result ℕ E) (s0 s1 s2 s3 s4 s5 : List Node) (low high body by above below inside at : ℕ) → Grows s0 s1 → Grows s1 s2 → Grows s2 s3 → Grows s3 s4 → low < length s0 → high < length s0 → body < length s0 → by < length s0 →
    Holds s1 above (binary Binary.Le (tree_at s0 low) (tree_at s0 by)) → Holds s2 below (binary Binary.Lt (tree_at s1 by) (tree_at s1 high)) → Holds s3 inside (binary Binary.And (tree_at s2 above) (tree_at s2 below)) → Holds s4 at (substituted 0 (tree_at s3 by) (tree_at s3 body)) →
    IfOk r (λ k. Holds s5 k (binary Binary.Imply (tree_at s4 inside) (tree_at s4 at))) → IfOk r (λ k. Holds s5 k (instance (tree_at s0 low) (tree_at s0 high) (tree_at s0 body) (tree_at s0 by)))
instance_held (Err e) s0 s1 s2 s3 s4 s5 low high body by above below inside at g1 g2 g3 g4 l h b t a_is b_is i_is at_is held = tt
instance_held (Ok k) s0 s1 s2 s3 s4 s5 low high body by above below inside at g1 g2 g3 g4 l h b t a_is b_is i_is at_is held =
    let g13 = Grows-Grows s0 s2 s3 (Grows-Grows s0 s1 s2 g1 g2) g3 in
    let above_tree : tree_at s2 above ≡ binary Binary.Le (tree_at s0 low) (tree_at s0 by) = Grows-tree_at s1 s2 above g2 (Holds-within s1 above _ a_is) ∙ tree_at-Holds s1 above _ a_is in
    let below_tree : tree_at s2 below ≡ binary Binary.Lt (tree_at s0 by) (tree_at s0 high) = tree_at-Holds s2 below _ b_is ∙ ap₂ (binary Binary.Lt) (Grows-tree_at s0 s1 by g1 t) (Grows-tree_at s0 s1 high g1 h) in
    let inside_tree : tree_at s4 inside ≡ binary Binary.And (binary Binary.Le (tree_at s0 low) (tree_at s0 by)) (binary Binary.Lt (tree_at s0 by) (tree_at s0 high)) =
    Grows-tree_at s3 s4 inside g4 (Holds-within s3 inside _ i_is) ∙ tree_at-Holds s3 inside _ i_is ∙ ap₂ (binary Binary.And) above_tree below_tree in
    let body_tree : tree_at s4 at ≡ substituted 0 (tree_at s0 by) (tree_at s0 body) = tree_at-Holds s4 at _ at_is ∙ ap₂ (substituted 0) (Grows-tree_at s0 s3 by g13 t) (Grows-tree_at s0 s3 body g13 b) in
    subst (Holds s5 k) (ap₂ (binary Binary.Imply) inside_tree body_tree) held

-- ---- one fact

any_append : (t : Tree ℕ) (facts old : List (Tree ℕ)) (a b : Bool) → list_any (is_same t) facts ≡ a → list_any (is_same t) old ≡ b → list_any (is_same t) (facts ++ old) ≡ (a || b)
any_append t facts old a b e f = list_any-append (is_same t) facts old ∙ ap₂ (λ x y. x || y) e f

pub one_lacking : (facts old : List (Tree ℕ)) (t : Tree ℕ) → list_any (is_same t) (facts ++ old) ≡ false → with_lacking facts old (t ∷ []) ≡ old ++ t ∷ []
one_lacking facts old t e = ap (λ b. old ++ cond b [] (t ∷ [])) e

pub none_lacking : (facts old : List (Tree ℕ)) (t : Tree ℕ) → list_any (is_same t) (facts ++ old) ≡ true → old ≡ with_lacking facts old (t ∷ [])
none_lacking facts old t e = sym (ap (λ b. old ++ cond b [] (t ∷ [])) e ∙ append-nil old)

or_true : (a : Bool) → (a || true) ≡ true
or_true true = refl
or_true false = refl

module _ (store : List Node) (facts old : List ℕ) (id : ℕ) (s : IsStore store) (f : AreWithin store facts) (o : AreWithin store old) (l : id < length store) where
  abbrev is_id : ℕ → Bool
  is_id k = eqb k id

  pub found_in_facts : list_any is_id facts ≡ true → map (tree_at store) old ≡ with_lacking (map (tree_at store) facts) (map (tree_at store) old) (tree_at store id ∷ [])
  found_in_facts e =
      none_lacking (map (tree_at store) facts) (map (tree_at store) old) (tree_at store id)
      (any_append (tree_at store id) (map (tree_at store) facts) (map (tree_at store) old) true (list_any is_id old) (same_any store id facts s l f ∙ e) (same_any store id old s l o))

  pub found_in_new : list_any is_id old ≡ true → map (tree_at store) old ≡ with_lacking (map (tree_at store) facts) (map (tree_at store) old) (tree_at store id ∷ [])
  found_in_new e =
      none_lacking (map (tree_at store) facts) (map (tree_at store) old) (tree_at store id)
      (any_append (tree_at store id) (map (tree_at store) facts) (map (tree_at store) old) (list_any is_id facts) true (same_any store id facts s l f) (same_any store id old s l o ∙ e) ∙ or_true (list_any is_id facts))

  pub lacked : list_any is_id facts ≡ false → list_any is_id old ≡ false → with_lacking (map (tree_at store) facts) (map (tree_at store) old) (tree_at store id ∷ []) ≡ map (tree_at store) old ++ tree_at store id ∷ []
  lacked e g =
      one_lacking (map (tree_at store) facts) (map (tree_at store) old) (tree_at store id)
      (any_append (tree_at store id) (map (tree_at store) facts) (map (tree_at store) old) false false (same_any store id facts s l f ∙ e) (same_any store id old s l o ∙ g))

-- ---- several

pub lacking_more : (facts old ts us : List (Tree ℕ)) → with_lacking facts old (ts ++ us) ≡ with_lacking facts (with_lacking facts old ts) us
lacking_more facts old ts us =
    ap (λ xs. old ++ xs) (lacks_in_order (facts ++ old) ts us) ∙ sym (append_assoc old (lacking (facts ++ old) ts) (lacking ((facts ++ old) ++ lacking (facts ++ old) ts) us))
    ∙ ap (λ fs. (old ++ lacking (facts ++ old) ts) ++ lacking fs us) (append_assoc facts old (lacking (facts ++ old) ts))

-- where there are too many, more do not make them fewer
pub still_too_many : (facts old ts us : List (Tree ℕ)) → instance_limit < length (with_lacking facts old ts) → instance_limit < length (with_lacking facts old (ts ++ us))
still_too_many facts old ts us h =
    omega (arith, h, ap length (lacking_more facts old ts us), length-append (with_lacking facts old ts) (lacking (facts ++ with_lacking facts old ts) us))

-- a piece of a list, between what stands before it and behind it
pub added_piece : (facts old mid new all before piece behind : List (Tree ℕ)) (fits : Bool) → all ≡ (before ++ piece) ++ behind → mid ≡ with_lacking facts old before → IsAddedTo facts mid piece fits new → fits ≡ false → instance_limit < length (with_lacking facts old all)
added_piece facts old mid new all before piece behind true a m h e = absurd (true≢false e)
added_piece facts old mid new all before piece behind false a m h e =
    subst (λ ts. instance_limit < length (with_lacking facts old ts)) (sym a)
    (still_too_many facts old (before ++ piece) behind (subst (λ ts. instance_limit < length ts) (ap (λ xs. with_lacking facts xs piece) m ∙ sym (lacking_more facts old before piece)) h))

pub added_next : (facts old mid new before piece : List (Tree ℕ)) (fits : Bool) → mid ≡ with_lacking facts old before → IsAddedTo facts mid piece fits new → fits ≡ true → new ≡ with_lacking facts old (before ++ piece)
added_next facts old mid new before piece true m h e = h ∙ ap (λ xs. with_lacking facts xs piece) m ∙ sym (lacking_more facts old before piece)
added_next facts old mid new before piece false m h e = absurd (true≢false (sym e))

-- ---- pieces, one for each number

pub pieces_next : (f : ℕ → List (Tree ℕ)) (ks : List ℕ) (i d : ℕ) → i < length ks → flat_map f (take (i + 1) ks) ≡ flat_map f (take i ks) ++ f (get_or ks i d)
pieces_next f [] i d l = absurd (omega arith)
pieces_next f (k ∷ ks) zero d l = append-nil (f k)
pieces_next f (k ∷ ks) (suc i) d l =
    ap (λ n. flat_map f (take n (k ∷ ks))) (add-one (suc i)) ∙ ap (λ ts. f k ++ ts) (ap (λ n. flat_map f (take n ks)) (sym (add-one i)) ∙ pieces_next f ks i d (omega arith))
    ∙ sym (append_assoc (f k) (flat_map f (take i ks)) (f (get_or ks i d)))

pub pieces_parted : (f : ℕ → List (Tree ℕ)) (ks : List ℕ) (i : ℕ) → flat_map f ks ≡ flat_map f (take i ks) ++ flat_map f (drop i ks)
pieces_parted f ks zero = refl
pieces_parted f [] (suc i) = refl
pieces_parted f (k ∷ ks) (suc i) = ap (λ ts. f k ++ ts) (pieces_parted f ks i) ∙ sym (append_assoc (f k) (flat_map f (take i ks)) (flat_map f (drop i ks)))

pub pieces_around : (f : ℕ → List (Tree ℕ)) (ks : List ℕ) (i d : ℕ) → i < length ks → flat_map f ks ≡ (flat_map f (take i ks) ++ f (get_or ks i d)) ++ flat_map f (drop (i + 1) ks)
pieces_around f ks i d l = pieces_parted f ks (i + 1) ∙ ap (λ ts. ts ++ flat_map f (drop (i + 1) ks)) (pieces_next f ks i d l)

pub single_pieces : (f : ℕ → Tree ℕ) (g : Tree ℕ → Tree ℕ) (ks : List ℕ) → flat_map (λ k. g (f k) ∷ []) ks ≡ map g (map f ks)
single_pieces f g [] = refl
single_pieces f g (k ∷ ks) = ap (λ ts. g (f k) ∷ ts) (single_pieces f g ks)

pub listed_pieces : (f : ℕ → Tree ℕ) (g : Tree ℕ → List (Tree ℕ)) (ks : List ℕ) → flat_map (λ k. g (f k)) ks ≡ flat_map g (map f ks)
listed_pieces f g [] = refl
listed_pieces f g (k ∷ ks) = ap (λ ts. g (f k) ++ ts) (listed_pieces f g ks)

pub all_pieces : (f : ℕ → List (Tree ℕ)) (ks : List ℕ) (n : ℕ) → length ks ≤ n → flat_map f (take n ks) ≡ flat_map f ks
all_pieces f ks n l = ap (flat_map f) (take_all n ks l)

-- the same by other names
pub converted : (facts facts' old old' ts ts' new new' : List (Tree ℕ)) (fits : Bool) → facts ≡ facts' → old ≡ old' → ts ≡ ts' → new ≡ new' → IsAddedTo facts old ts fits new → IsAddedTo facts' old' ts' fits new'
converted facts facts' old old' ts ts' new new' fits e f g h is =
    subst (λ d. IsAddedTo facts' old' ts' fits d) h (subst (λ c. IsAddedTo facts' old' c fits new) g (subst (λ b. IsAddedTo facts' b ts fits new) f (subst (λ a. IsAddedTo a old ts fits new) e is)))

-- an instance in a store that has grown
pub instance_grows : (old mid : List Node) (low high body by : ℕ) → Grows old mid → low < length old → high < length old → body < length old → by < length old →
    instance (tree_at mid low) (tree_at mid high) (tree_at mid body) (tree_at mid by) ≡ instance (tree_at old low) (tree_at old high) (tree_at old body) (tree_at old by)
instance_grows old mid low high body by g l h b t =
    let e = Grows-tree_at old mid low g l in
    let f = Grows-tree_at old mid high g h in
    let i = Grows-tree_at old mid body g b in
    let k = Grows-tree_at old mid by g t in
    λ j. instance (e j) (f j) (i j) (k j)

-- ---- one step

module _ (old : List Node) (r : Range) (low : r.low < length old) (high : r.high < length old) (body : r.body < length old) where
  -- the instance at one term
  abbrev pub instance_piece : ℕ → List (Tree ℕ)
  instance_piece k = instance (tree_at old r.low) (tree_at old r.high) (tree_at old r.body) (tree_at old k) ∷ []

  pub instance_step : (mid new : List Node) (facts news next : List ℕ) (by k : ℕ) (fits : Bool) → Grows old mid → Grows mid new → AreWithin old facts → AreWithin mid news → by < length old →
      Holds new k (instance (tree_at mid r.low) (tree_at mid r.high) (tree_at mid r.body) (tree_at mid by)) → IsAddedTo (map (tree_at new) facts) (map (tree_at new) news) (tree_at new k ∷ []) fits (map (tree_at new) next) →
      IsAddedTo (map (tree_at old) facts) (map (tree_at mid) news) (instance_piece by) fits (map (tree_at new) next)
  instance_step mid new facts news next by k fits g h f n b held is =
      converted (map (tree_at new) facts) (map (tree_at old) facts) (map (tree_at new) news) (map (tree_at mid) news) (tree_at new k ∷ []) (instance_piece by) (map (tree_at new) next) (map (tree_at new) next) fits
      (trees-grow old new facts (Grows-Grows old mid new g h) f) (trees-grow mid new news h n) (ap (λ t. t ∷ []) (tree_at-Holds new k _ held ∙ instance_grows old mid r.low r.high r.body by g low high body b)) refl is

-- the instances of one fact
pub fact_step : (old mid new : List Node) (terms facts news next : List ℕ) (fact : ℕ) (fits : Bool) → Grows old mid → AreWithin old terms → AreWithin old facts → fact < length old →
    IsAddedTo (map (tree_at mid) facts) (map (tree_at mid) news) (instances_of (map (tree_at mid) terms) (tree_at mid fact)) fits (map (tree_at new) next) →
    IsAddedTo (map (tree_at old) facts) (map (tree_at mid) news) (instances_of (map (tree_at old) terms) (tree_at old fact)) fits (map (tree_at new) next)
fact_step old mid new terms facts news next fact fits g t f l is =
    converted (map (tree_at mid) facts) (map (tree_at old) facts) (map (tree_at mid) news) (map (tree_at mid) news) (instances_of (map (tree_at mid) terms) (tree_at mid fact)) (instances_of (map (tree_at old) terms) (tree_at old fact))
    (map (tree_at new) next) (map (tree_at new) next) fits (trees-grow old mid facts g f) refl (ap₂ instances_of (trees-grow old mid terms g t) (Grows-tree_at old mid fact g l)) refl is

-- all pieces up to this one, where it fits
pub step_fits : (facts first mid new : List (Tree ℕ)) (f : ℕ → List (Tree ℕ)) (ks : List ℕ) (i d : ℕ) (fits : Bool) → i < length ks → mid ≡ with_lacking facts first (flat_map f (take i ks)) → IsAddedTo facts mid (f (get_or ks i d)) fits new → fits ≡ true →
    new ≡ with_lacking facts first (flat_map f (take (i + 1) ks))
step_fits facts first mid new f ks i d fits l e is b =
    added_next facts first mid new (flat_map f (take i ks)) (f (get_or ks i d)) fits e is b ∙ ap (with_lacking facts first) (sym (pieces_next f ks i d l))

-- too many, where it does not
pub step_too_many : (facts first mid new : List (Tree ℕ)) (f : ℕ → List (Tree ℕ)) (ks : List ℕ) (i d : ℕ) (fits : Bool) → i < length ks → mid ≡ with_lacking facts first (flat_map f (take i ks)) → IsAddedTo facts mid (f (get_or ks i d)) fits new → fits ≡ false →
    instance_limit < length (with_lacking facts first (flat_map f ks))
step_too_many facts first mid new f ks i d fits l e is b =
    added_piece facts first mid new (flat_map f ks) (flat_map f (take i ks)) (f (get_or ks i d)) (flat_map f (drop (i + 1) ks)) fits (pieces_around f ks i d l) e is b

-- one more than the limit
pub one_beyond : (store : List Node) (facts old : List ℕ) (id : ℕ) → with_lacking (map (tree_at store) facts) (map (tree_at store) old) (tree_at store id ∷ []) ≡ map (tree_at store) old ++ tree_at store id ∷ [] → instance_limit ≤ length old →
    instance_limit < length (with_lacking (map (tree_at store) facts) (map (tree_at store) old) (tree_at store id ∷ []))
one_beyond store facts old id e l = omega (arith, ap length e, length_push (map (tree_at store) old) (tree_at store id), length-map old (tree_at store), l)

-- one term that is too large is enough
pub one_too_large : (store : List Node) (ids : List ℕ) (i d : ℕ) → i < length ids → is_within_limits (tree_at store (get_or ids i d)) ≡ false → false ≡ list_all is_within_limits (map (tree_at store) ids)
one_too_large store [] i d l e = absurd (omega arith)
one_too_large store (k ∷ ks) zero d l e = sym (ap (λ b. b && list_all is_within_limits (map (tree_at store) ks)) e)
one_too_large store (k ∷ ks) (suc i) d l e = one_too_large store ks i d (omega arith) e ∙ sym (and_false (is_within_limits (tree_at store k)) (list_all is_within_limits (map (tree_at store) ks)) (sym (one_too_large store ks i d (omega arith) e)))
  where
    and_false : (a b : Bool) → b ≡ false → (a && b) ≡ b
    and_false true b h = refl
    and_false false b h = sym h
