-- What is found of a term, part by part.
use Rattle.std.proofs.Common.{◌≡◌, ℕ, zero, suc, ◌<◌, ◌≤◌, ◌+◌, List, [], ◌∷◌, ◌++◌, map, set, take, length, get_or, Bool, true, false, cond, ◌||◌, Option, refl, sym, ap, ap₂, ◌∙◌, subst, append_assoc, arith, ◌⊎◌, inl, inr, add-one, replicate}
use Rattle.std.specs.List.{list_any, filter, flat_map}
use Rattle.std.specs.Option.{option_map}
use Rattle.std.proofs.Math.Dec.{eqb}
use Rattle.std.proofs.lemmas.Bool.{eqb-true, eq-eqb, cases_eq, false≢true}
use Rattle.std.proofs.lemmas.List.{append-nil, map_push, length-set, get_or-set_other}
use Rattle.std.proofs.lemmas.List.Elements.{filter-append}
use Rattle.std.proofs.lemmas.List.Folds.{list_any-append}
use Rattle.slang_values.specs.Tree.{Tree, literal, truth_literal, name, bound, unary, binary, update, quantified, listed, Trees, no_trees, tree_then, parts, tree_list}
use Rattle.instance_laws.specs.Laws.{gathered}
use Rattle.instance_laws.proofs.Gathered.{gathered_more, gathers_once, same_tree, same_itself}
use Rattle.instance_laws.proofs.Depths.{closed_by_depth}
use Rattle.instance_rules.specs.Instances.{is_closed_within, places_in, places_in_all, place_of_binary, is_same, once}
use Rattle.store_substitution.specs.Loose.{AreDepths}
use Rattle.term_nodes.specs.declared.node.Node.{Node}
use Rattle.term_nodes.specs.declared.node.NodeShape.{NodeShape}
use Rattle.term_nodes.specs.Node.{numbers, shape_tree, tree_of, IsShapeOf}
use Rattle.term_store.specs.Store.{stored, tree_at, IsStore, IsPlaced, AreWithin}
use Rattle.node_parts.proofs.Placed.{parts-placed, shape-tree_at}
use Rattle.store_places.specs.declared.places.Found.{Found}
use Rattle.store_places.specs.Found.{own_place, as_list, closed_places, AllFound, IsFound}

-- ---- the places in a tree

all_places : (ts : Trees ℕ) → places_in_all ts ≡ flat_map places_in (tree_list ts)
all_places no_trees = refl
all_places (tree_then t ts) = ap (λ us. places_in t ++ us) (all_places ts)

by_parts : (t : Tree ℕ) → places_in t ≡ own_place t ++ flat_map places_in (parts t)
by_parts (literal z) = refl
by_parts (truth_literal b) = refl
by_parts (name n) = refl
by_parts (bound n) = refl
by_parts (unary op a) = sym (append-nil (places_in a))
by_parts (binary op a b) = ap (λ ts. place_of_binary op b ++ (places_in a ++ ts)) (sym (append-nil (places_in b)))
by_parts (update a i x) = ap (λ ts. i ∷ (places_in a ++ (places_in i ++ ts))) (sym (append-nil (places_in x)))
by_parts (quantified q low high body) = ap (λ ts. places_in low ++ (places_in high ++ ts)) (sym (append-nil (places_in body)))
by_parts (listed l ts) = all_places ts

pub closed_by_parts : (t : Tree ℕ) → closed_places t ≡ filter (is_closed_within 0) (own_place t) ++ filter (is_closed_within 0) (flat_map places_in (parts t))
closed_by_parts t = ap (filter (is_closed_within 0)) (by_parts t) ∙ filter-append (is_closed_within 0) (own_place t) (flat_map places_in (parts t))

-- the top and the parts of a term, one after the other
pub gathered_by_parts : (store : List Node) (id : ℕ) (n : Node) (ks : List ℕ) (old mid new : List (Tree ℕ)) → IsPlaced store id n → ks ≡ numbers n → mid ≡ gathered old (filter (is_closed_within 0) (own_place (tree_at store id))) →
    new ≡ gathered mid (filter (is_closed_within 0) (flat_map places_in (map (tree_at store) ks))) → new ≡ gathered old (closed_places (tree_at store id))
gathered_by_parts store id n ks old mid new h k e f =
    let t = tree_at store id in
    let inner : List (Tree ℕ) = filter (is_closed_within 0) (flat_map places_in (parts t)) in
    f ∙ ap₂ (λ us ts. gathered us (filter (is_closed_within 0) (flat_map places_in ts))) e (ap (map (tree_at store)) k ∙ sym (parts-placed store id n h))
    ∙ sym (gathered_more old (filter (is_closed_within 0) (own_place t)) inner) ∙ ap (gathered old) (sym (closed_by_parts t))

flat-append : (ts us : List (Tree ℕ)) → flat_map places_in (ts ++ us) ≡ flat_map places_in ts ++ flat_map places_in us
flat-append [] us = refl
flat-append (t ∷ ts) us = ap (λ xs. places_in t ++ xs) (flat-append ts us) ∙ sym (append_assoc (places_in t) (flat_map places_in ts) (flat_map places_in us))

take-more : (f : ℕ → Tree ℕ) (ks : List ℕ) (i d : ℕ) → i < length ks → map f (take (i + 1) ks) ≡ map f (take i ks) ++ f (get_or ks i d) ∷ []
take-more f [] i d l = absurd (omega arith)
take-more f (k ∷ ks) zero d l = refl
take-more f (k ∷ ks) (suc i) d l = ap (λ n. map f (take n (k ∷ ks))) (add-one (suc i)) ∙ ap (λ ts. f k ∷ ts) (ap (λ n. map f (take n ks)) (sym (add-one i)) ∙ take-more f ks i d (omega arith))

-- one term more
pub gathered_next : (store : List Node) (ks : List ℕ) (i d : ℕ) (old mid new : List (Tree ℕ)) → i < length ks → mid ≡ gathered old (filter (is_closed_within 0) (flat_map places_in (map (tree_at store) (take i ks)))) → new ≡ gathered mid (closed_places (tree_at store (get_or ks i d))) →
    new ≡ gathered old (filter (is_closed_within 0) (flat_map places_in (map (tree_at store) (take (i + 1) ks))))
gathered_next store ks i d old mid new l e f =
    let before : List (Tree ℕ) = map (tree_at store) (take i ks) in
    let t = tree_at store (get_or ks i d) in
    f ∙ ap (λ us. gathered us (closed_places t)) e ∙ sym (gathered_more old (filter (is_closed_within 0) (flat_map places_in before)) (closed_places t))
    ∙ ap (gathered old) (sym (ap (filter (is_closed_within 0)) (ap (flat_map places_in) (take-more (tree_at store) ks i d l) ∙ flat-append before (t ∷ []) ∙ ap (λ us. flat_map places_in before ++ us) (append-nil (places_in t)))
    ∙ filter-append (is_closed_within 0) (flat_map places_in before) (places_in t)))

-- ---- what was found stays found

any_more : (t : Tree ℕ) (found us : List (Tree ℕ)) → list_any (is_same t) found ≡ true → list_any (is_same t) (found ++ us) ≡ true
any_more t found us e = list_any-append (is_same t) found us ∙ ap (λ b. b || list_any (is_same t) us) e

stays_found : (t : Tree ℕ) (found us : List (Tree ℕ)) → list_any (is_same t) found ≡ true → list_any (is_same t) (gathered found us) ≡ true
stays_found t found [] e = e
stays_found t found (u ∷ us) e = by_test (list_any (is_same u) found) (stays_found t found us e) (stays_found t (found ++ u ∷ []) us (any_more t found (u ∷ []) e))
  where
    by_test : (b : Bool) → list_any (is_same t) (gathered found us) ≡ true → list_any (is_same t) (gathered (found ++ u ∷ []) us) ≡ true → list_any (is_same t) (cond b (gathered found us) (gathered (found ++ u ∷ []) us)) ≡ true
    by_test true same more = same
    by_test false same more = more

pub all_stay_found : (found us ts : List (Tree ℕ)) → AllFound found ts → AllFound (gathered found us) ts
all_stay_found found us [] h = tt
all_stay_found found us (t ∷ ts) h = (stays_found t found us h.0, all_stay_found found us ts h.1)

last_found : (t : Tree ℕ) (found : List (Tree ℕ)) → list_any (is_same t) (found ++ t ∷ []) ≡ true
last_found t found = list_any-append (is_same t) found (t ∷ []) ∙ ap (λ b. list_any (is_same t) found || (b || false)) (same_itself t t refl) ∙ or_true (list_any (is_same t) found)
  where
    or_true : (b : Bool) → (b || true) ≡ true
    or_true true = refl
    or_true false = refl

pub all_found : (found ts : List (Tree ℕ)) → AllFound (gathered found ts) ts
all_found found [] = tt
all_found found (t ∷ ts) = by_test (list_any (is_same t) found) refl (all_found found ts) (all_found (found ++ t ∷ []) ts)
  where
    by_test : (b : Bool) → list_any (is_same t) found ≡ b → AllFound (gathered found ts) ts → AllFound (gathered (found ++ t ∷ []) ts) ts → AllFound (cond b (gathered found ts) (gathered (found ++ t ∷ []) ts)) (t ∷ ts)
    by_test true e same more = (stays_found t found ts e, same)
    by_test false e same more = (stays_found t (found ++ t ∷ []) ts (last_found t found), more)

-- where all are found, nothing is added
pub nothing_more : (found ts : List (Tree ℕ)) → AllFound found ts → found ≡ gathered found ts
nothing_more found [] h = refl
nothing_more found (t ∷ ts) h = nothing_more found ts h.1 ∙ sym (ap (λ b. cond b (gathered found ts) (gathered (found ++ t ∷ []) ts)) h.0)

-- ---- numbers for trees

bool_same : (a b : Bool) → (a ≡ true → b ≡ true) → (b ≡ true → a ≡ true) → a ≡ b
bool_same true true f g = refl
bool_same true false f g = sym (f refl)
bool_same false true f g = g refl
bool_same false false f g = refl

pub same_number : (store : List Node) (j k : ℕ) → IsStore store → j < length store → k < length store → is_same (tree_at store j) (tree_at store k) ≡ eqb k j
same_number store j k s l m =
    bool_same (is_same (tree_at store j) (tree_at store k)) (eqb k j) (λ e. eq-eqb k j (sym (s.distinct j k l m (same_tree (tree_at store j) (tree_at store k) e))))
    (λ e. same_itself (tree_at store j) (tree_at store k) (ap (tree_at store) (sym (eqb-true k j e))))

pub same_any : (store : List Node) (j : ℕ) (ks : List ℕ) → IsStore store → j < length store → AreWithin store ks → list_any (is_same (tree_at store j)) (map (tree_at store) ks) ≡ list_any (λ k. eqb k j) ks
same_any store j [] s l h = refl
same_any store j (k ∷ ks) s l h = ap₂ (λ a b. a || b) (same_number store j k s l h.0) (same_any store j ks s l h.1)

-- ---- the term itself

pub own_by_shape : (store : List Node) (id : ℕ) (n : Node) (s : NodeShape) (o : Option ℕ) → IsPlaced store id n → IsShapeOf n s → ((ts : List (Tree ℕ)) → own_place (shape_tree ts s) ≡ as_list (option_map (tree_of ts) o)) → own_place (tree_at store id) ≡ as_list (option_map (tree_at store) o)
own_by_shape store id n s o h g e = ap own_place (shape-tree_at store id n s h g) ∙ e (stored store)

-- ---- one place

-- a place that is closed and was lacked is added
pub added : (store : List Node) (depths : List ℕ) (ks : List ℕ) (id : ℕ) → IsStore store → AreDepths store depths → length depths ≡ length store → id < length store → AreWithin store ks → get_or depths id 0 ≤ 0 → list_any (λ k. eqb k id) ks ≡ false →
    map (tree_at store) (ks ++ id ∷ []) ≡ gathered (map (tree_at store) ks) (filter (is_closed_within 0) (tree_at store id ∷ []))
added store depths ks id s h all l within closed lacked =
    let t = tree_at store id in
    let is_closed : is_closed_within 0 t ≡ true = (closed_by_depth 0 t).1 (subst (λ d. d ≤ 0) (h.at id (omega (arith, all, l))) closed) in
    map_push (tree_at store) ks id
    ∙ sym (ap (gathered (map (tree_at store) ks)) (ap (λ b. cond b (t ∷ []) []) is_closed) ∙ ap (λ b. cond b (map (tree_at store) ks) (map (tree_at store) ks ++ t ∷ [])) (same_any store id ks s l within ∙ lacked))

-- one that is loose, or was found, is not
pub not_closed : (store : List Node) (depths : List ℕ) (found : List (Tree ℕ)) (id : ℕ) → AreDepths store depths → length depths ≡ length store → id < length store → 0 < get_or depths id 0 → found ≡ gathered found (filter (is_closed_within 0) (tree_at store id ∷ []))
not_closed store depths found id h all l deep = sym (ap (gathered found) (by_test (is_closed_within 0 (tree_at store id)) refl))
  where
    by_test : (b : Bool) → is_closed_within 0 (tree_at store id) ≡ b → cond b (tree_at store id ∷ []) [] ≡ []
    by_test true e = let low = (closed_by_depth 0 (tree_at store id)).0 e in absurd (omega (arith, low, h.at id (omega (arith, all, l)), deep))
    by_test false e = refl

pub found_before : (store : List Node) (ks : List ℕ) (id : ℕ) → IsStore store → id < length store → AreWithin store ks → list_any (λ k. eqb k id) ks ≡ true → map (tree_at store) ks ≡ gathered (map (tree_at store) ks) (filter (is_closed_within 0) (tree_at store id ∷ []))
found_before store ks id s l within e = by_test (is_closed_within 0 (tree_at store id))
  where
    by_test : (b : Bool) → map (tree_at store) ks ≡ gathered (map (tree_at store) ks) (cond b (tree_at store id ∷ []) [])
    by_test true = nothing_more (map (tree_at store) ks) (tree_at store id ∷ []) (same_any store id ks s l within ∙ e, tt)
    by_test false = refl

-- ---- what was found so far

pub IsFound-more : (store : List Node) (old new : Found) (us : List (Tree ℕ)) → IsFound store old → AreWithin store new.ids → map (tree_at store) new.ids ≡ gathered (map (tree_at store) old.ids) us → new.done.items ≡ old.done.items → IsFound store new
IsFound-more store old new us h within e same = record {
  within = within;
  flags = ap length same ∙ h.flags;
  done = λ k l f. subst (λ ts. AllFound ts (closed_places (tree_at store k))) (sym e) (all_stay_found (map (tree_at store) old.ids) us (closed_places (tree_at store k)) (h.done k l (sym (ap (λ bs. get_or bs k false) same) ∙ f)));
}

-- one term more is done
pub IsFound-done : (store : List Node) (old new : Found) (id : ℕ) → IsFound store old → id < length store → AllFound (map (tree_at store) old.ids) (closed_places (tree_at store id)) → new.ids ≡ old.ids → new.done.items ≡ set old.done.items id true → IsFound store new
IsFound-done store old new id h l all same e = record {
  within = subst (AreWithin store) (sym same) h.within;
  flags = ap length e ∙ length-set old.done.items id true ∙ h.flags;
  done = λ k m f. subst (λ ks. AllFound (map (tree_at store) ks) (closed_places (tree_at store k))) (sym same) (by_place k m (sym (ap (λ bs. get_or bs k false) e) ∙ f) (cases_eq k id));
}
  where
    by_place : (k : ℕ) → k < length store → get_or (set old.done.items id true) k false ≡ true → (k ≡ id) ⊎ (k ≡ id → ⊥) → AllFound (map (tree_at store) old.ids) (closed_places (tree_at store k))
    by_place k m f (inl is) = subst (λ j. AllFound (map (tree_at store) old.ids) (closed_places (tree_at store j))) (sym is) all
    by_place k m f (inr other) = h.done k m (sym (get_or-set_other old.done.items id k true false other) ∙ f)

pub within_push : (store : List Node) (ks : List ℕ) (k : ℕ) → AreWithin store ks → k < length store → AreWithin store (ks ++ k ∷ [])
within_push store [] k h l = (l, tt)
within_push store (j ∷ ks) k h l = (h.0, within_push store ks k h.1 l)

none_done : (n k : ℕ) → get_or (replicate n false) k false ≡ true → ⊥
none_done zero k e = false≢true e
none_done (suc n) zero e = false≢true e
none_done (suc n) (suc k) e = none_done n k e

length_none : (n : ℕ) → length (replicate n false) ≡ n
length_none zero = refl
length_none (suc n) = ap suc (length_none n)

-- nothing is found yet
pub IsFound-empty : (store : List Node) (found : Found) (n : ℕ) → n ≡ length store → found.ids ≡ [] → found.done.items ≡ replicate n false → IsFound store found
IsFound-empty store found n e f g = record {
  within = subst (AreWithin store) (sym f) tt;
  flags = ap length g ∙ length_none n ∙ e;
  done = λ k l h. absurd (none_done n k (sym (ap (λ bs. get_or bs k false) g) ∙ h));
}

-- ---- the whole sequent

pub index_in_order : (facts : List (Tree ℕ)) (goal : Tree ℕ) (mid new : List (Tree ℕ)) → mid ≡ gathered [] (filter (is_closed_within 0) (flat_map places_in facts)) → new ≡ gathered mid (closed_places goal) →
    new ≡ once (filter (is_closed_within 0) (flat_map places_in (facts ++ goal ∷ [])))
index_in_order facts goal mid new e f =
    f ∙ ap (λ us. gathered us (closed_places goal)) e ∙ sym (gathered_more [] (filter (is_closed_within 0) (flat_map places_in facts)) (closed_places goal))
    ∙ ap (gathered []) (sym (ap (filter (is_closed_within 0)) (flat-append facts (goal ∷ []) ∙ ap (λ us. flat_map places_in facts ++ us) (append-nil (places_in goal)))
    ∙ filter-append (is_closed_within 0) (flat_map places_in facts) (places_in goal)))
    ∙ gathers_once.all (filter (is_closed_within 0) (flat_map places_in (facts ++ goal ∷ [])))
