-- States by their parts, and as their store grows.
use Rattle.std.proofs.Common.{◌≡◌, ℕ, suc, pred, ◌+◌, ◌<◌, Bool, true, false, cond, List, [], ◌∷◌, ◌++◌, map, set, length, get_or, Option, Some, None, refl, sym, ap, ◌∙◌, subst, arith, length-set}
use Rattle.std.specs.Prelude.{nat_eq, ◌&&◌, unwrap_or}
use Rattle.std.specs.Option.{option_map}
use Rattle.std.specs.Ordering.{nat_cmp}
use Rattle.std.specs.BTreeMap.{BTreeMap, get}
use Rattle.std.proofs.Math.ListN.{replicate}
use Rattle.std.proofs.lemmas.List.{length-map, map_push, length-replicate, get_or-replicate}
use Rattle.slang_values.specs.Value.{ValueType}
use Rattle.slang_values.specs.Tree.{Tree, name}
use Rattle.term_trees.specs.declared.term.Sort.{Sort}
use Rattle.term_trees.specs.Term.{sort_type}
use Rattle.term_nodes.specs.declared.node.Node.{Node}
use Rattle.term_store.specs.Store.{tree_at, Holds, AreWithin, Grows}
use Rattle.term_store.proofs.Stores.{Grows-length, Grows-tree_at, tree_at-Holds}
use Rattle.term_store.proofs.Gains.{trees-grow}
use Rattle.leg_rules.specs.Store.{State, start, with_symbol, set_variable, with_fact}
use Rattle.leg_states.specs.State.{number_at, version_at, put, pushed, HaveVersions, state_over, AreOver}
use Rattle.leg_states.proofs.Lists.{number_at-put, length-put, length-pushed, version_at-pushed, number_at-pushed_none, number_at-pushed, start_version, start_number}

pub same_state : (a b : State) → a.sorts ≡ b.sorts → ((x : ℕ) → a.version x ≡ b.version x) → ((x k : ℕ) → a.terms x k ≡ b.terms x k)
    → ((label : ℕ) → a.lets label ≡ b.lets label) → a.facts ≡ b.facts → a ≡ b
same_state a b sorts version terms lets facts =
    λ i. record { sorts = sorts i; version = λ x. version x i; terms = λ x k. terms x k i; lets = λ label. lets label i; facts = facts i }

-- ---- growth

grown_term : (old new : List Node) → Grows old new → (o : Option ℕ) → ((n : ℕ) → o ≡ Some n → n < length old)
    → option_map (tree_at new) o ≡ option_map (tree_at old) o
grown_term old new g None h = refl
grown_term old new g (Some n) h = ap Some (Grows-tree_at old new n g (h n refl))

within_grows : (old new : List Node) → Grows old new → (ks : List ℕ) → AreWithin old ks → AreWithin new ks
within_grows old new g [] h = tt
within_grows old new g (k ∷ ks) h = (omega (arith, h.0, Grows-length old new g), within_grows old new g ks h.1)

within_push : (store : List Node) (ks : List ℕ) (k : ℕ) → AreWithin store ks → k < length store → AreWithin store (ks ++ k ∷ [])
within_push store [] k h l = (l, tt)
within_push store (j ∷ ks) k h l = (h.0, within_push store ks k h.1 l)

-- a state stands for the same as its store grows
pub grown_state : (old new : List Node) (count : ℕ) (sorts : List Sort) (lists : List (List (Option ℕ))) (lets : BTreeMap ℕ ℕ) (facts : List ℕ)
    → Grows old new → AreOver count old lists facts → state_over new sorts lists lets facts ≡ state_over old sorts lists lets facts
grown_state old new count sorts lists lets facts g h =
    same_state (state_over new sorts lists lets facts) (state_over old sorts lists lets facts) refl (λ x. refl)
    (λ x k. grown_term old new g (number_at lists x k) (h.numbers x k)) (λ label. refl) (trees-grow old new facts g h.within)

pub grown_over : (old new : List Node) (count : ℕ) (lists : List (List (Option ℕ))) (facts : List ℕ) → Grows old new → AreOver count old lists facts
    → AreOver count new lists facts
grown_over old new count lists facts g h = record {
  versions = h.versions;
  numbers = λ x k n e. omega (arith, h.numbers x k n e, Grows-length old new g);
  within = within_grows old new g facts h.within;
}

-- ---- the start

pub start_state : (store : List Node) (lists : List (List (Option ℕ))) (lets : BTreeMap ℕ ℕ) (count : ℕ) → lists ≡ replicate count (None ∷ [])
    → ((label : ℕ) → get nat_cmp lets label ≡ None) → state_over store [] lists lets [] ≡ start
start_state store lists lets count e h =
    same_state (state_over store [] lists lets []) start refl (λ x. ap (λ l. version_at l x) e ∙ start_version count x)
    (λ x k. ap (option_map (tree_at store)) (ap (λ l. number_at l x k) e ∙ start_number count x k)) (λ label. ap (λ o. unwrap_or o 0) (h label)) refl

none_is_not : {A : Type 0} {P : Type 0} (x : A) → None ≡ Some x → P
none_is_not x e = absurd (cc)

pub start_over : (store : List Node) (lists : List (List (Option ℕ))) (count : ℕ) → lists ≡ replicate count (None ∷ []) → AreOver count store lists []
start_over store lists count e = record {
  versions = record {
    variables = ap length e ∙ length-replicate count (None ∷ []);
    present = λ x h. let is = ap length (ap (λ l. get_or l x []) e ∙ get_or-replicate count x (None ∷ []) [] h) in omega (arith, is);
  };
  numbers = λ x k n f. none_is_not n (sym (ap (λ l. number_at l x k) e ∙ start_number count x k) ∙ f);
  within = tt;
}

-- ---- a term for a version

mapped_choice : (f : ℕ → Tree ℕ) (b : Bool) (id : ℕ) (o : Option ℕ) (t : Tree ℕ) (u : Option (Tree ℕ)) → f id ≡ t → option_map f o ≡ u
    → option_map f (cond b (Some id) o) ≡ cond b (Some t) u
mapped_choice f true id o t u e h = ap Some e
mapped_choice f false id o t u e h = h

same_number : {x y : ℕ} → Some x ≡ Some y → x ≡ y
same_number e = cc

chosen_within : (bound : ℕ) (b : Bool) (id n : ℕ) (o : Option ℕ) → id < bound → ((m : ℕ) → o ≡ Some m → m < bound) → cond b (Some id) o ≡ Some n → n < bound
chosen_within bound true id n o here there e = omega (arith, here, same_number e)
chosen_within bound false id n o here there e = there n e

pub symbol_state : (old new : List Node) (count : ℕ) (sorts sorts' : List Sort) (lists lists' : List (List (Option ℕ))) (lets : BTreeMap ℕ ℕ) (facts : List ℕ)
    (sort : Sort) (t : ValueType) (x k id : ℕ) → Grows old new → AreOver count old lists facts → x < length lists → k < length (get_or lists x [])
    → sort_type sort ≡ t → Holds new id (name (length sorts)) → sorts' ≡ sorts ++ sort ∷ [] → lists' ≡ put lists x k id
    → state_over new sorts' lists' lets facts ≡ with_symbol t x k (state_over old sorts lists lets facts)
symbol_state old new count sorts sorts' lists lists' lets facts sort t x k id g h hx hk is held es el =
    same_state (state_over new sorts' lists' lets facts) (with_symbol t x k (state_over old sorts lists lets facts))
    (ap (map sort_type) es ∙ map_push sort_type sorts sort ∙ ap (λ z. map sort_type sorts ++ z ∷ []) is)
    (λ y. ap (λ l. version_at l y) el ∙ ap pred (length-put lists x k id y hx))
    (λ y m. ap (λ l. option_map (tree_at new) (number_at l y m)) el ∙ ap (option_map (tree_at new)) (number_at-put lists x k id y m hx hk)
    ∙ mapped_choice (tree_at new) (nat_eq y x && nat_eq m k) id (number_at lists y m) (name (length (map sort_type sorts)))
    (option_map (tree_at old) (number_at lists y m))
    (tree_at-Holds new id (name (length sorts)) held ∙ ap name (sym (length-map sorts sort_type))) (grown_term old new g (number_at lists y m) (h.numbers y m)))
    (λ label. refl) (trees-grow old new facts g h.within)

pub put_over : (old new : List Node) (count : ℕ) (lists lists' : List (List (Option ℕ))) (facts : List ℕ) (x k id : ℕ) → Grows old new → AreOver count old lists facts
    → x < length lists → k < length (get_or lists x []) → id < length new → lists' ≡ put lists x k id → AreOver count new lists' facts
put_over old new count lists lists' facts x k id g h hx hk here el =
    subst (λ l. AreOver count new l facts) (sym el)
    (record {
      versions = record {
        variables = length-set lists x (set (get_or lists x []) k (Some id)) ∙ h.versions.variables;
        present = λ y l. omega (arith, h.versions.present y l, length-put lists x k id y hx);
      };
      numbers = λ y m n e. chosen_within (length new) (nat_eq y x && nat_eq m k) id n (number_at lists y m) here
          (λ j f. omega (arith, h.numbers y m j f, Grows-length old new g)) (sym (number_at-put lists x k id y m hx hk) ∙ e);
      within = within_grows old new g facts h.within;
    })

-- ---- one version more

pub set_state : (store : List Node) (sorts : List Sort) (lists lists' : List (List (Option ℕ))) (lets : BTreeMap ℕ ℕ) (facts : List ℕ) (x id : ℕ)
    → x < length lists → 0 < length (get_or lists x []) → lists' ≡ pushed lists x (Some id)
    → state_over store sorts lists' lets facts ≡ set_variable x (tree_at store id) (state_over store sorts lists lets facts)
set_state store sorts lists lists' lets facts x id hx h el =
    same_state (state_over store sorts lists' lets facts) (set_variable x (tree_at store id) (state_over store sorts lists lets facts)) refl
    (λ y. ap (λ l. version_at l y) el ∙ version_at-pushed lists x (Some id) y hx h)
    (λ y m. ap (λ l. option_map (tree_at store) (number_at l y m)) el ∙ ap (option_map (tree_at store)) (number_at-pushed lists x id y m hx h)
    ∙ mapped_choice (tree_at store) (nat_eq y x && nat_eq m (suc (version_at lists x))) id (number_at lists y m) (tree_at store id)
    (option_map (tree_at store) (number_at lists y m)) refl refl)
    (λ label. refl) refl

still_some : (b : Bool) (n : ℕ) → 0 < n → 0 < cond b (n + 1) n
still_some true n h = omega arith
still_some false n h = h

pushed_versions : (count : ℕ) (lists : List (List (Option ℕ))) (x : ℕ) (id : Option ℕ) → HaveVersions count lists → x < length lists → HaveVersions count (pushed lists x id)
pushed_versions count lists x id h hx = record {
  variables = length-set lists x (get_or lists x [] ++ id ∷ []) ∙ h.variables;
  present = λ y l. subst (λ n. 0 < n) (sym (length-pushed lists x id y hx)) (still_some (nat_eq y x) (length (get_or lists y [])) (h.present y l));
}

pub set_over : (count : ℕ) (store : List Node) (lists lists' : List (List (Option ℕ))) (facts : List ℕ) (x id : ℕ) → x < length lists → 0 < length (get_or lists x [])
    → lists' ≡ pushed lists x (Some id) → AreOver count store lists facts → id < length store → AreOver count store lists' facts
set_over count store lists lists' facts x id hx some el h here =
    subst (λ l. AreOver count store l facts) (sym el)
    (record {
      versions = pushed_versions count lists x (Some id) h.versions hx;
      numbers = λ y m n e. chosen_within (length store) (nat_eq y x && nat_eq m (suc (version_at lists x))) id n (number_at lists y m) here (h.numbers y m)
          (sym (number_at-pushed lists x id y m hx some) ∙ e);
      within = h.within;
    })

-- a version without a term
pub unset_versions : (count : ℕ) (lists lists' : List (List (Option ℕ))) (x : ℕ) → x < length lists → lists' ≡ pushed lists x None → HaveVersions count lists
    → HaveVersions count lists'
unset_versions count lists lists' x hx el h = subst (HaveVersions count) (sym el) (pushed_versions count lists x None h hx)

pub unset_numbers : (lists lists' : List (List (Option ℕ))) (x y m : ℕ) → x < length lists → lists' ≡ pushed lists x None → number_at lists' y m ≡ number_at lists y m
unset_numbers lists lists' x y m hx el = ap (λ l. number_at l y m) el ∙ number_at-pushed_none lists x y m hx

pub unset_version : (lists lists' : List (List (Option ℕ))) (x y : ℕ) → x < length lists → 0 < length (get_or lists x []) → lists' ≡ pushed lists x None
    → version_at lists' y ≡ cond (nat_eq y x) (suc (version_at lists y)) (version_at lists y)
unset_version lists lists' x y hx some el = ap (λ l. version_at l y) el ∙ version_at-pushed lists x None y hx some

-- ---- facts

pub fact_state : (store : List Node) (sorts : List Sort) (lists : List (List (Option ℕ))) (lets : BTreeMap ℕ ℕ) (facts facts' : List ℕ) (id : ℕ)
    → facts' ≡ facts ++ id ∷ [] → state_over store sorts lists lets facts' ≡ with_fact (tree_at store id) (state_over store sorts lists lets facts)
fact_state store sorts lists lets facts facts' id e =
    same_state (state_over store sorts lists lets facts') (with_fact (tree_at store id) (state_over store sorts lists lets facts)) refl (λ x. refl) (λ x k. refl)
    (λ label. refl) (ap (map (tree_at store)) e ∙ map_push (tree_at store) facts id)

pub fact_over : (count : ℕ) (store : List Node) (lists : List (List (Option ℕ))) (facts facts' : List ℕ) (id : ℕ) → facts' ≡ facts ++ id ∷ []
    → AreOver count store lists facts → id < length store → AreOver count store lists facts'
fact_over count store lists facts facts' id e h here =
    subst (AreOver count store lists) (sym e) (record { versions = h.versions; numbers = h.numbers; within = within_push store facts id h.within here })
