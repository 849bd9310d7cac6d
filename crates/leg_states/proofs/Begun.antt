-- New versions of variables, each once.
use Rattle.std.proofs.Common.{◌≡◌, ℕ, suc, ◌<◌, Bool, true, false, not, cond, List, [], ◌∷◌, ◌++◌, map, length, Option, None, ◌⊎◌, inl, inr, refl, sym, ap, ◌∙◌, subst, arith}
use Rattle.std.specs.Prelude.{nat_eq, ◌||◌}
use Rattle.std.specs.Ordering.{nat_cmp, is_eq}
use Rattle.std.specs.Set.{is_member}
use Rattle.std.proofs.lemmas.Bool.{cases_eq}
use Rattle.std.proofs.lemmas.List.Folds.{list_any-append}
use Rattle.term_trees.specs.declared.term.Sort.{Sort}
use Rattle.term_trees.specs.Term.{sort_type}
use Rattle.std.specs.BTreeMap.{BTreeMap}
use Rattle.term_nodes.specs.declared.node.Node.{Node}
use Rattle.term_store.specs.Store.{tree_at}
use Rattle.std.specs.Option.{option_map}
use Rattle.leg_states.specs.State.{number_at, version_at, pushed, HaveVersions, state_over, AreOver, with_versions_of}
use Rattle.leg_states.proofs.Lists.{equal_numbers, other_numbers, chosen, passed}
use Rattle.leg_states.proofs.States.{same_state, unset_versions, unset_numbers, unset_version}
use Rattle.leg_states.proofs.Names.{same_key}

-- each of the variables has one version more
pub record HasBegun (count : ℕ) (xs : List ℕ) (old new : List (List (Option ℕ))) (seen : ℕ → Bool) : Type 0 where
  pub have : HaveVersions count new
  pub versions : (y : ℕ) → version_at new y ≡ cond (is_member nat_eq xs y) (suc (version_at old y)) (version_at old y)
  pub numbers : (y m : ℕ) → number_at new y m ≡ number_at old y m
  pub members : (y : ℕ) → seen y ≡ is_member nat_eq xs y

pub begins : (count : ℕ) (lists : List (List (Option ℕ))) (seen : ℕ → Bool) → HaveVersions count lists → ((y : ℕ) → seen y ≡ false) → HasBegun count [] lists lists seen
begins count lists seen h none = record { have = h; versions = λ y. refl; numbers = λ y m. refl; members = λ y. none y }

or_nothing : (b : Bool) → b || false ≡ b
or_nothing true = refl
or_nothing false = refl

or_true : (b c : Bool) → c ≡ true → b || c ≡ true
or_true true c e = refl
or_true false c e = e

member-push : (xs : List ℕ) (x y : ℕ) → is_member nat_eq (xs ++ x ∷ []) y ≡ (is_member nat_eq xs y || nat_eq y x)
member-push xs x y = list_any-append (nat_eq y) xs (x ∷ []) ∙ ap (λ b. is_member nat_eq xs y || b) (or_nothing (nat_eq y x))

member_same : (xs : List ℕ) (x y : ℕ) → y ≡ x → is_member nat_eq (xs ++ x ∷ []) y ≡ true
member_same xs x y e = member-push xs x y ∙ or_true (is_member nat_eq xs y) (nat_eq y x) (equal_numbers y x e)

member_other : (xs : List ℕ) (x y : ℕ) → (y ≡ x → ⊥) → is_member nat_eq (xs ++ x ∷ []) y ≡ is_member nat_eq xs y
member_other xs x y ne = member-push xs x y ∙ ap (λ b. is_member nat_eq xs y || b) (other_numbers y x ne) ∙ or_nothing (is_member nat_eq xs y)

seen_more : (xs : List ℕ) (x : ℕ) (seen seen' : ℕ → Bool) → ((y : ℕ) → seen y ≡ is_member nat_eq xs y)
    → ((y : ℕ) → seen' y ≡ cond (is_eq (nat_cmp x y)) true (seen y)) → (y : ℕ) → seen' y ≡ is_member nat_eq (xs ++ x ∷ []) y
seen_more xs x seen seen' h more y = by_cases (cases_eq y x)
  where
    by_cases : (y ≡ x) ⊎ (y ≡ x → ⊥) → seen' y ≡ is_member nat_eq (xs ++ x ∷ []) y
    by_cases (inl e) = more y ∙ chosen (is_eq (nat_cmp x y)) true (seen y) (same_key x y ∙ equal_numbers y x e) ∙ sym (member_same xs x y e)
    by_cases (inr ne) = more y ∙ passed (is_eq (nat_cmp x y)) true (seen y) (same_key x y ∙ other_numbers y x ne) ∙ h y ∙ sym (member_other xs x y ne)

not_not : (b : Bool) → true ≡ not b → b ≡ false
not_not true e = cc
not_not false e = refl

pub not_not_true : (b : Bool) → false ≡ not b → b ≡ true
not_not_true true e = refl
not_not_true false e = cc

-- a variable that had not begun
pub begun_new : (count : ℕ) (xs xs' : List ℕ) (x : ℕ) (old lists lists' : List (List (Option ℕ))) (seen seen' : ℕ → Bool) → HasBegun count xs old lists seen
    → xs' ≡ xs ++ x ∷ [] → x < count → seen x ≡ false → ((y : ℕ) → seen' y ≡ cond (is_eq (nat_cmp x y)) true (seen y)) → lists' ≡ pushed lists x None
    → HasBegun count xs' old lists' seen'
begun_new count xs xs' x old lists lists' seen seen' h is below new more el =
    let within : x < length lists = omega (arith, below, h.have.variables) in
    subst (λ ys. HasBegun count ys old lists' seen') (sym is)
    (record {
      have = unset_versions count lists lists' x within el h.have;
      versions = λ y. by_cases within y (cases_eq y x);
      numbers = λ y m. unset_numbers lists lists' x y m within el ∙ h.numbers y m;
      members = seen_more xs x seen seen' h.members more;
    })
  where
    by_cases : x < length lists → (y : ℕ) → (y ≡ x) ⊎ (y ≡ x → ⊥)
        → version_at lists' y ≡ cond (is_member nat_eq (xs ++ x ∷ []) y) (suc (version_at old y)) (version_at old y)
    by_cases within y (inl e) =
        let was : is_member nat_eq xs y ≡ false = ap (is_member nat_eq xs) e ∙ sym (h.members x) ∙ new in
        unset_version lists lists' x y within (h.have.present x below) el
        ∙ chosen (nat_eq y x) (suc (version_at lists y)) (version_at lists y) (equal_numbers y x e)
        ∙ ap suc (h.versions y ∙ passed (is_member nat_eq xs y) (suc (version_at old y)) (version_at old y) was)
        ∙ sym (chosen (is_member nat_eq (xs ++ x ∷ []) y) (suc (version_at old y)) (version_at old y) (member_same xs x y e))
    by_cases within y (inr ne) =
        unset_version lists lists' x y within (h.have.present x below) el
        ∙ passed (nat_eq y x) (suc (version_at lists y)) (version_at lists y) (other_numbers y x ne)
        ∙ h.versions y ∙ ap (λ b. cond b (suc (version_at old y)) (version_at old y)) (sym (member_other xs x y ne))

-- a variable that had begun
pub begun_again : (count : ℕ) (xs xs' : List ℕ) (x : ℕ) (old lists : List (List (Option ℕ))) (seen seen' : ℕ → Bool) → HasBegun count xs old lists seen
    → xs' ≡ xs ++ x ∷ [] → seen x ≡ true → ((y : ℕ) → seen' y ≡ cond (is_eq (nat_cmp x y)) true (seen y)) → HasBegun count xs' old lists seen'
begun_again count xs xs' x old lists seen seen' h is again more =
    subst (λ ys. HasBegun count ys old lists seen') (sym is)
    (record {
      have = h.have;
      versions = λ y. by_cases y (cases_eq y x);
      numbers = h.numbers;
      members = seen_more xs x seen seen' h.members more;
    })
  where
    by_cases : (y : ℕ) → (y ≡ x) ⊎ (y ≡ x → ⊥) → version_at lists y ≡ cond (is_member nat_eq (xs ++ x ∷ []) y) (suc (version_at old y)) (version_at old y)
    by_cases y (inl e) =
        let was : is_member nat_eq xs y ≡ true = ap (is_member nat_eq xs) e ∙ sym (h.members x) ∙ again in
        h.versions y ∙ chosen (is_member nat_eq xs y) (suc (version_at old y)) (version_at old y) was
        ∙ sym (chosen (is_member nat_eq (xs ++ x ∷ []) y) (suc (version_at old y)) (version_at old y) (member_same xs x y e))
    by_cases y (inr ne) = h.versions y ∙ ap (λ b. cond b (suc (version_at old y)) (version_at old y)) (sym (member_other xs x y ne))

-- a variable that may have begun
pub begun_more : (count : ℕ) (xs xs' : List ℕ) (x : ℕ) (old lists lists' : List (List (Option ℕ))) (seen seen' : ℕ → Bool) (is_new : Bool) → HasBegun count xs old lists seen
    → xs' ≡ xs ++ x ∷ [] → x < count → is_new ≡ not (seen x) → ((y : ℕ) → seen' y ≡ cond (is_eq (nat_cmp x y)) true (seen y))
    → lists' ≡ cond is_new (pushed lists x None) lists → HasBegun count xs' old lists' seen'
begun_more count xs xs' x old lists lists' seen seen' true h is below e more el =
    begun_new count xs xs' x old lists lists' seen seen' h is below (not_not (seen x) e) more el
begun_more count xs xs' x old lists lists' seen seen' false h is below e more el =
    subst (λ l. HasBegun count xs' old l seen') (sym el) (begun_again count xs xs' x old lists seen seen' h is (not_not_true (seen x) e) more)

pub begun_state : (store : List Node) (count : ℕ) (xs : List ℕ) (sorts sorts' : List Sort) (old new : List (List (Option ℕ))) (lets : BTreeMap ℕ ℕ) (facts : List ℕ)
    (seen : ℕ → Bool) → HasBegun count xs old new seen → sorts' ≡ sorts
    → state_over store sorts' new lets facts ≡ with_versions_of xs (state_over store sorts old lets facts)
begun_state store count xs sorts sorts' old new lets facts seen h e =
    same_state (state_over store sorts' new lets facts) (with_versions_of xs (state_over store sorts old lets facts)) (ap (map sort_type) e) h.versions
    (λ y m. ap (option_map (tree_at store)) (h.numbers y m)) (λ label. refl) refl

pub begun_over : (count : ℕ) (xs : List ℕ) (old new : List (List (Option ℕ))) (facts : List ℕ) (seen : ℕ → Bool) (store : List Node) → HasBegun count xs old new seen
    → AreOver count store old facts → AreOver count store new facts
begun_over count xs old new facts seen store h over = record {
  versions = h.have;
  numbers = λ x k n e. over.numbers x k n (sym (h.numbers x k) ∙ e);
  within = over.within;
}
