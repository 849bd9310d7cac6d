-- Names that are read, and symbols of blocks.
use Rattle.std.proofs.Common.{◌≡◌, ℕ, zero, suc, pred, ◌-◌, ◌<◌, Bool, true, false, cond, List, [], ◌∷◌, ◌++◌, map, length, get_or, Option, Some, None, Result, Ok, Err, OnOk, ◌⊎◌, inl, inr, refl, sym, ap, ◌∙◌, arith}
use Rattle.std.specs.Prelude.{nat_eq, nat_lt, ◌==◌, unwrap_or}
use Rattle.std.specs.Ordering.{nat_cmp, is_eq}
use Rattle.std.specs.declared.cmp.Ordering.TheVariants.{Less, Equal, Greater}
use Rattle.std.specs.BTreeMap.{BTreeMap, get}
use Rattle.std.proofs.lemmas.Bool.{cases_eq}
use Rattle.std.proofs.lemmas.Bool.Decides.{Decides-eqb, Decides-ltb}
use Rattle.std.proofs.lemmas.List.{length-map, map_push, get_or-map}
use Rattle.slang_values.specs.Value.{ValueType, unit_type}
use Rattle.slang_values.specs.Tree.{Tree, name}
use Rattle.term_trees.specs.declared.term.Sort.{Sort}
use Rattle.term_trees.specs.declared.term.Sort.TheVariants.{Z}
use Rattle.term_trees.specs.Term.{sort_type}
use Rattle.term_trees.proofs.Sorts.{sort_type-Z}
use Rattle.term_nodes.specs.declared.node.Node.{Node}
use Rattle.program_trees.specs.Claims.{variable, old_variable}
use Rattle.leg_rules.specs.Store.{State, with_symbol, where_none, read_version, read_name, term_of_name, take_let}
use Rattle.leg_rules.specs.Sequents.{begin_block}
use Rattle.leg_states.specs.State.{state_over}
use Rattle.leg_states.proofs.Lists.{equal_numbers, other_numbers, chosen, passed}
use Rattle.leg_states.proofs.States.{same_state}

pub always : {T E P : Type 0} (r : Result T E) → P → OnOk r P
always (Ok x) p = p
always (Err e) p = tt

-- ---- a version that is read

pub found_term : (types : List ValueType) (s : State) (x k : ℕ) (u : Tree ℕ) → s.terms x k ≡ Some u → unwrap_or ((read_version types x k s).terms x k) (name 0) ≡ u
found_term types s x k u e =
    ap (λ o. unwrap_or ((where_none o (with_symbol (get_or types x unit_type) x k s) s).terms x k) (name 0)) e ∙ ap (λ o. unwrap_or o (name 0)) e

kept_version : (o : Option (Tree ℕ)) (new old : State) → new.version ≡ old.version → (where_none o new old).version ≡ old.version
kept_version None new old e = e
kept_version (Some u) new old e = refl

version-read : (types : List ValueType) (s : State) (x k : ℕ) → (read_version types x k s).version ≡ s.version
version-read types s x k = kept_version (s.terms x k) (with_symbol (get_or types x unit_type) x k s) s refl

pub before_last : (n m k : ℕ) → m ≡ pred n → k ≡ m - 1 → k ≡ pred (pred n)
before_last zero m k e f = omega (arith, e, f)
before_last (suc zero) m k e f = omega (arith, e, f)
before_last (suc (suc n)) m k e f = omega (arith, e, f)

pub present_term : (types : List ValueType) (s : State) (x k : ℕ) → k ≡ s.version x
    → term_of_name (read_name types s (variable x)) (variable x) ≡ unwrap_or ((read_version types x k s).terms x k) (name 0)
present_term types s x k e =
    let new = read_version types x (s.version x) s in
    ap (λ v. unwrap_or (new.terms x (v x)) (name 0)) (version-read types s x (s.version x))
    ∙ ap (λ z. unwrap_or ((read_version types x z s).terms x z) (name 0)) (sym e)

pub old_term : (types : List ValueType) (s : State) (x k : ℕ) → k ≡ pred (s.version x)
    → term_of_name (read_name types s (old_variable x)) (old_variable x) ≡ unwrap_or ((read_version types x k s).terms x k) (name 0)
old_term types s x k e =
    let new = read_version types x (pred (s.version x)) s in
    ap (λ v. unwrap_or (new.terms x (pred (v x))) (name 0)) (version-read types s x (pred (s.version x)))
    ∙ ap (λ z. unwrap_or ((read_version types x z s).terms x z) (name 0)) (sym e)

pub sort_at : (sorts : List Sort) (x : ℕ) (s s' : Sort) → s' ≡ s → s ≡ get_or sorts x s → x < length sorts → sort_type s' ≡ get_or (map sort_type sorts) x unit_type
sort_at sorts x s s' e is h = ap sort_type (e ∙ is) ∙ sym (get_or-map sort_type sorts x s unit_type h)

-- ---- keys

never_eq : (b : Bool) → is_eq (cond b Less Greater) ≡ false
never_eq true = refl
never_eq false = refl

not_true : (b : Bool) → (b ≡ true → ⊥) → b ≡ false
not_true true h = absurd (h refl)
not_true false h = refl

not_less : (k q : ℕ) → q ≡ k → nat_lt k q ≡ false
not_less k q e = not_true (nat_lt k q) (λ h. let l = (Decides-ltb k q).0 h in omega (arith, l, e))

pub same_key : (k q : ℕ) → is_eq (nat_cmp k q) ≡ nat_eq q k
same_key k q = by_cases (cases_eq q k)
  where
    by_cases : (q ≡ k) ⊎ (q ≡ k → ⊥) → is_eq (nat_cmp k q) ≡ nat_eq q k
    by_cases (inl e) =
        ap is_eq (passed (nat_lt k q) Less (cond (k == q) Equal Greater) (not_less k q e) ∙ chosen (k == q) Equal Greater ((Decides-eqb k q).1 (sym e)))
        ∙ sym (equal_numbers q k e)
    by_cases (inr ne) =
        ap (λ t. is_eq (cond (nat_lt k q) Less (cond t Equal Greater))) (other_numbers k q (λ f. ne (sym f))) ∙ never_eq (nat_lt k q)
        ∙ sym (other_numbers q k ne)

-- ---- a block begins

unwrapped_choice : (b : Bool) (m n : ℕ) (o : Option ℕ) → m ≡ n → unwrap_or (cond b (Some m) o) 0 ≡ cond b n (unwrap_or o 0)
unwrapped_choice true m n o e = e
unwrapped_choice false m n o e = refl

pub begun_state : (store : List Node) (has_symbol : Bool) (label symbol : ℕ) (sorts sorts' : List Sort) (lists : List (List (Option ℕ))) (lets lets' : BTreeMap ℕ ℕ)
    (facts : List ℕ) → has_symbol ≡ true → symbol ≡ length sorts → sorts' ≡ sorts ++ Z ∷ []
    → ((q : ℕ) → get nat_cmp lets' q ≡ cond (is_eq (nat_cmp label q)) (Some symbol) (get nat_cmp lets q))
    → state_over store sorts' lists lets' facts ≡ begin_block has_symbol label (state_over store sorts lists lets facts)
begun_state store has_symbol label symbol sorts sorts' lists lets lets' facts has e es el =
    let old = state_over store sorts lists lets facts in
    same_state (state_over store sorts' lists lets' facts) (take_let label old)
    (ap (map sort_type) es ∙ map_push sort_type sorts Z ∙ ap (λ z. map sort_type sorts ++ z ∷ []) sort_type-Z)
    (λ x. refl) (λ x k. refl)
    (λ q. ap (λ o. unwrap_or o 0) (el q) ∙ ap (λ b. unwrap_or (cond b (Some symbol) (get nat_cmp lets q)) 0) (same_key label q)
    ∙ unwrapped_choice (nat_eq q label) symbol (length (map sort_type sorts)) (get nat_cmp lets q) (e ∙ sym (length-map sorts sort_type)))
    refl
    ∙ sym (chosen has_symbol (take_let label old) old has)
