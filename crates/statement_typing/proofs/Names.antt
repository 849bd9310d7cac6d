-- What names mean in a scope with more names.
use Rattle.std.proofs.Common.{◌≡◌, ◌⊎◌, inl, inr, ℕ, Bool, true, false, cond, bytes_eq, find, List, [], ◌∷◌, ◌++◌, Some, None, is_some, option_map, unwrap_or, refl, sym, ap, ◌∙◌}
use Rattle.std.specs.List.{AllByRecursion}
use Rattle.std.proofs.lemmas.Bool.{true≢false, false≢true, eqb-true, eq-eqb}
use Rattle.program_trees.specs.Variables.{Variable, local, global, entry, result, same_variable}
use Rattle.type_rules.specs.Meanings.{Meaning, variable, Declared, meaning_among}
use Rattle.claim_typing.proofs.Parts.{none_is_some}
use Rattle.statement_typing.specs.Around.{IsNamedGlobal}
use Rattle.statement_typing.proofs.Lists.{same_bytes, each_weaker}

-- what is found among names is found with more behind them
pub meant_before : (names more : List Declared) (text : List ℕ) (m : Meaning) → meaning_among names text ≡ Some m → meaning_among (names ++ more) text ≡ Some m
meant_before [] more text m h = none_is_some h
meant_before (first ∷ names) more text m h = at (bytes_eq first.text text) h (meant_before names more text m)
  where
    at : (here : Bool) → option_map (λ n. n.meaning) (cond here (Some first) (find (λ n. bytes_eq n.text text) names)) ≡ Some m →
        (meaning_among names text ≡ Some m → meaning_among (names ++ more) text ≡ Some m) →
        option_map (λ n. n.meaning) (cond here (Some first) (find (λ n. bytes_eq n.text text) (names ++ more))) ≡ Some m
    at true k next = k
    at false k next = next k

pub named_still : (names more : List Declared) (texts : List (List ℕ)) (n : ℕ) → IsNamedGlobal names texts n → IsNamedGlobal (names ++ more) texts n
named_still names more texts n h = record {
  text = h.text;
  among = h.among;
  type = h.type;
  meant = meant_before names more h.text (variable (global n) true h.type) h.meant;
}

pub all_named_still : (names more : List Declared) (texts : List (List ℕ)) (ns : List ℕ) → AllByRecursion (IsNamedGlobal names texts) ns →
    AllByRecursion (IsNamedGlobal (names ++ more) texts) ns
all_named_still names more texts ns h = each_weaker (IsNamedGlobal names texts) (IsNamedGlobal (names ++ more) texts) (named_still names more texts) ns h

-- a name that is not known means nothing
pub unknown_means : {A : Type 0} (names : List Declared) (text : List ℕ) (m : Meaning) → is_some (meaning_among names text) ≡ false →
    meaning_among names text ≡ Some m → A
unknown_means {A} names text m h k = absurd (true≢false (sym (ap is_some k) ∙ h))

-- what is found among names with one more is found among them, or is that one
pub meant_found : (names : List Declared) (d : Declared) (text : List ℕ) (m : Meaning) → meaning_among (names ++ d ∷ []) text ≡ Some m →
    (meaning_among names text ≡ Some m) ⊎ ((d.text ≡ text) × (d.meaning ≡ m))
meant_found [] d text m h = last (bytes_eq d.text text) refl h
  where
    last : (here : Bool) → bytes_eq d.text text ≡ here → option_map (λ n. n.meaning) (cond here (Some d) None) ≡ Some m →
        (None ≡ Some m) ⊎ ((d.text ≡ text) × (d.meaning ≡ m))
    last true e k = inr (same_bytes d.text text e, ap (λ o. unwrap_or o m) k)
    last false e k = none_is_some k
meant_found (first ∷ names) d text m h = at (bytes_eq first.text text) h (meant_found names d text m)
  where
    at : (here : Bool) → option_map (λ n. n.meaning) (cond here (Some first) (find (λ n. bytes_eq n.text text) (names ++ d ∷ []))) ≡ Some m →
        (meaning_among (names ++ d ∷ []) text ≡ Some m → (meaning_among names text ≡ Some m) ⊎ ((d.text ≡ text) × (d.meaning ≡ m))) →
        (option_map (λ n. n.meaning) (cond here (Some first) (find (λ n. bytes_eq n.text text) names)) ≡ Some m) ⊎ ((d.text ≡ text) × (d.meaning ≡ m))
    at true k next = inl k
    at false k next = next k

-- ---- variables

pub same_variable-true : (x y : Variable) → same_variable x y ≡ true → x ≡ y
same_variable-true (local m) (local n) h = ap local (eqb-true m n h)
same_variable-true (global m) (global n) h = ap global (eqb-true m n h)
same_variable-true (entry m) (entry n) h = ap entry (eqb-true m n h)
same_variable-true result result h = refl
same_variable-true (local m) other h = absurd (false≢true h)
same_variable-true (global m) other h = absurd (false≢true h)
same_variable-true (entry m) other h = absurd (false≢true h)
same_variable-true result other h = absurd (false≢true h)

pub same_variable-itself : (x : Variable) → same_variable x x ≡ true
same_variable-itself (local n) = eq-eqb n n refl
same_variable-itself (global n) = eq-eqb n n refl
same_variable-itself (entry n) = eq-eqb n n refl
same_variable-itself result = refl
