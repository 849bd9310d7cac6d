-- The arguments one by one.
use Rattle.std.proofs.Common.{◌≡◌, ℕ, List, [], ◌∷◌, ◌++◌, refl, sym, ap, ◌∙◌, subst}
use Rattle.slang_values.specs.Value.{ValueType, Records, Value}
use Rattle.run_values.specs.declared.value.Value.{Value as RunValue}
use Rattle.run_values.specs.Value.{plain_value}
use Rattle.argument_rules.specs.Arguments.{IsArgumentOf}
use Rattle.call_arguments.specs.Arguments.{AreArgumentsOf}
use Rattle.call_arguments.specs.Next.{plain_items}

-- a value more at the end is one more in front of the others
pub pushed : (values : List RunValue) (value : RunValue) (more : List Value)
    → plain_items (values ++ value ∷ []) ++ more ≡ plain_items values ++ (plain_value value ∷ more)
pushed [] value more = refl
pushed (one ∷ values) value more = ap (λ (vs : List Value). plain_value one ∷ vs) (pushed values value more)

module _ (names : List (List ℕ)) (records : Records) where
  pub only_none : (words : List (List ℕ)) (types : List ValueType) → words ≡ [] → types ≡ [] → AreArgumentsOf names records words types []
      × ((all : List Value) → AreArgumentsOf names records words types all → all ≡ [])
  only_none [] [] w t = (tt, only)
    where
      only : (all : List Value) → AreArgumentsOf names records [] [] all → all ≡ []
      only [] h = refl
      only (v ∷ vs) h = absurd h
  only_none (word ∷ words) types w t = absurd (cc)
  only_none [] (t ∷ types) w e = absurd (cc)

  pub no_word : (words : List (List ℕ)) (types : List ValueType) (t : ValueType) (more : List ValueType) → words ≡ [] → types ≡ t ∷ more
      → (all : List Value) → AreArgumentsOf names records words types all → ⊥
  no_word [] [] t more w e all h = cc
  no_word [] (u ∷ types) t more w e [] h = h
  no_word [] (u ∷ types) t more w e (v ∷ vs) h = h
  no_word (word ∷ words) types t more w e all h = cc

  pub no_param : (words : List (List ℕ)) (types : List ValueType) (word : List ℕ) (more : List (List ℕ)) → words ≡ word ∷ more → types ≡ []
      → (all : List Value) → AreArgumentsOf names records words types all → ⊥
  no_param [] types word more w e all h = cc
  no_param (one ∷ words) [] word more w e [] h = h
  no_param (one ∷ words) [] word more w e (v ∷ vs) h = h
  no_param (one ∷ words) (t ∷ types) word more w e all h = cc

  module _ (words : List (List ℕ)) (types : List ValueType) (word : List ℕ) (more_words : List (List ℕ)) (t : ValueType) (more_types : List ValueType)
      (w : words ≡ word ∷ more_words) (e : types ≡ t ∷ more_types) where
    first : (all : List Value) → AreArgumentsOf names records (word ∷ more_words) (t ∷ more_types) all
        → (v : Value) × (more : List Value) × IsArgumentOf names records word t v × AreArgumentsOf names records more_words more_types more × (all ≡ v ∷ more)
    first [] h = absurd h
    first (v ∷ vs) h = (v, vs, h.0, h.1, refl)

    there : (all : List Value) → AreArgumentsOf names records words types all → AreArgumentsOf names records (word ∷ more_words) (t ∷ more_types) all
    there all h = subst (λ ts. AreArgumentsOf names records (word ∷ more_words) ts all) e (subst (λ ws. AreArgumentsOf names records ws types all) w h)

    pub no_value : ((v : Value) → IsArgumentOf names records word t v → ⊥) → (all : List Value) → AreArgumentsOf names records words types all → ⊥
    no_value none all h = let f = first all (there all h) in none f.0 f.2

    pub value_joins : (v : Value) → IsArgumentOf names records word t v → (more : List Value) → AreArgumentsOf names records more_words more_types more
        → AreArgumentsOf names records words types (v ∷ more)
    value_joins v is more h =
        subst (λ ws. AreArgumentsOf names records ws types (v ∷ more)) (sym w)
        (subst (λ ts. AreArgumentsOf names records (word ∷ more_words) ts (v ∷ more)) (sym e) (is, h))

    pub value_splits : (v : Value) → ((u : Value) → IsArgumentOf names records word t u → u ≡ v) → (all : List Value)
        → AreArgumentsOf names records words types all → (more : List Value) × AreArgumentsOf names records more_words more_types more × (all ≡ v ∷ more)
    value_splits v only all h =
        let f = first all (there all h) in (f.1, f.3, f.4 ∙ ap (λ (u : Value). u ∷ f.1) (only f.0 f.2))
