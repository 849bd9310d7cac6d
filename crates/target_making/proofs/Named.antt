-- The variable that a name means.
use Rattle.std.proofs.Common.{◌≡◌, ℕ, Option, Some, None, List, [], ◌∷◌, ◌++◌, map, refl, sym, ap, ap₂, ◌∙◌}
use Rattle.std.specs.Option.{option_and_then, unwrap_or}
use Rattle.std.proofs.lemmas.List.{map-append}
use Rattle.slang_tree.specs.declared.expression.Name.{Name}
use Rattle.program_trees.specs.Variables.{Variable, local}
use Rattle.type_rules.specs.Meanings.{Meaning, Scope, variable, bound_variable, block_variable, record_class, method, meaning_of}
use Rattle.typed_texts.specs.Code.{variable_meant, variables_meant}
use Rattle.typed_names.specs.Variables.{variable_in}

no_some : (x : Variable) → None ≡ Some x → ⊥
no_some x h = cc h

some_no : (x : Variable) → Some x ≡ None → ⊥
some_no x h = cc h

pub none_meant : (meaning : Option Meaning) → None ≡ option_and_then variable_in meaning → local 0 ≡ variable_meant meaning
none_meant None h = refl
none_meant (Some (variable x is_var type)) h = absurd (no_some x h)
none_meant (Some (bound_variable depth)) h = refl
none_meant (Some (block_variable label)) h = refl
none_meant (Some (record_class number)) h = refl
none_meant (Some (method number signature modifies)) h = refl

pub some_meant : (meaning : Option Meaning) (x : Variable) → Some x ≡ option_and_then variable_in meaning → x ≡ variable_meant meaning
some_meant None x h = absurd (some_no x h)
some_meant (Some (variable y is_var type)) x h = ap (λ it. unwrap_or it x) h
some_meant (Some (bound_variable depth)) x h = absurd (some_no x h)
some_meant (Some (block_variable label)) x h = absurd (some_no x h)
some_meant (Some (record_class number)) x h = absurd (some_no x h)
some_meant (Some (method number signature modifies)) x h = absurd (some_no x h)

each_append : (at : Scope) (xs ys : List Name) → variables_meant at xs ++ variables_meant at ys ≡ variables_meant at (xs ++ ys)
each_append at [] ys = refl
each_append at (x ∷ xs) ys = ap (λ vs. variable_meant (meaning_of at x.text) ∷ vs) (each_append at xs ys)

-- one name more
pub names_more : (f : Variable → ℕ) (at : Scope) (names all : List Name) (name : Name) (found : List ℕ) (number : ℕ) →
    all ≡ names ++ name ∷ [] → found ≡ map f (variables_meant at names) → number ∷ [] ≡ map f (variables_meant at (name ∷ [])) →
    found ++ number ∷ [] ≡ map f (variables_meant at all)
names_more f at names all name found number more before next =
    ap₂ (λ (xs ys : List ℕ). xs ++ ys) before next
    ∙ sym (map-append f (variables_meant at names) (variables_meant at (name ∷ [])))
    ∙ ap (map f) (each_append at names (name ∷ []))
    ∙ ap (λ ns. map f (variables_meant at ns)) (sym more)
