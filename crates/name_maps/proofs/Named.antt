-- What is named behind others.
use Rattle.std.proofs.Common.{◌≡◌, ℕ, Bool, true, false, cond, Option, Some, None, List, [], ◌∷◌, ◌++◌, length, take, refl, sym, ap, ◌∙◌, true≢false}
use Rattle.std.proofs.lemmas.Slice.Eq.{bytes_eq-Decides}
use Rattle.std.specs.Prelude.{find}
use Rattle.std.specs.Option.{is_some, option_map}
use Rattle.std.specs.Str.{bytes_eq}
use Rattle.name_maps.specs.Names.{has_name, is_named, named, value_of, with_name}

first_by : {X : Type 0} (b : Bool) (e : List ℕ × X) (rest : Option (List ℕ × X)) →
    option_map value_of (cond b (Some e) rest) ≡ cond b (Some e.1) (option_map value_of rest)
first_by true e rest = refl
first_by false e rest = refl

pub named-cons : {X : Type 0} (e : List ℕ × X) (es : List (List ℕ × X)) (text : List ℕ) → named (e ∷ es) text ≡ cond (bytes_eq e.0 text) (Some e.1) (named es text)
named-cons e es text = first_by (bytes_eq e.0 text) e (find (has_name text) es)

either : {X : Type 0} (b : Bool) (value : X) (rest : Option X) (last : Option X) →
    cond b (Some value) (cond (is_some rest) rest last) ≡ cond (is_some (cond b (Some value) rest)) (cond b (Some value) rest) last
either true value rest last = refl
either false value rest last = refl

-- what was found stays, and a new name has its value
pub named-last : {X : Type 0} (es : List (List ℕ × X)) (text : List ℕ) (value : X) (other : List ℕ) →
    named (es ++ (text, value) ∷ []) other ≡ cond (is_named es other) (named es other) (cond (bytes_eq text other) (Some value) None)
named-last [] text value other = named-cons (text, value) [] other
named-last (e ∷ es) text value other =
    let last : Option _ = cond (bytes_eq text other) (Some value) None in
    named-cons e (es ++ (text, value) ∷ []) other
    ∙ ap (cond (bytes_eq e.0 other) (Some e.1)) (named-last es text value other)
    ∙ either (bytes_eq e.0 other) e.1 (named es other) last
    ∙ ap (λ it. cond (is_some it) it last) (sym (named-cons e es other))

-- with a name added, whether or not it was there
pub named-with : {X : Type 0} (es : List (List ℕ × X)) (text : List ℕ) (value : X) (other : List ℕ) →
    named (with_name es text value) other ≡ cond (is_named es other) (named es other) (cond (bytes_eq text other) (Some value) None)
named-with es text value other = by (is_named es text) refl
  where
    kept : (o : Option _) (b : Bool) → is_some o ≡ true → o ≡ cond (is_some o) o (cond b (Some value) None)
    kept (Some x) b h = refl
    kept None b h = absurd (true≢false (sym h))

    missing : (o : Option _) (b : Bool) → (b ≡ true → is_some o ≡ true) → o ≡ cond (is_some o) o (cond b (Some value) None)
    missing (Some x) b h = refl
    missing None true h = absurd (true≢false (sym (h refl)))
    missing None false h = refl

    by : (b : Bool) → is_named es text ≡ b → named (cond b es (es ++ (text, value) ∷ [])) other ≡ cond (is_named es other) (named es other) (cond (bytes_eq text other) (Some value) None)
    by true h = missing (named es other) (bytes_eq text other) (λ e. ap (λ t. is_named es t) (sym ((bytes_eq-Decides text other).0 e)) ∙ h)
    by false h = named-last es text value other
