-- The variables that may be changed in a body, and what is wrong with it.
use Rattle.std.proofs.Common.{◌≡◌, ℕ, Bool, true, false, ◌||◌, Option, List, [], ◌∷◌, ◌++◌, refl, sym, ap, ◌∙◌}
use Rattle.std.proofs.lemmas.List.Folds.{list_any-append}
use Rattle.std.specs.Set.{is_member}
use Rattle.std.specs.Str.{bytes_eq}
use Rattle.name_maps.specs.Names.{is_named, with_name}
use Rattle.name_maps.proofs.Tables.{bytes_eq-symm}
use Rattle.name_scopes.proofs.Named.{is_named-with}

turned : (b m : Bool) → (b || m) ≡ (m || (b || false))
turned true true = refl
turned true false = refl
turned false true = refl
turned false false = refl

-- one name more
pub covered_next : {X : Type 0} (covered : List (List ℕ × X)) (before : List (List ℕ)) (name : List ℕ) (value : X) →
    ((text : List ℕ) → is_named covered text ≡ is_member bytes_eq before text) →
    (text : List ℕ) → is_named (with_name covered name value) text ≡ is_member bytes_eq (before ++ name ∷ []) text
covered_next covered before name value so_far text =
    is_named-with covered name value text
    ∙ ap (λ b. bytes_eq name text || b) (so_far text)
    ∙ ap (λ b. b || is_member bytes_eq before text) (bytes_eq-symm name text)
    ∙ turned (bytes_eq text name) (is_member bytes_eq before text)
    ∙ sym (list_any-append (bytes_eq text) before (name ∷ []))
