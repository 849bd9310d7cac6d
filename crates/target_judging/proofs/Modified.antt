-- The names of a Modifies, one after the other.
use Rattle.std.proofs.Common.{◌≡◌, ℕ, Bool, not, ◌||◌, Option, List, [], ◌∷◌, ◌++◌, refl, sym, ap, ◌∙◌, append-nil, append_assoc}
use Rattle.std.specs.Set.{is_member}
use Rattle.std.specs.Str.{bytes_eq}
use Rattle.slang_tree.specs.declared.place.Fault.{Fault}
use Rattle.slang_tree.specs.declared.expression.Name.{Name}
use Rattle.type_rules.specs.Faults.{duplicate_name, unless}
use Rattle.type_rules.specs.Meanings.{Meaning, Scope, meaning_of}
use Rattle.type_rules.specs.Statements.{modified_faults, modifies_faults}
use Rattle.type_faults.specs.FirstFault.{with_first}
use Rattle.type_faults.proofs.First.{in_turn}
use Rattle.name_maps.specs.Names.{is_named, with_name}
use Rattle.name_maps.proofs.Tables.{bytes_eq-symm}
use Rattle.name_scopes.proofs.Named.{is_named-with}

-- behind some names, the last of which stands first
abbrev pub texts_behind : List (List ℕ) → List Name → List (List ℕ)
texts_behind before [] = before
texts_behind before (written ∷ names) = texts_behind (written.text ∷ before) names

-- The table has these names.
abbrev pub HasTexts : List (List ℕ × Unit {0}) → List (List ℕ) → Type 0
HasTexts table texts = (text : List ℕ) → is_named table text ≡ is_member bytes_eq texts text

module _ (may_be_named : Meaning → Bool) (scope : Scope) where
  abbrev told_at : List (List ℕ) → Name → List Fault
  told_at before written =
      modified_faults may_be_named scope written.place (meaning_of scope written.text)
      ++ unless (not (is_member bytes_eq before written.text)) (duplicate_name written.place)

  modifies-last : (before : List (List ℕ)) (xs : List Name) (x : Name) →
      modifies_faults may_be_named scope before (xs ++ x ∷ []) ≡ modifies_faults may_be_named scope before xs ++ told_at (texts_behind before xs) x
  modifies-last before [] x = append-nil (told_at before x)
  modifies-last before (y ∷ ys) x =
      ap (λ fs. told_at before y ++ fs) (modifies-last (y.text ∷ before) ys x)
      ∙ sym (append_assoc (told_at before y) (modifies_faults may_be_named scope (y.text ∷ before) ys) (told_at (texts_behind (y.text ∷ before) ys) x))

  -- one name more
  pub modifies_more : (a b c d : Option Fault) (table : List (List ℕ × Unit {0})) (names all : List Name) (name : Name) (known : Bool) →
      all ≡ names ++ name ∷ [] → b ≡ with_first a (modifies_faults may_be_named scope [] names) → HasTexts table (texts_behind [] names) →
      c ≡ with_first b (modified_faults may_be_named scope name.place (meaning_of scope name.text)) →
      known ≡ is_named table name.text → d ≡ with_first c (unless (not known) (duplicate_name name.place)) →
      d ≡ with_first a (modifies_faults may_be_named scope [] all)
  modifies_more a b c d table names all name known more before has first is next =
      let own = modified_faults may_be_named scope name.place (meaning_of scope name.text) in
      next
      ∙ ap (λ there. with_first c (unless (not there) (duplicate_name name.place))) (is ∙ has name.text)
      ∙ ap (λ found. with_first found (unless (not (is_member bytes_eq (texts_behind [] names) name.text)) (duplicate_name name.place))) first
      ∙ in_turn b own (unless (not (is_member bytes_eq (texts_behind [] names) name.text)) (duplicate_name name.place))
      ∙ ap (λ found. with_first found (told_at (texts_behind [] names) name)) before
      ∙ in_turn a (modifies_faults may_be_named scope [] names) (told_at (texts_behind [] names) name)
      ∙ ap (with_first a) (sym (modifies-last [] names name))
      ∙ ap (λ ns. with_first a (modifies_faults may_be_named scope [] ns)) (sym more)

behind-last : (before : List (List ℕ)) (xs : List Name) (x : Name) → texts_behind before (xs ++ x ∷ []) ≡ x.text ∷ texts_behind before xs
behind-last before [] x = refl
behind-last before (y ∷ ys) x = behind-last (y.text ∷ before) ys x

pub texts_more : (old new : List (List ℕ × Unit {0})) (names all : List Name) (name : Name) (value : Unit {0}) →
    all ≡ names ++ name ∷ [] → HasTexts old (texts_behind [] names) → new ≡ with_name old name.text value → HasTexts new (texts_behind [] all)
texts_more old new names all name value more has with = λ text.
    ap (λ table. is_named table text) with
    ∙ is_named-with old name.text value text
    ∙ ap (λ b. b || is_named old text) (bytes_eq-symm name.text text)
    ∙ ap (λ there. bytes_eq text name.text || there) (has text)
    ∙ ap (λ texts. is_member bytes_eq texts text) (sym (behind-last [] names name))
    ∙ ap (λ ns. is_member bytes_eq (texts_behind [] ns) text) (sym more)
