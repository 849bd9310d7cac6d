-- What the names of a table mean.
use Rattle.std.proofs.Common.{◌≡◌, ℕ, Bool, true, false, cond, ◌||◌, ◌&&◌, Option, Some, None, List, [], ◌∷◌, ◌++◌, length, take, map, refl, sym, ap, ◌∙◌, true≢false}
use Rattle.std.specs.Prelude.{find}
use Rattle.std.specs.Option.{is_some, option_map}
use Rattle.std.specs.Str.{bytes_eq}
use Rattle.std.proofs.lemmas.Slice.Eq.{bytes_eq-Decides}
use Rattle.std.proofs.Math.Seq.{take-append_seam, take-length}
use Rattle.name_maps.specs.Names.{is_named, named, with_name}
use Rattle.name_maps.proofs.Named.{named-cons, named-with}
use Rattle.type_rules.specs.Meanings.{Declared, declared, Meaning, meaning_among}
use Rattle.name_scopes.specs.declared.meaning.Meaning.{Meaning as CodeMeaning}
use Rattle.name_scopes.specs.Meanings.{declared_in, meant}

first_by : (b : Bool) (d : Declared) (rest : Option Declared) →
    option_map (λ (d : Declared). d.meaning) (cond b (Some d) rest) ≡ cond b (Some d.meaning) (option_map (λ (d : Declared). d.meaning) rest)
first_by true d rest = refl
first_by false d rest = refl

meaning-cons : (d : Declared) (ds : List Declared) (text : List ℕ) →
    meaning_among (d ∷ ds) text ≡ cond (bytes_eq d.text text) (Some d.meaning) (meaning_among ds text)
meaning-cons d ds text = first_by (bytes_eq d.text text) d (find (λ (d : Declared). bytes_eq d.text text) ds)

through : {X Y : Type 0} (f : X → Y) (b : Bool) (x : X) (rest : Option X) → option_map f (cond b (Some x) rest) ≡ cond b (Some (f x)) (option_map f rest)
through f true x rest = refl
through f false x rest = refl

-- a name of a table, as one of declarations
pub declared-named : (es : List (List ℕ × CodeMeaning)) (text : List ℕ) → option_map meant (named es text) ≡ meaning_among (declared_in es) text
declared-named [] text = refl
declared-named (e ∷ es) text =
    ap (option_map meant) (named-cons e es text)
    ∙ through meant (bytes_eq e.0 text) e.1 (named es text)
    ∙ ap (cond (bytes_eq e.0 text) (Some (meant e.1))) (declared-named es text)
    ∙ sym (meaning-cons (declared e.0 (meant e.1)) (declared_in es) text)

either : (b : Bool) (value : Meaning) (rest : Option Meaning) (last : Option Meaning) →
    cond b (Some value) (cond (is_some rest) rest last) ≡ cond (is_some (cond b (Some value) rest)) (cond b (Some value) rest) last
either true value rest last = refl
either false value rest last = refl

-- one declaration more
meaning-last : (ds : List Declared) (text : List ℕ) (m : Meaning) (other : List ℕ) →
    meaning_among (ds ++ declared text m ∷ []) other ≡ cond (is_some (meaning_among ds other)) (meaning_among ds other) (cond (bytes_eq text other) (Some m) None)
meaning-last [] text m other = meaning-cons (declared text m) [] other
meaning-last (d ∷ ds) text m other =
    let last : Option Meaning = cond (bytes_eq text other) (Some m) None in
    meaning-cons d (ds ++ declared text m ∷ []) other
    ∙ ap (cond (bytes_eq d.text other) (Some d.meaning)) (meaning-last ds text m other)
    ∙ either (bytes_eq d.text other) d.meaning (meaning_among ds other) last
    ∙ ap (λ it. cond (is_some it) it last) (sym (meaning-cons d ds other))

mapped : (o : Option CodeMeaning) (b : Bool) (m : CodeMeaning) →
    option_map meant (cond (is_some o) o (cond b (Some m) None)) ≡ cond (is_some (option_map meant o)) (option_map meant o) (cond b (Some (meant m)) None)
mapped (Some x) b m = refl
mapped None true m = refl
mapped None false m = refl

-- The table and the declarations mean the same with one name more.
pub names_with : (es : List (List ℕ × CodeMeaning)) (ds : List Declared) (text : List ℕ) (m : CodeMeaning) →
    ((other : List ℕ) → option_map meant (named es other) ≡ meaning_among ds other) →
    (other : List ℕ) → option_map meant (named (with_name es text m) other) ≡ meaning_among (ds ++ declared text (meant m) ∷ []) other
names_with es ds text m same other =
    ap (option_map meant) (named-with es text m other)
    ∙ mapped (named es other) (bytes_eq text other) m
    ∙ ap (λ o. cond (is_some o) o (cond (bytes_eq text other) (Some (meant m)) None)) (same other)
    ∙ sym (meaning-last ds text (meant m) other)

-- ---- names alone

is_there : {X : Type 0} (o : Option X) (b : Bool) (value : X) → is_some (cond (is_some o) o (cond b (Some value) None)) ≡ (b || is_some o)
is_there (Some x) true value = refl
is_there (Some x) false value = refl
is_there None true value = refl
is_there None false value = refl

pub is_named-with : {X : Type 0} (es : List (List ℕ × X)) (text : List ℕ) (value : X) (other : List ℕ) →
    is_named (with_name es text value) other ≡ (bytes_eq text other || is_named es other)
is_named-with es text value other = ap is_some (named-with es text value other) ∙ is_there (named es other) (bytes_eq text other) value

taken_by : {X : Type 0} (b : Bool) (es : List X) (e : X) → take (length es) (cond b es (es ++ e ∷ [])) ≡ es
taken_by true es e = take-length es
taken_by false es e = take-append_seam es (e ∷ [])

-- the names before one more
pub taken_with : {X : Type 0} (es : List (List ℕ × X)) (text : List ℕ) (value : X) → take (length es) (with_name es text value) ≡ es
taken_with es text value = taken_by (is_named es text) es (text, value)
