-- Look-ups in a table, by the bytes of its names.
use Rattle.std.proofs.Common.{◌≡◌, ℕ, zero, suc, take, Bool, true, false, cond, ◌||◌, Option, Some, None, List, [], ◌∷◌, ◌++◌, map, refl, sym, ap, ◌∙◌, true≢false}
use Rattle.std.specs.Prelude.{String}
use Rattle.std.specs.Bool.{one_answer}
use Rattle.std.proofs.lemmas.Slice.Eq.{bytes_eq-Decides}
use Rattle.std.specs.Map.{lookup}
use Rattle.std.specs.Option.{is_some}
use Rattle.std.specs.Str.{bytes_eq}
use Rattle.std.specs.String.{string_bytes, string_eq}
use Rattle.indexmap.specs.IndexMap.{insert_entry}
use Rattle.name_maps.specs.Names.{entry_of, is_named, named}
use Rattle.name_maps.proofs.Named.{named-cons}

-- whether a key of the table has these bytes
abbrev pub is_key : {A : Type 0} → List ℕ → String A → Bool
is_key text key = bytes_eq text (string_bytes key)

pub bytes_eq-symm : (a b : List ℕ) → bytes_eq a b ≡ bytes_eq b a
bytes_eq-symm a b = one_answer (bytes_eq a b) (bytes_eq b a) (bytes_eq-Decides a b) (λ e. sym ((bytes_eq-Decides b a).0 e), λ e. (bytes_eq-Decides b a).1 (sym e))

pub found : {A X : Type 0} (text : List ℕ) (es : List (String A × X)) → lookup (is_key text) es ≡ named (map entry_of es) text
found text [] = refl
found text (e ∷ es) =
    ap (λ rest. cond (bytes_eq text (string_bytes e.0)) (Some e.1) rest) (found text es)
    ∙ ap (λ b. cond b (Some e.1) (named (map entry_of es) text)) (bytes_eq-symm text (string_bytes e.0))
    ∙ sym (named-cons (entry_of e) (map entry_of es) text)

is_new : {X : Type 0} (e : List ℕ × X) (es : List (List ℕ × X)) (text : List ℕ) (b : Bool) → bytes_eq e.0 text ≡ b → is_named (e ∷ es) text ≡ false →
    (b ≡ false) × (is_named es text ≡ false)
is_new e es text true h new = absurd (true≢false (sym (ap is_some (named-cons e es text ∙ ap (λ b. cond b (Some e.1) (named es text)) h)) ∙ new))
is_new e es text false h new = (refl, sym (ap is_some (named-cons e es text ∙ ap (λ b. cond b (Some e.1) (named es text)) h)) ∙ new)

-- a new name goes last
pub added : {A X : Type 0} (text : List ℕ) (name : String A) (value : X) (es : List (String A × X))
    → string_bytes name ≡ text → is_named (map entry_of es) text ≡ false
    → map entry_of (insert_entry string_eq es name value) ≡ map entry_of es ++ (text, value) ∷ []
added text name value [] is new = ap (λ bytes. (bytes, value) ∷ []) is
added text name value (e ∷ es) is new =
    let parts = is_new (entry_of e) (map entry_of es) text (bytes_eq (string_bytes e.0) text) refl new in
    let differs : string_eq name e.0 ≡ false = ap (λ bytes. bytes_eq bytes (string_bytes e.0)) is ∙ bytes_eq-symm text (string_bytes e.0) ∙ parts.0 in
    ap (λ b. map entry_of (cond b ((e.0, value) ∷ es) (e ∷ insert_entry string_eq es name value))) differs
    ∙ ap (λ vs. entry_of e ∷ vs) (added text name value es is parts.1)

-- what a table that is left has
pub left : {A X : Type 0} (count : ℕ) (es : List (String A × X)) → map entry_of (take count es) ≡ take count (map entry_of es)
left zero es = refl
left (suc count) [] = refl
left (suc count) (e ∷ es) = ap (λ vs. entry_of e ∷ vs) (left count es)
