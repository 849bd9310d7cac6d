-- The text of a value from the texts of its parts.
use Rattle.std.proofs.Common.{◌≡◌, ℕ, zero, suc, Bool, true, false, List, [], ◌∷◌, ◌++◌, append_assoc, append-nil, length, get_or, take, codes, ◌+◌, ◌<◌, refl, sym, ap, ◌∙◌, arith}
use Rattle.std.proofs.lemmas.List.{take_more}
use Rattle.slang_values.specs.Value.{ValueType, Values, truth, sequence, record_value, no_values, value_then, with_value_last}
use Rattle.slang_values.specs.Value as plain
use Rattle.run_texts.specs.Texts.{Names, value_text, values_text, more_text}
use Rattle.run_values.specs.declared.value.Value.{Value}
use Rattle.run_values.specs.Value.{plain_value, plain_values}
use Rattle.run_values.proofs.Values.{with_value_last-push}
use Rattle.value_texts.specs.Names.{truth_word, gap}

-- what was added, and then more
pub then_bytes : (old middle new a b : List ℕ) → middle ≡ old ++ a → new ≡ middle ++ b → new ≡ old ++ (a ++ b)
then_bytes old middle new a b h k = k ∙ ap (λ l. l ++ b) h ∙ append_assoc old a b

pub truth_said : (names : Names) (b : Bool) → truth_word b ≡ value_text names (truth b)
truth_said names true = refl
truth_said names false = refl

pub sequence_said : (names : Names) (t : ValueType) (vs : Values) (old first second new : List ℕ) → first ≡ old ++ codes "ISZ(" → second ≡ first ++ values_text names vs
    → new ≡ second ++ codes ")" → new ≡ old ++ value_text names (sequence t vs)
sequence_said names t vs old first second new h k l =
    then_bytes old first new (codes "ISZ(") (values_text names vs ++ codes ")") h (then_bytes first second new (values_text names vs) (codes ")") k l)

pub record_said : (names : Names) (n : ℕ) (vs : Values) (old named first second new : List ℕ) → named ≡ old ++ get_or names.records n [] → first ≡ named ++ codes "("
    → second ≡ first ++ values_text names vs → new ≡ second ++ codes ")" → new ≡ old ++ value_text names (record_value n vs)
record_said names n vs old named first second new g h k l =
    then_bytes old named new (get_or names.records n []) (codes "(" ++ (values_text names vs ++ codes ")")) g
    (then_bytes named first new (codes "(") (values_text names vs ++ codes ")") h (then_bytes first second new (values_text names vs) (codes ")") k l))

-- ---- one value more

more_last : (names : Names) (vs : Values) (v : plain.Value) → more_text names (with_value_last vs v) ≡ more_text names vs ++ (codes ", " ++ value_text names v)
more_last names no_values v = ap (λ l. codes ", " ++ l) (append-nil (value_text names v))
more_last names (value_then w vs) v =
    ap (λ l. codes ", " ++ (value_text names w ++ l)) (more_last names vs v)
    ∙ sym (ap (λ l. codes ", " ++ l) (append_assoc (value_text names w) (more_text names vs) (codes ", " ++ value_text names v)))

values_last : (names : Names) (w : plain.Value) (vs : Values) (v : plain.Value)
    → values_text names (with_value_last (value_then w vs) v) ≡ values_text names (value_then w vs) ++ (codes ", " ++ value_text names v)
values_last names w vs v =
    ap (λ l. value_text names w ++ l) (more_last names vs v) ∙ sym (append_assoc (value_text names w) (more_text names vs) (codes ", " ++ value_text names v))

-- the values up to a place, and the one there
one_more : (names : Names) (values : List Value) (i : ℕ) (v : Value) → i < length values → v ≡ get_or values i v
    → values_text names (plain_values (take (i + 1) values)) ≡ values_text names (plain_values (take i values)) ++ (gap i ++ value_text names (plain_value v))
one_more names [] i v within is = absurd (no_place within)
  where
    no_place : i < 0 → ⊥
    no_place h = omega (arith, h)
one_more names (w ∷ ws) zero v within is = append-nil (value_text names (plain_value w)) ∙ ap (λ (u : Value). value_text names (plain_value u)) (sym is)
one_more names (w ∷ ws) (suc j) v within is =
    ap (λ (vs : List Value). values_text names (plain_values vs)) (take_more (w ∷ ws) (suc j) v within ∙ ap (λ (u : Value). take (suc j) (w ∷ ws) ++ u ∷ []) (sym is))
    ∙ ap (values_text names) (sym (with_value_last-push (take (suc j) (w ∷ ws)) v))
    ∙ values_last names (plain_value w) (plain_values (take j ws)) (plain_value v)

pub values_next : (names : Names) (values : List Value) (i : ℕ) (v : Value) (old text middle new : List ℕ) → i < length values → v ≡ get_or values i v
    → text ≡ old ++ values_text names (plain_values (take i values)) → middle ≡ text ++ gap i → new ≡ middle ++ value_text names (plain_value v)
    → new ≡ old ++ values_text names (plain_values (take (i + 1) values))
values_next names values i v old text middle new within is so_far h k =
    then_bytes old text new (values_text names (plain_values (take i values))) (gap i ++ value_text names (plain_value v)) so_far
    (then_bytes text middle new (gap i) (value_text names (plain_value v)) h k)
    ∙ ap (λ l. old ++ l) (sym (one_more names values i v within is))

pub ruleset part_lines = (truth_said, sequence_said, record_said)
