-- The structural rules of sequents.
use Rattle.std.proofs.Common.{List, [], ◌∷◌, ◌++◌, subst, arith, length-append}
use Rattle.std.specs.List.{All}
use Rattle.std.proofs.lemmas.List.{get_or_append_left}
use Rattle.std.proofs.lemmas.List.Elements.{All-append, All-contains, All-cons, All-nil}
use Rattle.validity.specs.Validity.{IsTrueUnder}
use Rattle.validity.specs.Laws.{ValidityLaws}

All-front : {X : Type 0} (P : X → Type 0) (xs ys : List X) → All P (xs ++ ys) → All P xs
All-front P xs ys h k d l =
    subst P (get_or_append_left xs ys d k l) (h k d (omega (arith, length-append xs ys)))

All-one : {X : Type 0} (P : X → Type 0) (x : X) → P x → All P (x ∷ [])
All-one P x h = All-cons P x [] h (All-nil P)

pub validity_laws : ValidityLaws
validity_laws = record {
  assumption = λ s here values fit facts. All-contains (IsTrueUnder s.records values) s.facts s.goal facts here;
  weakening = λ s t valid values fit facts. valid values fit (All-front (IsTrueUnder s.records values) s.facts (t ∷ []) facts);
  cut = λ s t first second values fit facts.
      let P = IsTrueUnder s.records values in
      second values fit (All-append P s.facts (t ∷ []) facts (All-one P t (first values fit facts)));
}
