-- Parts of one kind that are made one after another, of which the last one is put behind the others.
use Rattle.std.proofs.Common.{◌≡◌, ℕ, ◌+◌, List, [], ◌∷◌, ◌++◌, map, length, refl, sym, ap, ◌∙◌, subst, append-nil, append_assoc, length-append, arith}
use Rattle.slang_tree.specs.declared.place.Place.{Place}
use Rattle.typed_texts.specs.Numbered.{Numbered, plain, joined}
use Rattle.typed_names.specs.declared.nodes.Nodes.{Nodes}
use Rattle.typed_names.specs.Nodes.{IsMade, with_nodes}
use Rattle.typed_names.proofs.Made.{length_with, made_plain, with_both}

module _ {A S : Type 0} (none : S) (then : A → S → S) (behind : S → A → S) (behind_none : (a : A) → behind none a ≡ then a none)
    (behind_then : (a : A) (s : S) (b : A) → behind (then a s) b ≡ then a (behind s b)) where
  abbrev pub series : List (Numbered Place A) → Numbered Place S
  series [] = plain none
  series (part ∷ parts) = joined then part (series parts)

  places_more : (parts : List (Numbered Place A)) (part : Numbered Place A) → (series (parts ++ part ∷ [])).places ≡ (series parts).places ++ part.places
  places_more [] part = append-nil part.places
  places_more (first ∷ parts) part =
      ap (λ ps. first.places ++ ps) (places_more parts part) ∙ sym (append_assoc first.places (series parts).places part.places)

  sum_assoc : (a b c : ℕ) → a + b + c ≡ a + (b + c)
  sum_assoc a b c = omega arith

  from_more : (parts : List (Numbered Place A)) (part : Numbered Place A) (n : ℕ) →
      (series (parts ++ part ∷ [])).from n ≡ behind ((series parts).from n) (part.from (n + length (series parts).places))
  from_more [] part n = ap (λ m. then (part.from m) none) (omega arith) ∙ sym (behind_none (part.from (n + 0)))
  from_more (first ∷ parts) part n =
      let rest = series parts in
      let next : ℕ = n + length first.places in
      ap (then (first.from n)) (from_more parts part next)
      ∙ sym (behind_then (first.from n) (rest.from next) (part.from (next + length rest.places)))
      ∙ ap (λ m. behind (then (first.from n) (rest.from next)) (part.from m))
      (sum_assoc n (length first.places) (length rest.places) ∙ ap (λ m. n + m) (sym (length-append first.places rest.places)))

  -- one part more
  pub made_more : (before between after : Nodes) (s : S) (a : A) (parts : List (Numbered Place A)) (part : Numbered Place A) →
      IsMade before between s (series parts) → IsMade between after a part → IsMade before after (behind s a) (series (parts ++ part ∷ []))
  made_more before between after s a parts part made next =
      let places = (series parts).places in
      record {
        added = next.added ∙ ap (λ nodes. with_nodes nodes part.places) made.added ∙ with_both before places part.places
            ∙ ap (with_nodes before) (sym (places_more parts part));
        is = ap (λ t. behind t a) made.is
            ∙ ap (behind ((series parts).from (length before.places)))
            (next.is ∙ ap part.from (ap (λ (nodes : Nodes). length nodes.places) made.added ∙ length_with before places))
            ∙ sym (from_more parts part (length before.places));
      }
