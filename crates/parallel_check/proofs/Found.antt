-- What is found for the keys of legs are the answers for the legs.
use Rattle.std.proofs.Common.{◌≡◌, ℕ, zero, suc, ◌+◌, ◌<◌, ◌≤◌, List, [], ◌∷◌, ◌++◌, map, take, length, get_or, sym, ap, ◌∙◌, arith}
use Rattle.std.specs.Prelude.{Vec}
use Rattle.std.specs.List.{AllByRecursion}
use Rattle.std.proofs.lemmas.List.{length-map, get_or-map, map_more, take_all}
use Rattle.program_trees.specs.declared.answer.Answer.{Answer}
use Rattle.program_trees.specs.Legs.{LegTree}
use Rattle.key_rules.specs.Writing.{encode}
use Rattle.key_rules.proofs.Keys.{keys_tell_legs_apart}
use Rattle.leg_check.specs.Keys.{IsAnswerOf}
use Rattle.verdict_laws.specs.Rules.{unclosed, is_closed}
use Rattle.program_keys.specs.Keys.{HasKey, AreKeysOf}
use Rattle.parallel_check.specs.Answers.{key_at, answer_of}

-- a leg of nothing, beyond the list
pub no_leg : LegTree
no_leg = record { records = []; variables = []; items = [] }

key_of : (legs : List LegTree) (place : ℕ) (d : LegTree) → place < length legs → AllByRecursion HasKey legs
    → HasKey (get_or legs place d)
key_of [] place d inside h = absurd (omega (arith, inside))
key_of (leg ∷ legs) zero d inside h = h.0
key_of (leg ∷ legs) (suc place) d inside h = key_of legs place d (omega (arith, inside)) h.1

module _ {Z : Type 0} (keys : List (Vec ℕ Z)) (legs : List LegTree) (are : AreKeysOf legs (map (λ key. key.items) keys)) where
  as_many : length keys ≡ length legs
  as_many = sym (length-map keys (λ key. key.items)) ∙ ap length are.written ∙ length-map legs encode

  -- the answer at a place is that for the leg there
  pub answered : (place : ℕ) (d : LegTree) (answer : Answer) → place < length keys → IsAnswerOf unclosed is_closed (key_at keys place) answer
      → answer ≡ answer_of (get_or legs place d)
  answered place d answer inside h =
      let within : place < length legs = omega (arith, inside, as_many) in
      let key : key_at keys place ≡ encode (get_or legs place d) =
      ap (λ ks. get_or ks place []) are.written ∙ get_or-map encode legs place d [] within in
      let same : h.leg ≡ get_or legs place d =
      keys_tell_legs_apart h.leg (get_or legs place d) h.is_key.fits (key_of legs place d within are.have_keys).1 (h.is_key.written ∙ key) in
      h.answers ∙ ap answer_of same

  pub one_more : (place : ℕ) (d : LegTree) (answer : Answer) (old new : List Answer) → place < length keys
      → IsAnswerOf unclosed is_closed (key_at keys place) answer → old ≡ map answer_of (take place legs) → new ≡ old ++ answer ∷ []
      → new ≡ map answer_of (take (place + 1) legs)
  one_more place d answer old new inside h so_far more =
      let within : place < length legs = omega (arith, inside, as_many) in
      more ∙ ap (λ xs. xs ++ answer ∷ []) so_far ∙ ap (λ a. map answer_of (take place legs) ++ a ∷ []) (answered place d answer inside h)
      ∙ sym (map_more answer_of legs place d within)

  pub all_told : (place : ℕ) (answers : List Answer) → length keys ≤ place → answers ≡ map answer_of (take place legs) → answers ≡ map answer_of legs
  all_told place answers h e =
      let all : take place legs ≡ legs = take_all place legs (omega (arith, h, as_many)) in
      e ∙ ap (map answer_of) all
