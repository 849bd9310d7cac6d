-- The table of answers, as it grows.
use Rattle.std.proofs.Common.{◌≡◌, ℕ, zero, suc, ◌<◌, List, [], ◌∷◌, ◌++◌, length, slice_get, Some, Bool, sym, ap, ◌∙◌, subst, arith}
use Rattle.std.proofs.lemmas.List.{length_push}
use Rattle.std.proofs.lemmas.Option.{same_Some}
use Rattle.slang_values.specs.Value.{Records}
use Rattle.slang_values.specs.Typing.{NameTypes}
use Rattle.term_nodes.specs.declared.node.Node.{Node}
use Rattle.term_store.specs.Store.{tree_at}
use Rattle.sorted_sequents.specs.Fitting.{is_fit}
use Rattle.sorted_sequents.specs.Answers.{AreFitAnswers}

-- a place of a longer list: one of the list, or the last
push-cases : (P : ℕ → Bool → Type 0) (xs : List Bool) (x : Bool) → ((k : ℕ) (b : Bool) → slice_get xs k ≡ Some b → P k b) → P (length xs) x →
    (k : ℕ) (b : Bool) → slice_get (xs ++ x ∷ []) k ≡ Some b → P k b
push-cases P [] x h l zero b e = subst (P 0) (same_Some x b e) l
push-cases P [] x h l (suc k) b e = absurd (cc)
push-cases P (y ∷ xs) x h l zero b e = h zero b e
push-cases P (y ∷ xs) x h l (suc k) b e = push-cases (λ j. P (suc j)) xs x (λ j. h (suc j)) l k b e

module _ (records : Records) (types : NameTypes ℕ) where
  -- one more answer, for the next term
  pub one_answer_more : (store : List Node) (answers : List Bool) (id : ℕ) (b : Bool) → AreFitAnswers records types store answers →
      id ≡ length answers → id < length store → b ≡ is_fit records types (tree_at store id) → AreFitAnswers records types store (answers ++ b ∷ [])
  one_answer_more store answers id b h is l e = record {
    within = omega (arith, length_push answers b);
    at = push-cases (λ k x. x ≡ is_fit records types (tree_at store k)) answers b h.at (e ∙ ap (λ k. is_fit records types (tree_at store k)) is);
  }

  pub no_answers : (store : List Node) (answers : List Bool) → answers ≡ [] → AreFitAnswers records types store answers
  no_answers store [] e = record { within = omega arith; at = λ k b f. absurd (cc) }
  no_answers store (x ∷ xs) e = absurd (cc)
