-- The table of answers, as it grows.
use Rattle.std.proofs.Common.{◌≡◌, ℕ, zero, suc, ◌<◌, List, [], ◌∷◌, ◌++◌, length, slice_get, Some, Bool, sym, ap, ◌∙◌, subst, arith}
use Rattle.std.proofs.lemmas.List.{length_push}
use Rattle.std.proofs.lemmas.Option.{same_Some}
use Rattle.slang_values.specs.Value.{Records}
use Rattle.slang_values.specs.Typing.{NameTypes}
use Rattle.closing.specs.Literals.{is_narrow_outside}
use Rattle.term_nodes.specs.declared.node.Node.{Node}
use Rattle.term_store.specs.Store.{tree_at, Grows}
use Rattle.term_store.proofs.Stores.{Grows-length, Grows-tree_at}
use Rattle.store_outside.specs.Outside.{AreNarrowOutside}

-- a place of a longer list: one of the list, or the last
push-cases : (P : ℕ → Bool → Type 0) (xs : List Bool) (x : Bool) → ((k : ℕ) (b : Bool) → slice_get xs k ≡ Some b → P k b) → P (length xs) x → (k : ℕ) (b : Bool) → slice_get (xs ++ x ∷ []) k ≡ Some b → P k b
push-cases P [] x h l zero b e = subst (P 0) (same_Some x b e) l
push-cases P [] x h l (suc k) b e = absurd (cc)
push-cases P (y ∷ xs) x h l zero b e = h zero b e
push-cases P (y ∷ xs) x h l (suc k) b e = push-cases (λ j. P (suc j)) xs x (λ j. h (suc j)) l k b e

slice_get-within : (xs : List Bool) (k : ℕ) (b : Bool) → slice_get xs k ≡ Some b → k < length xs
slice_get-within [] k b e = absurd (cc)
slice_get-within (x ∷ xs) zero b e = omega arith
slice_get-within (x ∷ xs) (suc k) b e = omega (arith, slice_get-within xs k b e)

module _ (records : Records) (types : NameTypes ℕ) where
  -- one more answer, for the next term
  pub one_answer_more : (store : List Node) (answers : List Bool) (id : ℕ) (b : Bool) → AreNarrowOutside records types store answers → id ≡ length answers → id < length store → b ≡ is_narrow_outside records types (tree_at store id) → AreNarrowOutside records types store (answers ++ b ∷ [])
  one_answer_more store answers id b h is l e = record {
    within = omega (arith, length_push answers b);
    at = push-cases (λ k x. x ≡ is_narrow_outside records types (tree_at store k)) answers b h.at (e ∙ ap (λ k. is_narrow_outside records types (tree_at store k)) is);
  }

  pub AreNarrowOutside-grows : (old new : List Node) (answers : List Bool) → Grows old new → AreNarrowOutside records types old answers → AreNarrowOutside records types new answers
  AreNarrowOutside-grows old new answers g h = record {
    within = omega (arith, h.within, Grows-length old new g);
    at = λ k b e.
        h.at k b e ∙ ap (is_narrow_outside records types) (sym (Grows-tree_at old new k g (omega (arith, h.within, slice_get-within answers k b e))));
  }

  pub no_answers : (store : List Node) (answers : List Bool) → answers ≡ [] → AreNarrowOutside records types store answers
  no_answers store [] e = record { within = omega arith; at = λ k b f. absurd (cc) }
  no_answers store (x ∷ xs) e = absurd (cc)
