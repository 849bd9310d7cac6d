-- Parts of a claim, one after the other, and records as the code holds them.
use Rattle.std.proofs.Common.{◌≡◌, ℕ, zero, suc, ◌+◌, ◌<◌, Bool, true, false, ◌&&◌, List, [], ◌∷◌, map, length, get_or, drop, drop-cons, add-one, refl, sym, ap, ◌∙◌, arith}
use Rattle.slang_values.specs.Value.{ValueType, Records}
use Rattle.slang_values.specs.Typing.{NameTypes}
use Rattle.program_trees.specs.Claims.{ClaimName}
use Rattle.lk_claims.specs.declared.ty.Ty.{Ty}
use Rattle.lk_claims.specs.declared.claim.Claim.{Claim}
use Rattle.lk_claims.specs.Claim.{claim_tree, claim_trees, value_type}
use Rattle.claim_types.specs.Judged.{is_type, judged, each_judged, all_judged}

and_false : (a b : Bool) → b ≡ false → (a && b) ≡ false
and_false true b h = h
and_false false b h = refl

module _ (records : Records) (types : NameTypes (ClaimName ℕ)) where
  -- The part at a place is of the type: so it depends on those behind it. Where it is not, there is none.
  pub each_part : (parts : List Claim) (i : ℕ) (d : Claim) (t : ValueType) (b : Bool) → i < length parts
      → is_type t (judged records types (claim_tree (get_or parts i d))) ≡ b
      → each_judged records types (claim_trees (drop i parts)) t ≡ (b && each_judged records types (claim_trees (drop (i + 1) parts)) t)
  each_part parts i d t b h e =
      ap (λ l. each_judged records types (claim_trees l) t) (drop-cons parts i d h)
      ∙ ap (λ x. x && each_judged records types (claim_trees (drop (suc i) parts)) t) e
      ∙ ap (λ n. b && each_judged records types (claim_trees (drop n parts)) t) (sym (add-one i))

  pub all_parts : (parts : List Claim) (ts : List Ty) (i : ℕ) (d : Claim) (u : Ty) (b : Bool) → i < length parts → i < length ts
      → is_type (value_type (get_or ts i u)) (judged records types (claim_tree (get_or parts i d))) ≡ b
      → all_judged records types (claim_trees (drop i parts)) (map value_type (drop i ts))
      ≡ (b && all_judged records types (claim_trees (drop (i + 1) parts)) (map value_type (drop (i + 1) ts)))
  all_parts parts ts i d u b h k e =
      ap (λ l. all_judged records types (claim_trees l) (map value_type (drop i ts))) (drop-cons parts i d h)
      ∙ ap (λ l. all_judged records types (claim_trees (get_or parts i d ∷ drop (suc i) parts)) (map value_type l)) (drop-cons ts i u k)
      ∙ ap (λ x. x && all_judged records types (claim_trees (drop (suc i) parts)) (map value_type (drop (suc i) ts))) e
      ∙ ap (λ n. b && all_judged records types (claim_trees (drop n parts)) (map value_type (drop n ts))) (sym (add-one i))

  -- lists of other lengths
  pub other_lengths : (parts : List Claim) (ts : List Ty) → (length parts ≡ length ts → ⊥)
      → all_judged records types (claim_trees parts) (map value_type ts) ≡ false
  other_lengths [] [] h = absurd (h refl)
  other_lengths [] (t ∷ ts) h = refl
  other_lengths (c ∷ cs) [] h = refl
  other_lengths (c ∷ cs) (t ∷ ts) h =
      and_false (is_type (value_type t) (judged records types (claim_tree c))) (all_judged records types (claim_trees cs) (map value_type ts))
      (other_lengths cs ts (λ e. h (ap suc e)))
