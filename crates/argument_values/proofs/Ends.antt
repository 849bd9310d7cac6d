-- Sequences and records of values that were read.
use Rattle.std.proofs.Common.{◌≡◌, ℕ, Bool, true, false, not, ◌||◌, List, [], ◌∷◌, refl, sym, ap, ◌∙◌}
use Rattle.std.specs.Prelude.{IsTrue}
use Rattle.slang_values.specs.Value.{ValueType, sequence, record_value, Values, no_values, value_then}
use Rattle.slang_values.specs.Value as plain
use Rattle.slang_tokens.specs.Tok.{Tok}
use Rattle.lk_claims.specs.declared.ty.Ty.{Ty}
use Rattle.lk_claims.specs.Claim.{value_type}
use Rattle.run_values.specs.declared.value.Value.{Value}
use Rattle.run_values.specs.declared.value.Value.TheVariants as v
use Rattle.run_values.specs.Value.{plain_value, plain_values}
use Rattle.run_values.proofs.Values.{plain_value-Seq, plain_value-Rec}
use Rattle.argument_values.specs.Consts.{is_empty, IsSequenceEnd, IsRecordEnd}
use Rattle.argument_scalars.specs.Fronts.{ValueFront}

pub not_true : {b : Bool} → IsTrue b → b ≡ false → ⊥
not_true h k = cc

-- values are none only where there are none
pub no_fields : (vs : List Value) → (vs ≡ [] → ⊥) → is_empty (plain_values vs) ≡ false
no_fields [] some = absurd (some refl)
no_fields (w ∷ vs) some = refl

pub some_elements : (is_written : Bool) (vs : List Value) → (vs ≡ [] → ⊥) → (is_written || not (is_empty (plain_values vs))) ≡ true
some_elements true vs some = refl
some_elements false vs some = ap not (no_fields vs some)

pub written_any : (is_written : Bool) (vs : List Value) → is_written ≡ true → (is_written || not (is_empty (plain_values vs))) ≡ true
written_any true vs h = refl
written_any false vs h = absurd (cc)

abbrev front : plain.Value → List Tok → ValueFront
front value rest = record { value = value; rest = rest }

pub record_only : (number : ℕ) (vs : List Value) (rest : List Tok) → (vs ≡ [] → ⊥)
    → IsRecordEnd number (plain_values vs) rest (front (plain_value (v.Rec number vs)) rest)
    × ((a : ValueFront) → IsRecordEnd number (plain_values vs) rest a → a ≡ front (plain_value (v.Rec number vs)) rest)
record_only number vs rest some = (
  (no_fields vs some, ap (λ (w : plain.Value). front w rest) (plain_value-Rec number vs)),
  λ a h. h.1 ∙ ap (λ (w : plain.Value). front w rest) (sym (plain_value-Rec number vs)),
)

pub sequence_only : (is_written : Bool) (ty : Ty) (t : ValueType) (vs : List Value) (rest : List Tok) → value_type ty ≡ t
    → (is_written || not (is_empty (plain_values vs))) ≡ true
    → IsSequenceEnd is_written t (plain_values vs) rest (front (plain_value (v.Seq ty vs)) rest)
    × ((a : ValueFront) → IsSequenceEnd is_written t (plain_values vs) rest a → a ≡ front (plain_value (v.Seq ty vs)) rest)
sequence_only is_written ty t vs rest is some =
    let same : plain_value (v.Seq ty vs) ≡ sequence t (plain_values vs) = plain_value-Seq ty vs ∙ ap (λ (u : ValueType). sequence u (plain_values vs)) is in (
      (some, ap (λ (w : plain.Value). front w rest) same),
      λ a h. h.1 ∙ ap (λ (w : plain.Value). front w rest) (sym same),
    )
