-- The equations of `value_type`, one for each variant.
use Rattle.std.proofs.Common.{◌≡◌, ℕ, sym, ap, ◌∙◌}
use Rattle.slang_values.specs.Value.{ValueType, unit_type, number_type, truth_type, sequence_type, record_type}
use Rattle.lk_claims.specs.declared.ty.Ty.{Ty, Ty-F, fold-roll-Ty}
use Rattle.lk_claims.specs.declared.ty.Ty.TheVariants.{Unit, Z, B, Seq, Rec, rolls-Unit, rolls-Z, rolls-B, rolls-Seq, rolls-Rec}
use Rattle.lk_claims.specs.Claim.{type_level, value_type}

pub value_type-Unit : value_type Unit ≡ unit_type
unfolding value_type
value_type-Unit = ap value_type (sym rolls-Unit) ∙ fold-roll-Ty ValueType type_level Ty-F.Unit

pub value_type-Z : value_type Z ≡ number_type
unfolding value_type
value_type-Z = ap value_type (sym rolls-Z) ∙ fold-roll-Ty ValueType type_level Ty-F.Z

pub value_type-B : value_type B ≡ truth_type
unfolding value_type
value_type-B = ap value_type (sym rolls-B) ∙ fold-roll-Ty ValueType type_level Ty-F.B

pub value_type-Seq : (s : Ty) → value_type (Seq s) ≡ sequence_type (value_type s)
unfolding value_type
value_type-Seq s = ap value_type (sym (rolls-Seq s)) ∙ fold-roll-Ty ValueType type_level (Ty-F.Seq s)

pub value_type-Rec : (n : ℕ) → value_type (Rec n) ≡ record_type n
unfolding value_type
value_type-Rec n = ap value_type (sym (rolls-Rec n)) ∙ fold-roll-Ty ValueType type_level (Ty-F.Rec n)

pub ruleset type_lines = (value_type-Unit, value_type-Z, value_type-B, value_type-Seq, value_type-Rec)
