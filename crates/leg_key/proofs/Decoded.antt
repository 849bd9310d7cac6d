-- What is read and well formed is the leg of the key.
use Rattle.std.proofs.Common.{◌≡◌, ℕ, suc, ◌<◌, Bool, true, false, true≢false, List, [], ◌∷◌, get_or, Fits, w8, Option, Some, None, if◌then◌else◌, refl}
use Rattle.std.proofs.Common.{sym, ◌∙◌, subst}
use Rattle.std.specs.Prelude.{◌↔◌, IsTrue}
use Rattle.std.proofs.Math.Facts.{Fits-lt-pow}
use Rattle.leg_forms.specs.WellFormed.{IsWellFormedLeg}
use Rattle.key_rules.specs.Readers.{AreBytes}
use Rattle.key_rules.specs.Laws.{IsKeyOf}
use Rattle.key_depths.specs.Depths.{decode_within, depth_limit}
use Rattle.key_depths.proofs.Keys.{keys_of_well_formed_legs_within}
use Rattle.lk_programs.specs.declared.leg.Leg.{Leg}
use Rattle.lk_programs.specs.LegData.{leg_tree}
use Rattle.leg_key.specs.Decoding.{HasNoLeg, IsLegOf, IsTestedLeg}

none≢some : {A : Type 0} {x : A} → None ≡ Some x → ⊥
none≢some e = cc

some_inj : {A : Type 0} {x y : A} → Some x ≡ Some y → x ≡ y
some_inj e = cc

byte_is : (b : ℕ) → Fits w8 b → b < 256
byte_is b h = Fits-lt-pow {w = w8} h

pub bytes_are : (bytes : List ℕ) → ((i : ℕ) → Fits w8 (get_or bytes i 0)) → AreBytes bytes
bytes_are [] h = tt
bytes_are (b ∷ bytes) h = (byte_is b (h 0), bytes_are bytes (λ i. h (suc i)))

pub tested_is : (leg : Leg) (is_kept : Bool) (kept : Option Leg) → (IsTrue is_kept ↔ IsWellFormedLeg (leg_tree leg))
    → kept ≡ (if is_kept then Some leg else None) → IsTestedLeg leg kept
tested_is leg true kept h is = subst (IsTestedLeg leg) (sym is) (refl, h.0 refl)
tested_is leg false kept h is = subst (IsTestedLeg leg) (sym is) (λ w. true≢false (sym (h.1 w)))

module _ (key : List ℕ) (are : AreBytes key) where
  pub none_read : None ≡ decode_within depth_limit key → HasNoLeg key
  none_read h = λ leg k. none≢some (h ∙ (keys_of_well_formed_legs_within key leg are k.well_formed).0 k)

  pub leg_read : (leg : Leg) → Some (leg_tree leg) ≡ decode_within depth_limit key → (kept : Option Leg) → IsTestedLeg leg kept → IsLegOf key kept
  leg_read leg h None t = λ l k.
      let same : leg_tree leg ≡ l = some_inj (h ∙ (keys_of_well_formed_legs_within key l are k.well_formed).0 k) in
      t (subst IsWellFormedLeg (sym same) k.well_formed)
  leg_read leg h (Some kept) t =
      subst (λ l. IsKeyOf key (leg_tree l)) (sym t.0) ((keys_of_well_formed_legs_within key (leg_tree leg) are t.1).1 (sym h))
