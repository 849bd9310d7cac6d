-- The name of a record by its number.
use Rattle.std.proofs.Common.{◌≡◌, ℕ, zero, suc, List, [], ◌∷◌, Some, None, get_or, refl, ap}
use Rattle.std.specs.Prelude.{slice_get}
use Rattle.lk_programs.specs.declared.program.RecordTy.{RecordTy}
use Rattle.value_texts.specs.Names.{record_names}

some_inj : {A : Type 0} {x y : A} → Some x ≡ Some y → x ≡ y
some_inj e = cc

pub name_there : (records : List RecordTy) (n : ℕ) (r : RecordTy) → slice_get records n ≡ Some r → get_or (record_names records) n [] ≡ r.name
name_there [] n r h = absurd (cc)
name_there (r' ∷ records) zero r h = ap (λ (t : RecordTy). t.name) (some_inj h)
name_there (r' ∷ records) (suc n) r h = name_there records n r h

pub name_missing : (records : List RecordTy) (n : ℕ) → slice_get records n ≡ None → get_or (record_names records) n [] ≡ []
name_missing [] n h = refl
name_missing (r' ∷ records) zero h = absurd (cc)
name_missing (r' ∷ records) (suc n) h = name_missing records n h

pub ruleset name_lines = (name_there, name_missing)
