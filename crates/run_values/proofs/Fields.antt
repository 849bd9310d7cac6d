-- The types of a record's fields by its number.
use Rattle.std.proofs.Common.{◌≡◌, ℕ, zero, suc, List, [], ◌∷◌, Some, None, refl, ap}
use Rattle.std.specs.Prelude.{slice_get}
use Rattle.slang_values.specs.Value.{fields}
use Rattle.lk_programs.specs.declared.program.RecordTy.{RecordTy}
use Rattle.lk_programs.specs.Program.{field_types, record_types}

some_inj : {A : Type 0} {x y : A} → Some x ≡ Some y → x ≡ y
some_inj e = cc

pub fields_there : (records : List RecordTy) (n : ℕ) (r : RecordTy) → slice_get records n ≡ Some r → fields (record_types records) n ≡ field_types r.fields
fields_there [] n r h = absurd (cc)
fields_there (r' ∷ records) zero r h = ap (λ (t : RecordTy). field_types t.fields) (some_inj h)
fields_there (r' ∷ records) (suc n) r h = fields_there records n r h

pub fields_missing : (records : List RecordTy) (n : ℕ) → slice_get records n ≡ None → fields (record_types records) n ≡ []
fields_missing [] n h = refl
fields_missing (r' ∷ records) zero h = absurd (cc)
fields_missing (r' ∷ records) (suc n) h = fields_missing records n h

pub ruleset field_lines = (fields_there, fields_missing)
