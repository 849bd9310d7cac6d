-- The names of records, and the words for truth values.
use Rattle.std.specs.Prelude.{◌≡◌, ℕ, zero, suc, Bool, true, false, List, [], map, codes}
use Rattle.lk_programs.specs.declared.program.RecordTy.{RecordTy}
use Rattle.run_texts.specs.Texts.{Names}

abbrev pub record_names : List RecordTy → List (List ℕ)
record_names records = map (λ named. named.name) records

-- the names of the records are those of the program
pub record HasNames (names : Names) (records : List RecordTy) : Type 0 where
  pub named : names.records ≡ record_names records

abbrev pub truth_word : Bool → List ℕ
truth_word true = codes "T"
truth_word false = codes "F"

-- what stands in front of a part, by its place
abbrev pub gap : ℕ → List ℕ
gap zero = []
gap (suc place) = codes ", "
