-- What is found of a project of files is all that there is to find.
use Rattle.std.proofs.Common.{◌≡◌, List, [], Result, Ok, Err, refl, ◌∙◌}
use Rattle.std.specs.Prelude.{◌≢◌, IfErr, IsErrAnd, MatchResult, OnOk, ⊤}
use Rattle.type_rules.specs.Projects.{FileTree}
use Rattle.height_rules.specs.Faults.{whole_faults}
use Rattle.height_rules.proofs.Projects.{no_fault_where_typed_and_low}
use Rattle.project_loading.specs.declared.checking.CheckEnd.{CheckEnd}
use Rattle.project_loading.specs.declared.checking.CheckEnd.TheVariants as check_end
use Rattle.project_loading.specs.Ends.{AreFaultsOf, IfFaults, IsWell}

pub faultless_well : (files : List FileTree) → whole_faults files ≡ [] → IsWell files
faultless_well files = (no_fault_where_typed_and_low files).0

pub well_faultless : (files : List FileTree) → IsWell files → whole_faults files ≡ []
well_faultless files = (no_fault_where_typed_and_low files).1

-- a project in which all is well has its program
pub only_program : {X : Type 0} (files : List FileTree) (result : Result X CheckEnd) → IfErr result (λ end. IfFaults end (AreFaultsOf files)) → IsWell files →
    MatchResult result (λ _. ⊤) (λ end. end ≡ check_end.NoMemory)
only_program files (Ok made) faults well = tt
only_program files (Err (check_end.Faults told)) faults well = absurd (faults.1 (faults.0 ∙ well_faultless files well))
only_program files (Err check_end.NoMemory) faults well = refl

-- faults that are there are told
pub only_faults : {X : Type 0} (files : List FileTree) (result : Result X CheckEnd) → OnOk result (whole_faults files ≡ []) →
    IfErr result (λ end. IfFaults end (AreFaultsOf files)) → whole_faults files ≢ [] →
    IsErrAnd result (λ end. IfFaults end (λ told. told ≡ whole_faults files))
only_faults files (Ok made) none faults some = absurd (some none)
only_faults files (Err (check_end.Faults told)) none faults some = faults.0
only_faults files (Err check_end.NoMemory) none faults some = tt
