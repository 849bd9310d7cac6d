-- Which types are sorts of terms.
use Rattle.std.specs.Prelude.{◌≡◌, Bool, true, false, List}
use Rattle.std.specs.List.{All}
use Rattle.slang_values.specs.Value.{ValueType, unit_type, number_type, truth_type, sequence_type, record_type}
use Rattle.lk_claims.specs.declared.ty.Ty.{Ty}
use Rattle.lk_claims.specs.Claim.{value_type}

-- the type has a sort: it is not, and has no elements of, the type of no value
abbrev pub has_sort : ValueType → Bool
has_sort unit_type = false
has_sort number_type = true
has_sort truth_type = true
has_sort (sequence_type t) = has_sort t
has_sort (record_type n) = true

abbrev pub HaveSorts : List Ty → Type 0
HaveSorts types = All (λ ty. has_sort (value_type ty) ≡ true) types
