-- What holds of closing, as one statement.
use Rattle.std.specs.Prelude.{◌≡◌}
use Rattle.validity.specs.Validity.{SequentTree, IsWellSorted, IsValid}
use Rattle.whole_closing.specs.Closing.{closing, closed}

-- A well-sorted sequent that is closed is valid: its goal is true wherever its facts are.
abbrev pub ClosedIsValid : Type 0
ClosedIsValid = (s : SequentTree) → IsWellSorted s → closing s ≡ closed → IsValid s
