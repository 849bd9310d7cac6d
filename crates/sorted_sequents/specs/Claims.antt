-- Whether trees are claims.
use Rattle.std.specs.Prelude.{ℕ, nat_eq, Bool, ◌&&◌, List}
use Rattle.std.specs.List.{list_all}
use Rattle.slang_values.specs.Value.{Records, truth_type}
use Rattle.slang_values.specs.Tree.{Tree}
use Rattle.slang_values.specs.Typing.{NameTypes}
use Rattle.store_substitution.specs.Loose.{depth_needed}
use Rattle.sorted_sequents.specs.Fitting.{is_fit, has_type}

-- well typed, of the type of truth values, and with no loose bound variable
abbrev pub is_claim : Records → NameTypes ℕ → Tree ℕ → Bool
is_claim records types t = is_fit records types t && (has_type records types truth_type t && nat_eq (depth_needed t) 0)
