-- The variables of a leg by what they stand for.
use Rattle.std.specs.Prelude.{ℕ, nat_eq, Bool, false, ◌&&◌}
use Rattle.program_trees.specs.Variables.{Variable, local, global, entry, result, same_variable}

pub data LegName : Type 0 where
  -- a variable of the method that the leg is of
  own : Variable → LegName
  -- a variable of the method of that number that is called at the node: a parameter, an entry value or the result
  of_call : (node method : ℕ) → Variable → LegName

abbrev pub same_name : LegName → LegName → Bool
same_name (own x) (own y) = same_variable x y
same_name (of_call m f x) (of_call n g y) = nat_eq m n && (nat_eq f g && same_variable x y)
same_name _ _ = false

-- what a variable of the method that is called is on the leg: the globals are the caller's too
abbrev pub callee_name : (node method : ℕ) → Variable → LegName
callee_name node method (local n) = of_call node method (local n)
callee_name node method (global n) = own (global n)
callee_name node method (entry n) = of_call node method (entry n)
callee_name node method result = of_call node method result
