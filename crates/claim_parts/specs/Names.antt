-- What the names of claims are, as plain data.
use Rattle.std.specs.Prelude.{ℕ}
use Rattle.program_trees.specs.Claims.{ClaimName, variable, old_variable, let_symbol}
use Rattle.claim_parts.specs.declared.name.Name.{Name}

abbrev pub claim_name : Name → ClaimName ℕ
claim_name (Name.Variable x) = variable x
claim_name (Name.OldVariable x) = old_variable x
claim_name (Name.LetSymbol label) = let_symbol label
