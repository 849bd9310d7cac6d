-- The code's table of rules is that of the definitions.
use Rattle.std.proofs.Common.{◌≡◌, map, refl}
use Rattle.slang_tree.specs.Rules.{row, rules}
use Rattle.slang_tree.specs.declared.rules.TheConstants.{RULES}

pub rows_are : map (λ written. row written.0.now written.1 written.2) RULES ≡ rules
unfolding rules
rows_are = refl
