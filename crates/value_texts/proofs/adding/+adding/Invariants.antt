use Rattle.std.proofs.Common.{◌≡◌, ◌++◌, take}
use Rattle.run_texts.specs.Texts.{Names, values_text}
use Rattle.run_values.specs.Value.{plain_values}
use Rattle.value_texts.specs.Names.{HasNames}
use Rattle.value_texts.proofs.adding.+adding.Given as goal

-- the texts of the values up to the place were added
abbrev pub invariant-added_all-parts : goal.invariant-added_all-parts
invariant-added_all-parts l = (names : Names) → HasNames names l.records → l.text.items ≡ l.fn.text.items ++ values_text names (plain_values (take l.place l.values))
