use Rattle.std.proofs.Common.{◌≡◌, ◌++◌, length, take}
use Rattle.std.specs.List.{AllByRecursion, flat_map}
use Rattle.key_rules.specs.Fits.{FitsNumber}
use Rattle.key_rules.specs.Writing.{number_bytes}
use Rattle.leg_key.proofs.bytes.add_numbers.Given as goal

abbrev pub invariant-loop-number : goal.invariant-loop-number
invariant-loop-number l = record {
  written : l.key.items ≡ l.fn.key.items ++ (number_bytes (length l.numbers) ++ flat_map number_bytes (take l.number-index l.numbers));
  fits : AllByRecursion FitsNumber (take l.number-index l.numbers);
}
