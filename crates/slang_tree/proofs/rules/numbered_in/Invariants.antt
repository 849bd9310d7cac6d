use Rattle.std.proofs.Common.{◌≡◌, drop, map}
use Rattle.slang_tree.specs.Rules.{numbered_in, row_of}
use Rattle.slang_tree.proofs.rules.numbered_in.Given as goal

abbrev pub invariant-rows : goal.invariant-rows
invariant-rows l = numbered_in (map row_of (drop l.own-index l.rows)) l.number ≡ numbered_in (map row_of l.rows) l.number
