use Rattle.std.proofs.Common.{◌≡◌, drop, map}
use Rattle.slang_tree.specs.Rules.{named_in, row_of}
use Rattle.slang_tree.proofs.rules.named_in.Given as goal

abbrev pub invariant-rows : goal.invariant-rows
invariant-rows l = named_in (map row_of (drop l.written-index l.rows)) l.name ≡ named_in (map row_of l.rows) l.name
