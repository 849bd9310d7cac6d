use Rattle.std.proofs.Common.{◌≡◌, drop}
use Rattle.slang_lexer.specs.Scan.{table_of, first_at}
use Rattle.slang_lexer.proofs.scan.first_sign.Given as goal

abbrev pub invariant-loop-spelling : goal.invariant-loop-spelling
invariant-loop-spelling l = first_at (table_of (drop l.spelling-index l.signs)) l.bytes ≡ first_at (table_of l.signs) l.bytes
