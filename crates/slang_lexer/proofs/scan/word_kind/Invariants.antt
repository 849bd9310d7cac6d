use Rattle.std.proofs.Common.{◌≡◌, drop}
use Rattle.slang_lexer.specs.Scan.{table_of}
use Rattle.slang_lexer.specs.Spelling.{kind_in}
use Rattle.slang_lexer.proofs.scan.word_kind.Given as goal

abbrev pub invariant-loop-spelling : goal.invariant-loop-spelling
invariant-loop-spelling l = kind_in (table_of (drop l.spelling-index l.words)) l.name ≡ kind_in (table_of l.words) l.name
