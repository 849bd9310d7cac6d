use Rattle.std.proofs.Common.{◌≡◌, drop, map}
use Rattle.slang_grammar.specs.Operators.{infix_in}
use Rattle.expression_parser.specs.Below.{row_infix}
use Rattle.expression_parser.proofs.operators.infix_in.Given as goal

abbrev pub invariant-loop-sign : goal.invariant-loop-sign
invariant-loop-sign l = infix_in (map row_infix (drop l.sign-index l.rows)) l.kind ≡ infix_in (map row_infix l.rows) l.kind
