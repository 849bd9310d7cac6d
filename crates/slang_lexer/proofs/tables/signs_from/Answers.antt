use Rattle.std.proofs.Common.{sym, ap, arith}
use Rattle.slang_lexer.specs.Spelling.{signs}
use Rattle.slang_lexer.proofs.Choices.{beginning, no_sign_begins}
use Rattle.slang_lexer.proofs.tables.signs_from.Goals as goal

pub returns-in-10 : goal.returns-in-10
unfolding signs
returns-in-10 c = ap (λ n. beginning n signs) (sym c.in-10.is)

pub returns-in-40 : goal.returns-in-40
unfolding signs
returns-in-40 c = ap (λ n. beginning n signs) (sym c.in-40.is)

pub returns-in-41 : goal.returns-in-41
unfolding signs
returns-in-41 c = ap (λ n. beginning n signs) (sym c.in-41.is)

pub returns-in-44 : goal.returns-in-44
unfolding signs
returns-in-44 c = ap (λ n. beginning n signs) (sym c.in-44.is)

pub returns-in-46 : goal.returns-in-46
unfolding signs
returns-in-46 c = ap (λ n. beginning n signs) (sym c.in-46.is)

pub returns-in-123 : goal.returns-in-123
unfolding signs
returns-in-123 c = ap (λ n. beginning n signs) (sym c.in-123.is)

pub returns-in-125 : goal.returns-in-125
unfolding signs
returns-in-125 c = ap (λ n. beginning n signs) (sym c.in-125.is)

pub returns-in-91 : goal.returns-in-91
unfolding signs
returns-in-91 c = ap (λ n. beginning n signs) (sym c.in-91.is)

pub returns-in-93 : goal.returns-in-93
unfolding signs
returns-in-93 c = ap (λ n. beginning n signs) (sym c.in-93.is)

pub returns-in-59 : goal.returns-in-59
unfolding signs
returns-in-59 c = ap (λ n. beginning n signs) (sym c.in-59.is)

pub returns-in-58 : goal.returns-in-58
unfolding signs
returns-in-58 c = ap (λ n. beginning n signs) (sym c.in-58.is)

pub returns-in-61 : goal.returns-in-61
unfolding signs
returns-in-61 c = ap (λ n. beginning n signs) (sym c.in-61.is)

pub returns-in-60 : goal.returns-in-60
unfolding signs
returns-in-60 c = ap (λ n. beginning n signs) (sym c.in-60.is)

pub returns-in-62 : goal.returns-in-62
unfolding signs
returns-in-62 c = ap (λ n. beginning n signs) (sym c.in-62.is)

pub returns-in-33 : goal.returns-in-33
unfolding signs
returns-in-33 c = ap (λ n. beginning n signs) (sym c.in-33.is)

pub returns-in-38 : goal.returns-in-38
unfolding signs
returns-in-38 c = ap (λ n. beginning n signs) (sym c.in-38.is)

pub returns-in-124 : goal.returns-in-124
unfolding signs
returns-in-124 c = ap (λ n. beginning n signs) (sym c.in-124.is)

pub returns-in-43 : goal.returns-in-43
unfolding signs
returns-in-43 c = ap (λ n. beginning n signs) (sym c.in-43.is)

pub returns-in-45 : goal.returns-in-45
unfolding signs
returns-in-45 c = ap (λ n. beginning n signs) (sym c.in-45.is)

pub returns-in-42 : goal.returns-in-42
unfolding signs
returns-in-42 c = ap (λ n. beginning n signs) (sym c.in-42.is)

pub returns-in-47 : goal.returns-in-47
unfolding signs
returns-in-47 c = ap (λ n. beginning n signs) (sym c.in-47.is)

pub returns-in-37 : goal.returns-in-37
unfolding signs
returns-in-37 c = ap (λ n. beginning n signs) (sym c.in-37.is)

pub returns-in-64 : goal.returns-in-64
unfolding signs
returns-in-64 c = ap (λ n. beginning n signs) (sym c.in-64.is)

pub returns-in-126 : goal.returns-in-126
unfolding signs
returns-in-126 c = ap (λ n. beginning n signs) (sym c.in-126.is)

pub returns-in-95 : goal.returns-in-95
unfolding signs
returns-in-95 c = ap (λ n. beginning n signs) (sym c.in-95.is)

pub returns-in-83 : goal.returns-in-83
unfolding signs
returns-in-83 c = ap (λ n. beginning n signs) (sym c.in-83.is)

pub returns-in-226 : goal.returns-in-226
unfolding signs
returns-in-226 c = ap (λ n. beginning n signs) (sym c.in-226.is)

pub returns-in_default : goal.returns-in_default
returns-in_default c = sym (no_sign_begins c.args.first (omega arith, (omega arith, (omega arith, (omega arith, (omega arith, (omega arith, (omega arith, (omega arith, (omega arith, (omega arith, (omega arith, (omega arith, (omega arith, (omega arith, (omega arith, (omega arith, (omega arith, (omega arith, (omega arith, (omega arith, (omega arith, (omega arith, (omega arith, (omega arith, (omega arith, (omega arith, (omega arith, tt))))))))))))))))))))))))))))
