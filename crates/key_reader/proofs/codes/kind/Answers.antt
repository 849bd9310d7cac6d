use Rattle.std.proofs.Common.{refl, sym, ap, arith}
use Rattle.key_rules.specs.Codes.{kind_code, checked_kinds}
use Rattle.claim_reader.proofs.Coded.{coded_none}
use Rattle.key_reader.specs.Heads.{kind_coded}
use Rattle.key_reader.proofs.codes.kind.Goals as goal

pub returns-in-0 : goal.returns-in-0
returns-in-0 c = ap kind_coded (sym c.in-0.is)

pub returns-in-1 : goal.returns-in-1
returns-in-1 c = ap kind_coded (sym c.in-1.is)

pub returns-in-2 : goal.returns-in-2
returns-in-2 c = ap kind_coded (sym c.in-2.is)

pub returns-in-3 : goal.returns-in-3
returns-in-3 c = ap kind_coded (sym c.in-3.is)

pub returns-in-4 : goal.returns-in-4
returns-in-4 c = ap kind_coded (sym c.in-4.is)

pub returns-in-5 : goal.returns-in-5
returns-in-5 c = ap kind_coded (sym c.in-5.is)

pub returns-in-6 : goal.returns-in-6
returns-in-6 c = ap kind_coded (sym c.in-6.is)

pub returns-in_default : goal.returns-in_default
returns-in_default c = sym (coded_none kind_code 6 checked_kinds c.args.byte refl (omega arith))
