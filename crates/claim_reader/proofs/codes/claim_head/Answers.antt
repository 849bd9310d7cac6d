use Rattle.std.proofs.Common.{refl, sym, ap, arith}
use Rattle.key_rules.specs.Codes.{claim_code, claim_heads}
use Rattle.claim_reader.proofs.Coded.{coded_none}
use Rattle.claim_reader.specs.Heads.{claim_head_coded}
use Rattle.claim_reader.proofs.codes.claim_head.Goals as goal

pub returns-in-0 : goal.returns-in-0
unfolding claim_head_coded
returns-in-0 c = ap claim_head_coded (sym c.in-0.is)

pub returns-in-1 : goal.returns-in-1
unfolding claim_head_coded
returns-in-1 c = ap claim_head_coded (sym c.in-1.is)

pub returns-in-2 : goal.returns-in-2
unfolding claim_head_coded
returns-in-2 c = ap claim_head_coded (sym c.in-2.is)

pub returns-in-3 : goal.returns-in-3
unfolding claim_head_coded
returns-in-3 c = ap claim_head_coded (sym c.in-3.is)

pub returns-in-4 : goal.returns-in-4
unfolding claim_head_coded
returns-in-4 c = ap claim_head_coded (sym c.in-4.is)

pub returns-in-5 : goal.returns-in-5
unfolding claim_head_coded
returns-in-5 c = ap claim_head_coded (sym c.in-5.is)

pub returns-in-6 : goal.returns-in-6
unfolding claim_head_coded
returns-in-6 c = ap claim_head_coded (sym c.in-6.is)

pub returns-in-7 : goal.returns-in-7
unfolding claim_head_coded
returns-in-7 c = ap claim_head_coded (sym c.in-7.is)

pub returns-in-8 : goal.returns-in-8
unfolding claim_head_coded
returns-in-8 c = ap claim_head_coded (sym c.in-8.is)

pub returns-in-9 : goal.returns-in-9
unfolding claim_head_coded
returns-in-9 c = ap claim_head_coded (sym c.in-9.is)

pub returns-in-10 : goal.returns-in-10
unfolding claim_head_coded
returns-in-10 c = ap claim_head_coded (sym c.in-10.is)

pub returns-in-11 : goal.returns-in-11
unfolding claim_head_coded
returns-in-11 c = ap claim_head_coded (sym c.in-11.is)

pub returns-in-12 : goal.returns-in-12
unfolding claim_head_coded
returns-in-12 c = ap claim_head_coded (sym c.in-12.is)

pub returns-in-13 : goal.returns-in-13
unfolding claim_head_coded
returns-in-13 c = ap claim_head_coded (sym c.in-13.is)

pub returns-in-14 : goal.returns-in-14
unfolding claim_head_coded
returns-in-14 c = ap claim_head_coded (sym c.in-14.is)

pub returns-in-15 : goal.returns-in-15
unfolding claim_head_coded
returns-in-15 c = ap claim_head_coded (sym c.in-15.is)

pub returns-in-16 : goal.returns-in-16
unfolding claim_head_coded
returns-in-16 c = ap claim_head_coded (sym c.in-16.is)

pub returns-in-17 : goal.returns-in-17
unfolding claim_head_coded
returns-in-17 c = ap claim_head_coded (sym c.in-17.is)

pub returns-in-18 : goal.returns-in-18
unfolding claim_head_coded
returns-in-18 c = ap claim_head_coded (sym c.in-18.is)

pub returns-in-19 : goal.returns-in-19
unfolding claim_head_coded
returns-in-19 c = ap claim_head_coded (sym c.in-19.is)

pub returns-in-20 : goal.returns-in-20
unfolding claim_head_coded
returns-in-20 c = ap claim_head_coded (sym c.in-20.is)

pub returns-in-21 : goal.returns-in-21
unfolding claim_head_coded
returns-in-21 c = ap claim_head_coded (sym c.in-21.is)

pub returns-in-22 : goal.returns-in-22
unfolding claim_head_coded
returns-in-22 c = ap claim_head_coded (sym c.in-22.is)

pub returns-in-23 : goal.returns-in-23
unfolding claim_head_coded
returns-in-23 c = ap claim_head_coded (sym c.in-23.is)

pub returns-in-24 : goal.returns-in-24
unfolding claim_head_coded
returns-in-24 c = ap claim_head_coded (sym c.in-24.is)

pub returns-in-25 : goal.returns-in-25
unfolding claim_head_coded
returns-in-25 c = ap claim_head_coded (sym c.in-25.is)

pub returns-in-26 : goal.returns-in-26
unfolding claim_head_coded
returns-in-26 c = ap claim_head_coded (sym c.in-26.is)

pub returns-in-27 : goal.returns-in-27
unfolding claim_head_coded
returns-in-27 c = ap claim_head_coded (sym c.in-27.is)

pub returns-in-28 : goal.returns-in-28
unfolding claim_head_coded
returns-in-28 c = ap claim_head_coded (sym c.in-28.is)

pub returns-in_default : goal.returns-in_default
unfolding claim_head_coded
returns-in_default c = sym (coded_none claim_code 28 claim_heads c.args.byte refl (omega arith))
