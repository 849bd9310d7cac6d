use Rattle.std.proofs.Common.{take, take_all, arith}
use Rattle.slang_print.proofs.Order.{none_added, one_added, all_added}
use Rattle.slang_print.proofs.files.add_file.Goals as goal

pub loop-decl-init : goal.loop-decl-init
loop-decl-init c = none_added c.args.light c.args.decls.now

pub loop-decl-preserved : goal.loop-decl-preserved
loop-decl-preserved c =
    one_added c.args.light c.args.decls.now c.loop-decl.decl-index _ _ _ _ c.loop-decl-test.true c.decl-item.is c.loop-decl.invariant
    (c.kind_of-kind.ensures c.args.light)
    c.gap_between.ensures
    c.in_ok-add_decl.ensures c.in_ok-add_text.ensures

pub returns : goal.returns
returns c =
    all_added c.args.light c.args.decls.now (take c.loop-decl.decl-index c.args.decls.now) c.loop-decl.before (take_all c.loop-decl.decl-index
    c.args.decls.now (omega arith))
    c.loop-decl.invariant
