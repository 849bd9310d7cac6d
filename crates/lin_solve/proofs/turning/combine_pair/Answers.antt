use Rattle.std.proofs.Common.{List, subst}
use Rattle.std.proofs.lemmas.Result.{err_from_is_err_and, on_ok_weaker}
use Rattle.lin_rows.specs.Cut.{tightened}
use Rattle.lin_cert.specs.declared.CertLine.{CertLine}
use Rattle.elimination.specs.Elimination.{kept_with}
use Rattle.lin_solve.specs.Answers.{EndsAs}
use Rattle.lin_solve.specs.Lines.{rows_of, IsNew}
use Rattle.lin_solve.proofs.TurnLemmas.{sum_made, sum_ends, sum_there, sum_kept}
use Rattle.lin_solve.proofs.turning.combine_pair.Goals as goal

pub returns-in_err-new-clause-end : goal.returns-in_err-new-clause-end
returns-in_err-new-clause-end c =
    let by = c.cancelling-by.ensures in
    let s = sum_made c.args.lines.now.items c.args.lower c.args.upper c.index.result.now c.index-2.result.now _ _ _ c.requires.lower c.requires.upper c.index.ensures c.index-2.ensures by.lower by.upper by.lower_multiplier by.upper_multiplier c.in_ok-sum.ensures.sum c.in_ok-sum.ensures.within in
    let p = err_from_is_err_and c.from_residual-in_err-new.result c.from_residual-in_err-new.ensures.1 in
    rw (p.1, p.2)
    (sum_ends c.args.lines.now.items c.args.lower c.args.upper _ (rows_of c.args.lines.now.items c.args.kept.now.lines.items) _ _ s
    (subst (λ (ls : List CertLine). EndsAs c.in_err-new.field-0.0 (kept_with (rows_of ls c.args.kept.now.lines.items) (tightened c.in_ok-sum.sum))) c.deref.ensures.value c.in_err-new.ensures.end))

pub returns-in_default-clause-goes : goal.returns-in_default-clause-goes
returns-in_default-clause-goes c =
    let by = c.cancelling-by.ensures in
    let s = sum_made c.args.lines.now.items c.args.lower c.args.upper c.index.result.now c.index-2.result.now _ _ _ c.requires.lower c.requires.upper c.index.ensures c.index-2.ensures by.lower by.upper by.lower_multiplier by.upper_multiplier c.in_ok-sum.ensures.sum c.in_ok-sum.ensures.within in
    sum_there c.args.lines.now.items c.args.kept.now c.args.lower c.args.upper _ _ _ c.requires.table s c.in_default.is (subst (λ (ls : List CertLine). IsNew (rows_of ls c.args.kept.now.lines.items) c.in_ok-sum.sum c.in_ok-new.field-0) c.deref.ensures.value c.in_ok-new.ensures.new)

pub returns-clause-goes : goal.returns-clause-goes
returns-clause-goes c =
    let by = c.cancelling-by.ensures in
    let s = sum_made c.args.lines.now.items c.args.lower c.args.upper c.index.result.now c.index-2.result.now _ _ _ c.requires.lower c.requires.upper c.index.ensures c.index-2.ensures by.lower by.upper by.lower_multiplier by.upper_multiplier c.in_ok-sum.ensures.sum c.in_ok-sum.ensures.within in
    on_ok_weaker c.keep.result (λ h. sum_kept c.args.lines.now.items c.args.kept.now c.keep.new.lines.items c.keep.new.kept c.args.lower c.args.upper _ _ _ c.in-Some.new s c.in-Some.is (subst (λ (ls : List CertLine). IsNew (rows_of ls c.args.kept.now.lines.items) c.in_ok-sum.sum c.in_ok-new.field-0) c.deref.ensures.value c.in_ok-new.ensures.new) h) c.keep.ensures.kept
