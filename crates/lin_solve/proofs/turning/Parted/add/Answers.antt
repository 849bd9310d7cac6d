use Rattle.std.proofs.Common.{ℤ, pos, int_lt, FitsSigned, to_z-of_z, unsigned_abs, refl, ap, sym, ◌∙◌, rules}
use Rattle.std.specs.Int.{w128}
use Rattle.lin_rows.specs.Inequality.{Inequality}
use Rattle.lin_rows.specs.Sum.{coefficient}
use Rattle.lin_rows.proofs.SizeLemmas.{not_zero}
use Rattle.lin_solve.proofs.LineLemmas.{row_of-got}
use Rattle.lin_solve.proofs.SideLemmas.{parted-without, parted-lower, parted-upper, side_of, zero_from, below_from, above_from}
use Rattle.lin_solve.proofs.turning.Parted.add.Goals as goal

pub returns-then-times-eq0-clause-parted : goal.returns-then-times-eq0-clause-parted
returns-then-times-eq0-clause-parted c =
    let lines = c.args.lines.now in
    let k = c.args.line in
    let f : FitsSigned w128 c.coefficient-times.result = search rules in
    let at = row_of-got lines k c.index-lines-line.result c.requires.here in
    let zero = ap (λ (r : Inequality). coefficient r.parts c.args.variable) at ∙ sym c.coefficient-times.ensures.value ∙ zero_from c.coefficient-times.result f c.if-times-eq0.true in
    λ rows p. parted-without lines rows c.args.variable c.args.self.now _ k zero c.requires.room c.requires.here c.in_ok-push.ensures.items refl refl p

pub returns-in_ok-push-2-clause-parted : goal.returns-in_ok-push-2-clause-parted
returns-in_ok-push-2-clause-parted c = λ rows p.
    let lines = c.args.lines.now in
    let k = c.args.line in
    let z = c.coefficient-times.result in
    let f : FitsSigned w128 c.coefficient-times.result = search rules in
    let at = row_of-got lines k c.index-lines-line.result c.requires.here in
    let side = side_of lines k c.args.variable c.unsigned_abs.result z _ c.requires.within c.requires.here at c.coefficient-times.ensures.value (not_zero z c.if-times-eq0.false) c.coefficient-times.ensures.small (c.unsigned_abs.ensures.value ∙ ap unsigned_abs (to_z-of_z f)) in
    let same = ap (λ (r : Inequality). coefficient r.parts c.args.variable) at ∙ sym c.coefficient-times.ensures.value in
    parted-lower lines rows c.args.variable c.args.self.now _ _ side (ap (λ (y : ℤ). int_lt y (pos 0)) same ∙ below_from z f c.if-times-lt0.true) refl c.in_ok-push-2.ensures.items refl p

pub returns-in_ok-push-3-clause-parted : goal.returns-in_ok-push-3-clause-parted
returns-in_ok-push-3-clause-parted c = λ rows p.
    let lines = c.args.lines.now in
    let k = c.args.line in
    let z = c.coefficient-times.result in
    let f : FitsSigned w128 c.coefficient-times.result = search rules in
    let at = row_of-got lines k c.index-lines-line.result c.requires.here in
    let side = side_of lines k c.args.variable c.unsigned_abs.result z _ c.requires.within c.requires.here at c.coefficient-times.ensures.value (not_zero z c.if-times-eq0.false) c.coefficient-times.ensures.small (c.unsigned_abs.ensures.value ∙ ap unsigned_abs (to_z-of_z f)) in
    let same = ap (λ (r : Inequality). coefficient r.parts c.args.variable) at ∙ sym c.coefficient-times.ensures.value in
    parted-upper lines rows c.args.variable c.args.self.now _ _ side (ap (λ (y : ℤ). int_lt (pos 0) y) same ∙ above_from z f (not_zero z c.if-times-eq0.false) c.if-times-lt0.false) refl refl c.in_ok-push-3.ensures.items p
