use Rattle.std.proofs.Common.{◌≡◌, true, refl, sym, ap, ◌∙◌, nat_eq, nat_le}
use Rattle.slang_grammar.specs.declared.operator.Side.TheVariants.{Left, Right}
use Rattle.slang_grammar.specs.Operators.{prefix_level, whole_level}
use Rattle.slang_grammar.specs.Expressions.{level}
use Rattle.print_expressions.specs.Hefts.{one, around, followed, binary_heft, heft, stays}
use Rattle.print_expressions.specs.Accounts.{is_operand, as_operand, left_stays, left_operand, right_stays, right_operand, head_stays, first_stays}
use Rattle.expression_standing.specs.Hefts.{IsCapped}
use Rattle.expression_standing.proofs.Lighter.{stays_is, placed_is}
use Rattle.expression_standing.proofs.hefts.right_stays.Goals as goal

pub returns : goal.returns
unfolding right_stays
returns c = λ row l r ml mr cl cr.
    let own = heft (left_operand true row l r) in
    let n : IsCapped c.placed-own.result own
    = placed_is c.placed-own.result c.left_stays.result (left_stays true row l r) l (c.left_stays.ensures row l r ml mr cl cr) (c.placed-own.ensures l cl) in
    c.stays.ensures
    ∙ stays_is c.args.may_right (is_operand Right row r) c.between.result c.between-2.result (binary_heft own (heft r)) (binary_heft own (around (heft r).peak)) mr
    (c.between.ensures own (heft r) n cr) (c.between-2.ensures own (around (heft r).peak) n (c.around.ensures (heft r).peak cr.peak))
