use Rattle.std.proofs.Common.{◌≡◌, true, refl, sym, ap, ◌∙◌, nat_eq, nat_le}
use Rattle.slang_grammar.specs.declared.operator.Side.TheVariants.{Left, Right}
use Rattle.slang_grammar.specs.Operators.{prefix_level, whole_level}
use Rattle.slang_grammar.specs.Expressions.{level}
use Rattle.print_expressions.specs.Hefts.{one, around, followed, binary_heft, heft, stays}
use Rattle.print_expressions.specs.Accounts.{is_operand, as_operand, left_stays, left_operand, right_stays, right_operand, head_stays, first_stays}
use Rattle.expression_standing.specs.Hefts.{IsCapped}
use Rattle.expression_standing.proofs.Lighter.{stays_is, placed_is}
use Rattle.expression_standing.proofs.hefts.left_stays.Goals as goal

pub returns : goal.returns
unfolding left_stays
returns c = λ row l r ml mr cl cr.
    let next = heft (as_operand Right row r) in
    let n : IsCapped c.placed-next.result next = placed_is c.placed-next.result c.args.may_right (is_operand Right row r) r mr (c.placed-next.ensures r cr) in
    c.stays.ensures
    ∙ stays_is c.args.may_left (is_operand Left row l) c.between.result c.between-2.result (binary_heft (heft l) next) (binary_heft (around (heft l).peak) next) ml
    (c.between.ensures (heft l) next cl n) (c.between-2.ensures (around (heft l).peak) next (c.around.ensures (heft l).peak cl.peak) n)
