-- An evaluation that stops at a failure stops at the first.
use Rattle.std.proofs.Common.{◌≡◌, ℕ, Bool, true, false, not, if◌then◌else◌, Option, Some, None, refl, sym, subst}
use Rattle.slang_values.specs.Value.{Records}
use Rattle.program_trees.specs.declared.answer.Kind.TheVariants as kinds
use Rattle.program_trees.specs.Operators.{right_evaluated}
use Rattle.program_trees.specs.Programs.{TypedExpr, number, truth, variable, unary, binary, read, update, listed, TypedExprs, no_exprs, expr_then, claim_of}
use Rattle.program_trees.specs.Variables.{Variable}
use Rattle.run_rules.specs.Values.{Values, is_true}
use Rattle.run_rules.specs.Evaluation.{Failure, first_of, fails_where, is_evaluated, is_by_zero, is_in_range, failing, failing_part}
use Rattle.run_stops.specs.ExpressionStops.{Stop, failed, wide, first_stop, then_made, makes_wide, stopping, stopping_part}
use Rattle.run_stops.specs.Laws.{Agrees}

agree_then : (a b : Option Stop) (f g : Option Failure) → Agrees a f → Agrees b g → Agrees (first_stop a b) (first_of f g)
agree_then None b f g h k = subst (λ f. Agrees b (first_of f g)) (sym h) k
agree_then (Some (failed x)) b f g h k = subst (λ f. first_of f g ≡ Some x) (sym h) refl
agree_then (Some (wide n)) b f g h k = tt

-- Behind the parts there is no failure.
agree_last : (a b : Option Stop) (f : Option Failure) → Agrees a f → Agrees b None → Agrees (first_stop a b) f
agree_last None b f h k = subst (Agrees b) (sym h) k
agree_last (Some (failed x)) b f h k = h
agree_last (Some (wide n)) b f h k = tt

agree_made : (f : Option Failure) (is_wide : Bool) (node : ℕ) → Agrees (then_made f is_wide node) f
agree_made (Some x) is_wide node = refl
agree_made None true node = tt
agree_made None false node = refl

agree_where : (evaluated : Bool) (a : Option Stop) (f : Option Failure) → Agrees a f
    → Agrees (if evaluated then a else None) (if evaluated then f else None)
agree_where true a f h = h
agree_where false a f h = refl

module _ (records : Records) (values : Values) where
  mutual
    pub failures_agree : (expr : TypedExpr Variable) → Agrees (stopping records values expr) (failing records values expr)
    failures_agree (number node z) = agree_made None (makes_wide records values (number node z)) node
    failures_agree (truth node b) = agree_made None (makes_wide records values (truth node b)) node
    failures_agree (variable node x) = agree_made None (makes_wide records values (variable node x)) node
    failures_agree (unary node op operand) =
        agree_last (stopping records values operand) (then_made None (makes_wide records values (unary node op operand)) node)
        (failing records values operand) (failures_agree operand) (agree_made None (makes_wide records values (unary node op operand)) node)
    failures_agree (binary node operator left right) =
        let evaluated = is_evaluated (right_evaluated operator) (is_true records values (claim_of left)) in
        let by_zero = fails_where (is_by_zero records values operator right) kinds.Division node in
        let made = then_made by_zero (makes_wide records values (binary node operator left right)) node in
        let stop = if evaluated then stopping records values right else None in
        let failure = if evaluated then failing records values right else None in
        agree_then (stopping records values left) (first_stop stop made) (failing records values left) (first_of failure by_zero) (failures_agree left)
        (agree_then stop made failure by_zero (agree_where evaluated (stopping records values right) (failing records values right) (failures_agree right))
        (agree_made by_zero (makes_wide records values (binary node operator left right)) node))
    failures_agree (read node head index) =
        let outside = fails_where (not (is_in_range records values head index)) kinds.Index node in
        let made = then_made outside (makes_wide records values (read node head index)) node in
        agree_then (stopping records values head) (first_stop (stopping records values index) made)
        (failing records values head) (first_of (failing records values index) outside) (failures_agree head)
        (agree_then (stopping records values index) made (failing records values index) outside (failures_agree index)
        (agree_made outside (makes_wide records values (read node head index)) node))
    failures_agree (update node head index element) =
        let outside = fails_where (not (is_in_range records values head index)) kinds.Index node in
        let made = then_made outside (makes_wide records values (update node head index element)) node in
        agree_then (stopping records values head) (first_stop (stopping records values index) (first_stop (stopping records values element) made))
        (failing records values head) (first_of (failing records values index) (first_of (failing records values element) outside)) (failures_agree head)
        (agree_then (stopping records values index) (first_stop (stopping records values element) made)
        (failing records values index) (first_of (failing records values element) outside) (failures_agree index)
        (agree_then (stopping records values element) made (failing records values element) outside (failures_agree element)
        (agree_made outside (makes_wide records values (update node head index element)) node)))
    failures_agree (listed node front parts) =
        agree_last (stopping_part records values parts) (then_made None (makes_wide records values (listed node front parts)) node)
        (failing_part records values parts) (parts_agree parts) (agree_made None (makes_wide records values (listed node front parts)) node)

    parts_agree : (exprs : TypedExprs Variable) → Agrees (stopping_part records values exprs) (failing_part records values exprs)
    parts_agree no_exprs = refl
    parts_agree (expr_then expr exprs) =
        agree_then (stopping records values expr) (stopping_part records values exprs)
        (failing records values expr) (failing_part records values exprs) (failures_agree expr) (parts_agree exprs)
