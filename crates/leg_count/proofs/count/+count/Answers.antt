use Rattle.std.proofs.Common.{sym, ap, ◌∙◌}
use Rattle.lk_programs.specs.Program.{code_tree, code_trees}
use Rattle.lk_programs.proofs.Codes.{code_tree-If}
use Rattle.leg_rules.specs.Legs.{leg_count_of, leg_count_of_code}
use Rattle.leg_count.specs.Capped.{capped}
use Rattle.leg_count.proofs.Counts.{capped-sum}
use Rattle.leg_count.proofs.count.+count.Goals as goal

pub count_of-returns-in-If : goal.count_of-returns-in-If
count_of-returns-in-If t c = λ n e.
    c.saturating_add.ensures
    ∙ capped-sum c.leg_count_behind-on_true.result c.leg_count_behind.result
    (leg_count_of_code (code_trees c.in-If.then) n) (leg_count_of_code (code_trees c.in-If.otherwise) n)
    (c.leg_count_behind-on_true.ensures n e ∙ ap (λ l. capped (leg_count_of_code (code_trees l) n)) c.as_slice.ensures)
    (c.leg_count_behind.ensures n e ∙ ap (λ l. capped (leg_count_of_code (code_trees l) n)) c.as_slice-in-If.ensures)
    ∙ ap (λ u. capped (leg_count_of u n))
    (sym (ap code_tree c.in-If.is ∙ code_tree-If c.in-If.node c.in-If.test c.in-If.then c.in-If.otherwise))
