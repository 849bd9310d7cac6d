use Rattle.std.proofs.Common.{Some, ap, sym, subst}
use Rattle.std.proofs.lemmas.Result.{IfOk-weaker}
use Rattle.lk_programs.specs.Program.{code_tree}
use Rattle.typed_names.specs.Nodes.{IsMade}
use Rattle.call_making.specs.Codes.{numbered_code}
use Rattle.call_making.proofs.assigning.assigned.Goals as goal

pub returns-in-None-clause-made : goal.returns-in-None-clause-made
returns-in-None-clause-made c =
    IfOk-weaker c.set_to.result _ _ (λ code made at x fits has is_target.
    subst (λ it. IsMade c.args.nodes.now c.set_to.new.nodes (code_tree code) (numbered_code c.args.numbers it))
    (sym (c.in-None.ensures at fits c.args.place x)) (made at x fits has is_target)) c.set_to.ensures.made

pub returns-in-Some-clause-made : goal.returns-in-Some-clause-made
returns-in-Some-clause-made c =
    IfOk-weaker c.called.result _ _ (λ code made at x fits has is_target.
    subst (λ it. IsMade c.args.nodes.now c.called.new.nodes (code_tree code) (numbered_code c.args.numbers it))
    (sym (c.in-Some.ensures at fits c.args.place x)) (made at (Some x) fits has (ap Some is_target))) c.called.ensures.made
