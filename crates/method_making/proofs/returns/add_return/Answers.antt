use Rattle.std.proofs.Common.{◌∙◌, ap, sym}
use Rattle.std.specs.Option.{option_map}
use Rattle.std.proofs.lemmas.Result.{IfOk-weaker}
use Rattle.lk_programs.specs.Program.{code_tree, code_trees}
use Rattle.method_making.specs.Methods.{with_code}
use Rattle.method_making.proofs.Inside.{none_behind, one_behind}
use Rattle.method_making.proofs.returns.add_return.Goals as goal

pub returns-in-None : goal.returns-in-None
returns-in-None c =
    none_behind c.args.codes.now ∙ ap (λ r. with_code (code_trees c.args.codes.now) (option_map code_tree r)) (sym c.in-None.is)

pub returns-in-Some : goal.returns-in-Some
returns-in-Some c =
    IfOk-weaker c.push.result _ _
    (λ _ added.
    ap code_trees added ∙ one_behind c.args.codes.now c.in-Some.code
    ∙ ap (λ r. with_code (code_trees c.args.codes.now) (option_map code_tree r)) (sym c.in-Some.is))
    c.push.ensures.ok
