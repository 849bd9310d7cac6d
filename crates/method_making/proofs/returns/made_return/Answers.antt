use Rattle.std.proofs.Common.{None, Some, subst, sym}
use Rattle.std.specs.Option.{option_map}
use Rattle.slang_tree.specs.DeclTree.{return_tree}
use Rattle.lk_programs.specs.Program.{code_tree}
use Rattle.typed_names.specs.Nodes.{IsMade}
use Rattle.typed_names.specs.Variables.{number_in}
use Rattle.typed_names.proofs.Made.{made_map, made_plain}
use Rattle.method_making.specs.Methods.{give_in, return_in}
use Rattle.method_making.proofs.returns.made_return.Goals as goal

pub returns-in-None-clause-code : goal.returns-in-None-clause-code
returns-in-None-clause-code c = λ at fits fields.
    subst (λ r. IsMade c.args.nodes.now c.args.nodes.now None (return_in (number_in c.args.numbers) at (option_map return_tree r))) (sym c.in-None.is)
    (made_plain c.args.nodes.now None)

pub returns-in_ok-code-in-Some-clause-code : goal.returns-in_ok-code-in-Some-clause-code
returns-in_ok-code-in-Some-clause-code c = λ at fits fields.
    let f = number_in c.args.numbers in
    subst (λ r. IsMade c.args.nodes.now c.made_give.new.nodes (Some (code_tree c.in_ok-code-in-Some.code)) (return_in f at (option_map return_tree r)))
    (sym c.in-Some.is)
    (made_map c.args.nodes.now c.made_give.new.nodes Some (code_tree c.in_ok-code-in-Some.code) (give_in f at (return_tree c.in-Some.returned))
    (c.in_ok-code-in-Some.ensures.code at fits fields))
