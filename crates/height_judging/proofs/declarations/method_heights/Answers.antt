use Rattle.std.proofs.Common.{◌∙◌, ap, map}
use Rattle.std.specs.Option.{option_map}
use Rattle.slang_tree.specs.ExprTree.{expr_tree}
use Rattle.slang_tree.specs.StmtTree.{stmt_tree, stmts_of}
use Rattle.slang_tree.specs.DeclTree.{return_tree}
use Rattle.type_faults.specs.FirstFault.{with_first}
use Rattle.height_rules.specs.Faults.{claims_too_high, stmts_too_high}
use Rattle.height_judging.proofs.Told.{method_told}
use Rattle.height_judging.proofs.declarations.method_heights.Goals as goal

pub returns : goal.returns
returns c =
    let method = c.args.method.now in
    method_told c.args.told.now.found c.claim_heights.new.told.found c.claim_heights-2.new.told.found c.statement_heights.new.told.found
    c.return_height.new.told.found (map expr_tree method.requires_) (map expr_tree method.ensures_) (stmts_of (map stmt_tree method.body))
    (option_map return_tree method.returned)
    (c.claim_heights.ensures ∙ ap (λ cs. with_first c.args.told.now.found (claims_too_high (map expr_tree cs))) c.as_slice.ensures)
    (c.claim_heights-2.ensures ∙ ap (λ cs. with_first c.claim_heights.new.told.found (claims_too_high (map expr_tree cs))) c.as_slice-2.ensures)
    (c.statement_heights.ensures ∙ ap (λ ss. with_first c.claim_heights-2.new.told.found (stmts_too_high (stmts_of (map stmt_tree ss)))) c.as_slice-3.ensures)
    c.return_height.ensures
