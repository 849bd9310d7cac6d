use Rattle.std.proofs.lemmas.Result.{on_ok_weaker}
use Rattle.slang_tree.specs.DeclTree.{param_tree, method_decl_tree}
use Rattle.token_printing.specs.Gaps.{gap_seen}
use Rattle.declaration_printing.proofs.Lists.{params_shown}
use Rattle.declaration_printing.proofs.Forms.{body_shown, method_added}
use Rattle.declaration_printing.proofs.methods.add_method.Goals as goal

pub returns : goal.returns
returns c =
    on_ok_weaker c.add_word-4.result
    (λ h. method_added c.args.light (gap_seen c.args.gap) (method_decl_tree c.args.decl.now) c.in_ok-add_word.ensures c.in_ok-add_name.ensures c.in_ok-add_text.ensures
    (params_shown param_tree c.args.decl.now.params _ c.as_slice.ensures c.in_ok-add_params.ensures) c.in_ok-add_text-2.ensures c.in_ok-add_text-3.ensures
    c.in_ok-add_type.ensures c.in_ok-add_word-2.ensures c.in_ok-add_word-3.ensures c.in_ok-add_contract.ensures
    (body_shown c.args.light c.args.decl.now.body _ c.as_slice-2.ensures c.in_ok-add_body.ensures) c.in_ok-add_return.ensures h) c.add_word-4.ensures
