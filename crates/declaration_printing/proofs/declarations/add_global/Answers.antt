use Rattle.std.proofs.lemmas.Result.{on_ok_weaker}
use Rattle.slang_tree.specs.DeclTree.{global_decl_tree}
use Rattle.token_printing.specs.Gaps.{gap_seen}
use Rattle.declaration_printing.proofs.Forms.{global_added}
use Rattle.declaration_printing.proofs.declarations.add_global.Goals as goal

pub returns : goal.returns
returns c =
    on_ok_weaker c.add_const.result
    (λ h. global_added (gap_seen c.args.gap) (global_decl_tree c.args.decl.now) c.in_ok-add_declared.ensures h) c.add_const.ensures
