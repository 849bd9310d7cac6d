use Rattle.std.proofs.lemmas.Result.{on_ok_weaker}
use Rattle.slang_tree.specs.TypeTree.{type_tree}
use Rattle.token_printing.specs.Gaps.{gap_seen}
use Rattle.declaration_printing.proofs.Lists.{named_added}
use Rattle.declaration_printing.proofs.methods.add_with_type.Goals as goal

pub returns : goal.returns
returns c =
    on_ok_weaker c.add_type.result
    (λ h. named_added (gap_seen c.args.gap) c.args.name.now (type_tree c.args.ty.now) c.in_ok-add_name.ensures c.in_ok-add_text.ensures h) c.add_type.ensures
