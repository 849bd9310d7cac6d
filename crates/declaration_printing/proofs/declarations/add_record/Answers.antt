use Rattle.std.proofs.lemmas.Result.{on_ok_weaker}
use Rattle.slang_tree.specs.DeclTree.{field_tree, record_decl_tree}
use Rattle.token_printing.specs.Gaps.{gap_seen}
use Rattle.declaration_printing.proofs.Lists.{params_shown}
use Rattle.declaration_printing.proofs.Forms.{record_added}
use Rattle.declaration_printing.proofs.declarations.add_record.Goals as goal

pub returns : goal.returns
returns c =
    on_ok_weaker c.add_text-3.result
    (λ h. record_added (gap_seen c.args.gap) (record_decl_tree c.args.decl.now) c.in_ok-add_word.ensures c.in_ok-add_text.ensures c.in_ok-add_word-2.ensures
    c.in_ok-add_name.ensures c.in_ok-add_text-2.ensures (params_shown field_tree c.args.decl.now.fields _ c.as_slice.ensures c.in_ok-add_fields.ensures) h)
    c.add_text-3.ensures
