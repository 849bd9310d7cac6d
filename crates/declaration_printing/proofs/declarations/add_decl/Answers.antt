use Rattle.std.proofs.Common.{ap}
use Rattle.std.proofs.lemmas.Result.{on_ok_weaker}
use Rattle.slang_tree.specs.DeclTree.{decl_tree}
use Rattle.token_printing.specs.Gaps.{gap_seen}
use Rattle.declaration_printing.proofs.Forms.{adds_decl, import_shown}
use Rattle.declaration_printing.proofs.declarations.add_decl.Goals as goal

pub returns-in-Import : goal.returns-in-Import
returns-in-Import c =
    on_ok_weaker c.add_import.result
    (λ h. adds_decl c.args.light (gap_seen c.args.gap) (decl_tree c.args.decl.now) _ (ap decl_tree c.in-Import.is)
    (import_shown (gap_seen c.args.gap) c.in-Import.path _ c.as_slice.ensures h)) c.add_import.ensures

pub returns-in-Global : goal.returns-in-Global
returns-in-Global c =
    on_ok_weaker c.add_global.result (λ h. adds_decl c.args.light (gap_seen c.args.gap) (decl_tree c.args.decl.now) _ (ap decl_tree c.in-Global.is) h) c.add_global.ensures

pub returns-in-Record : goal.returns-in-Record
returns-in-Record c =
    on_ok_weaker c.add_record.result (λ h. adds_decl c.args.light (gap_seen c.args.gap) (decl_tree c.args.decl.now) _ (ap decl_tree c.in-Record.is) h) c.add_record.ensures

pub returns-in-Method : goal.returns-in-Method
returns-in-Method c =
    on_ok_weaker c.add_method.result (λ h. adds_decl c.args.light (gap_seen c.args.gap) (decl_tree c.args.decl.now) _ (ap decl_tree c.in-Method.is) h) c.add_method.ensures
