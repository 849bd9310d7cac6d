use Rattle.std.proofs.lemmas.Result.{on_ok_weaker}
use Rattle.token_printing.specs.Gaps.{gap_seen}
use Rattle.declaration_printing.proofs.Forms.{import_added, no_import_added}
use Rattle.declaration_printing.proofs.declarations.add_import.Goals as goal

pub returns-in-None : goal.returns-in-None
returns-in-None c =
    on_ok_weaker c.add_text.result
    (λ h. no_import_added (gap_seen c.args.gap) c.args.path.now c.in-None.ensures.cases c.in_ok-add_word.ensures h) c.add_text.ensures

pub returns-in_ok-add_name-in-Some : goal.returns-in_ok-add_name-in-Some
returns-in_ok-add_name-in-Some c =
    on_ok_weaker c.add_path_behind.result
    (λ h. import_added (gap_seen c.args.gap) c.args.path.now _ _ c.in-Some.ensures.cases.0 c.in_ok-add_word.ensures c.in_ok-add_name-in-Some.ensures h)
    c.add_path_behind.ensures
