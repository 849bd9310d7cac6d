use Rattle.token_printing.proofs.Bytes.{blanks_more}
use Rattle.token_printing.proofs.gaps.add_blanks.Goals as goal

pub loop-level-preserved : goal.loop-level-preserved
loop-level-preserved c =
    blanks_more c.args.text.now.items c.loop-level.text.items c.add_text.new.text.items c.loop-level.level c.loop-level.invariant c.in_ok-add_text.ensures
