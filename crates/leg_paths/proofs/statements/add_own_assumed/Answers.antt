use Rattle.std.proofs.Common.{◌++◌, ap, ◌∙◌}
use Rattle.std.proofs.lemmas.Result.{on_ok_weaker}
use Rattle.leg_items.specs.Drafts.{items_of}
use Rattle.leg_paths.proofs.Forms.{own_assumed}
use Rattle.leg_paths.proofs.statements.add_own_assumed.Goals as goal

pub returns : goal.returns
returns c = on_ok_weaker c.add_assumed.result (λ h. h ∙ ap (λ l. items_of c.args.out.now ++ l) (own_assumed c.args.scope c.args.claims.now)) c.add_assumed.ensures
