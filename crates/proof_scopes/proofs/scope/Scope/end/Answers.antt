use Rattle.std.proofs.Common.{[], ◌∷◌, ◌++◌, refl, ap, ◌∙◌}
use Rattle.proof_scopes.proofs.Scopes.{scope_after_let, scope_after_block}
use Rattle.proof_scopes.proofs.scope.Scope.end.Goals as goal

pub returns-in_ok-insert : goal.returns-in_ok-insert
returns-in_ok-insert c =
    scope_after_let c.args.self.now (record { visible = c.push.new.self; used = c.args.self.now.used; ended = c.insert.new.self }) c.args.outside
    c.args.symbol c.in-Some.symbol c.args.block c.in-Some.is
    (c.in_ok-push.ensures.items ∙ ap (λ v. v ++ c.args.block ∷ []) c.truncate.ensures.items) refl c.in_ok-insert.ensures.updates

pub returns-in_default : goal.returns-in_default
returns-in_default c =
    scope_after_block c.args.self.now (record { visible = c.push.new.self; used = c.args.self.now.used; ended = c.args.self.now.ended }) c.args.outside
    c.args.symbol c.args.block c.in_default.not-Some
    (c.in_ok-push.ensures.items ∙ ap (λ v. v ++ c.args.block ∷ []) c.truncate.ensures.items) refl refl
