use Rattle.std.proofs.Common.{[], ap, subst, sym}
use Rattle.std.specs.Option.{option_map}
use Rattle.name_maps.specs.Names.{named}
use Rattle.name_scopes.specs.Meanings.{meant}
use Rattle.record_judging.specs.Fields.{AreFields}
use Rattle.project_scopes.proofs.scopes.empty_scope.Goals as goal

pub returns : goal.returns
returns c =
    c.scope_over.ensures.fits [] [] (λ text. ap (λ es. option_map meant (named es text)) c.new.ensures) (subst (λ t. AreFields t []) (sym c.new-2.ensures) tt)
