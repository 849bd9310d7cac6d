use Rattle.std.proofs.Common.{ap, refl}
use Rattle.name_maps.specs.Names.{is_named}
use Rattle.declarations_before.proofs.before.Before.nothing.Goals as goal

pub returns : goal.returns
returns c = record {
  names = λ text. ap (λ table. is_named table text) c.new.ensures;
  counts = record { records = refl; methods = refl };
}
