use Rattle.std.proofs.Common.{◌≡◌, Some}
use Rattle.validity.proofs.Binds.{value-same_names, bind-same_names, EachName-typed}
use Rattle.validity.proofs.laws.names_of_trees.Goals as goal

pub returns : goal.returns
returns g c = record {
  value = λ records names others e t h. value-same_names records names others t e h;
  bind = λ f g t h. bind-same_names f g t h;
  typed = λ records types t s h. EachName-typed records types (λ a. (u : _) × (types a ≡ Some u)) (λ a u e. (u, e)) t s h;
}
