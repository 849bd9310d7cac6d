use Rattle.validity.proofs.Binds.{value-bind, IsClosed-bind, IsTyped-bind, bind-bind, bind-name}
use Rattle.slang_values.specs.Tree.{name}
use Rattle.validity.proofs.laws.trees_in_place_of_names.Goals as goal

pub returns : goal.returns
returns g c = record {
  binding = λ f closed. record {
    value = λ records names e t. value-bind records names f closed t e;
    closed = λ n t h. IsClosed-bind f closed t n h;
  };
  typed = λ records types new_types f fit t s h. IsTyped-bind records types new_types f fit t s h;
  twice = λ f g t. bind-bind f g t;
  names_stay = λ t. bind-name t;
  renamed = λ records names f e t. value-bind records names (λ a. name (f a)) (λ a. tt) t e;
}
