use Rattle.substitution.proofs.Substitutions.{IsTyped-substituted, IsClosed-substituted, substituted-closed, IsInstance-closed}
use Rattle.substitution.proofs.SubstitutionKeepsValues.{value-substituted}
use Rattle.substitution.proofs.laws.substitution.Goals as goal

pub returns : goal.returns
returns g c = record {
  substitution = λ n u t closed. record {
    keeps_values = λ records names e k h. value-substituted records names u k closed t n e h;
    keeps_type = λ records types s typed h. IsTyped-substituted records types u typed t n s h;
    closes = λ h. IsClosed-substituted u t n closed h;
    leaves = λ h. substituted-closed u t n h;
  };
  instances = λ u body closed. IsInstance-closed u body closed;
}
