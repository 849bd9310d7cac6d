-- What holds of substitution, as one statement each.
use Rattle.std.specs.Prelude.{◌≡◌, ℕ, suc, ℤ}
use Rattle.slang_values.specs.Value.{ValueType, number_type, Records, Value, number}
use Rattle.slang_values.specs.Tree.{Tree, Bounds, inside, value}
use Rattle.slang_values.specs.Typing.{NameTypes, IsTyped, IsClosed}
use Rattle.substitution.specs.Substitution.{substituted, KeepsValues}

-- What holds of t with u in place of bound variable n, where u has no loose bound variable itself.
pub record IsSubstitution {A : Type 0} (n : ℕ) (u t : Tree A) : Type 0 where
  pub keeps_values : KeepsValues n u t (substituted n u t)
  -- u is a number, as a bound variable is
  pub keeps_type : (records : Records) (types : NameTypes A) (s : ValueType) →
      IsTyped records types u number_type → IsTyped records types t s → IsTyped records types (substituted n u t) s
  -- where n is the greatest loose bound variable, only lesser ones are left
  pub closes : IsClosed (suc n) t → IsClosed n (substituted n u t)
  -- what does not have the variable stays as it is
  pub leaves : IsClosed n t → substituted n u t ≡ t

-- The body of a quantifier, at one number of its range: u in place of its variable means the body where the variable has the value of u.
abbrev pub IsInstance : {A : Type 0} → Tree A → Tree A → Type 0
IsInstance {A} u body =
    (records : Records) (names : A → Value) (e : Bounds) (k : ℤ) → IsClosed 1 body → value records names e u ≡ number k →
    value records names e (substituted 0 u body) ≡ value records names (inside k e) body

pub record SubstitutionLaws (A : Type 0) : Type 0 where
  pub substitution : (n : ℕ) (u t : Tree A) → IsClosed 0 u → IsSubstitution n u t
  pub instances : (u body : Tree A) → IsClosed 0 u → IsInstance u body
