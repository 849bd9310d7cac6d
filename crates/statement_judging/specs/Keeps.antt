-- What stays in scope.
use Rattle.std.specs.Prelude.{◌≡◌, ℕ, take, length}
use Rattle.name_scopes.specs.declared.scope.NameScope.{NameScope}

-- All that was in scope is so still, and more may stand behind it.
pub record Keeps (old new : NameScope) : Type 0 where
  pub names : take (length old.names) new.names ≡ old.names
  pub covered : take (length old.covered) new.covered ≡ old.covered
  pub outside : new.outside ≡ old.outside

-- What is in scope is what was before, and nothing more.
pub record Restores (old new : NameScope) : Type 0 where
  pub names : new.names ≡ old.names
  pub covered : new.covered ≡ old.covered
  pub outside : new.outside ≡ old.outside

-- behind a loop, before which there was so much of it, and so many names
abbrev pub after_loop : ℕ → (before known : NameScope) → NameScope
after_loop names before known = record known { names = take names known.names; covered = before.covered; outside = before.outside }
