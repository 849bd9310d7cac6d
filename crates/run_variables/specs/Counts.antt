-- How many variables of each kind there are.
use Rattle.std.specs.Prelude.{◌≡◌, length}
use Rattle.expression_values.specs.declared.environment.Env.{Env}

-- each global has an entry value
pub record HasEntries (env : Env) : Type 0 where
  pub entries : length env.entry ≡ length env.globals

pub record SameCounts (old new : Env) : Type 0 where
  pub locals : length new.locals ≡ length old.locals
  pub globals : length new.globals ≡ length old.globals
  pub entry : length new.entry ≡ length old.entry
