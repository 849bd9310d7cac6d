-- What `measure` tells.
use Rattle.std.specs.Prelude.{◌≡◌, ℕ, ◌-◌, ◌^◌, min}
use Rattle.term_walks.specs.declared.measuring.TermSize.{TermSize}

-- the count of nodes and the height, each up to the greatest u64
pub record IsMeasureOf (nodes height : ℕ) (m : TermSize) : Type 0 where
  pub nodes_told : m.nodes ≡ min nodes (2 ^ 64 - 1)
  pub height_told : m.height ≡ min height (2 ^ 64 - 1)
