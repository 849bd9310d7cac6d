-- How deep statements are nested.
use Rattle.std.specs.Prelude.{ℕ, max, List, [], ◌∷◌}
use Rattle.lk_programs.specs.declared.program.Code.{Code, size-Code}

-- the depth of the deepest of the statements
abbrev pub deepest : List Code → ℕ
deepest [] = 0
deepest (code ∷ codes) = max (size-Code code) (deepest codes)
