-- What holds of paths into code, as one statement each.
use Rattle.std.specs.Prelude.{◌≡◌, ℕ, suc, List, [], ◌∷◌, ◌++◌, Some, None}
use Rattle.program_trees.specs.Programs.{CodeTree, CodeTrees, no_code, code_then, renamed_codes}
use Rattle.program_trees.specs.Variables.{Variable}
use Rattle.code_paths.specs.declared.inside.Inside.{Inside}
use Rattle.code_paths.specs.Places.{nth_statement, from_statement, inner_block, block_in}

-- A block from a statement on begins with it.
abbrev pub StatementsBegin : Type 0
StatementsBegin =
    (codes : CodeTrees Variable) (n : ℕ) (code : CodeTree Variable) → nth_statement codes n ≡ Some code
    → from_statement codes n ≡ code_then code (from_statement codes (suc n))

-- Where there is no statement, none is left.
abbrev pub StatementsEnd : Type 0
StatementsEnd = (codes : CodeTrees Variable) (n : ℕ) → nth_statement codes n ≡ None → from_statement codes n ≡ no_code

-- A path with one more step leads inside the block at its end.
abbrev pub PathsGoOn : Type 0
PathsGoOn =
    (codes : CodeTrees Variable) (path : List Inside) (inside : Inside)
    → block_in codes (path ++ inside ∷ []) ≡ inner_block (block_in codes path) inside.statement inside.otherwise

-- With other variables, the blocks are the same ones with other variables.
abbrev pub PathsKeepVariables : Type 0
PathsKeepVariables = (f : ℕ → Variable) (codes : CodeTrees ℕ) (path : List Inside) → block_in (renamed_codes f codes) path ≡ renamed_codes f (block_in codes path)

abbrev pub StatementsKeepVariables : Type 0
StatementsKeepVariables = (f : ℕ → Variable) (codes : CodeTrees ℕ) (n : ℕ) → from_statement (renamed_codes f codes) n ≡ renamed_codes f (from_statement codes n)
