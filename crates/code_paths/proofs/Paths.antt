-- Paths into code.
use Rattle.std.proofs.Common.{◌≡◌, ℕ, zero, suc, ◌+◌, ◌<◌, Bool, true, false, List, [], ◌∷◌, ◌++◌, length, get_or, drop, Option, Some, None, refl, sym, ap, ◌∙◌}
use Rattle.std.proofs.Math.Numerals.{add-one}
use Rattle.std.proofs.Math.Seq.{drop-cons}
use Rattle.program_trees.specs.Programs.{CodeTree, set, give, assert, deduce, branch, loop, call, CodeTrees, no_code, code_then, renamed_code, renamed_codes}
use Rattle.code_paths.specs.declared.inside.Inside.{Inside}
use Rattle.code_paths.specs.Places.{nth_statement, from_statement, part_of, part_where, inner_block, block_in}

some_inj : {A : Type 0} {x y : A} → Some x ≡ Some y → x ≡ y
some_inj e = cc

pub statements_begin : {A : Type 0} (codes : CodeTrees A) (n : ℕ) (code : CodeTree A) → nth_statement codes n ≡ Some code
    → from_statement codes n ≡ code_then code (from_statement codes (suc n))
statements_begin no_code n code h = absurd (cc)
statements_begin {A} (code_then first codes) zero code h = ap (λ (c : CodeTree A). code_then c codes) (some_inj h)
statements_begin (code_then first codes) (suc n) code h = statements_begin codes n code h

pub statements_end : {A : Type 0} (codes : CodeTrees A) (n : ℕ) → nth_statement codes n ≡ None → from_statement codes n ≡ no_code
statements_end no_code zero h = refl
statements_end no_code (suc n) h = refl
statements_end (code_then first codes) zero h = absurd (cc)
statements_end (code_then first codes) (suc n) h = statements_end codes n h

pub path_on : {A : Type 0} (codes : CodeTrees A) (path : List Inside) (inside : Inside)
    → block_in codes (path ++ inside ∷ []) ≡ inner_block (block_in codes path) inside.statement inside.otherwise
path_on codes [] inside = refl
path_on codes (first ∷ path) inside = path_on (inner_block codes first.statement first.otherwise) path inside

-- one step further along a path
pub path_next : (codes block next : CodeTrees ℕ) (path : List Inside) (i : ℕ) (inside : Inside) → i < length path → inside ≡ get_or path i inside
    → block_in codes path ≡ block_in block (drop i path) → next ≡ inner_block block inside.statement inside.otherwise
    → block_in codes path ≡ block_in next (drop (i + 1) path)
path_next codes block next path i inside within is so_far found =
    so_far ∙ ap (block_in block) (drop-cons path i inside within)
    ∙ ap (λ (y : Inside). block_in (inner_block block y.statement y.otherwise) (drop (suc i) path)) (sym is)
    ∙ ap (λ (b : CodeTrees ℕ). block_in b (drop (suc i) path)) (sym found)
    ∙ ap (λ (n : ℕ). block_in next (drop n path)) (sym (add-one i))

-- ---- other variables

module _ {A B : Type 0} (f : A → B) where
  abbrev pub renamed_option : Option (CodeTree A) → Option (CodeTree B)
  renamed_option None = None
  renamed_option (Some code) = Some (renamed_code f code)

  pub renamed_statement : (codes : CodeTrees A) (n : ℕ) → nth_statement (renamed_codes f codes) n ≡ renamed_option (nth_statement codes n)
  renamed_statement no_code n = refl
  renamed_statement (code_then code codes) zero = refl
  renamed_statement (code_then code codes) (suc n) = renamed_statement codes n

  renamed_part : (code : CodeTree A) (otherwise : Bool) → part_of (renamed_code f code) otherwise ≡ renamed_codes f (part_of code otherwise)
  renamed_part (set node target value) otherwise = refl
  renamed_part (give node value) otherwise = refl
  renamed_part (assert noted) otherwise = refl
  renamed_part (deduce node steps) otherwise = refl
  renamed_part (branch node test on_true on_false) true = refl
  renamed_part (branch node test on_true on_false) false = refl
  renamed_part (loop node test modifies invariants body) otherwise = refl
  renamed_part (call node target name_node number arguments) otherwise = refl

  renamed_where : (found : Option (CodeTree A)) (otherwise : Bool) → part_where (renamed_option found) otherwise ≡ renamed_codes f (part_where found otherwise)
  renamed_where None otherwise = refl
  renamed_where (Some code) otherwise = renamed_part code otherwise

  renamed_inner : (codes : CodeTrees A) (n : ℕ) (otherwise : Bool) → inner_block (renamed_codes f codes) n otherwise ≡ renamed_codes f (inner_block codes n otherwise)
  renamed_inner codes n otherwise =
      ap (λ (found : Option (CodeTree B)). part_where found otherwise) (renamed_statement codes n) ∙ renamed_where (nth_statement codes n) otherwise

  pub renamed_path : (codes : CodeTrees A) (path : List Inside) → block_in (renamed_codes f codes) path ≡ renamed_codes f (block_in codes path)
  renamed_path codes [] = refl
  renamed_path codes (inside ∷ path) =
      ap (λ (block : CodeTrees B). block_in block path) (renamed_inner codes inside.statement inside.otherwise)
      ∙ renamed_path (inner_block codes inside.statement inside.otherwise) path

  -- from a statement on
  pub renamed_from : (codes : CodeTrees A) (n : ℕ) → from_statement (renamed_codes f codes) n ≡ renamed_codes f (from_statement codes n)
  renamed_from codes zero = refl
  renamed_from no_code (suc n) = refl
  renamed_from (code_then code codes) (suc n) = renamed_from codes n
