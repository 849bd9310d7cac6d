-- The statements of a block by their numbers.
use Rattle.std.proofs.Common.{◌≡◌, ℕ, zero, suc, ◌<◌, Bool, List, [], ◌∷◌, length, get_or, Option, Some, None, refl, sym, ap, ◌∙◌}
use Rattle.std.specs.Prelude.{slice_get}
use Rattle.std.proofs.Math.Seq.{drop-cons}
use Rattle.program_trees.specs.Programs.{CodeTree, CodeTrees, no_code, code_then}
use Rattle.lk_programs.specs.declared.program.Code.{Code}
use Rattle.lk_programs.specs.Program.{code_tree, code_trees}
use Rattle.code_paths.specs.Places.{nth_statement, part_of, part_where, inner_block}

some_inj : {A : Type 0} {x y : A} → Some x ≡ Some y → x ≡ y
some_inj e = cc

pub statement_there : (codes : List Code) (n : ℕ) (code : Code) → slice_get codes n ≡ Some code → nth_statement (code_trees codes) n ≡ Some (code_tree code)
statement_there [] n code h = absurd (cc)
statement_there (first ∷ codes) zero code h = ap (λ (c : Code). Some (code_tree c)) (some_inj h)
statement_there (first ∷ codes) (suc n) code h = statement_there codes n code h

pub statement_missing : (codes : List Code) (n : ℕ) → slice_get codes n ≡ None → nth_statement (code_trees codes) n ≡ None
statement_missing [] n h = refl
statement_missing (first ∷ codes) zero h = absurd (cc)
statement_missing (first ∷ codes) (suc n) h = statement_missing codes n h

pub block_there : (codes : List Code) (n : ℕ) (code : Code) (otherwise : Bool) → slice_get codes n ≡ Some code
    → inner_block (code_trees codes) n otherwise ≡ part_of (code_tree code) otherwise
block_there codes n code otherwise h = ap (λ (c : Option (CodeTree ℕ)). part_where c otherwise) (statement_there codes n code h)

pub block_missing : (codes : List Code) (n : ℕ) (otherwise : Bool) → slice_get codes n ≡ None → inner_block (code_trees codes) n otherwise ≡ no_code
block_missing codes n otherwise h = ap (λ (c : Option (CodeTree ℕ)). part_where c otherwise) (statement_missing codes n h)

-- what stands at a place of a list, whatever would stand past its end
pub same_past : {A : Type 0} (xs : List A) (i : ℕ) (d e : A) → i < length xs → get_or xs i d ≡ get_or xs i e
same_past xs i d e within = heads (sym (drop-cons xs i d within) ∙ drop-cons xs i e within)
  where
    heads : {B : Type 0} {x y : B} {ys zs : List B} → x ∷ ys ≡ y ∷ zs → x ≡ y
    heads h = cc
