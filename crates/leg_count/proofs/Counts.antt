-- Counts up to the greatest number.
use Rattle.std.proofs.Common.{◌≡◌, ℕ, ◌+◌, ◌<◌, List, [], ◌∷◌, map, length, get_or, drop, drop-cons, suc, refl, ap, ap₂, sym, ◌∙◌, arith}
use Rattle.program_trees.specs.Programs.{CodeTree, CodeTrees, code_then, set, give, assert, deduce, branch, loop, call, no_code, renamed_code, renamed_codes}
use Rattle.lk_programs.specs.declared.program.Code.{Code}
use Rattle.lk_programs.specs.Program.{code_tree, code_trees, codes_of}
use Rattle.leg_rules.specs.Legs.{leg_count_of, leg_count_of_code}
use Rattle.leg_count.specs.Capped.{capped}

-- one statement more in front
pub codes_from : (codes : List Code) (k : ℕ) (d : Code) → k < length codes → code_trees (drop k codes) ≡ code_then (code_tree (get_or codes k d)) (code_trees (drop (suc k) codes))
codes_from codes k d h = ap code_trees (drop-cons codes k d h)

pub capped-sum : (a b m n : ℕ) → a ≡ capped m → b ≡ capped n → capped (a + b) ≡ capped (m + n)
capped-sum a b m n e f = omega (arith, e, f)

-- Other variables make no other legs.
mutual
  pub count-renamed : {A B : Type 0} (f : A → B) (code : CodeTree A) (n : ℕ) → leg_count_of (renamed_code f code) n ≡ leg_count_of code n
  count-renamed f (set node target value) n = refl
  count-renamed f (give node value) n = refl
  count-renamed f (assert noted) n = refl
  count-renamed f (deduce node steps) n = refl
  count-renamed f (branch node test a b) n = ap₂ (λ x y. x + y) (counts-renamed f a n) (counts-renamed f b n)
  count-renamed f (loop node test modifies invariants body) n = ap (λ x. x + n) (counts-renamed f body 1)
  count-renamed f (call node target name method arguments) n = refl

  pub counts-renamed : {A B : Type 0} (f : A → B) (codes : CodeTrees A) (n : ℕ) → leg_count_of_code (renamed_codes f codes) n ≡ leg_count_of_code codes n
  counts-renamed f no_code n = refl
  counts-renamed f (code_then code codes) n =
      count-renamed f code (leg_count_of_code (renamed_codes f codes) n) ∙ ap (leg_count_of code) (counts-renamed f codes n)
