-- How many locals there are.
use Rattle.std.proofs.Common.{◌≡◌, ℕ, ◌+◌, List, [], ◌∷◌, ◌++◌, length, length-append, refl, ap, ◌∙◌, arith}
use Rattle.slang_tree.specs.StmtTree.{StmtTree, StmtTrees, ElseTree, val, var, assignment, call, branch, loop, assertion, deduction, no_stmts, stmt_then, no_else, else_then, stmts_of}
use Rattle.type_rules.specs.Meanings.{Scope, within}
use Rattle.type_rules.specs.Statements.{behind, else_count, local_count, local_counts, past_locals, texts}
use Rattle.typed_texts.specs.Code.{locals_of_else, locals_of_tree, locals_of_trees}

-- ---- each local has its type

mutual
  pub local_counted : (at : Scope) (stmt : StmtTree) → length (locals_of_tree at stmt) ≡ local_count stmt
  local_counted at (val place written ty value) = refl
  local_counted at (var place written ty value) = refl
  local_counted at (assignment written value) = refl
  local_counted at (call written arguments) = refl
  local_counted at (branch place test on_true otherwise) =
      let rest = past_locals at (local_counts on_true) in
      length-append (locals_of_trees at on_true) (locals_of_else rest otherwise)
      ∙ ap (λ n. n + length (locals_of_else rest otherwise)) (locals_counted at on_true)
      ∙ ap (λ n. local_counts on_true + n) (else_counted rest otherwise)
  local_counted at (loop place test modifies claims body) = locals_counted (within at (texts modifies)) body
  local_counted at (assertion place claim) = refl
  local_counted at (deduction place steps) = refl

  pub locals_counted : (at : Scope) (stmts : StmtTrees) → length (locals_of_trees at stmts) ≡ local_counts stmts
  locals_counted at no_stmts = refl
  locals_counted at (stmt_then stmt stmts) =
      length-append (locals_of_tree at stmt) (locals_of_trees (behind at stmt) stmts)
      ∙ ap (λ n. n + length (locals_of_trees (behind at stmt) stmts)) (local_counted at stmt)
      ∙ ap (λ n. local_count stmt + n) (locals_counted (behind at stmt) stmts)

  pub else_counted : (at : Scope) (otherwise : ElseTree) → length (locals_of_else at otherwise) ≡ else_count otherwise
  else_counted at no_else = refl
  else_counted at (else_then stmts) = locals_counted at stmts

-- ---- one statement more

zero_behind : (n : ℕ) → n + 0 ≡ 0 + n
zero_behind n = omega arith

sum_assoc : (a b c : ℕ) → a + (b + c) ≡ a + b + c
sum_assoc a b c = omega arith

pub counts_more : (trees : List StmtTree) (tree : StmtTree) → local_counts (stmts_of (trees ++ tree ∷ [])) ≡ local_counts (stmts_of trees) + local_count tree
counts_more [] tree = zero_behind (local_count tree)
counts_more (first ∷ trees) tree =
    ap (λ n. local_count first + n) (counts_more trees tree) ∙ sum_assoc (local_count first) (local_counts (stmts_of trees)) (local_count tree)
