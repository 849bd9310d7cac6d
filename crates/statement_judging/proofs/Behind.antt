-- What is in scope behind statements, and how many locals they declare.
use Rattle.std.proofs.Common.{◌≡◌, ℕ, ◌+◌, List, [], ◌∷◌, ◌++◌, refl, ap, ◌∙◌, arith}
use Rattle.slang_tree.specs.StmtTree.{StmtTree, StmtTrees, val, var, assignment, call, branch, loop, assertion, deduction, no_stmts, stmt_then, stmts_of}
use Rattle.type_rules.specs.Meanings.{Scope}
use Rattle.type_rules.specs.Statements.{behind, behind_all, local_count, local_counts, past_locals}

-- ---- one after the other

pub behind-append : (at : Scope) (xs ys : List StmtTree) → behind_all at (stmts_of (xs ++ ys)) ≡ behind_all (behind_all at (stmts_of xs)) (stmts_of ys)
behind-append at [] ys = refl
behind-append at (x ∷ xs) ys = behind-append (behind at x) xs ys

-- ---- what stays

behind-fields : (at : Scope) (stmt : StmtTree) → (behind at stmt).fields ≡ at.fields
behind-fields at (val place written ty value) = refl
behind-fields at (var place written ty value) = refl
behind-fields at (assignment written value) = refl
behind-fields at (call written arguments) = refl
behind-fields at (branch place test on_true otherwise) = refl
behind-fields at (loop place test modifies claims body) = refl
behind-fields at (assertion place claim) = refl
behind-fields at (deduction place steps) = refl

behind-depth : (at : Scope) (stmt : StmtTree) → (behind at stmt).depth ≡ at.depth
behind-depth at (val place written ty value) = refl
behind-depth at (var place written ty value) = refl
behind-depth at (assignment written value) = refl
behind-depth at (call written arguments) = refl
behind-depth at (branch place test on_true otherwise) = refl
behind-depth at (loop place test modifies claims body) = refl
behind-depth at (assertion place claim) = refl
behind-depth at (deduction place steps) = refl

none_more : (n : ℕ) → n ≡ n + 0
none_more n = omega arith

behind-locals : (at : Scope) (stmt : StmtTree) → (behind at stmt).locals ≡ at.locals + local_count stmt
behind-locals at (val place written ty value) = refl
behind-locals at (var place written ty value) = refl
behind-locals at (assignment written value) = none_more at.locals
behind-locals at (call written arguments) = none_more at.locals
behind-locals at (branch place test on_true otherwise) = refl
behind-locals at (loop place test modifies claims body) = refl
behind-locals at (assertion place claim) = none_more at.locals
behind-locals at (deduction place steps) = none_more at.locals

pub behind_all-fields : (at : Scope) (stmts : StmtTrees) → (behind_all at stmts).fields ≡ at.fields
behind_all-fields at no_stmts = refl
behind_all-fields at (stmt_then stmt stmts) = behind_all-fields (behind at stmt) stmts ∙ behind-fields at stmt

pub behind_all-depth : (at : Scope) (stmts : StmtTrees) → (behind_all at stmts).depth ≡ at.depth
behind_all-depth at no_stmts = refl
behind_all-depth at (stmt_then stmt stmts) = behind_all-depth (behind at stmt) stmts ∙ behind-depth at stmt

add_assoc : (a b c : ℕ) → (a + b) + c ≡ a + (b + c)
add_assoc a b c = omega arith

-- Behind statements stand as many locals more as they declare, in all their blocks.
pub behind_all-locals : (at : Scope) (stmts : StmtTrees) → (behind_all at stmts).locals ≡ at.locals + local_counts stmts
behind_all-locals at no_stmts = none_more at.locals
behind_all-locals at (stmt_then stmt stmts) =
    behind_all-locals (behind at stmt) stmts
    ∙ ap (λ n. n + local_counts stmts) (behind-locals at stmt)
    ∙ add_assoc at.locals (local_count stmt) (local_counts stmts)

-- behind two blocks
pub past_two : (at : Scope) (m n : ℕ) → past_locals (past_locals at m) n ≡ past_locals at (m + n)
past_two at m n = ap (λ (k : ℕ). record at { locals = k }) (add_assoc at.locals m n)
