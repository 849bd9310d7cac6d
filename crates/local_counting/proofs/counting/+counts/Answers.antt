use Rattle.std.proofs.Common.{◌≡◌, ◌∙◌, ◌+◌, ◌∷◌, ◌++◌, [], ap, map, sym, take}
use Rattle.std.proofs.lemmas.List.{map_more}
use Rattle.slang_tree.specs.StmtTree.{stmt_tree, stmts_of}
use Rattle.type_rules.specs.Statements.{local_counts}
use Rattle.local_counting.proofs.Counts.{counts_more}
use Rattle.local_counting.proofs.counting.+counts.Goals as goal

pub local_counts-loop-stmt-preserved : goal.local_counts-loop-stmt-preserved
local_counts-loop-stmt-preserved t c =
    let i = c.loop-stmt.stmt-index in
    let stmts = c.args.stmts.now in
    let trees = map stmt_tree (take i stmts) in
    let more : map stmt_tree (take (i + 1) stmts) ≡ trees ++ stmt_tree c.stmt-item.result ∷ [] =
    map_more stmt_tree stmts i c.stmt-item.result c.loop-stmt-test.true ∙ ap (λ x. trees ++ stmt_tree x ∷ []) (sym c.stmt-item.is) in
    c.in_ok-count.ensures
    ∙ ap (λ n. n + c.in_ok-local_count.field-0) c.loop-stmt.invariant
    ∙ ap (λ n. local_counts (stmts_of trees) + n) c.in_ok-local_count.ensures
    ∙ sym (counts_more trees (stmt_tree c.stmt-item.result))
    ∙ ap (λ ts. local_counts (stmts_of ts)) (sym more)
