-- What is wrong with statements, one after the other.
use Rattle.std.proofs.Common.{◌≡◌, Option, List, [], ◌∷◌, ◌++◌, refl, sym, ap, ◌∙◌, subst, append-nil, append_assoc}
use Rattle.slang_tree.specs.declared.place.Fault.{Fault}
use Rattle.slang_tree.specs.StmtTree.{StmtTree, stmts_of}
use Rattle.type_rules.specs.Meanings.{Scope}
use Rattle.type_rules.specs.Statements.{behind, behind_all, stmt_faults, stmts_faults}
use Rattle.type_faults.specs.FirstFault.{with_first}
use Rattle.type_faults.proofs.First.{in_turn}
use Rattle.name_scopes.specs.declared.scope.NameScope.{NameScope}
use Rattle.name_scopes.specs.Fits.{Fits}
use Rattle.statement_judging.proofs.Behind.{behind-append}

stmts-append : (at : Scope) (xs ys : List StmtTree) →
    stmts_faults at (stmts_of (xs ++ ys)) ≡ stmts_faults at (stmts_of xs) ++ stmts_faults (behind_all at (stmts_of xs)) (stmts_of ys)
stmts-append at [] ys = refl
stmts-append at (x ∷ xs) ys =
    ap (λ fs. stmt_faults at x ++ fs) (stmts-append (behind at x) xs ys)
    ∙ sym (append_assoc (stmt_faults at x) (stmts_faults (behind at x) (stmts_of xs)) (stmts_faults (behind_all (behind at x) (stmts_of xs)) (stmts_of ys)))

-- one statement more
pub stmts_more : (a b c : Option Fault) (at : Scope) (trees all : List StmtTree) (tree : StmtTree) →
    all ≡ trees ++ tree ∷ [] → b ≡ with_first a (stmts_faults at (stmts_of trees)) →
    c ≡ with_first b (stmt_faults (behind_all at (stmts_of trees)) tree) → c ≡ with_first a (stmts_faults at (stmts_of all))
stmts_more a b c at trees all tree more before next =
    let own = stmt_faults (behind_all at (stmts_of trees)) tree in
    next
    ∙ ap (λ found. with_first found own) before
    ∙ in_turn a (stmts_faults at (stmts_of trees)) own
    ∙ ap (λ fs. with_first a (stmts_faults at (stmts_of trees) ++ fs)) (sym (append-nil own))
    ∙ ap (with_first a) (sym (stmts-append at trees (tree ∷ [])))
    ∙ ap (λ ts. with_first a (stmts_faults at (stmts_of ts))) (sym more)

pub fits_more : (known : NameScope) (at : Scope) (trees all : List StmtTree) (tree : StmtTree) →
    all ≡ trees ++ tree ∷ [] → Fits known (behind (behind_all at (stmts_of trees)) tree) → Fits known (behind_all at (stmts_of all))
fits_more known at trees all tree more fits =
    subst (λ ts. Fits known (behind_all at (stmts_of ts))) (sym more) (subst (Fits known) (sym (behind-append at trees (tree ∷ []))) fits)
