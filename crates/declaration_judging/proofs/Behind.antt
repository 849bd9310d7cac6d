-- What is wrong with declarations, one behind the other.
use Rattle.std.proofs.Common.{◌≡◌, Option, List, [], ◌∷◌, ◌++◌, refl, sym, ap, ◌∙◌, append_assoc, append-nil}
use Rattle.slang_tree.specs.declared.place.Fault.{Fault}
use Rattle.slang_tree.specs.DeclTree.{DeclTree}
use Rattle.type_faults.specs.FirstFault.{with_first}
use Rattle.type_faults.proofs.First.{in_turn}
use Rattle.type_rules.specs.Projects.{decl_faults, decls_faults}

pub decls-append : (all front xs ys : List DeclTree) → decls_faults all front (xs ++ ys) ≡ decls_faults all front xs ++ decls_faults all (front ++ xs) ys
decls-append all front [] ys = ap (λ before. decls_faults all before ys) (sym (append-nil front))
decls-append all front (x ∷ xs) ys =
    let own = decl_faults all front x in
    let inner = front ++ x ∷ [] in
    ap (λ fs. own ++ fs) (decls-append all inner xs ys)
    ∙ sym (append_assoc own (decls_faults all inner xs) (decls_faults all (inner ++ xs) ys))
    ∙ ap (λ before. (own ++ decls_faults all inner xs) ++ decls_faults all before ys) (append_assoc front (x ∷ []) xs)

-- one declaration more
pub decls_more : (a b c : Option Fault) (all front xs more : List DeclTree) (decl : DeclTree) → more ≡ xs ++ decl ∷ [] →
    b ≡ with_first a (decls_faults all front xs) → c ≡ with_first b (decl_faults all (front ++ xs) decl) → c ≡ with_first a (decls_faults all front more)
decls_more a b c all front xs more decl is before next =
    let own = decl_faults all (front ++ xs) decl in
    next
    ∙ ap (λ found. with_first found own) before
    ∙ in_turn a (decls_faults all front xs) own
    ∙ ap (λ fs. with_first a (decls_faults all front xs ++ fs)) (sym (append-nil own))
    ∙ ap (with_first a) (sym (decls-append all front xs (decl ∷ [])))
    ∙ ap (λ ds. with_first a (decls_faults all front ds)) (sym is)
