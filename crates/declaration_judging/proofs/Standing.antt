-- Where a declaration stands among those of a project.
use Rattle.std.proofs.Common.{◌≡◌, ℕ, ◌+◌, ◌<◌, List, ◌∷◌, ◌++◌, length, take, drop, get_or, map, sym, ap, ◌∙◌, append_assoc}
use Rattle.std.proofs.lemmas.List.{map-append, take-append-drop}
use Rattle.slang_tree.specs.declared.declaration.Decl.{Decl}
use Rattle.slang_tree.specs.DeclTree.{DeclTree, decl_tree}
use Rattle.record_judging.proofs.Judging.{from}

-- where it stands in a project in which all of them stand
pub stands_among : (all front rest : List DeclTree) (decls : List Decl) (i : ℕ) (decl : Decl) → i < length decls → decl ≡ get_or decls i decl →
    all ≡ front ++ map decl_tree decls ++ rest →
    all ≡ (front ++ map decl_tree (take i decls)) ++ decl_tree decl ∷ (map decl_tree (drop (i + 1) decls) ++ rest)
stands_among all front rest decls i decl within at stands =
    let first = map decl_tree (take i decls) in
    let later = map decl_tree (drop (i + 1) decls) in
    let parts : map decl_tree decls ≡ first ++ decl_tree decl ∷ later =
    ap (map decl_tree) (sym (take-append-drop i decls))
    ∙ map-append decl_tree (take i decls) (drop i decls)
    ∙ ap (λ ds. first ++ map decl_tree ds) (from decls i decl within at) in
    stands
    ∙ ap (λ ds. front ++ ds ++ rest) parts
    ∙ ap (λ ds. ds ++ rest) (sym (append_assoc front first (decl_tree decl ∷ later)))
    ∙ append_assoc (front ++ first) (decl_tree decl ∷ later) rest
