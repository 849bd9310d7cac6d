-- The calls of statements, one after the other.
use Rattle.std.proofs.Common.{◌≡◌, ℕ, ◌+◌, ◌<◌, List, [], ◌∷◌, ◌++◌, length, take, get_or, map, refl, sym, ap, ◌∙◌, append_assoc, append-nil}
use Rattle.std.proofs.lemmas.List.{map_more}
use Rattle.program_trees.specs.Programs.{CodeTree, CodeTrees}
use Rattle.run_rules.specs.Reach.{calls, calls_of_all}
use Rattle.lk_programs.specs.declared.program.Code.{Code}
use Rattle.lk_programs.specs.Program.{code_tree, code_trees, codes_of}

calls-append : (xs ys : List (CodeTree ℕ)) → calls_of_all (codes_of (xs ++ ys)) ≡ calls_of_all (codes_of xs) ++ calls_of_all (codes_of ys)
calls-append [] ys = refl
calls-append (x ∷ xs) ys =
    ap (λ ns. calls x ++ ns) (calls-append xs ys) ∙ sym (append_assoc (calls x) (calls_of_all (codes_of xs)) (calls_of_all (codes_of ys)))

-- one statement more
pub calls_more : (front before new : List ℕ) (codes : List Code) (i : ℕ) (code : Code) → i < length codes → code ≡ get_or codes i code →
    before ≡ front ++ calls_of_all (code_trees (take i codes)) → new ≡ before ++ calls (code_tree code) →
    new ≡ front ++ calls_of_all (code_trees (take (i + 1) codes))
calls_more front before new codes i code within at so_far own =
    let trees = map code_tree (take i codes) in
    let more : calls_of_all (code_trees (take (i + 1) codes)) ≡ calls_of_all (codes_of trees) ++ calls (code_tree code) =
    ap (λ cs. calls_of_all (codes_of cs)) (map_more code_tree codes i code within ∙ ap (λ c. trees ++ code_tree c ∷ []) (sym at))
    ∙ calls-append trees (code_tree code ∷ [])
    ∙ ap (λ ns. calls_of_all (codes_of trees) ++ ns) (append-nil (calls (code_tree code))) in
    own
    ∙ ap (λ ns. ns ++ calls (code_tree code)) so_far
    ∙ append_assoc front (calls_of_all (codes_of trees)) (calls (code_tree code))
    ∙ ap (λ ns. front ++ ns) (sym more)

-- two parts
pub calls_both : (a b c xs ys : List ℕ) → b ≡ a ++ xs → c ≡ b ++ ys → c ≡ a ++ (xs ++ ys)
calls_both a b c xs ys first second = second ∙ ap (λ ns. ns ++ ys) first ∙ append_assoc a xs ys
