-- What is wrong with steps, one after the other.
use Rattle.std.proofs.Common.{◌≡◌, Option, List, [], ◌∷◌, ◌++◌, refl, sym, ap, ◌∙◌, append-nil, append_assoc}
use Rattle.slang_tree.specs.declared.place.Fault.{Fault}
use Rattle.slang_tree.specs.StmtTree.{StepTree, steps_of}
use Rattle.type_rules.specs.Meanings.{Scope}
use Rattle.type_rules.specs.Steps.{step_faults, steps_faults}
use Rattle.type_faults.specs.FirstFault.{with_first}
use Rattle.type_faults.proofs.First.{in_turn}

-- two lists of faults, told in turn
pub told_two : (a b c : Option Fault) (xs ys : List Fault) → b ≡ with_first a xs → c ≡ with_first b ys → c ≡ with_first a (xs ++ ys)
told_two a b c xs ys first second = second ∙ ap (λ found. with_first found ys) first ∙ in_turn a xs ys

steps-append : (scope : Scope) (xs ys : List StepTree) →
    steps_faults scope (steps_of (xs ++ ys)) ≡ steps_faults scope (steps_of xs) ++ steps_faults scope (steps_of ys)
steps-append scope [] ys = refl
steps-append scope (x ∷ xs) ys =
    ap (λ fs. step_faults scope x ++ fs) (steps-append scope xs ys)
    ∙ sym (append_assoc (step_faults scope x) (steps_faults scope (steps_of xs)) (steps_faults scope (steps_of ys)))

-- one step more
pub steps_more : (a b c : Option Fault) (scope : Scope) (trees all : List StepTree) (tree : StepTree) →
    all ≡ trees ++ tree ∷ [] → b ≡ with_first a (steps_faults scope (steps_of trees)) →
    c ≡ with_first b (step_faults scope tree) → c ≡ with_first a (steps_faults scope (steps_of all))
steps_more a b c scope trees all tree more before next =
    told_two a b c (steps_faults scope (steps_of trees)) (step_faults scope tree) before next
    ∙ ap (λ fs. with_first a (steps_faults scope (steps_of trees) ++ fs)) (sym (append-nil (step_faults scope tree)))
    ∙ ap (with_first a) (sym (steps-append scope trees (tree ∷ [])))
    ∙ ap (λ ts. with_first a (steps_faults scope (steps_of ts))) (sym more)
