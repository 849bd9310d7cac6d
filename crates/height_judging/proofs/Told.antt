-- What is told of lists, one part after the other.
use Rattle.std.proofs.Common.{◌≡◌, ℕ, zero, suc, Option, Some, None, List, [], ◌∷◌, ◌++◌, refl, sym, ap, ◌∙◌, append_assoc}
use Rattle.std.specs.List.{flat_map}
use Rattle.slang_tree.specs.declared.place.Place.{Place}
use Rattle.slang_tree.specs.declared.place.Fault.{Fault}
use Rattle.slang_tree.specs.declared.statement.Label.{Label}
use Rattle.slang_tree.specs.declared.expression.Name.{Name}
use Rattle.slang_tree.specs.ExprTree.{ExprTree, exprs_of}
use Rattle.slang_tree.specs.StmtTree.{StepTree, StepTrees, block, let_block, steps_of, StmtTree, StmtTrees, ElseTree, branch, loop, stmts_of}
use Rattle.slang_tree.specs.DeclTree.{ReturnTree}
use Rattle.type_faults.specs.FirstFault.{with_first}
use Rattle.type_faults.proofs.First.{in_turn}
use Rattle.height_rules.specs.Faults.{too_high, expr_too_high, exprs_too_high, step_place, too_deep, step_too_high, steps_too_high, claims_too_high, stmt_too_high, stmts_too_high, else_too_high, return_too_high}
use Rattle.height_judging.specs.Inner.{inner_too_high}

-- two lists of faults, told in turn
pub told_two : (a b c : Option Fault) (xs ys : List Fault) → b ≡ with_first a xs → c ≡ with_first b ys → c ≡ with_first a (xs ++ ys)
told_two a b c xs ys first second = second ∙ ap (λ found. with_first found ys) first ∙ in_turn a xs ys

-- one part more of a list, whose faults are those of its parts in turn
pub part_more : {A : Type 0} (a b c : Option Fault) (f : List A → List Fault) → ((xs ys : List A) → f (xs ++ ys) ≡ f xs ++ f ys) →
    (before all : List A) (x : A) → all ≡ before ++ x ∷ [] → b ≡ with_first a (f before) → c ≡ with_first b (f (x ∷ [])) → c ≡ with_first a (f all)
part_more a b c f joins before all x more first next =
    told_two a b c (f before) (f (x ∷ [])) first next ∙ ap (with_first a) (sym (joins before (x ∷ []))) ∙ ap (λ xs. with_first a (f xs)) (sym more)

joins_by : {A : Type 0} (f : A → List Fault) (g : List A → List Fault) → (g [] ≡ []) → ((x : A) (xs : List A) → g (x ∷ xs) ≡ f x ++ g xs) →
    (xs ys : List A) → g (xs ++ ys) ≡ g xs ++ g ys
joins_by f g nil next [] ys = ap (λ fs. fs ++ g ys) (sym nil)
joins_by f g nil next (x ∷ xs) ys =
    next x (xs ++ ys) ∙ ap (λ fs. f x ++ fs) (joins_by f g nil next xs ys) ∙ sym (append_assoc (f x) (g xs) (g ys)) ∙ ap (λ fs. fs ++ g ys) (sym (next x xs))

pub exprs-join : (xs ys : List ExprTree) → exprs_too_high (exprs_of (xs ++ ys)) ≡ exprs_too_high (exprs_of xs) ++ exprs_too_high (exprs_of ys)
exprs-join = joins_by expr_too_high (λ xs. exprs_too_high (exprs_of xs)) refl (λ x xs. refl)

pub mapped-join : {A : Type 0} (f : A → List Fault) (xs ys : List A) → flat_map f (xs ++ ys) ≡ flat_map f xs ++ flat_map f ys
mapped-join f = joins_by f (λ xs. flat_map f xs) refl (λ x xs. refl)

pub deep-join : (xs ys : List StepTree) → too_deep (steps_of (xs ++ ys)) ≡ too_deep (steps_of xs) ++ too_deep (steps_of ys)
deep-join = joins_by (λ x. too_high (step_place x) ∷ []) (λ xs. too_deep (steps_of xs)) refl (λ x xs. refl)

pub steps-join : (depth : ℕ) (xs ys : List StepTree) →
    steps_too_high depth (steps_of (xs ++ ys)) ≡ steps_too_high depth (steps_of xs) ++ steps_too_high depth (steps_of ys)
steps-join depth = joins_by (step_too_high depth) (λ xs. steps_too_high depth (steps_of xs)) refl (λ x xs. refl)

pub stmts-join : (xs ys : List StmtTree) → stmts_too_high (stmts_of (xs ++ ys)) ≡ stmts_too_high (stmts_of xs) ++ stmts_too_high (stmts_of ys)
stmts-join = joins_by stmt_too_high (λ xs. stmts_too_high (stmts_of xs)) refl (λ x xs. refl)

-- ---- statements

-- nothing more is told of
pub none_more : (a : Option Fault) → a ≡ with_first a []
none_more None = refl
none_more (Some found) = refl

pub branch_told : (a b c d : Option Fault) (tree : StmtTree) (place : Place) (test : ExprTree) (on_true : StmtTrees) (otherwise : ElseTree) →
    tree ≡ branch place test on_true otherwise → b ≡ with_first a (expr_too_high test) → c ≡ with_first b (stmts_too_high on_true) →
    d ≡ with_first c (else_too_high otherwise) → d ≡ with_first a (stmt_too_high tree)
branch_told a b c d tree place test on_true otherwise is first second third =
    told_two a c d (expr_too_high test ++ stmts_too_high on_true) (else_too_high otherwise)
    (told_two a b c (expr_too_high test) (stmts_too_high on_true) first second) third
    ∙ ap (λ t. with_first a (stmt_too_high t)) (sym is)

pub loop_told : (a b c d : Option Fault) (tree : StmtTree) (place : Place) (test : ExprTree) (modifies : List Name) (claims : List ExprTree) (body : StmtTrees) →
    tree ≡ loop place test modifies claims body → b ≡ with_first a (expr_too_high test) → c ≡ with_first b (claims_too_high claims) →
    d ≡ with_first c (stmts_too_high body) → d ≡ with_first a (stmt_too_high tree)
loop_told a b c d tree place test modifies claims body is first second third =
    told_two a c d (expr_too_high test ++ claims_too_high claims) (stmts_too_high body)
    (told_two a b c (expr_too_high test) (claims_too_high claims) first second) third
    ∙ ap (λ t. with_first a (stmt_too_high t)) (sym is)

pub method_told : (a b c d e : Option Fault) (requires_ ensures_ : List ExprTree) (body : StmtTrees) (returned : Option ReturnTree) →
    b ≡ with_first a (claims_too_high requires_) → c ≡ with_first b (claims_too_high ensures_) → d ≡ with_first c (stmts_too_high body) →
    e ≡ with_first d (return_too_high returned) →
    e ≡ with_first a (claims_too_high requires_ ++ claims_too_high ensures_ ++ stmts_too_high body ++ return_too_high returned)
method_told a b c d e requires_ ensures_ body returned first second third fourth =
    told_two a d e (claims_too_high requires_ ++ claims_too_high ensures_ ++ stmts_too_high body) (return_too_high returned)
    (told_two a c d (claims_too_high requires_ ++ claims_too_high ensures_) (stmts_too_high body)
    (told_two a b c (claims_too_high requires_) (claims_too_high ensures_) first second) third) fourth

-- ---- blocks

pub block_inner : (depth : ℕ) (label assumed : Label) (given : ExprTree) (steps : StepTrees) →
    expr_too_high given ++ inner_too_high depth steps ≡ step_too_high depth (block label assumed given steps)
block_inner zero label assumed given steps = refl
block_inner (suc depth) label assumed given steps = refl

pub let_inner : (depth : ℕ) (label : Label) (variable : Name) (assumed : Label) (given : ExprTree) (steps : StepTrees) →
    expr_too_high given ++ inner_too_high depth steps ≡ step_too_high depth (let_block label variable assumed given steps)
let_inner zero label variable assumed given steps = refl
let_inner (suc depth) label variable assumed given steps = refl
