-- What is wrong with claims, one after the other.
use Rattle.std.proofs.Common.{◌≡◌, Bool, cond, Option, Some, None, List, [], ◌∷◌, ◌++◌, refl, sym, ap, ◌∙◌, subst, append-nil, append_assoc}
use Rattle.std.specs.Option.{is_some}
use Rattle.slang_values.specs.Value.{ValueType, truth_type}
use Rattle.slang_tree.specs.declared.place.Fault.{Fault}
use Rattle.slang_tree.specs.ExprTree.{ExprTree}
use Rattle.type_rules.specs.Judged.{Judged, expects, faults_against, faults_against_optional}
use Rattle.type_rules.specs.Meanings.{Scope}
use Rattle.type_rules.specs.Expressions.{Context, judged}
use Rattle.type_rules.specs.Statements.{claims_faults}
use Rattle.type_faults.specs.FirstFault.{with_first}
use Rattle.type_faults.proofs.First.{in_turn}
use Rattle.text_types.specs.declared.found.Found.{Found}
use Rattle.text_types.specs.Found.{IsJudged, bare, seen}
use Rattle.text_types.proofs.Parts.{with_none}

-- a part, and then what is wrong with its type
pub against_part : (a b c : Option Fault) (x : Found) (t : ValueType) (X : Judged) →
    IsJudged a b x X → c ≡ with_first b (faults_against t (seen x)) → c ≡ with_first a (faults_against t X)
against_part a b c x t X part wrong =
    wrong
    ∙ ap (λ s. with_first b (faults_against t s)) part.is
    ∙ ap (λ found. with_first found (cond (is_some X.type) (expects t X) [])) part.told
    ∙ in_turn a X.faults (cond (is_some X.type) (expects t X) [])

pub against_optional_part : (a b c : Option Fault) (x : Found) (t : Option ValueType) (X : Judged) →
    IsJudged a b x X → c ≡ with_first b (faults_against_optional t (seen x)) → c ≡ with_first a (faults_against_optional t X)
against_optional_part a b c x None X part wrong = wrong ∙ with_none b ∙ part.told
against_optional_part a b c x (Some t) X part wrong = against_part a b c x t X part wrong

claims-append : (scope : Scope) (context : Context) (xs ys : List ExprTree) →
    claims_faults scope context (xs ++ ys) ≡ claims_faults scope context xs ++ claims_faults scope context ys
claims-append scope context [] ys = refl
claims-append scope context (x ∷ xs) ys =
    ap (λ fs. faults_against truth_type (judged scope context x) ++ fs) (claims-append scope context xs ys)
    ∙ sym (append_assoc (faults_against truth_type (judged scope context x)) (claims_faults scope context xs) (claims_faults scope context ys))

-- one claim more
pub claims_more : (a b c : Option Fault) (scope : Scope) (context : Context) (trees all : List ExprTree) (tree : ExprTree) →
    all ≡ trees ++ tree ∷ [] → b ≡ with_first a (claims_faults scope context trees) →
    c ≡ with_first b (faults_against truth_type (judged scope context tree)) → c ≡ with_first a (claims_faults scope context all)
claims_more a b c scope context trees all tree more before next =
    let wrong = faults_against truth_type (judged scope context tree) in
    next
    ∙ ap (λ found. with_first found wrong) before
    ∙ in_turn a (claims_faults scope context trees) wrong
    ∙ ap (λ fs. with_first a (claims_faults scope context trees ++ fs)) (sym (append-nil wrong))
    ∙ ap (with_first a) (sym (claims-append scope context trees (tree ∷ [])))
    ∙ ap (λ ts. with_first a (claims_faults scope context ts)) (sym more)
