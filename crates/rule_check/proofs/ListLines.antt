-- Facts and cited claims, one after the other.
use Rattle.std.proofs.Common.{◌≡◌, ◌||◌, ℕ, List, [], ◌∷◌, map, Bool, refl, ap, ◌∙◌}
use Rattle.std.specs.List.{list_any, list_all}
use Rattle.slang_values.specs.Tree.{Tree}
use Rattle.term_trees.specs.declared.term.Term.{Term}
use Rattle.term_trees.specs.Term.{tree}
use Rattle.deduction_rules.specs.Replacement.{same_tree}
use Rattle.deduction_rules.specs.Rules as rule
use Rattle.rule_check.specs.declared.cited.Cited.{Cited}
use Rattle.rule_check.specs.Cited.{cited_tree, is_claim}

any_among : (claim : Tree ℕ) (facts : List Term) → list_any (λ f. same_tree claim (tree f)) facts ≡ list_any (same_tree claim) (map tree facts)
any_among claim [] = refl
any_among claim (f ∷ fs) = ap (λ b. same_tree claim (tree f) || b) (any_among claim fs)

pub among_facts : (claim : Tree ℕ) (facts : List Term) (r : Bool) → r ≡ list_any (λ f. same_tree claim (tree f)) facts → r ≡ list_any (same_tree claim) (map tree facts)
among_facts claim facts r h = h ∙ any_among claim facts

all_claims : (cs : List Cited) → list_all (λ x. is_claim (cited_tree x)) cs ≡ rule.algebra (map cited_tree cs)
all_claims [] = refl
all_claims (Cited.Claim t ∷ cs) = all_claims cs
all_claims (Cited.Block k a x ∷ cs) = refl

pub algebra_of_claims : (cs : List Cited) (r : Bool) → r ≡ list_all (λ x. is_claim (cited_tree x)) cs → r ≡ rule.algebra (map cited_tree cs)
algebra_of_claims cs r h = h ∙ all_claims cs

pub ruleset list_lines = (among_facts, algebra_of_claims)
