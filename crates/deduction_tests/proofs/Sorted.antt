-- Each claim of the tests is one about its symbols, and so bases and steps over them are well sorted.
use Rattle.std.proofs.Common.{◌≡◌, ℕ, zero, suc, List, [], ◌∷◌, ◌++◌, map, slice_get, true, get_or, Option, refl, sym, ap, subst, arith, rules}
use Rattle.std.specs.List.{AllByRecursion}
use Rattle.std.proofs.lemmas.List.Elements.{All-from_recursion}
use Rattle.slang_values.specs.Value.{is_known, AreWellFormed}
use Rattle.slang_values.specs.Tree.{Tree, truth_literal}
use Rattle.term_trees.specs.declared.term.Sort.{Sort}
use Rattle.term_trees.specs.declared.term.Term.{Term}
use Rattle.term_trees.specs.declared.term.Term.TheVariants.{True}
use Rattle.term_trees.specs.Term.{sort_type, tree}
use Rattle.term_trees.proofs.Trees.{tree-True}
use Rattle.lk_terms.specs.Validity as code
use Rattle.lk_terms.specs.Validity.{sequent_tree}
use Rattle.lk_terms.specs.declared.step.StepTerm.{StepTerm}
use Rattle.lk_terms.specs.declared.step.StepTerm.TheVariants.{Line, Sub}
use Rattle.deduction.specs.Steps.{step_tree, step_trees}
use Rattle.deduction.proofs.Steps.{step_tree-Line, step_tree-Sub}
use Rattle.deduction_tests.specs.Claims.{types, IsTestClaim, claims, test_claim, test_base, IsTestSymbol, IsTestStep, AreTestSteps}

-- ---- claims

each : AllByRecursion IsTestClaim claims
each = (
  record { typed = search rules; closed = search rules },
  (
    record { typed = search rules; closed = search rules },
    (
      record { typed = search rules; closed = search rules },
      (
        record { typed = search rules; closed = search rules },
        (
          record { typed = search rules; closed = search rules },
          (
            record { typed = search rules; closed = search rules },
            (
              record { typed = search rules; closed = search rules },
              (
                record { typed = search rules; closed = search rules },
                (
                  record { typed = search rules; closed = search rules },
                  (
                    record { typed = search rules; closed = search rules },
                    (
                      record { typed = search rules; closed = search rules },
                      (
                        record { typed = search rules; closed = search rules },
                        (
                          record { typed = search rules; closed = search rules },
                          (
                            record { typed = search rules; closed = search rules },
                            (
                              record { typed = search rules; closed = search rules },
                              (
                                record { typed = search rules; closed = search rules },
                                (
                                  record { typed = search rules; closed = search rules },
                                  (
                                    record { typed = search rules; closed = search rules },
                                    (
                                      record { typed = search rules; closed = search rules },
                                      (
                                        record { typed = search rules; closed = search rules },
                                        (
                                          record { typed = search rules; closed = search rules },
                                          (
                                            record { typed = search rules; closed = search rules },
                                            (
                                              record { typed = search rules; closed = search rules },
                                              (
                                                  tt),
                                            ),
                                          ),
                                        ),
                                      ),
                                    ),
                                  ),
                                ),
                              ),
                            ),
                          ),
                        ),
                      ),
                    ),
                  ),
                ),
              ),
            ),
          ),
        ),
      ),
    ),
  ),
)

at : (ts : List (Tree ℕ)) (n : ℕ) → AllByRecursion IsTestClaim ts → IsTestClaim (get_or ts n (truth_literal true))
at [] n h = record { typed = refl; closed = tt }
at (t ∷ ts) zero h = h.0
at (t ∷ ts) (suc n) h = at ts n h.1

is_test_claim : (n : ℕ) → IsTestClaim (test_claim n)
is_test_claim n = at claims n each

-- ---- steps

pub test_line : (label number rule : ℕ) (cites : List ℕ) (claim : Term) → tree claim ≡ test_claim number → IsTestStep (step_tree (Line label claim rule cites))
test_line label number rule cites claim is =
    subst IsTestStep (sym (step_tree-Line label claim rule cites)) (subst IsTestClaim (sym is) (is_test_claim number))

pub test_block : (label assumed number : ℕ) (symbol : Option ℕ) (given : Term) (steps : List StepTerm) → IsTestSymbol symbol →
    tree given ≡ test_claim number → AreTestSteps (step_trees steps) → IsTestStep (step_tree (Sub label symbol assumed given steps))
test_block label assumed number symbol given steps k is h =
    subst IsTestStep (sym (step_tree-Sub label symbol assumed given steps)) (k, subst IsTestClaim (sym is) (is_test_claim number), h)

more : (ss : List StepTerm) (s : StepTerm) → AreTestSteps (step_trees ss) → IsTestStep (step_tree s) → AreTestSteps (step_trees (ss ++ s ∷ []))
more [] s h k = (k, tt)
more (x ∷ ss) s h k = (h.0, more ss s h.1 k)

pub one_more : (old new : List StepTerm) (s : StepTerm) → AreTestSteps (step_trees old) → IsTestStep (step_tree s) → new ≡ old ++ s ∷ [] →
    AreTestSteps (step_trees new)
one_more old new s h k e = subst (λ ss. AreTestSteps (step_trees ss)) (sym e) (more old s h k)

-- ---- bases

code_claim : (n : ℕ) → code.IsClaim [] (λ m. slice_get types m) (test_claim n)
code_claim n = let h = is_test_claim n in record { typed = h.typed; closed = h.closed }

claims_of : (ns : List ℕ) → AllByRecursion (code.IsClaim [] (λ m. slice_get types m)) (map test_claim ns)
claims_of [] = tt
claims_of (n ∷ ns) = (code_claim n, claims_of ns)

no_records : AreWellFormed []
no_records = record { known = λ n h. absurd (omega (arith, h)); finite = λ n h. absurd (omega (arith, h)); small = λ n h. absurd (omega (arith, h)) }

base_sorted : (ns : List ℕ) → code.IsWellSorted (record { types = types; records = []; facts = map test_claim ns; goal = truth_literal true })
base_sorted ns = record {
  records = no_records;
  symbols = All-from_recursion (λ t. is_known [] t ≡ true) types (refl, (refl, (refl, (refl, (refl, tt)))));
  facts = All-from_recursion (code.IsClaim [] (λ m. slice_get types m)) (map test_claim ns) (claims_of ns);
  goal = record { typed = refl; closed = tt };
}

module _ (sorts : List Sort) (rs : List (List Sort)) (facts : List Term) (ns : List ℕ) (s : map sort_type sorts ≡ types) (r : rs ≡ [])
    (f : map tree facts ≡ map test_claim ns) where
  no_more : map (map sort_type) rs ≡ []
  no_more = ap (map (map sort_type)) r

  pub made_sorted : code.IsWellSorted (sequent_tree sorts rs facts True)
  made_sorted =
      subst code.IsWellSorted (λ i. record { types = sym s i; records = sym no_more i; facts = sym f i; goal = sym tree-True i }) (base_sorted ns)

  pub made_base : record { types = map sort_type sorts; records = map (map sort_type) rs; facts = map tree facts; goal = tree True } ≡
      test_base (map test_claim ns)
  made_base i = record { types = s i; records = no_more i; facts = f i; goal = tree-True i }
