-- The numbers of the hypotheses, one after the other, as the store grows.
use Rattle.std.proofs.Common.{◌≡◌, ℕ, zero, suc, ◌+◌, ◌<◌, ◌≤◌, ◌&&◌, List, [], ◌∷◌, map, length, get_or, take, Bool, true, false, Result, Ok, Err, IfOk}
use Rattle.std.proofs.Common.{OnOk, IfErr, refl, sym, ap, ◌∙◌, subst, arith}
use Rattle.std.specs.List.{list_all, AllByRecursion}
use Rattle.std.proofs.lemmas.List.{take_all, length-map}
use Rattle.slang_values.specs.Tree.{Tree}
use Rattle.validity.specs.Validity.{SequentTree, symbol_types}
use Rattle.case_rules.specs.Cases.{hypotheses}
use Rattle.closing.specs.Literals.{is_narrow_outside}
use Rattle.term_nodes.specs.declared.node.Node.{Node}
use Rattle.term_store.specs.Store.{tree_at, AreWithin, Grows}
use Rattle.term_store.specs.Sequent.{sequent_at, IsSequentWithin}
use Rattle.term_store.specs.declared.sequent.IdSequent.{IdSequent}
use Rattle.term_store.proofs.Stores.{Grows-length, Grows-tree_at}
use Rattle.term_store.proofs.Held.{growth_laws}
use Rattle.store_proving.proofs.Closings.{all_more, one_false, narrow_hypotheses}

pub fact_within : (store : List Node) (facts : List ℕ) (i : ℕ) → AreWithin store facts → i < length facts → get_or facts i 0 < length store
fact_within store [] i h l = absurd (omega arith)
fact_within store (k ∷ ks) zero h l = h.0
fact_within store (k ∷ ks) (suc i) h l = fact_within store ks i h.1 (omega arith)

module _ (test : Tree ℕ → Bool) where
  -- the test of a fact, in the store that has grown
  tested : (old now : List Node) (facts : List ℕ) (i : ℕ) (b : Bool) → Grows old now → AreWithin old facts → i < length facts →
      b ≡ test (tree_at now (get_or facts i 0)) → b ≡ test (tree_at old (get_or facts i 0))
  tested old now facts i b g h l e = e ∙ ap test (Grows-tree_at old now (get_or facts i 0) g (fact_within old facts i h l))

  pub narrow_more : (old now : List Node) (facts : List ℕ) (i : ℕ) (b : Bool) → Grows old now → AreWithin old facts → i < length facts →
      list_all test (map (tree_at old) (take i facts)) ≡ true → b ≡ test (tree_at now (get_or facts i 0)) → b ≡ true →
      list_all test (map (tree_at old) (take (i + 1) facts)) ≡ true
  narrow_more old now facts i b g h l so e is = all_more test (tree_at old) facts i l so (sym (tested old now facts i b g h l e) ∙ is)

  pub narrow_stops : (old now : List Node) (facts : List ℕ) (i : ℕ) (b : Bool) → Grows old now → AreWithin old facts → i < length facts →
      b ≡ test (tree_at now (get_or facts i 0)) → b ≡ false →
      list_all test (map (tree_at old) facts) ≡ false
  narrow_stops old now facts i b g h l e is = one_false test (tree_at old) facts i l (sym (tested old now facts i b g h l e) ∙ is)

module _ (old : List Node) (s : IdSequent) where
  abbrev test : Tree ℕ → Bool
  test = is_narrow_outside (sequent_at old s).records (symbol_types (sequent_at old s))

  pub narrow_fails : list_all test (map (tree_at old) s.facts) ≡ false → false ≡ list_all test (hypotheses (sequent_at old s))
  narrow_fails e = sym (narrow_hypotheses (sequent_at old s) ∙ ap (λ b. b && test (tree_at old s.goal)) e)

  pub narrow_goal : {E : Type 0} (r : Result Bool E) (now : List Node) (i : ℕ) → Grows old now → IsSequentWithin old s → length s.facts ≤ i →
      list_all test (map (tree_at old) (take i s.facts)) ≡ true → IfOk r (λ b. b ≡ test (tree_at now s.goal)) →
      IfOk r (λ b. b ≡ list_all test (hypotheses (sequent_at old s)))
  narrow_goal (Err x) now i g h l so e = tt
  narrow_goal (Ok b) now i g h l so e =
      e ∙ ap test (Grows-tree_at old now s.goal g h.goal)
      ∙ sym (narrow_hypotheses (sequent_at old s) ∙ ap (λ c. c && test (tree_at old s.goal))
      (ap (λ ks. list_all test (map (tree_at old) ks)) (sym (take_all i s.facts l)) ∙ so))

-- ---- the sequent in the store that has grown

module _ (old now : List Node) (s : IdSequent) where
  pub same_sequent : Grows old now → IsSequentWithin old s → sequent_at now s ≡ sequent_at old s
  same_sequent g h = growth_laws.sequent old now s g h

  pub still_within : Grows old now → IsSequentWithin old s → IsSequentWithin now s
  still_within g h = record { facts = later s.facts h.facts; goal = omega (arith, h.goal, Grows-length old now g) }
    where
      later : (ks : List ℕ) → AreWithin old ks → AreWithin now ks
      later [] h = tt
      later (k ∷ ks) h = (omega (arith, h.0, Grows-length old now g), later ks h.1)
