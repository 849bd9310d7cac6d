-- What stands before a step, after a block.
use Rattle.std.proofs.Common.{◌≡◌, ℕ, List, [], ◌∷◌, ◌++◌, map, take, Bool, true, false, not, ◌&&◌, ◌||◌, eqb, Option, Some, None, refl, sym, ap, ap₂, ◌∙◌}
use Rattle.std.proofs.Math.Path.{fun_ext}
use Rattle.std.proofs.Math.Bool.{or-false}
use Rattle.std.proofs.lemmas.List.{map-append, take-map}
use Rattle.std.specs.Borrow.{Bor}
use Rattle.std.specs.Ordering.{nat_cmp}
use Rattle.std.specs.BTreeSet.{BTreeSet, Updates}
use Rattle.term_trees.specs.declared.term.Term.{Term}
use Rattle.term_trees.specs.Term.{tree}
use Rattle.rule_check.specs.declared.cited.Cited.{Cited}
use Rattle.deduction_rules.specs.Deduction.{Before, is_symbol, with_claim, with_let}
use Rattle.proof_scopes.specs.declared.scope.Labelled.{Labelled}
use Rattle.proof_scopes.specs.declared.scope.Scope.{Scope}
use Rattle.proof_scopes.specs.Scope.{labelled_tree, has, before_of, nothing, is_in, with_used, after_block, Gains}
use Rattle.proof_scopes.proofs.SymbolSets.{set_with, set_without}

-- the three parts agree
before_eq : (a b : Before) → a.visible ≡ b.visible → a.used ≡ b.used → a.ended ≡ b.ended → a ≡ b
before_eq a b e f g i = record { visible = e i; used = f i; ended = g i }

one_more : (old new : List Labelled) (e : Labelled) → new ≡ old ++ e ∷ [] → map labelled_tree new ≡ map labelled_tree old ++ labelled_tree e ∷ []
one_more old new e is = ap (map labelled_tree) is ∙ map-append labelled_tree old (e ∷ [])

front_and : (old new : List Labelled) (k : ℕ) (e : Labelled) → new ≡ take k old ++ e ∷ [] → map labelled_tree new ≡ take k (map labelled_tree old) ++ labelled_tree e ∷ []
front_and old new k e is = one_more (take k old) new e is ∙ ap (λ v. v ++ labelled_tree e ∷ []) (sym (take-map labelled_tree k old))

pub scope_after_let : (old new : Scope) (outside : ℕ) (symbol : Option ℕ) (k : ℕ) (block : Labelled) → symbol ≡ Some k →
    new.visible.items ≡ take outside old.visible.items ++ block ∷ [] → new.used ≡ old.used → Updates nat_cmp old.ended new.ended k true →
    before_of new ≡ after_block outside symbol (labelled_tree block) (before_of old)
scope_after_let old new outside symbol k block is v u e =
    before_eq (before_of new) (after_block outside (Some k) (labelled_tree block) (before_of old))
    (front_and old.visible.items new.visible.items outside block v) (ap has u) (fun_ext (set_with old.ended new.ended k e)) ∙
    ap (λ s. after_block outside s (labelled_tree block) (before_of old)) (sym is)

none_of : (o : Option ℕ) → ((k : ℕ) → o ≡ Some k → ⊥) → o ≡ None
none_of None h = refl
none_of (Some k) h = absurd (h k refl)

pub scope_after_block : (old new : Scope) (outside : ℕ) (symbol : Option ℕ) (block : Labelled) → ((k : ℕ) → symbol ≡ Some k → ⊥) →
    new.visible.items ≡ take outside old.visible.items ++ block ∷ [] → new.used ≡ old.used →
    new.ended ≡ old.ended → before_of new ≡ after_block outside symbol (labelled_tree block) (before_of old)
scope_after_block old new outside symbol block no_let v u e =
    before_eq (before_of new) (after_block outside None (labelled_tree block) (before_of old))
    (front_and old.visible.items new.visible.items outside block v) (ap has u) (ap has e ∙ fun_ext (λ n. sym (or-false (has old.ended n)))) ∙
    ap (λ s. after_block outside s (labelled_tree block) (before_of old)) (sym (none_of symbol no_let))
