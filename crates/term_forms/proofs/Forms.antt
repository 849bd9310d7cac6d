-- How the form of a term comes of the forms of its parts.
use Rattle.std.proofs.Common.{◌≡◌, ℕ, zero, suc, ◌+◌, ◌<◌, ℤ, Bool, true, false, ◌&&◌, List, [], ◌∷◌, ◌++◌, map, length, get_or, take, Result, Ok, Err, IfOk, refl, sym, ap, ap₂, ◌∙◌, arith}
use Rattle.std.proofs.lemmas.List.{map-append}
use Rattle.std.proofs.lemmas.Bool.{and_parts, and_from, and_left, and_right}
use Rattle.slang_values.specs.Tree.{Tree, literal, truth_literal, name, bound, unary, binary, update, quantified, listed, Listed, Trees, no_trees, tree_then}
use Rattle.slang_values.specs.declared.operators.Unary.{Unary}
use Rattle.slang_values.specs.declared.operators.Binary.{Binary}
use Rattle.slang_values.specs.declared.operators.Quantifier.{Quantifier}
use Rattle.tree_forms.specs.Form.{LinearForm, constant_form, atom_form, unary_form, binary_form, form, form_term, form_terms, has_small_numbers, is_narrow, are_narrow}
use Rattle.tree_forms.proofs.Narrow.{is_narrow-literal, is_narrow-truth_literal, is_narrow-name, is_narrow-bound, is_narrow-unary, is_narrow-binary, is_narrow-update, is_narrow-quantified, is_narrow-listed, are_narrow-none, are_narrow-then, small-form}
use Rattle.term_trees.specs.declared.term.Term.{Term}
use Rattle.term_trees.specs.Term.{tree, trees, trees_of}
use Rattle.term_walks.proofs.MeasureLemmas.{more_trees}
use Rattle.term_forms.specs.declared.form.Form.{Form}
use Rattle.term_forms.specs.declared.form.FormEnd.{FormEnd}
use Rattle.term_forms.specs.declared.form.FormEnd.TheVariants.{NoMemory}
use Rattle.term_forms.specs.Form.{form_of, IsNarrowed, IsFormOf, IsTermOf, AreTermsOf, IsEndOf, AreEndsOf}

pub small_form_of : (t : Tree ℕ) (f : LinearForm) → IsFormOf t f → has_small_numbers f ≡ true
small_form_of t f h = ap has_small_numbers h.same ∙ small-form t h.narrow

-- ---- forms

pub form_of_literal : (z : ℤ) (f : LinearForm) → f ≡ constant_form z → has_small_numbers (constant_form z) ≡ true → IsFormOf (literal z) f
form_of_literal z f e h = record { same = e; narrow = is_narrow-literal z ∙ ap (λ b. b && true) h }

pub form_of_truth : (b : Bool) (f : LinearForm) → f ≡ atom_form (truth_literal b) → IsFormOf (truth_literal b) f
form_of_truth b f e = record { same = e; narrow = is_narrow-truth_literal b }

pub form_of_name : (n : ℕ) (f : LinearForm) → f ≡ atom_form (name n) → IsFormOf (name n) f
form_of_name n f e = record { same = e; narrow = is_narrow-name n }

pub form_of_bound : (n : ℕ) (f : LinearForm) → f ≡ atom_form (bound n) → IsFormOf (bound n) f
form_of_bound n f e = record { same = e; narrow = is_narrow-bound n }

pub form_of_one : (op : Unary) (a : Tree ℕ) (f g : LinearForm) → IsFormOf a f → g ≡ unary_form op f → has_small_numbers (unary_form op f) ≡ true → IsFormOf (unary op a) g
form_of_one op a f g h e s =
    let same : unary_form op f ≡ form (unary op a) = ap (unary_form op) h.same in
    record { same = e ∙ same; narrow = is_narrow-unary op a ∙ and_from _ _ (ap has_small_numbers (sym same) ∙ s) h.narrow }

pub form_of_two : (op : Binary) (a b : Tree ℕ) (f g h : LinearForm) → IsFormOf a f → IsFormOf b g → h ≡ binary_form op f g → has_small_numbers (binary_form op f g) ≡ true → IsFormOf (binary op a b) h
form_of_two op a b f g h p q e s =
    let same : binary_form op f g ≡ form (binary op a b) = ap₂ (binary_form op) p.same q.same in
    record {
      same = e ∙ same;
      narrow = is_narrow-binary op a b ∙ and_from _ _ (ap has_small_numbers (sym same) ∙ s) (and_from _ _ p.narrow q.narrow);
    }

pub form_of_three : (a i x u v w : Tree ℕ) (f : LinearForm) → IsTermOf a u → IsTermOf i v → IsTermOf x w → f ≡ atom_form (update u v w) → IsFormOf (update a i x) f
form_of_three a i x u v w f p q r e = record {
  same = e ∙ (λ j. atom_form (update (p.same j) (q.same j) (r.same j)));
  narrow = is_narrow-update a i x ∙ and_from _ _ (and_from _ _ p.narrow q.narrow) r.narrow;
}

pub form_of_range : (k : Quantifier) (low high body u v w : Tree ℕ) (f : LinearForm) → IsTermOf low u → IsTermOf high v → IsTermOf body w → f ≡ atom_form (quantified k u v w) → IsFormOf (quantified k low high body) f
form_of_range k low high body u v w f p q r e = record {
  same = e ∙ (λ j. atom_form (quantified k (p.same j) (q.same j) (r.same j)));
  narrow = is_narrow-quantified k low high body ∙ and_from _ _ (and_from _ _ p.narrow q.narrow) r.narrow;
}

pub form_of_list : (l : Listed) (ts us : Trees ℕ) (f : LinearForm) → AreTermsOf ts us → f ≡ atom_form (listed l us) → IsFormOf (listed l ts) f
form_of_list l ts us f h e =
    record { same = e ∙ ap (λ xs. atom_form (listed l xs)) h.same; narrow = is_narrow-listed l ts ∙ h.narrow }

pub term_of_form : (t u : Tree ℕ) (f : LinearForm) → IsFormOf t f → u ≡ form_term f → IsTermOf t u
term_of_form t u f h e = record { same = e ∙ ap form_term h.same; narrow = h.narrow }

pub terms_of_none : AreTermsOf no_trees no_trees
terms_of_none = record { same = refl; narrow = are_narrow-none }

-- ---- ends

pub end_of_memory : (t : Tree ℕ) (e : FormEnd) → e ≡ NoMemory → IsEndOf t e
end_of_memory t e m = record { wide = λ w. absurd (cc) }

pub end_of_literal : (z : ℤ) (e : FormEnd) → has_small_numbers (constant_form z) ≡ false → IsEndOf (literal z) e
end_of_literal z e h = record { wide = λ w. is_narrow-literal z ∙ ap (λ b. b && true) h }

pub end_of_one : (op : Unary) (a : Tree ℕ) (e : FormEnd) → IsEndOf a e → IsEndOf (unary op a) e
end_of_one op a e h = record { wide = λ w. is_narrow-unary op a ∙ and_right _ _ (h.wide w) }

pub end_at_one : (op : Unary) (a : Tree ℕ) (f : LinearForm) (e : FormEnd) → IsFormOf a f → has_small_numbers (unary_form op f) ≡ false → IsEndOf (unary op a) e
end_at_one op a f e h s = record { wide = λ w. is_narrow-unary op a ∙ and_left _ _ (ap (λ g. has_small_numbers (unary_form op g)) (sym h.same) ∙ s) }

pub end_of_left : (op : Binary) (a b : Tree ℕ) (e : FormEnd) → IsEndOf a e → IsEndOf (binary op a b) e
end_of_left op a b e h = record { wide = λ w. is_narrow-binary op a b ∙ and_right _ _ (and_left _ _ (h.wide w)) }

pub end_of_right : (op : Binary) (a b : Tree ℕ) (e : FormEnd) → IsEndOf b e → IsEndOf (binary op a b) e
end_of_right op a b e h = record { wide = λ w. is_narrow-binary op a b ∙ and_right _ _ (and_right _ _ (h.wide w)) }

pub end_at_two : (op : Binary) (a b : Tree ℕ) (f g : LinearForm) (e : FormEnd) → IsFormOf a f → IsFormOf b g → has_small_numbers (binary_form op f g) ≡ false → IsEndOf (binary op a b) e
end_at_two op a b f g e p q s = record {
  wide = λ w. is_narrow-binary op a b ∙ and_left _ _ ((λ i. has_small_numbers (binary_form op (sym p.same i) (sym q.same i))) ∙ s);
}

pub end_of_sequence : (a i x : Tree ℕ) (e : FormEnd) → IsEndOf a e → IsEndOf (update a i x) e
end_of_sequence a i x e h = record { wide = λ w. is_narrow-update a i x ∙ and_left _ _ (and_left _ _ (h.wide w)) }

pub end_of_place : (a i x : Tree ℕ) (e : FormEnd) → IsEndOf i e → IsEndOf (update a i x) e
end_of_place a i x e h = record { wide = λ w. is_narrow-update a i x ∙ and_left _ _ (and_right _ _ (h.wide w)) }

pub end_of_element : (a i x : Tree ℕ) (e : FormEnd) → IsEndOf x e → IsEndOf (update a i x) e
end_of_element a i x e h = record { wide = λ w. is_narrow-update a i x ∙ and_right _ _ (h.wide w) }

pub end_of_low : (k : Quantifier) (low high body : Tree ℕ) (e : FormEnd) → IsEndOf low e → IsEndOf (quantified k low high body) e
end_of_low k low high body e h =
    record { wide = λ w. is_narrow-quantified k low high body ∙ and_left _ _ (and_left _ _ (h.wide w)) }

pub end_of_high : (k : Quantifier) (low high body : Tree ℕ) (e : FormEnd) → IsEndOf high e → IsEndOf (quantified k low high body) e
end_of_high k low high body e h =
    record { wide = λ w. is_narrow-quantified k low high body ∙ and_left _ _ (and_right _ _ (h.wide w)) }

pub end_of_body : (k : Quantifier) (low high body : Tree ℕ) (e : FormEnd) → IsEndOf body e → IsEndOf (quantified k low high body) e
end_of_body k low high body e h =
    record { wide = λ w. is_narrow-quantified k low high body ∙ and_right _ _ (h.wide w) }

pub end_of_list : (l : Listed) (ts : Trees ℕ) (e : FormEnd) → AreEndsOf ts e → IsEndOf (listed l ts) e
end_of_list l ts e h = record { wide = λ w. is_narrow-listed l ts ∙ h.wide w }

pub ends_of_memory : (ts : Trees ℕ) (e : FormEnd) → e ≡ NoMemory → AreEndsOf ts e
ends_of_memory ts e m = record { wide = λ w. absurd (cc) }

-- ---- a node, once its form is narrowed

pub narrowed_one : (op : Unary) (a : Tree ℕ) (f g : LinearForm) (r : Result Form FormEnd) → IsFormOf a f → g ≡ unary_form op f → IsNarrowed g r → IfOk r (λ h. IsFormOf (unary op a) (form_of h))
narrowed_one op a f g (Ok h) p e k =
    form_of_one op a f (form_of h) p (k.0 ∙ e) (ap has_small_numbers (sym e) ∙ k.1)
narrowed_one op a f g (Err h) p e k = tt

pub narrowed_two : (op : Binary) (a b : Tree ℕ) (f g h : LinearForm) (r : Result Form FormEnd) → IsFormOf a f → IsFormOf b g → h ≡ binary_form op f g → IsNarrowed h r → IfOk r (λ x. IsFormOf (binary op a b) (form_of x))
narrowed_two op a b f g h (Ok x) p q e k =
    form_of_two op a b f g (form_of x) p q (k.0 ∙ e) (ap has_small_numbers (sym e) ∙ k.1)
narrowed_two op a b f g h (Err x) p q e k = tt

-- ---- one more term of a list

-- the trees, and t behind them
abbrev push_tree : Trees ℕ → Tree ℕ → Trees ℕ
push_tree no_trees t = tree_then t no_trees
push_tree (tree_then s ts) t = tree_then s (push_tree ts t)

trees_of-push : (ts : List (Tree ℕ)) (t : Tree ℕ) → trees_of (ts ++ t ∷ []) ≡ push_tree (trees_of ts) t
trees_of-push [] t = refl
trees_of-push (s ∷ ts) t = ap (tree_then s) (trees_of-push ts t)

form_terms-push : (ts : Trees ℕ) (t : Tree ℕ) → form_terms (push_tree ts t) ≡ push_tree (form_terms ts) (form_term (form t))
form_terms-push no_trees t = refl
form_terms-push (tree_then s ts) t = ap (tree_then (form_term (form s))) (form_terms-push ts t)

narrow_push : (ts : Trees ℕ) (t : Tree ℕ) → are_narrow ts ≡ true → is_narrow t ≡ true → are_narrow (push_tree ts t) ≡ true
narrow_push no_trees t h k = are_narrow-then t no_trees ∙ and_from _ _ k are_narrow-none
narrow_push (tree_then s ts) t h k =
    let p = and_parts _ _ (sym (are_narrow-then s ts) ∙ h) in
    are_narrow-then s (push_tree ts t) ∙ and_from _ _ p.0 (narrow_push ts t p.1 k)

pub AreTermsOf-more : (terms : List Term) (i : ℕ) (t u : Term) (us new : List Term) → AreTermsOf (trees (take i terms)) (trees us) → i < length terms → t ≡ get_or terms i t → IsTermOf (tree t) (tree u) → new ≡ us ++ u ∷ [] → AreTermsOf (trees (take (i + 1) terms)) (trees new)
AreTermsOf-more terms i t u us new h l is k e =
    let old : trees (take (i + 1) terms) ≡ push_tree (trees (take i terms)) (tree t) =
    more_trees terms i t l is ∙ trees_of-push (map tree (take i terms)) (tree t) in
    let made : trees new ≡ push_tree (trees us) (tree u) =
    ap trees e ∙ ap trees_of (map-append tree us (u ∷ [])) ∙ trees_of-push (map tree us) (tree u) in
    record {
      same = made ∙ ap₂ push_tree h.same k.same ∙ sym (form_terms-push (trees (take i terms)) (tree t)) ∙ ap form_terms (sym old);
      narrow = ap are_narrow old ∙ narrow_push (trees (take i terms)) (tree t) h.narrow k.narrow;
    }

pub ends_of_item : (terms : List Term) (i : ℕ) (t : Term) (e : FormEnd) → i < length terms → t ≡ get_or terms i t → IsEndOf (tree t) e → AreEndsOf (trees terms) e
ends_of_item [] i t e l is h = absurd (omega arith)
ends_of_item (s ∷ terms) zero t e l is h = record {
  wide = λ w. are_narrow-then (tree s) (trees terms) ∙ and_left _ _ (ap (λ x. is_narrow (tree x)) (sym is) ∙ h.wide w);
}
ends_of_item (s ∷ terms) (suc i) t e l is h = record {
  wide = λ w. are_narrow-then (tree s) (trees terms) ∙ and_right _ _ ((ends_of_item terms i t e (omega arith) is h).wide w);
}

pub ruleset form_lines = (small_form_of, form_of_literal, form_of_truth, form_of_name, form_of_bound, form_of_one, form_of_two, form_of_three, form_of_range, form_of_list, term_of_form, end_of_memory, end_of_literal, end_of_one, end_at_one, end_of_left, end_of_right, end_at_two, end_of_sequence, end_of_place, end_of_element, end_of_low, end_of_high, end_of_body, end_of_list, ends_of_memory)
