-- How many legs there are.
use Rattle.std.proofs.Common.{◌≡◌, ℕ, ◌+◌, List, [], ◌∷◌, ◌++◌, length, refl, ap₂, ◌∙◌, length-append}
use Rattle.std.proofs.lemmas.List.{length-map}
use Rattle.program_trees.specs.declared.answer.Kind.TheVariants as kinds
use Rattle.program_trees.specs.Programs.{CodeTree, set, give, assert, deduce, branch, loop, call, CodeTrees, no_code, code_then, MethodTree, ProgramTree}
use Rattle.program_trees.specs.Variables.{Variable, result}
use Rattle.leg_rules.specs.Legs.{Items, checked, own_claims, set_items, assert_items, deduce_items, test_items, loop_items, call_items, on_true_items, on_false_items, in_front, legs_of, legs_of_code, entry_and_requires, with_fixed, ensures_at_end, legs, leg_count_of, leg_count_of_code, leg_count}

count-in_front : (items : Items) (following : List Items) (n : ℕ) → length following ≡ n → length (in_front items following) ≡ n
count-in_front items following n h = length-map following (λ leg. items ++ leg) ∙ h

count-both : (on_true on_false : Items) (a b : List Items) (m n : ℕ) → length a ≡ m → length b ≡ n → length (in_front on_true a ++ in_front on_false b) ≡ m + n
count-both on_true on_false a b m n h k =
    length-append (in_front on_true a) (in_front on_false b) ∙ ap₂ (λ x y. x + y) (count-in_front on_true a m h) (count-in_front on_false b n k)

module _ (program : ProgramTree Variable) where
  mutual
    pub count-of : (statement : CodeTree Variable) (following : List Items) (n : ℕ) → length following ≡ n
        → length (legs_of program statement following) ≡ leg_count_of statement n
    count-of (set node target value) following n h = count-in_front (set_items node target value) following n h
    count-of (give node value) following n h = count-in_front (set_items node result value) following n h
    count-of (assert noted) following n h = count-in_front (assert_items noted) following n h
    count-of (deduce node steps) following n h = count-in_front (deduce_items node steps) following n h
    count-of (branch node test on_true on_false) following n h =
        let a = legs_of_code program on_true following in
        let b = legs_of_code program on_false following in
        count-in_front (test_items test) (in_front (on_true_items node test) a ++ in_front (on_false_items node test) b) _
        (count-both (on_true_items node test) (on_false_items node test) a b _ _ (count-of_code on_true following n h) (count-of_code on_false following n h))
    count-of (loop node test modifies invariants body) following n h =
        let end = checked kinds.InvKept (own_claims invariants) ∷ [] in
        let a = legs_of_code program body end in
        count-in_front (loop_items node test modifies invariants) (in_front (on_true_items node test) a ++ in_front (on_false_items node test) following) _
        (count-both (on_true_items node test) (on_false_items node test) a following _ _ (count-of_code body end 1 refl) h)
    count-of (call node target name_node number arguments) following n h =
        count-in_front (call_items program node target name_node number arguments) following n h

    pub count-of_code : (code : CodeTrees Variable) (following : List Items) (n : ℕ) → length following ≡ n
        → length (legs_of_code program code following) ≡ leg_count_of_code code n
    count-of_code no_code following n h = h
    count-of_code (code_then statement code) following n h = count-of statement (legs_of_code program code following) (leg_count_of_code code n)
        (count-of_code code following n h)

  pub legs_counted : (method : MethodTree Variable) → length (legs program method) ≡ leg_count method
  legs_counted method = length-map (legs_of_code program method.body (ensures_at_end method ∷ [])) (λ leg. with_fixed program method
      (entry_and_requires program method ++ leg)) ∙ count-of_code method.body (ensures_at_end method ∷ []) 1 refl
