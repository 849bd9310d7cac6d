-- What a call adds, as the items that are meant.
use Rattle.std.proofs.Common.{◌≡◌, ℕ, suc, true, false, ◌+◌, List, [], ◌∷◌, ◌++◌, map, length, Option, refl, ap, ap₂, sym, ◌∙◌, append_assoc, arith}
use Rattle.std.proofs.lemmas.Bool.{false≢true}
use Rattle.std.proofs.lemmas.List.{map-append, append-nil}
use Rattle.slang_values.specs.Value.{ValueType, unit_type, number_type, truth_type, sequence_type, record_type}
use Rattle.program_trees.specs.declared.answer.Kind.TheVariants as kinds
use Rattle.program_trees.specs.Claims.{ClaimTree, renamed_claim, renamed_noted}
use Rattle.program_trees.specs.Legs.{assume, check, set, fresh}
use Rattle.program_trees.specs.Programs.{TypedExpr, claim_of, MethodTree, ProgramTree, renamed_method}
use Rattle.program_trees.specs.Variables.{Variable, local, global, entry, result}
use Rattle.lk_claims.specs.Claim.{value_type}
use Rattle.lk_programs.specs.declared.expression.NodeNo.{NodeNo}
use Rattle.lk_programs.specs.declared.program.Noted.{Noted}
use Rattle.lk_programs.specs.declared.program.Method.{Method}
use Rattle.lk_programs.specs.Program.{noted_tree, method_tree}
use Rattle.run_rules.specs.Runs.{method_at}
use Rattle.leg_rules.specs.LegNames.{LegName, own, of_call, callee_name}
use Rattle.leg_rules.specs.Legs.{Items, at_node, own_claim, demanded, parameter_items, requires_items, entry_items, result_names, target_items, call_items, assumed}
use Rattle.leg_rules.specs.Checks.{argument_demands, demands}
use Rattle.leg_items.specs.declared.name.Scope.{Scope}
use Rattle.leg_items.specs.declared.name.Frame.{Frame}
use Rattle.leg_items.specs.declared.name.Frame.TheVariants as f
use Rattle.leg_items.specs.Names.{kind_of}
use Rattle.leg_items.specs.Drafts.{framed, framed_assumption}
use Rattle.leg_items.proofs.Renaming.{renamed-renamed}
use Rattle.call_items.specs.Frames.{claims_in, entries_among, is_given}

-- ---- arguments

pub parameters-append : (node method place : ℕ) (xs : List (TypedExpr Variable)) (x : TypedExpr Variable) →
    parameter_items node method place (xs ++ x ∷ []) ≡ parameter_items node method place xs ++ parameter_items node method (place + length xs) (x ∷ [])
parameters-append node method place [] x = ap (λ n. parameter_items node method n (x ∷ [])) (omega arith)
parameters-append node method place (y ∷ xs) x =
    let same : suc place + length xs ≡ place + suc (length xs) = omega arith in
    ap (λ l. at_node node (set (of_call node method (local place)) (own_claim (claim_of y))) ∷ l) (parameters-append node method (suc place) xs x ∙ ap (λ n. parameter_items node method (suc place) xs ++ parameter_items node method n (x ∷ [])) same)

demands-append : (es ds : List (TypedExpr Variable)) → argument_demands (es ++ ds) ≡ argument_demands es ++ argument_demands ds
demands-append [] ds = refl
demands-append (e ∷ es) ds = ap (λ l. demands e ++ l) (demands-append es ds) ∙ sym (append_assoc (demands e) (argument_demands es) (argument_demands ds))

pub demands-more : (es all : List (TypedExpr Variable)) (e : TypedExpr Variable) (old middle new : Items) → all ≡ es ++ e ∷ [] →
    middle ≡ old ++ demanded (argument_demands es) → new ≡ middle ++ demanded (demands e) → new ≡ old ++ demanded (argument_demands all)
demands-more es all e old middle new is a b =
    let told : demanded (argument_demands all) ≡ demanded (argument_demands es) ++ demanded (demands e) =
    ap (λ l. demanded (argument_demands l)) is ∙ ap demanded (demands-append es (e ∷ []))
    ∙ ap (λ l. demanded (argument_demands es ++ l)) (append-nil (demands e)) ∙ map-append _ (argument_demands es) (demands e) in
    b ∙ ap (λ l. l ++ demanded (demands e)) a ∙ append_assoc old (demanded (argument_demands es)) (demanded (demands e)) ∙ ap (λ l. old ++ l) (sym told)

pub parameters-more : (node method place : ℕ) (xs all : List (TypedExpr Variable)) (x : TypedExpr Variable) (old middle new : Items) → all ≡ xs ++ x ∷ [] → place ≡ length xs →
    middle ≡ old ++ parameter_items node method 0 xs → new ≡ middle ++ parameter_items node method place (x ∷ []) → new ≡ old ++ parameter_items node method 0 all
parameters-more node method place xs all x old middle new is at a b =
    let there : 0 + length xs ≡ place = omega (arith, at) in
    let told : parameter_items node method 0 all ≡ parameter_items node method 0 xs ++ parameter_items node method place (x ∷ []) =
    ap (parameter_items node method 0) is ∙ parameters-append node method 0 xs x ∙ ap (λ n. parameter_items node method 0 xs ++ parameter_items node method n (x ∷ [])) there in
    b ∙ ap (λ l. l ++ parameter_items node method place (x ∷ [])) a ∙ append_assoc old (parameter_items node method 0 xs) (parameter_items node method place (x ∷ []))
    ∙ ap (λ l. old ++ l) (sym told)

-- ---- claims of the called method

module _ (node : NodeNo) (method : ℕ) (scope : Scope) where
  abbrev frame : Frame
  frame = f.Call node method scope

  called_claim : (t : ClaimTree ℕ) → framed frame t ≡ renamed_claim (callee_name node.0 method) (renamed_claim (kind_of scope) t)
  called_claim t = sym (renamed-renamed (callee_name node.0 method) (kind_of scope) t)

  pub required_is : (name : ℕ) (claims : List Noted) →
      map (λ noted. at_node name (check kinds.Requires (framed frame (noted_tree noted).claim))) claims ≡ requires_items node.0 method name (claims_in scope claims)
  required_is name [] = refl
  required_is name (claim ∷ claims) =
      ap₂ (λ t later. at_node name (check kinds.Requires t) ∷ later) (called_claim (noted_tree claim).claim) (required_is name claims)

  pub assumed_is : (claims : List Noted) →
      map (λ noted. framed_assumption frame (noted_tree noted)) claims ≡ assumed (map (renamed_noted (callee_name node.0 method)) (claims_in scope claims))
  assumed_is [] = refl
  assumed_is (claim ∷ claims) =
      ap₂ (λ t later. at_node (noted_tree claim).node (assume t) ∷ later) (called_claim (noted_tree claim).claim) (assumed_is claims)

-- ---- the result

pub result_given : (node method : ℕ) (t : ValueType) → true ≡ is_given t → result_names node method t ≡ of_call node method result ∷ []
result_given node method unit_type e = absurd (false≢true (sym e))
result_given node method number_type e = refl
result_given node method truth_type e = refl
result_given node method (sequence_type t) e = refl
result_given node method (record_type n) e = refl

pub no_result : (node method : ℕ) (t : ValueType) → false ≡ is_given t → result_names node method t ≡ []
no_result node method unit_type e = refl
no_result node method number_type e = absurd (false≢true e)
no_result node method truth_type e = absurd (false≢true e)
no_result node method (sequence_type t) e = absurd (false≢true e)
no_result node method (record_type n) e = absurd (false≢true e)

-- ---- all of it

joined : (x a b c d e f g : Items) → ((((((x ++ a) ++ b) ++ c) ++ d) ++ e) ++ f) ++ g ≡ x ++ (a ++ (b ++ (c ++ (d ++ (e ++ (f ++ g))))))
joined x a b c d e f g =
    append_assoc (((((x ++ a) ++ b) ++ c) ++ d) ++ e) f g
    ∙ append_assoc ((((x ++ a) ++ b) ++ c) ++ d) e (f ++ g)
    ∙ append_assoc (((x ++ a) ++ b) ++ c) d (e ++ (f ++ g))
    ∙ append_assoc ((x ++ a) ++ b) c (d ++ (e ++ (f ++ g)))
    ∙ append_assoc (x ++ a) b (c ++ (d ++ (e ++ (f ++ g))))
    ∙ append_assoc x a (b ++ (c ++ (d ++ (e ++ (f ++ g)))))

module _ (node : NodeNo) (method name : ℕ) (callee : Scope) (target : Option Variable) (arguments : List (TypedExpr Variable)) where
  abbrev entry_of : ℕ → LegName
  entry_of g = of_call node.0 method (entry g)

  -- the items of a call, from the count of the globals and the called method
  abbrev items_over : ℕ → MethodTree Variable → Items
  items_over globals called =
      demanded (argument_demands arguments)
      ++ (parameter_items node.0 method 0 arguments
      ++ (requires_items node.0 method name called.requires_
      ++ (entry_items node.0 entry_of (entries_among globals called.ensures_)
      ++ (at_node node.0 (fresh (map (λ g. own (global g)) called.modifies ++ result_names node.0 method called.result)) ∷ []
      ++ (assumed (map (renamed_noted (callee_name node.0 method)) called.ensures_)
      ++ target_items node.0 method target)))))

  pub call_is : (m : Method) (rs es fs : List Noted) (x0 x1 x2 x3 x4 x5 x6 x7 : Items) (names : List LegName) → rs ≡ m.requires_ → es ≡ m.ensures_ → fs ≡ m.ensures_ →
      x1 ≡ x0 ++ demanded (argument_demands arguments) →
      x2 ≡ x1 ++ parameter_items node.0 method 0 arguments →
      x3 ≡ x2 ++ map (λ noted. at_node name (check kinds.Requires (framed (f.Call node method callee) (noted_tree noted).claim))) rs →
      x4 ≡ x3 ++ entry_items node.0 entry_of (entries_among callee.globals (claims_in callee es)) →
      x5 ≡ x4 ++ at_node node.0 (fresh names) ∷ [] →
      names ≡ map (λ g. own (global g)) m.modifies ++ result_names node.0 method (value_type m.result) →
      x6 ≡ x5 ++ map (λ noted. framed_assumption (f.Call node method callee) (noted_tree noted)) fs →
      x7 ≡ x6 ++ target_items node.0 method target →
      (program : ProgramTree Variable) → length program.globals ≡ callee.globals → method_at program method ≡ renamed_method (kind_of callee) (method_tree m) →
      x7 ≡ x0 ++ call_items program node.0 target name method arguments
  call_is m rs es fs x0 x1 x2 x3 x4 x5 x6 x7 names g1 g2 g3 e1 e2 e3 e4 e5 e e6 e7 program count is =
      let a : Items = demanded (argument_demands arguments) in
      let b : Items = parameter_items node.0 method 0 arguments in
      let c : Items = requires_items node.0 method name (claims_in callee m.requires_) in
      let d : Items = entry_items node.0 entry_of (entries_among callee.globals (claims_in callee m.ensures_)) in
      let h : Items = at_node node.0 (fresh (map (λ g. own (global g)) m.modifies ++ result_names node.0 method (value_type m.result))) ∷ [] in
      let k : Items = assumed (map (renamed_noted (callee_name node.0 method)) (claims_in callee m.ensures_)) in
      let l : Items = target_items node.0 method target in
      let s2 : x2 ≡ (x0 ++ a) ++ b = e2 ∙ ap (λ x. x ++ b) e1 in
      let s3 : x3 ≡ ((x0 ++ a) ++ b) ++ c = e3 ∙ ap₂ (λ x y. x ++ y) s2 (required_is node method callee name rs ∙ ap (λ l. requires_items node.0 method name (claims_in callee l)) g1) in
      let s4 : x4 ≡ (((x0 ++ a) ++ b) ++ c) ++ d = e4 ∙ ap₂ (λ x y. x ++ entry_items node.0 entry_of (entries_among callee.globals (claims_in callee y))) s3 g2 in
      let s5 : x5 ≡ ((((x0 ++ a) ++ b) ++ c) ++ d) ++ h = e5 ∙ ap₂ (λ x y. x ++ at_node node.0 (fresh y) ∷ []) s4 e in
      let s6 : x6 ≡ (((((x0 ++ a) ++ b) ++ c) ++ d) ++ h) ++ k = e6 ∙ ap₂ (λ x y. x ++ y) s5 (assumed_is node method callee fs ∙ ap (λ l. assumed (map (renamed_noted (callee_name node.0 method)) (claims_in callee l))) g3) in
      e7 ∙ ap (λ x. x ++ l) s6 ∙ joined x0 a b c d h k l ∙ ap (λ x. x0 ++ x) (sym (ap₂ items_over count is))
