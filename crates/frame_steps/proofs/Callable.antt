-- A well-typed program calls methods that are there, with no more arguments than they have locals.
use Rattle.std.proofs.Common.{◌≡◌, ℕ, zero, suc, ◌<◌, ◌≤◌, Bool, true, false, List, [], ◌∷◌, length, take, get_or, Option, Some, None, refl, sym, ap}
use Rattle.std.proofs.Common.{◌∙◌, subst, arith, length-take}
use Rattle.std.specs.List.{AllByRecursion}
use Rattle.std.specs.Borrow.{Bor}
use Rattle.slang_values.specs.Value.{ValueType}
use Rattle.program_trees.specs.Programs.{TypedExpr, CodeTree, set, give, assert, deduce, branch, loop, call, CodeTrees, no_code, code_then}
use Rattle.program_trees.specs.Programs.{MethodTree, ProgramTree}
use Rattle.program_trees.specs.Variables.{Variable}
use Rattle.typed_programs.specs.Scopes.{Scope, AreValuesIn}
use Rattle.typed_programs.specs.WellTyped.{Around, behind, within, End, goes_on, returns, ended, end_behind, IsCall, IsTypedCode, AreTypedCodes}
use Rattle.typed_programs.specs.WellTyped.{IsTypedMethod, around_body, body_end}
use Rattle.lk_programs.specs.declared.typed.Typed.{Typed}
use Rattle.lk_programs.specs.declared.program.Code.{Code}
use Rattle.run_rules.specs.Runs.{method_at}
use Rattle.expression_values.specs.declared.environment.Env.{Env}
use Rattle.code_paths.specs.declared.inside.Inside.{Inside}
use Rattle.code_paths.specs.Places.{nth_statement, part_of, part_where, inner_block, block_in}
use Rattle.run_frames.specs.Frames.{block_of}
use Rattle.run_steps.specs.Steps.{program_of, CanCall, code_in}
use Rattle.frame_steps.specs.Places.{IsThere, CanCallThere}

some_inj : {A : Type 0} {x y : A} → Some x ≡ Some y → x ≡ y
some_inj e = cc

-- ---- calls

values_count : (scope : Scope) (ts : List ValueType) (exprs : List (TypedExpr Variable)) → AreValuesIn scope ts exprs → length exprs ≡ length ts
values_count scope [] [] h = refl
values_count scope [] (expr ∷ exprs) h = absurd h
values_count scope (t ∷ ts) [] h = absurd h
values_count scope (t ∷ ts) (expr ∷ exprs) h = ap suc (values_count scope ts exprs h.1)

front_length : {A : Type 0} (xs ys : List A) → take (length ys) xs ≡ ys → length ys ≤ length xs
front_length xs ys h = omega (arith, sym (ap (λ l. length l) h) ∙ length-take (length ys) xs)

all_at : {A : Type 0} (P : A → Type 0) (xs : List A) (n : ℕ) (d : A) → AllByRecursion P xs → n < length xs → P (get_or xs n d)
all_at P [] n d h within_it = absurd (omega (arith, within_it))
all_at P (x ∷ xs) zero d h within_it = h.0
all_at P (x ∷ xs) (suc n) d h within_it = all_at P xs n d h.1 (omega (arith, within_it))

-- ---- statements

module _ (program : ProgramTree Variable) where
  -- the statements are well typed around them
  record AreTyped (codes : CodeTrees Variable) : Type 0 where
    end : End
    around : Around
    same : around.scope.program ≡ program
    typed : AreTypedCodes end around codes

  record IsTyped (code : CodeTree Variable) : Type 0 where
    end : End
    around : Around
    same : around.scope.program ≡ program
    typed : IsTypedCode end around code

  behind_same : (around : Around) (code : CodeTree Variable) → (behind around code).scope.program ≡ around.scope.program
  behind_same around (set node target value) = refl
  behind_same around (give node value) = refl
  behind_same around (assert noted) = refl
  behind_same around (deduce node steps) = refl
  behind_same around (branch node test on_true on_false) = refl
  behind_same around (loop node test modifies invariants body) = refl
  behind_same around (call node None name_node number arguments) = refl
  behind_same around (call node (Some x) name_node number arguments) = refl

  statement_typed : (codes : CodeTrees Variable) → AreTyped codes → (n : ℕ) (code : CodeTree Variable) → nth_statement codes n ≡ Some code → IsTyped code
  statement_typed codes h n code is = at codes h.end h.around h.same h.typed n is
    where
      at : (codes : CodeTrees Variable) (end : End) (around : Around) → around.scope.program ≡ program → AreTypedCodes end around codes
          → (n : ℕ) → nth_statement codes n ≡ Some code → IsTyped code
      at no_code end around same typed n is = absurd (cc)
      at (code_then first codes) ended around same typed n is = absurd typed
      at (code_then first codes) goes_on around same typed zero is =
          record { end = goes_on; around = around; same = same; typed = subst (IsTypedCode goes_on around) (some_inj is) typed.0 }
      at (code_then first codes) (returns t) around same typed zero is =
          record { end = returns t; around = around; same = same; typed = subst (IsTypedCode (returns t) around) (some_inj is) typed.0 }
      at (code_then first codes) goes_on around same typed (suc n) is =
          at codes (end_behind goes_on first) (behind around first) (behind_same around first ∙ same) typed.1 n is
      at (code_then first codes) (returns t) around same typed (suc n) is =
          at codes (end_behind (returns t) first) (behind around first) (behind_same around first ∙ same) typed.1 n is

  nothing_typed : (around : Around) → around.scope.program ≡ program → AreTyped no_code
  nothing_typed around same = record { end = goes_on; around = around; same = same; typed = tt }

  part_typed : (code : CodeTree Variable) (otherwise : Bool) → IsTyped code → AreTyped (part_of code otherwise)
  part_typed (set node target value) otherwise h = nothing_typed h.around h.same
  part_typed (give node value) otherwise h = nothing_typed h.around h.same
  part_typed (assert noted) otherwise h = nothing_typed h.around h.same
  part_typed (deduce node steps) otherwise h = nothing_typed h.around h.same
  part_typed (branch node test on_true on_false) otherwise h = by_case h.end otherwise h.typed
    where
      by_case : (end : End) (b : Bool) → IsTypedCode end h.around (branch node test on_true on_false)
          → AreTyped (part_of (branch node test on_true on_false) b)
      by_case goes_on true t = record { end = goes_on; around = h.around; same = h.same; typed = t.3 }
      by_case goes_on false t = record { end = goes_on; around = h.around; same = h.same; typed = t.2 }
      by_case (returns r) true t = record { end = goes_on; around = h.around; same = h.same; typed = t.3 }
      by_case (returns r) false t = record { end = goes_on; around = h.around; same = h.same; typed = t.2 }
      by_case ended true t = record { end = goes_on; around = h.around; same = h.same; typed = t.3 }
      by_case ended false t = record { end = goes_on; around = h.around; same = h.same; typed = t.2 }
  part_typed (loop node test modifies invariants body) otherwise h = by_case h.end h.typed
    where
      by_case : (end : End) → IsTypedCode end h.around (loop node test modifies invariants body) → AreTyped body
      by_case goes_on t = record { end = goes_on; around = within h.around modifies; same = h.same; typed = t.4 }
      by_case (returns r) t = record { end = goes_on; around = within h.around modifies; same = h.same; typed = t.4 }
      by_case ended t = record { end = goes_on; around = within h.around modifies; same = h.same; typed = t.4 }
  part_typed (call node target name_node number arguments) otherwise h = nothing_typed h.around h.same

  block_typed : (codes : CodeTrees Variable) (path : List Inside) → AreTyped codes → AreTyped (block_in codes path)
  block_typed codes [] h = h
  block_typed codes (inside ∷ path) h = block_typed (inner_block codes inside.statement inside.otherwise) path (where_typed
      (nth_statement codes inside.statement) refl)
    where
      where_typed : (found : Option (CodeTree Variable)) → nth_statement codes inside.statement ≡ found → AreTyped (part_where found inside.otherwise)
      where_typed None is = nothing_typed h.around h.same
      where_typed (Some code) is = part_typed code inside.otherwise (statement_typed codes h inside.statement code is)

  module _ (nodes : ℕ) (methods : AllByRecursion (IsTypedMethod program nodes) program.methods) where
    method_typed : (number : ℕ) → number < length program.methods → IsTypedMethod program nodes (method_at program number)
    method_typed number there = all_at (IsTypedMethod program nodes) program.methods number _ methods there

    -- the parameters are locals
    pub params_few : (number : ℕ) → number < length program.methods → length (method_at program number).params ≤ length (method_at program number).locals
    params_few number there = front_length (method_at program number).locals (method_at program number).params (method_typed number there).params

    body_typed : (number : ℕ) → number < length program.methods → AreTyped (method_at program number).body
    body_typed number there =
        let method = method_at program number in
        record {
          end = body_end program nodes method method.result;
          around = around_body program nodes method;
          same = refl;
          typed =
              (method_typed number there).body;
        }

    call_can : (around : Around) (target : Option Variable) (node name_node number : ℕ) (arguments : List (TypedExpr Variable))
        → around.scope.program ≡ program
        → IsCall around target number arguments → CanCall program (call node target name_node number arguments)
    call_can around target node name_node number arguments same h =
        let there = subst (λ (p : ProgramTree Variable). number < length p.methods) same h.there in
        let few = params_few number there in
        let count = values_count around.scope _ arguments h.arguments_typed ∙ ap (λ (p : ProgramTree Variable). length (method_at p number).params) same in
        (there, omega (arith, few, count))

    can_call : (code : CodeTree Variable) → IsTyped code → CanCall program code
    can_call (set node target value) h = tt
    can_call (give node value) h = tt
    can_call (assert noted) h = tt
    can_call (deduce node steps) h = tt
    can_call (branch node test on_true on_false) h = tt
    can_call (loop node test modifies invariants body) h = tt
    can_call (call node target name_node number arguments) h = by_case h.end h.typed
      where
        by_case : (end : End) → IsTypedCode end h.around (call node target name_node number arguments)
            → CanCall program (call node target name_node number arguments)
        by_case goes_on t = call_can h.around target node name_node number arguments h.same t.2
        by_case (returns r) t = call_can h.around target node name_node number arguments h.same t.2
        by_case ended t = call_can h.around target node name_node number arguments h.same t.2

    pub calls_there : (number : ℕ) (path : List Inside) (n : ℕ) (env : Env) (answer : Option (Bor Code)) → number < length program.methods
        → IsThere program number env path n answer → CanCallThere program env answer
    calls_there number path n env None there h = tt
    calls_there number path n env (Some code) there h =
        can_call (code_in env code.now)
        (statement_typed (block_of program number path) (block_typed (method_at program number).body path (body_typed number there)) n
        (code_in env code.now) h)
