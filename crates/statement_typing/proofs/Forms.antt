-- Single statements without faults.
use Rattle.std.proofs.Common.{◌≡◌, ℕ, ◌+◌, ◌<◌, ◌≤◌, Bool, true, false, cond, ◌&&◌, List, [], ◌∷◌, ◌++◌, length, slice_get, Option, Some, None, is_some, unwrap_or, refl, sym, ap, ◌∙◌, subst, arith}
use Rattle.std.proofs.lemmas.Bool.{and_from}
use Rattle.slang_values.specs.Value.{ValueType, unit_type}
use Rattle.slang_tree.specs.declared.place.Place.{Place}
use Rattle.slang_tree.specs.declared.expression.Name.{Name}
use Rattle.slang_tree.specs.TypeTree.{TypeTree}
use Rattle.slang_tree.specs.ExprTree.{ExprTree, ExprTrees}
use Rattle.slang_tree.specs.ExprTree as e
use Rattle.program_trees.specs.Programs.{CodeTree, MethodTree, ProgramTree}
use Rattle.program_trees.specs.Variables.{Variable, local, variable_types}
use Rattle.typed_programs.specs.Scopes.{IsValueIn}
use Rattle.typed_programs.specs.WellTyped.{Around, is_local, target_type, IsTarget, behind as around_behind, End, end_behind, IsTypedCode}
use Rattle.type_rules.specs.Faults.{unless, duplicate_name, constant_assigned, outside_modifies, call_out_of_place}
use Rattle.type_rules.specs.Meanings.{Signature, Meaning, variable, bound_variable, block_variable, record_class, method, Scope, meaning_of, is_known, is_well_declared, with_local}
use Rattle.type_rules.specs.Judged.{faults_of, are_typed, faults_against_optional}
use Rattle.type_rules.specs.Expressions.{in_program, argument_faults, callee_meant, judged_call, judged, judged_each, judged_side, judged_right}
use Rattle.type_rules.specs.Steps.{new_name_faults}
use Rattle.type_rules.specs.Statements.{declared_type, value_faults, target_faults, target_type as type_of_target, call_faults}
use Rattle.typed_texts.specs.Values.{value_of_tree}
use Rattle.typed_texts.specs.Code.{call_of, set_to, applied_to, assigned as code_assigned, variable_meant, type_declared}
use Rattle.claim_typing.proofs.Parts.{both_nil, one_is_none, unless-nil}
use Rattle.text_heights.specs.Low.{IsLow, AreLow}
use Rattle.statement_typing.specs.Around.{place_at, around_at, IsVariable, IsMethod, FitsAround, HasLocals}
use Rattle.statement_typing.proofs.Lists.{unless_not}
use Rattle.statement_typing.proofs.Typed.{against, each_typed, over_type}
use Rattle.statement_typing.proofs.Fits.{or_this, well_declared, declared_in_program, fits_again, fits_local}
use Rattle.statement_typing.proofs.Sides.{each_low, value_here, Calls, calls, call_in, right_typed}
use Rattle.statement_typing.proofs.Declares.{declares}

module _ (program : ProgramTree Variable) (own : MethodTree Variable) (nodes : ℕ) where
  -- A statement stands where it may, and behind it the place agrees with the scope there.
  pub record Follows (end : End) (named assigned : Variable → Bool) (code : CodeTree Variable) (next : Scope) : Type 0 where
    pub typed : IsTypedCode end (around_at program own nodes named assigned) code
    pub stays : end_behind end code ≡ end
    pub then_named : Variable → Bool
    pub then_assigned : Variable → Bool
    pub same : around_behind (around_at program own nodes named assigned) code ≡ around_at program own nodes then_named then_assigned
    pub fits : FitsAround program own nodes then_named then_assigned next

  module _ (end : End) (named assigned : Variable → Bool) (scope : Scope) (fits : FitsAround program own nodes named assigned scope) where
    abbrev around : Around
    around = around_at program own nodes named assigned

    -- ---- a variable gets a value

    set_follows : (place : Place) (x : Variable) (t : ValueType) (tree : ExprTree) (node : ℕ) → IsTarget around x t →
        (judged scope in_program tree).type ≡ Some t → IsLow tree → node + length (set_to place x (value_of_tree scope tree)).places ≤ nodes →
        (next : Scope) → FitsAround program own nodes (or_this x named) (or_this x assigned) next →
        Follows end named assigned ((set_to place x (value_of_tree scope tree)).from node) next
    set_follows place x t tree node target h low room next after =
        let same : t ≡ target_type around x = ap (λ o. unwrap_or o unit_type) (sym target.1) in
        record {
          typed = (
            omega (arith, room),
            subst (IsTarget around x) same target,
            subst (λ u. IsValueIn (place_at program own nodes named) u ((value_of_tree scope tree).from (node + 1))) same
                (value_here program own nodes named assigned scope fits tree t (node + 1) h low (omega (arith, room))),
          );
          stays = refl;
          then_named = or_this x named;
          then_assigned = or_this x assigned;
          same = refl;
          fits = after;
        }

    call_to_follows : (place name_place at : Place) (x : Variable) (number : ℕ) (signature : Signature) (modifies : List (List ℕ)) (arguments : ExprTrees) (node : ℕ) →
        IsMethod program own nodes scope.names number signature modifies →
        Calls program own nodes named assigned scope fits at signature modifies (judged_each scope in_program arguments) → AreLow arguments →
        node + length (call_of scope place (Some x) name_place (Some (method number (Some signature) modifies)) arguments).places ≤ nodes →
        IsTarget around x signature.result → (next : Scope) → FitsAround program own nodes (or_this x named) (or_this x assigned) next →
        Follows end named assigned ((call_of scope place (Some x) name_place (Some (method number (Some signature) modifies)) arguments).from node) next
    call_to_follows place name_place at x number signature modifies arguments node is call low room target next after = record {
      typed = (
        omega (arith, room),
        omega (arith, room),
        call_in program own nodes named assigned scope fits at number signature modifies is arguments call low (node + 1 + length (name_place ∷ []))
            (omega (arith, room)) (Some x) target,
      );
      stays = refl;
      then_named = or_this x named;
      then_assigned = or_this x assigned;
      same = refl;
      fits = after;
    }

    side_follows : (place at name_place : Place) (x : Variable) (t : ValueType) (text : List ℕ) (arguments : ExprTrees) (tree : ExprTree) (node : ℕ)
        (meaning : Option Meaning) → meaning_of scope text ≡ meaning → IsTarget around x t →
        (judged_side scope at (callee_meant meaning) (judged scope in_program tree) (judged_each scope in_program arguments)).faults ≡ [] →
        (judged_side scope at (callee_meant meaning) (judged scope in_program tree) (judged_each scope in_program arguments)).type ≡ Some t →
        IsLow tree → AreLow arguments →
        node + length (applied_to scope place x name_place meaning arguments (value_of_tree scope tree)).places ≤ nodes →
        (next : Scope) → FitsAround program own nodes (or_this x named) (or_this x assigned) next →
        Follows end named assigned ((applied_to scope place x name_place meaning arguments (value_of_tree scope tree)).from node) next
    side_follows place at name_place x t text arguments tree node None m target none h low lows room next after =
        set_follows place x t tree node target h low room next after
    side_follows place at name_place x t text arguments tree node (Some (variable y changes type)) m target none h low lows room next after =
        set_follows place x t tree node target h low room next after
    side_follows place at name_place x t text arguments tree node (Some (bound_variable depth)) m target none h low lows room next after =
        set_follows place x t tree node target h low room next after
    side_follows place at name_place x t text arguments tree node (Some (block_variable label)) m target none h low lows room next after =
        set_follows place x t tree node target h low room next after
    side_follows place at name_place x t text arguments tree node (Some (record_class n)) m target none h low lows room next after =
        set_follows place x t tree node target h low room next after
    side_follows place at name_place x t text arguments tree node (Some (method number None modifies)) m target none h low lows room next after =
        absurd (fits.meanings text (method number None modifies) m)
    side_follows place at name_place x t text arguments tree node (Some (method number (Some signature) modifies)) m target none h low lows room next after =
        let call = calls program own nodes named assigned scope fits at signature modifies arguments none in
        let result_type : (judged_call scope at (Some signature) modifies (judged_each scope in_program arguments)).type ≡ Some signature.result =
        over_type at (judged_each scope in_program arguments) (argument_faults at signature.params (judged_each scope in_program arguments)) (Some signature.result) call.parts in
        let same : t ≡ signature.result = ap (λ o. unwrap_or o unit_type) (sym h ∙ result_type) in
        call_to_follows place name_place at x number signature modifies arguments node (fits.meanings text (method number (Some signature) modifies) m) call
        lows room (subst (IsTarget around x) same target) next after

    -- a variable gets the value of a right side
    pub right_follows : (place : Place) (x : Variable) (t : ValueType) (tree : ExprTree) (node : ℕ) → IsTarget around x t →
        (judged_right scope tree).faults ≡ [] → (judged_right scope tree).type ≡ Some t → IsLow tree →
        node + length (code_assigned scope place x tree).places ≤ nodes →
        (next : Scope) → FitsAround program own nodes (or_this x named) (or_this x assigned) next →
        Follows end named assigned ((code_assigned scope place x tree).from node) next
    right_follows place x t (e.application at (e.name text name_place) arguments) node target none h low room next after =
        side_follows place at name_place x t text arguments (e.application at (e.name text name_place) arguments) node (meaning_of scope text) refl target none h low
        (each_low arguments (omega (arith, low))) room next after
    right_follows place x t other node target none h low room next after = set_follows place x t other node target h low room next after

    -- ---- a local is declared

    new_target : (t : ValueType) → variable_types program own (local scope.locals) ≡ Some t → IsTarget around (local scope.locals) t
    new_target t typed = (at (named (local scope.locals)) refl, typed)
      where
        at : (b : Bool) → named (local scope.locals) ≡ b → cond b (assigned (local scope.locals)) true ≡ true
        at true h = absurd (let k : scope.locals < scope.locals = fits.fresh scope.locals h in omega (arith, k))
        at false h = refl

    pub local_follows : (place : Place) (written : Name) (ty : Option TypeTree) (tree : ExprTree) (changes : Bool) (node : ℕ) → length own.params ≤ scope.locals →
        new_name_faults scope written ++ value_faults scope ty (judged_right scope tree) ≡ [] → IsLow tree →
        HasLocals own scope.locals (type_declared (declared_type scope ty (judged_right scope tree)) ∷ []) →
        node + length (code_assigned scope place (local scope.locals) tree).places ≤ nodes →
        Follows end named assigned ((code_assigned scope place (local scope.locals) tree).from node)
        (with_local scope written.text changes (declared_type scope ty (judged_right scope tree)))
    local_follows place written ty tree changes node enough h low locals room =
        let side = judged_right scope tree in
        let p = both_nil (new_name_faults scope written) (value_faults scope ty side) h in
        let d = declares program.records scope (λ text n q. fits.meanings text (record_class n) q) ty side (right_typed program own nodes named assigned scope fits tree) p.1 in
        let t = d.0 in
        let first : slice_get own.locals (scope.locals + 0) ≡ Some (type_declared (declared_type scope ty side)) =
        locals 0 (type_declared (declared_type scope ty side)) refl in
        let there : slice_get own.locals scope.locals ≡ Some t =
        subst (λ n. slice_get own.locals n ≡ Some t) (let k : scope.locals + 0 ≡ scope.locals = omega arith in k)
        (first ∙ ap (λ o. Some (type_declared o)) d.1.declared) in
        subst (λ o. Follows end named assigned ((code_assigned scope place (local scope.locals) tree).from node) (with_local scope written.text changes o)) (sym d.1.declared)
        (right_follows place (local scope.locals) t tree node (new_target t there) d.1.faultless d.1.typed low room (with_local scope written.text changes (Some t))
        (fits_local program own nodes named assigned scope written.text changes t fits
        (unless_not (is_known scope written.text) (duplicate_name written.place) p.0) there d.1.known (λ c. enough)))

    -- ---- assignments

    set_again : (place : Place) (x : Variable) (t : ValueType) (covered : Bool) (tree : ExprTree) (node : ℕ) →
        IsVariable program own nodes named assigned covered scope.locals x true t → covered ≡ true →
        faults_against_optional (Some t) (judged_right scope tree) ≡ [] → IsLow tree → node + length (code_assigned scope place x tree).places ≤ nodes →
        Follows end named assigned ((code_assigned scope place x tree).from node) scope
    set_again place x t covered tree node is c h low room =
        let side = judged_right scope tree in
        let none = (both_nil side.faults _ h).0 in
        let typed = against t side (λ q. ap is_some (right_typed program own nodes named assigned scope fits tree q).1.typed) h in
        right_follows place x t tree node
        (ap (λ b. cond b (assigned x) (is_local x)) is.is_named ∙ is.may_be_assigned refl c, is.typed) none typed low room scope
        (fits_again program own nodes named assigned x scope is.is_named fits)

    pub assignment_follows : (place : Place) (written : Name) (tree : ExprTree) (node : ℕ) (meaning : Option Meaning) → meaning_of scope written.text ≡ meaning →
        target_faults scope written meaning ++ faults_against_optional (type_of_target meaning) (judged_right scope tree) ≡ [] → IsLow tree →
        node + length (code_assigned scope place (variable_meant meaning) tree).places ≤ nodes →
        Follows end named assigned ((code_assigned scope place (variable_meant meaning) tree).from node) scope
    assignment_follows place written tree node None m h low room = one_is_none h
    assignment_follows place written tree node (Some (variable x true (Some t))) m h low room =
        let p = both_nil (unless (scope.covers written.text) (outside_modifies written.place)) (faults_against_optional (Some t) (judged_right scope tree)) h in
        set_again place x t (scope.covers written.text) tree node (fits.meanings written.text (variable x true (Some t)) m)
        (unless-nil (scope.covers written.text) (outside_modifies written.place) p.0) p.1 low room
    assignment_follows place written tree node (Some (variable x false (Some t))) m h low room = one_is_none h
    assignment_follows place written tree node (Some (variable x changes None)) m h low room = absurd (fits.meanings written.text (variable x changes None) m)
    assignment_follows place written tree node (Some (bound_variable depth)) m h low room = absurd (fits.meanings written.text (bound_variable depth) m)
    assignment_follows place written tree node (Some (block_variable label)) m h low room = absurd (fits.meanings written.text (block_variable label) m)
    assignment_follows place written tree node (Some (record_class n)) m h low room =
        one_is_none (subst (λ b. cond b (constant_assigned written.place ∷ []) [] ≡ []) (ap is_some (fits.same_fields n))
        (both_nil (cond (is_well_declared scope (record_class n)) (constant_assigned written.place ∷ []) []) _ h).0)
    assignment_follows place written tree node (Some (method n None modifies)) m h low room = absurd (fits.meanings written.text (method n None modifies) m)
    assignment_follows place written tree node (Some (method n (Some signature) modifies)) m h low room = one_is_none h

    -- ---- calls

    never_called : {A : Type 0} → (place : Place) (arguments : ExprTrees) (m : Meaning) → is_well_declared scope m ≡ true →
        faults_of (judged_each scope in_program arguments)
        ++ (cond (is_well_declared scope m && are_typed (judged_each scope in_program arguments)) (call_out_of_place place ∷ []) []) ≡ [] → A
    never_called place arguments m fine h =
        let parts = judged_each scope in_program arguments in
        let p = both_nil (faults_of parts) (cond (is_well_declared scope m && are_typed parts) (call_out_of_place place ∷ []) []) h in
        let typed = each_typed in_program scope (declared_in_program program own nodes named assigned scope fits) arguments p.0 in
        one_is_none (subst (λ b. cond b (call_out_of_place place ∷ []) [] ≡ []) (and_from (is_well_declared scope m) (are_typed parts) fine typed) p.1)

    pub call_follows : (written : Name) (arguments : ExprTrees) (node : ℕ) (meaning : Option Meaning) → meaning_of scope written.text ≡ meaning →
        call_faults scope written.place meaning (judged_each scope in_program arguments) ≡ [] → AreLow arguments →
        node + length (call_of scope written.place None written.place meaning arguments).places ≤ nodes →
        Follows end named assigned ((call_of scope written.place None written.place meaning arguments).from node) scope
    call_follows written arguments node None m h low room = one_is_none h
    call_follows written arguments node (Some (method number None modifies)) m h low room = absurd (fits.meanings written.text (method number None modifies) m)
    call_follows written arguments node (Some (method number (Some signature) modifies)) m h low room =
        let call = calls program own nodes named assigned scope fits written.place signature modifies arguments h in
        record {
          typed = (
            omega (arith, room),
            omega (arith, room),
            call_in program own nodes named assigned scope fits written.place number signature modifies
                (fits.meanings written.text (method number (Some signature) modifies) m) arguments call low (node + 1 + length (written.place ∷ []))
                (omega (arith, room)) None tt,
          );
          stays = refl;
          then_named = named;
          then_assigned = assigned;
          same = refl;
          fits = fits;
        }
    call_follows written arguments node (Some (variable x changes type)) m h low room =
        never_called written.place arguments (variable x changes type) (well_declared program own nodes named assigned scope fits written.text (variable x changes type) m) h
    call_follows written arguments node (Some (bound_variable depth)) m h low room = absurd (fits.meanings written.text (bound_variable depth) m)
    call_follows written arguments node (Some (block_variable label)) m h low room = absurd (fits.meanings written.text (block_variable label) m)
    call_follows written arguments node (Some (record_class n)) m h low room =
        never_called written.place arguments (record_class n) (well_declared program own nodes named assigned scope fits written.text (record_class n) m) h
