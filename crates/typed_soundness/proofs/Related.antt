-- How what may be named and assigned at a place goes with what is in scope and kept there.
use Rattle.std.proofs.Common.{◌≡◌, ℕ, Bool, true, false, not, cond, List, [], ◌∷◌, map, refl, sym, ap, ◌∙◌, subst}
use Rattle.std.specs.Prelude.{nat_eq, ◌&&◌, ◌||◌}
use Rattle.std.specs.Set.{is_member}
use Rattle.std.proofs.lemmas.Bool.{false≢true, and_parts, and_left, and_right, or_left, or_right, or_parts, or_from}
use Rattle.program_trees.specs.Programs.{MethodTree, ProgramTree}
use Rattle.program_trees.specs.Variables.{Variable, local, global, entry, result, same_variable}
use Rattle.typed_programs.specs.WellTyped.{is_local, is_named_before}
use Rattle.leg_soundness.specs.Scopes.{Scope, with_variable, loop_keeps, start_scope, method_keeps}
use Rattle.leg_soundness.proofs.Names.{same_variable-true, same_variable-itself}
use Rattle.leg_soundness.proofs.Members.{is_false}

-- What may be named is in scope, locals are in scope only where they may be named, and what may be assigned or declared is not kept.
pub record Related (keeps : Variable → Bool) (scope : Scope) (named assigned : Variable → Bool) : Type 0 where
  pub named_in : (x : Variable) → named x ≡ true → scope x ≡ true
  pub locals : (x : Variable) → is_local x ≡ true → scope x ≡ true → named x ≡ true
  pub free : (x : Variable) → assigned x ≡ true → keeps x ≡ false
  pub undeclared : (x : Variable) → is_local x ≡ true → named x ≡ false → keeps x ≡ false

pub settable_free : (keeps : Variable → Bool) (scope : Scope) (named assigned : Variable → Bool) (x : Variable) → Related keeps scope named assigned
    → cond (named x) (assigned x) (is_local x) ≡ true → keeps x ≡ false
settable_free keeps scope named assigned x related h = choose (named x) refl h
  where
    choose : (b : Bool) → named x ≡ b → cond b (assigned x) (is_local x) ≡ true → keeps x ≡ false
    choose true is h = related.free x h
    choose false is h = related.undeclared x h is

same_back : (x y : Variable) → same_variable x y ≡ true → same_variable y x ≡ true
same_back x y h = subst (λ z. same_variable z x ≡ true) (same_variable-true x y h) (same_variable-itself x)

or_both : (a b c d : Bool) → (a ≡ true → c ≡ true) → (b ≡ true → d ≡ true) → (a || b) ≡ true → (c || d) ≡ true
or_both true b c d f g h = or_left c d (f refl)
or_both false b c d f g h = or_right c d (g h)

or_either : {P : Type 0} (a b : Bool) → (a ≡ true → P) → (b ≡ true → P) → (a || b) ≡ true → P
or_either true b f g h = f refl
or_either false b f g h = g h

-- behind a variable that is set
pub related_set : (keeps : Variable → Bool) (scope : Scope) (named assigned : Variable → Bool) (x : Variable) → Related keeps scope named assigned
    → keeps x ≡ false → Related keeps (with_variable x scope) (λ y. same_variable x y || named y) (λ y. same_variable x y || assigned y)
related_set keeps scope named assigned x related free = record {
  named_in = λ y h. or_both (same_variable x y) (named y) (same_variable y x) (scope y) (same_back x y) (related.named_in y) h;
  locals = λ y is h. or_both (same_variable y x) (scope y) (same_variable x y) (named y) (same_back y x) (related.locals y is) h;
  free = λ y h. or_either (same_variable x y) (assigned y) (λ same. subst (λ z. keeps z ≡ false) (same_variable-true x y same) free) (related.free y) h;
  undeclared = λ y is h. related.undeclared y is (or_parts (same_variable x y) (named y) h).1;
}

-- behind a return
pub related_result : (keeps : Variable → Bool) (scope : Scope) (named assigned : Variable → Bool) → Related keeps scope named assigned
    → Related keeps (with_variable result scope) named assigned
related_result keeps scope named assigned related = record {
  named_in = λ y h. or_right (same_variable y result) (scope y) (related.named_in y h);
  locals = named_still;
  free = related.free;
  undeclared = related.undeclared;
}
  where
    named_still : (y : Variable) → is_local y ≡ true → (same_variable y result || scope y) ≡ true → named y ≡ true
    named_still (local n) is h = related.locals (local n) is h
    named_still (global n) is h = absurd (false≢true is)
    named_still (entry n) is h = absurd (false≢true is)
    named_still result is h = absurd (false≢true is)

-- in a loop
pub related_within : (keeps : Variable → Bool) (scope : Scope) (named assigned : Variable → Bool) (modifies : List Variable)
    → Related keeps scope named assigned
    → Related (loop_keeps keeps scope modifies) scope named (λ x. assigned x && is_member same_variable modifies x)
related_within keeps scope named assigned modifies related = record {
  named_in = related.named_in;
  locals = related.locals;
  free = λ x h.
      let both = and_parts (assigned x) (is_member same_variable modifies x) h in
      or_from (keeps x) (scope x && not (is_member same_variable modifies x)) (related.free x both.0)
      (and_right (scope x) (not (is_member same_variable modifies x)) (ap not both.1));
  undeclared = λ x is h.
      or_from (keeps x) (scope x && not (is_member same_variable modifies x)) (related.undeclared x is h)
      (and_left (scope x) (not (is_member same_variable modifies x)) (is_false (scope x) (λ there. false≢true (sym h ∙ related.locals x is there))));
}

-- ---- where a method begins

member_global : (gs : List ℕ) (n : ℕ) → is_member same_variable (map global gs) (global n) ≡ is_member nat_eq gs n
member_global [] n = refl
member_global (g ∷ gs) n = ap (λ b. nat_eq n g || b) (member_global gs n)

no_local : (gs : List ℕ) (n : ℕ) → is_member same_variable (map global gs) (local n) ≡ false
no_local [] n = refl
no_local (g ∷ gs) n = no_local gs n

no_entry : (gs : List ℕ) (n : ℕ) → is_member same_variable (map global gs) (entry n) ≡ false
no_entry [] n = refl
no_entry (g ∷ gs) n = no_entry gs n

pub related_start : (program : ProgramTree Variable) (nodes : ℕ) (method : MethodTree Variable)
    → Related (method_keeps method) (start_scope program method) (is_named_before program nodes method)
    (λ x. is_member same_variable (map global method.modifies) x)
related_start program nodes method = record { named_in = in_start; locals = named_start; free = free_start; undeclared = undeclared_start }
  where
    in_start : (x : Variable) → is_named_before program nodes method x ≡ true → start_scope program method x ≡ true
    in_start (local n) h = h
    in_start (global n) h = h
    in_start (entry n) h = absurd (false≢true h)
    in_start result h = absurd (false≢true h)

    named_start : (x : Variable) → is_local x ≡ true → start_scope program method x ≡ true → is_named_before program nodes method x ≡ true
    named_start (local n) is h = h
    named_start (global n) is h = absurd (false≢true is)
    named_start (entry n) is h = absurd (false≢true is)
    named_start result is h = absurd (false≢true is)

    free_start : (x : Variable) → is_member same_variable (map global method.modifies) x ≡ true → method_keeps method x ≡ false
    free_start (local n) h = absurd (false≢true (sym (no_local method.modifies n) ∙ h))
    free_start (global n) h = ap not (sym (member_global method.modifies n) ∙ h)
    free_start (entry n) h = absurd (false≢true (sym (no_entry method.modifies n) ∙ h))
    free_start result h = refl

    undeclared_start : (x : Variable) → is_local x ≡ true → is_named_before program nodes method x ≡ false → method_keeps method x ≡ false
    undeclared_start (local n) is h = h
    undeclared_start (global n) is h = absurd (false≢true is)
    undeclared_start (entry n) is h = absurd (false≢true is)
    undeclared_start result is h = absurd (false≢true is)
