-- Names that are the same, and values where they agree on the names in scope.
use Rattle.std.proofs.Common.{◌≡◌, Bool, true, false, cond, Option, Some, None, refl, sym, ap, ◌∙◌, subst}
use Rattle.std.specs.Prelude.{nat_eq, ◌&&◌, ◌||◌}
use Rattle.std.proofs.lemmas.Bool.{and_parts, and_from, false≢true, or_left, or_right}
use Rattle.std.proofs.lemmas.Bool.Decides.{Decides-eqb}
use Rattle.std.proofs.lemmas.Cmp.{nat_eq_equiv}
use Rattle.slang_values.specs.Value.{ValueType, Records, Value, HasType}
use Rattle.slang_values.specs.Tree.{Tree, literal, truth_literal, name, bound, unary, binary, update, quantified, listed, Trees, no_trees, tree_then}
use Rattle.slang_values.specs.Typing.{NameTypes, IsTyped, FitNames}
use Rattle.validity.specs.Validity.{no_bounds}
use Rattle.validity.specs.Bind.{EachName, EachNameOfAll}
use Rattle.validity.proofs.Binds.{value-bind, value-same_names, EachName-typed}
use Rattle.program_trees.specs.Claims.{ClaimName, variable, old_variable, let_symbol, ClaimTree, renamed_name, renamed_claim}
use Rattle.program_trees.specs.Programs.{MethodTree, ProgramTree}
use Rattle.program_trees.specs.Variables.{Variable, local, global, entry, result, same_variable, variable_types}
use Rattle.run_rules.specs.Values.{Values, name_value, claim_value, with_value}
use Rattle.leg_rules.specs.LegNames.{LegName, own, of_call, same_name}
use Rattle.leg_rules.specs.Mentions.{has_name, have_name}
use Rattle.leg_rules.specs.Legs.{own_claim}
use Rattle.leg_soundness.specs.Passing.{LegValues, leg_name_value, leg_value, with_now}
use Rattle.leg_soundness.specs.Scopes.{Scope, scope_types, claim_types, with_variable}

pub none≢some : {A : Type 0} {x : A} → None ≡ Some x → ⊥
none≢some e = cc

pub some_same : {A : Type 0} {x y : A} → Some x ≡ Some y → x ≡ y
some_same e = cc

pub same_variable-true : (x y : Variable) → same_variable x y ≡ true → x ≡ y
same_variable-true (local m) (local n) h = ap local ((Decides-eqb m n).0 h)
same_variable-true (local m) (global n) h = absurd (false≢true h)
same_variable-true (local m) (entry n) h = absurd (false≢true h)
same_variable-true (local m) result h = absurd (false≢true h)
same_variable-true (global m) (global n) h = ap global ((Decides-eqb m n).0 h)
same_variable-true (global m) (local n) h = absurd (false≢true h)
same_variable-true (global m) (entry n) h = absurd (false≢true h)
same_variable-true (global m) result h = absurd (false≢true h)
same_variable-true (entry m) (entry n) h = ap entry ((Decides-eqb m n).0 h)
same_variable-true (entry m) (local n) h = absurd (false≢true h)
same_variable-true (entry m) (global n) h = absurd (false≢true h)
same_variable-true (entry m) result h = absurd (false≢true h)
same_variable-true result result h = refl
same_variable-true result (local n) h = absurd (false≢true h)
same_variable-true result (global n) h = absurd (false≢true h)
same_variable-true result (entry n) h = absurd (false≢true h)

pub same_name-true : (x y : LegName) → same_name x y ≡ true → x ≡ y
same_name-true (own x) (own y) h = ap own (same_variable-true x y h)
same_name-true (own x) (of_call n g y) h = absurd (false≢true h)
same_name-true (of_call m f x) (own y) h = absurd (false≢true h)
same_name-true (of_call m f x) (of_call n g y) h =
    let p = and_parts (nat_eq m n) (nat_eq f g && same_variable x y) h in
    let q = and_parts (nat_eq f g) (same_variable x y) p.1 in
    let a = (Decides-eqb m n).0 p.0 in
    let b = (Decides-eqb f g).0 q.0 in
    let c = same_variable-true x y q.1 in
    λ i. of_call (a i) (b i) (c i)

pub same_variable-itself : (x : Variable) → same_variable x x ≡ true
same_variable-itself (local n) = nat_eq_equiv.refl n
same_variable-itself (global n) = nat_eq_equiv.refl n
same_variable-itself (entry n) = nat_eq_equiv.refl n
same_variable-itself result = refl

pub same_name-itself : (x : LegName) → same_name x x ≡ true
same_name-itself (own x) = same_variable-itself x
same_name-itself (of_call n f x) =
    and_from (nat_eq n n) (nat_eq f f && same_variable x x) (nat_eq_equiv.refl n)
    (and_from (nat_eq f f) (same_variable x x) (nat_eq_equiv.refl f) (same_variable-itself x))

-- ---- claims whose names are in scope

abbrev pub InScope : Scope → ClaimName Variable → Type 0
InScope scope (variable x) = scope x ≡ true
InScope scope (old_variable x) = ⊥
InScope scope (let_symbol label) = ⊥

pub shown : (b : Bool) (t : ValueType) (o : Option ValueType) → cond b o None ≡ Some t → b ≡ true
shown true t o h = refl
shown false t o h = absurd (none≢some h)

pub shown_type : (b : Bool) (t : ValueType) (o : Option ValueType) → cond b o None ≡ Some t → o ≡ Some t
shown_type true t o h = h
shown_type false t o h = absurd (none≢some h)

module _ (program : ProgramTree Variable) (method : MethodTree Variable) where
  in_scope : (scope : Scope) (a : ClaimName Variable) (t : ValueType) → claim_types (scope_types program method scope) a ≡ Some t → InScope scope a
  in_scope scope (variable x) t h = shown (scope x) t (variable_types program method x) h
  in_scope scope (old_variable x) t h = none≢some h
  in_scope scope (let_symbol label) t h = none≢some h

  pub scoped : (scope : Scope) (claim : ClaimTree Variable) (t : ValueType) → IsTyped program.records (claim_types (scope_types program method scope)) claim t
      → EachName (InScope scope) claim
  scoped scope claim t h = EachName-typed program.records (claim_types (scope_types program method scope)) (InScope scope) (in_scope scope) claim t h

-- what the renaming makes of the variables in scope has the values of the run
abbrev pub AgreesBy : (Variable → LegName) → Scope → LegValues → Values → Type 0
AgreesBy f scope s values = (x : Variable) → scope x ≡ true → s.now (f x) ≡ values x

-- the leg and the run agree on the variables in scope
abbrev pub Agrees : Scope → LegValues → Values → Type 0
Agrees scope s values = AgreesBy own scope s values

-- what the renaming makes of a name has the value that the name has in the run
abbrev pub SameAt : (Variable → LegName) → LegValues → Values → ClaimName Variable → Type 0
SameAt f s values a = leg_name_value s (renamed_name f a) ≡ name_value values a

pub same_in_scope : (f : Variable → LegName) (scope : Scope) (s : LegValues) (values : Values) → AgreesBy f scope s values → (a : ClaimName Variable)
    → InScope scope a → SameAt f s values a
same_in_scope f scope s values agrees (variable x) h = agrees x h
same_in_scope f scope s values agrees (old_variable x) h = absurd h
same_in_scope f scope s values agrees (let_symbol label) h = absurd h

module _ {A : Type 0} (P Q : A → Type 0) (f : (a : A) → P a → Q a) where
  mutual
    pub EachName-map : (t : Tree A) → EachName P t → EachName Q t
    EachName-map (literal z) h = tt
    EachName-map (truth_literal b) h = tt
    EachName-map (name a) h = f a h
    EachName-map (bound n) h = tt
    EachName-map (unary op a) h = EachName-map a h
    EachName-map (binary op a b) h = (EachName-map a h.0, EachName-map b h.1)
    EachName-map (update a i x) h = (EachName-map a h.0, EachName-map i h.1, EachName-map x h.2)
    EachName-map (quantified q low high body) h = (EachName-map low h.0, EachName-map high h.1, EachName-map body h.2)
    EachName-map (listed l ts) h = EachNameOfAll-map ts h

    pub EachNameOfAll-map : (ts : Trees A) → EachNameOfAll P ts → EachNameOfAll Q ts
    EachNameOfAll-map no_trees h = tt
    EachNameOfAll-map (tree_then t ts) h = (EachName-map t h.0, EachNameOfAll-map ts h.1)

module _ {A : Type 0} (P Q R : A → Type 0) (f : (a : A) → P a → Q a → R a) where
  mutual
    pub EachName-both : (t : Tree A) → EachName P t → EachName Q t → EachName R t
    EachName-both (literal z) h k = tt
    EachName-both (truth_literal b) h k = tt
    EachName-both (name a) h k = f a h k
    EachName-both (bound n) h k = tt
    EachName-both (unary op a) h k = EachName-both a h k
    EachName-both (binary op a b) h k = (EachName-both a h.0 k.0, EachName-both b h.1 k.1)
    EachName-both (update a i x) h k = (EachName-both a h.0 k.0, EachName-both i h.1 k.1, EachName-both x h.2 k.2)
    EachName-both (quantified q low high body) h k =
        (EachName-both low h.0 k.0, EachName-both high h.1 k.1, EachName-both body h.2 k.2)
    EachName-both (listed l ts) h k = EachNameOfAll-both ts h k

    EachNameOfAll-both : (ts : Trees A) → EachNameOfAll P ts → EachNameOfAll Q ts → EachNameOfAll R ts
    EachNameOfAll-both no_trees h k = tt
    EachNameOfAll-both (tree_then t ts) h k = (EachName-both t h.0 k.0, EachNameOfAll-both ts h.1 k.1)

-- Each name of the tree is one that the tree has.
module _ {A : Type 0} (has : (A → Bool) → Bool) where
  abbrev pub Had : A → Type 0
  Had a = (test : A → Bool) → test a ≡ true → has test ≡ true

  mutual
    pub each_had : (t : Tree A) → ((test : A → Bool) → has_name test t ≡ true → has test ≡ true) → EachName Had t
    each_had (literal z) up = tt
    each_had (truth_literal b) up = tt
    each_had (name a) up = up
    each_had (bound n) up = tt
    each_had (unary op a) up = each_had a up
    each_had (binary op a b) up = (
      each_had a (λ test h. up test (or_left (has_name test a) (has_name test b) h)),
      each_had b (λ test h. up test (or_right (has_name test a) (has_name test b) h)),
    )
    each_had (update a i x) up = (
      each_had a (λ test h. up test (or_left (has_name test a) (has_name test i || has_name test x) h)),
      each_had i (λ test h. up test (or_right (has_name test a) (has_name test i || has_name test x) (or_left (has_name test i) (has_name test x) h))),
      each_had x (λ test h. up test (or_right (has_name test a) (has_name test i || has_name test x) (or_right (has_name test i) (has_name test x) h))),
    )
    each_had (quantified q low high body) up = (
      each_had low (λ test h. up test (or_left (has_name test low) (has_name test high || has_name test body) h)),
      each_had high (λ test h.
          up test (or_right (has_name test low) (has_name test high || has_name test body) (or_left (has_name test high) (has_name test body) h))),
      each_had body (λ test h.
          up test (or_right (has_name test low) (has_name test high || has_name test body) (or_right (has_name test high) (has_name test body) h))),
    )
    each_had (listed l ts) up = all_had ts up

    all_had : (ts : Trees A) → ((test : A → Bool) → have_name test ts ≡ true → has test ≡ true) → EachNameOfAll Had ts
    all_had no_trees up = tt
    all_had (tree_then t ts) up = (
      each_had t (λ test h. up test (or_left (has_name test t) (have_name test ts) h)),
      all_had ts (λ test h. up test (or_right (has_name test t) (have_name test ts) h)),
    )

-- a renamed claim has on the leg the value that the claim has in the run
pub renamed_value : (records : Records) (f : Variable → LegName) (s : LegValues) (values : Values) (claim : ClaimTree Variable)
    → EachName (SameAt f s values) claim → leg_value records s (renamed_claim f claim) ≡ claim_value records values claim
renamed_value records f s values claim each =
    value-bind records (leg_name_value s) (λ a. name (renamed_name f a)) (λ a. tt) claim no_bounds
    ∙ value-same_names records (λ a. leg_name_value s (renamed_name f a)) (name_value values) claim no_bounds each

-- a claim of the method has the same value on the leg
pub own_value : (records : Records) (scope : Scope) (s : LegValues) (values : Values) → Agrees scope s values → (claim : ClaimTree Variable)
    → EachName (InScope scope) claim → leg_value records s (own_claim claim) ≡ claim_value records values claim
own_value records scope s values agrees claim each =
    renamed_value records own s values claim
    (EachName-map (InScope scope) (SameAt own s values) (same_in_scope own scope s values agrees) claim each)

-- ---- changes

pub agrees_with : (scope : Scope) (s : LegValues) (values : Values) (x : Variable) (v w : Value) → Agrees scope s values → v ≡ w
    → Agrees (with_variable x scope) (with_now (own x) v s) (with_value values x w)
agrees_with scope s values x v w agrees same y h = agree_or (same_variable y x) h
  where
    agree_or : (b : Bool) → (b || scope y) ≡ true → cond b v (s.now (own y)) ≡ cond b w (values y)
    agree_or true h = same
    agree_or false h = agrees y h

module _ {A : Type 0} (records : Records) (types : NameTypes A) (same : A → A → Bool) (same-true : (x y : A) → same x y ≡ true → x ≡ y) where
  fit_choice : (b : Bool) (x y : A) (t : ValueType) (v now : Value) → (b ≡ true → y ≡ x) → ((u : ValueType) → types x ≡ Some u → HasType records v u)
      → types y ≡ Some t → HasType records now t → HasType records (cond b v now) t
  fit_choice true x y t v now is typed at old = typed t (subst (λ z. types z ≡ Some t) (is refl) at)
  fit_choice false x y t v now is typed at old = old

  -- names keep values of their types where one of them gets a value of its type, if it has one
  pub fit_put : (names : A → Value) (x : A) (v : Value) → FitNames records types names → ((u : ValueType) → types x ≡ Some u → HasType records v u)
      → FitNames records types (λ y. cond (same y x) v (names y))
  fit_put names x v fit typed y t at = fit_choice (same y x) x y t v (names y) (same-true y x) typed at (fit y t at)

  -- names keep values of their types where one of them gets such a value
  pub fit_with : (names : A → Value) (x : A) (u : ValueType) (v : Value) → FitNames records types names → types x ≡ Some u → HasType records v u
      → FitNames records types (λ y. cond (same y x) v (names y))
  fit_with names x u v fit at typed =
      fit_put names x v fit (λ t is. subst (λ r. HasType records v r) (some_same (sym at ∙ is)) typed)
