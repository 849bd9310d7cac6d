-- What is typed at a place of a program is typed over each scope that covers the place.
use Rattle.std.proofs.Common.{◌≡◌, ℕ, Bool, true, false, cond, List, [], ◌∷◌, Option, Some, None, refl, ap, ◌∙◌, subst}
use Rattle.std.specs.List.{AllByRecursion}
use Rattle.slang_values.specs.Value.{ValueType, truth_type, Records}
use Rattle.slang_values.specs.Tree.{Tree, name}
use Rattle.slang_values.specs.Typing.{NameTypes, IsTyped}
use Rattle.validity.proofs.Binds.{IsTyped-bind, bind-name}
use Rattle.program_trees.specs.Claims.{ClaimName, variable, old_variable, let_symbol, ClaimTree, NotedTree}
use Rattle.program_trees.specs.Programs.{TypedExpr, claim_of, MethodTree, ProgramTree}
use Rattle.program_trees.specs.Variables.{Variable, variable_types}
use Rattle.typed_programs.specs.Scopes as typed
use Rattle.leg_soundness.specs.Scopes.{Scope, scope_types, claim_types, IsOf, AreClaims, IsExpr, AreExprs}
use Rattle.leg_soundness.proofs.Names.{none≢some}

-- a tree that is typed stays so where more names have types
typed_more : {A : Type 0} (records : Records) (types more : NameTypes A) → ((a : A) (t : ValueType) → types a ≡ Some t → more a ≡ Some t) → (a : Tree A)
    (t : ValueType) → IsTyped records types a t → IsTyped records more a t
typed_more records types more each a t h =
    subst (λ b. IsTyped records more b t) (bind-name a) (IsTyped-bind records types more name each a t h)

shown_there : (here there : Bool) (o : Option ValueType) (t : ValueType) → (here ≡ true → o ≡ Some t → there ≡ true) → cond here o None ≡ Some t
    → cond there o None ≡ Some t
shown_there true there o t h is = ap (λ b. cond b o None) (h refl is) ∙ is
shown_there false there o t h is = absurd (none≢some is)

module _ (program : ProgramTree Variable) (method : MethodTree Variable) (nodes : ℕ) where
  -- the place where these variables may be named
  abbrev pub place : (Variable → Bool) → typed.Scope
  place named = record { program = program; method = method; named = named; nodes = nodes }

  -- each variable with a type that may be named is in scope
  abbrev pub Covers : Scope → (Variable → Bool) → Type 0
  Covers scope named = (x : Variable) (t : ValueType) → named x ≡ true → variable_types program method x ≡ Some t → scope x ≡ true

  module _ (scope : Scope) (named : Variable → Bool) (covers : Covers scope named) where
    names_more : (a : ClaimName Variable) (t : ValueType) → typed.claim_names (place named) a ≡ Some t
        → claim_types (scope_types program method scope) a ≡ Some t
    names_more (variable x) t h = shown_there (named x) (scope x) (variable_types program method x) t (λ is at. covers x t is at) h
    names_more (old_variable x) t h = absurd (none≢some h)
    names_more (let_symbol label) t h = absurd (none≢some h)

    pub claim_typed : (claim : ClaimTree Variable) (t : ValueType) → IsTyped program.records (typed.claim_names (place named)) claim t
        → IsOf program method scope t claim
    claim_typed claim t h =
        typed_more program.records (typed.claim_names (place named)) (claim_types (scope_types program method scope)) names_more claim t h

    pub claims_typed : (claims : List (NotedTree Variable)) → AllByRecursion (typed.IsNotedIn (place named)) claims → AreClaims program method scope claims
    claims_typed [] h = tt
    claims_typed (noted ∷ claims) h = (claim_typed noted.claim truth_type h.0.claim.typed, claims_typed claims h.1)

    pub expr_typed : (expr : TypedExpr Variable) (t : ValueType) → typed.IsValueIn (place named) t expr → IsExpr program method scope t expr
    expr_typed expr t h = claim_typed (claim_of expr) t h.typed

    pub exprs_typed : (ts : List ValueType) (exprs : List (TypedExpr Variable)) → typed.AreValuesIn (place named) ts exprs
        → AreExprs program method scope ts exprs
    exprs_typed [] [] h = tt
    exprs_typed [] (expr ∷ exprs) h = absurd h
    exprs_typed (t ∷ ts) [] h = absurd h
    exprs_typed (t ∷ ts) (expr ∷ exprs) h = (expr_typed expr t h.0, exprs_typed ts exprs h.1)
