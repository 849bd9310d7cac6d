-- What follows where a scope of the text agrees with a place of the program, and other scopes that agree then.
use Rattle.std.proofs.Common.{◌≡◌, ◌⊎◌, ⊎_elim, ℕ, ◌+◌, ◌≤◌, Bool, true, false, cond, ◌&&◌, ◌||◌, bytes_eq, List, [], ◌∷◌, length, Option, Some, None, is_some, unwrap_or, refl, sym, ap, ◌∙◌, subst, arith}
use Rattle.std.specs.List.{list_any}
use Rattle.std.specs.Set.{is_member}
use Rattle.std.proofs.lemmas.Bool.{and_parts, and_from, or_cases, or_left, or_right, le-leb}
use Rattle.slang_values.specs.Value.{ValueType, is_known, is_value_type}
use Rattle.slang_tree.specs.declared.expression.Name.{Name}
use Rattle.program_trees.specs.Claims.{ClaimName, old_variable, let_symbol}
use Rattle.program_trees.specs.Claims as names
use Rattle.program_trees.specs.Programs.{MethodTree, ProgramTree}
use Rattle.program_trees.specs.Variables.{Variable, local, global, entry, result, same_variable, variable_types}
use Rattle.typed_programs.specs.Scopes.{type_in, claim_names, proof_names}
use Rattle.typed_programs.specs.Scopes as programs
use Rattle.typed_programs.specs.WellTyped.{is_program_type}
use Rattle.leg_rules.specs.Typed.{no_labels}
use Rattle.type_rules.specs.Meanings.{Meaning, variable, bound_variable, block_variable, record_class, method, declared, Scope, meaning_of, is_known as is_declared, is_well_declared, with_local, within}
use Rattle.type_rules.specs.Expressions.{in_program, in_claim, in_proof}
use Rattle.type_rules.specs.Statements.{past_locals, texts}
use Rattle.typed_texts.specs.Code.{variable_meant, variables_meant}
use Rattle.claim_typing.specs.Fits.{HasType, FitsScope}
use Rattle.claim_typing.proofs.Parts.{none_is_some}
use Rattle.value_typing.specs.Faultless.{IsWellDeclared}
use Rattle.value_typing.specs.Kept.{IsOfProgram, IsInside}
use Rattle.statement_typing.specs.Around.{IsBefore, place_at, IsMeant, FitsAround}
use Rattle.statement_typing.proofs.Lists.{same_bytes}
use Rattle.statement_typing.proofs.Names.{all_named_still, meant_found, unknown_means, same_variable-true, same_variable-itself}

-- this variable, or one that passes
abbrev pub or_this : Variable → (Variable → Bool) → Variable → Bool
or_this x test y = same_variable x y || test y

-- what may be assigned in a loop that modifies these
abbrev pub only_these : (Variable → Bool) → List Variable → Variable → Bool
only_these assigned xs y = assigned y && is_member same_variable xs y

module _ (program : ProgramTree Variable) (own : MethodTree Variable) (nodes : ℕ) where
  -- which variables are `var`s does not hang on what may be named
  pub var_anywhere : (named other : Variable → Bool) (x : Variable) → programs.is_var (place_at program own nodes named) x ≡ true →
      programs.is_var (place_at program own nodes other) x ≡ true
  var_anywhere named other (local n) h = h
  var_anywhere named other (global n) h = h
  var_anywhere named other (entry n) h = h
  var_anywhere named other result h = h

  module _ (named assigned : Variable → Bool) where
    abbrev Meant : Scope → List ℕ → Meaning → Type 0
    Meant = IsMeant program own nodes named assigned

    abbrev Fits : Scope → Type 0
    Fits = FitsAround program own nodes named assigned

    -- ---- claims and values

    pub type_here : (x : Variable) (t : ValueType) → named x ≡ true → variable_types program own x ≡ Some t →
        type_in (place_at program own nodes named) x ≡ Some t
    type_here x t h typed = ap (λ b. cond b (variable_types program own x) None) h ∙ typed

    has_type : (scope : Scope) (text : List ℕ) (x : Variable) (changes : Bool) (t : ValueType) → Meant scope text (variable x changes (Some t)) →
        HasType program.records (claim_names (place_at program own nodes named)) (names.variable x) t
    has_type scope text x changes t h = (type_here x t h.is_named h.typed, (and_parts (is_value_type t) (is_known program.records t) h.known).1)

    pub of_program : (scope : Scope) → Fits scope → (text : List ℕ) → IsOfProgram (meaning_of scope text)
    of_program scope fits text = at (meaning_of scope text) (fits.meanings text)
      where
        at : (meaning : Option Meaning) → ((m : Meaning) → meaning ≡ Some m → Meant scope text m) → IsOfProgram meaning
        at None h = tt
        at (Some (bound_variable depth)) h = absurd (h (bound_variable depth) refl)
        at (Some (block_variable label)) h = absurd (h (block_variable label) refl)
        at (Some (variable x changes type)) h = tt
        at (Some (record_class n)) h = tt
        at (Some (method n signature modifies)) h = tt

    pub none_loose : (scope : Scope) → Fits scope → (text : List ℕ) → IsInside 0 (meaning_of scope text)
    none_loose scope fits text = at (meaning_of scope text) (fits.meanings text)
      where
        at : (meaning : Option Meaning) → ((m : Meaning) → meaning ≡ Some m → Meant scope text m) → IsInside 0 meaning
        at None h = tt
        at (Some (bound_variable depth)) h = absurd (h (bound_variable depth) refl)
        at (Some (block_variable label)) h = tt
        at (Some (variable x changes type)) h = tt
        at (Some (record_class n)) h = tt
        at (Some (method n signature modifies)) h = tt

    meant_declared : (scope : Scope) → Fits scope → (text : List ℕ) (m : Meaning) → Meant scope text m → is_well_declared scope m ≡ true
    meant_declared scope fits text (variable x changes None) h = absurd h
    meant_declared scope fits text (variable x changes (Some t)) h = refl
    meant_declared scope fits text (bound_variable depth) h = refl
    meant_declared scope fits text (block_variable label) h = refl
    meant_declared scope fits text (record_class n) h = ap is_some (fits.same_fields n)
    meant_declared scope fits text (method n None modifies) h = absurd h
    meant_declared scope fits text (method n (Some signature) modifies) h = refl

    pub well_declared : (scope : Scope) → Fits scope → (text : List ℕ) (m : Meaning) → meaning_of scope text ≡ Some m → is_well_declared scope m ≡ true
    well_declared scope fits text m h = meant_declared scope fits text m (fits.meanings text m h)

    pub declared_in_program : (scope : Scope) → Fits scope → IsWellDeclared in_program scope
    declared_in_program scope fits = record { names = well_declared scope fits; fields = fits.typed_fields; result = tt }

    pub declared_in_claim : (scope : Scope) → Fits scope → IsWellDeclared in_claim scope
    declared_in_claim scope fits = record { names = well_declared scope fits; fields = fits.typed_fields; result = tt }

    pub declared_in_proof : (scope : Scope) → Fits scope → IsWellDeclared in_proof scope
    declared_in_proof scope fits = record { names = well_declared scope fits; fields = fits.typed_fields; result = tt }

    pub fits_program : (scope : Scope) → Fits scope → FitsScope program.records (claim_names (place_at program own nodes named)) in_program scope
    fits_program scope fits = record {
      variables = λ text x changes t h. has_type scope text x changes t (fits.meanings text (variable x changes (Some t)) h);
      entries = λ text n t h. tt;
      olds = λ text x t h. tt;
      blocks = λ text label h. absurd (fits.meanings text (block_variable label) h);
      classes = λ text n h. fits.meanings text (record_class n) h;
      result = tt;
      same_fields = fits.same_fields;
      known_fields = fits.known_fields;
    }

    pub fits_claim : (scope : Scope) → Fits scope → FitsScope program.records (claim_names (place_at program own nodes named)) in_claim scope
    fits_claim scope fits = record {
      variables = λ text x changes t h. has_type scope text x changes t (fits.meanings text (variable x changes (Some t)) h);
      entries = λ text n t h. tt;
      olds = λ text x t h. tt;
      blocks = λ text label h. absurd (fits.meanings text (block_variable label) h);
      classes = λ text n h. fits.meanings text (record_class n) h;
      result = tt;
      same_fields = fits.same_fields;
      known_fields = fits.known_fields;
    }

    old_type : (scope : Scope) (text : List ℕ) (x : Variable) (t : ValueType) → Meant scope text (variable x true (Some t)) →
        HasType program.records (proof_names (place_at program own nodes named) no_labels) (old_variable x) t
    old_type scope text x t h = (
      ap (λ b. cond b (type_in (place_at program own nodes named) x) None) (h.var refl) ∙ type_here x t h.is_named h.typed,
      (and_parts (is_value_type t) (is_known program.records t) h.known).1,
    )

    pub fits_proof : (scope : Scope) → Fits scope → FitsScope program.records (proof_names (place_at program own nodes named) no_labels) in_proof scope
    fits_proof scope fits = record {
      variables = λ text x changes t h. has_type scope text x changes t (fits.meanings text (variable x changes (Some t)) h);
      entries = λ text n t h. tt;
      olds = λ text x t h. old_type scope text x t (fits.meanings text (variable x true (Some t)) h);
      blocks = λ text label h. absurd (fits.meanings text (block_variable label) h);
      classes = λ text n h. fits.meanings text (record_class n) h;
      result = tt;
      same_fields = fits.same_fields;
      known_fields = fits.known_fields;
    }

    name_at : (x : Variable) (t : ValueType) (b : Bool) → named x ≡ b → cond b (variable_types program own x) None ≡ Some t →
        ((y : Variable) (u : ValueType) → named y ≡ true → variable_types program own y ≡ Some u → is_program_type program.records u ≡ true) →
        is_value_type t ≡ true
    name_at x t true h k all = (and_parts (is_value_type t) (is_known program.records t) (all x t h k)).0
    name_at x t false h k all = none_is_some k

    -- what may be named has a type that variables may have
    pub names_are_values : (scope : Scope) → Fits scope → (a : ClaimName Variable) (t : ValueType) →
        claim_names (place_at program own nodes named) a ≡ Some t → is_value_type t ≡ true
    names_are_values scope fits (names.variable x) t h = name_at x t (named x) refl h fits.named_types
    names_are_values scope fits (old_variable x) t h = none_is_some h
    names_are_values scope fits (let_symbol label) t h = none_is_some h

    -- ---- behind more locals

    before_more : (locals count : ℕ) (x : Variable) → IsBefore locals x → IsBefore (locals + count) x
    before_more locals count (local n) h = omega (arith, h)
    before_more locals count (global n) h = tt
    before_more locals count (entry n) h = tt
    before_more locals count result h = tt

    past_meant : (scope : Scope) (count : ℕ) (text : List ℕ) (m : Meaning) → Meant scope text m → Meant (past_locals scope count) text m
    past_meant scope count text (variable x changes None) h = h
    past_meant scope count text (variable x changes (Some t)) h = record {
      is_named = h.is_named;
      typed = h.typed;
      known = h.known;
      var = h.var;
      may_be_assigned = h.may_be_assigned;
      before = before_more scope.locals count x h.before;
    }
    past_meant scope count text (bound_variable depth) h = h
    past_meant scope count text (block_variable label) h = h
    past_meant scope count text (record_class n) h = h
    past_meant scope count text (method n None modifies) h = h
    past_meant scope count text (method n (Some signature) modifies) h = h

    pub fits_past : (scope : Scope) (count : ℕ) → Fits scope → Fits (past_locals scope count)
    fits_past scope count fits = record {
      meanings = λ text m h. past_meant scope count text m (fits.meanings text m h);
      apart = fits.apart;
      outside = fits.outside;
      fresh = λ n h. omega (arith, fits.fresh n h);
      named_types = fits.named_types;
      same_fields = fits.same_fields;
      typed_fields = fits.typed_fields;
      known_fields = fits.known_fields;
      value_fields = fits.value_fields;
    }

  -- ---- with one variable more

  more_meant : (named assigned : Variable → Bool) (x : Variable) (scope : Scope) (text : List ℕ) (m : Meaning) →
      IsMeant program own nodes named assigned scope text m → IsMeant program own nodes (or_this x named) (or_this x assigned) scope text m
  more_meant named assigned x scope text (variable y changes None) h = h
  more_meant named assigned x scope text (variable y changes (Some t)) h = record {
    is_named = or_right (same_variable x y) (named y) h.is_named;
    typed = h.typed;
    known = h.known;
    var = λ c. var_anywhere named (or_this x named) y (h.var c);
    may_be_assigned = λ c d. or_right (same_variable x y) (assigned y) (h.may_be_assigned c d);
    before = h.before;
  }
  more_meant named assigned x scope text (bound_variable depth) h = h
  more_meant named assigned x scope text (block_variable label) h = h
  more_meant named assigned x scope text (record_class n) h = h
  more_meant named assigned x scope text (method n None modifies) h = h
  more_meant named assigned x scope text (method n (Some signature) modifies) h = h

  -- where a variable that may be named and assigned gets a value, nothing changes
  pub fits_again : (named assigned : Variable → Bool) (x : Variable) (scope : Scope) → named x ≡ true →
      FitsAround program own nodes named assigned scope → FitsAround program own nodes (or_this x named) (or_this x assigned) scope
  fits_again named assigned x scope there fits = record {
    meanings = λ text m h. more_meant named assigned x scope text m (fits.meanings text m h);
    apart = fits.apart;
    outside = fits.outside;
    fresh = λ n h. fits.fresh n (was (local n) h);
    named_types = λ y t h k. fits.named_types y t (was y h) k;
    same_fields = fits.same_fields;
    typed_fields = fits.typed_fields;
    known_fields = fits.known_fields;
    value_fields = fits.value_fields;
  }
    where
      was : (y : Variable) → or_this x named y ≡ true → named y ≡ true
      was y h = ⊎_elim (λ e. subst (λ z. named z ≡ true) (same_variable-true x y e) there) (λ k. k) (or_cases (same_variable x y) (named y) h)

  -- ---- with a local more

  module _ (named assigned : Variable → Bool) (scope : Scope) (text : List ℕ) (changes : Bool) (t : ValueType)
      (fits : FitsAround program own nodes named assigned scope) (new : is_declared scope text ≡ false)
      (typed : variable_types program own (local scope.locals) ≡ Some t) (known : is_program_type program.records t ≡ true)
      (enough : changes ≡ true → length own.params ≤ scope.locals) where
    abbrev x : Variable
    x = local scope.locals

    abbrev more : Scope
    more = with_local scope text changes (Some t)

    -- a name that was known is another one
    other_name : (other : List ℕ) (m : Meaning) → meaning_of scope other ≡ Some m → bytes_eq text other ≡ true → ⊥
    other_name other m h e = unknown_means scope.names text m new (subst (λ s. meaning_of scope s ≡ Some m) (sym (same_bytes text other e)) h)

    old_meant : (other : List ℕ) (m : Meaning) → meaning_of scope other ≡ Some m → IsMeant program own nodes named assigned scope other m →
        IsMeant program own nodes (or_this x named) (or_this x assigned) more other m
    old_meant other (variable y c None) e h = h
    old_meant other (variable y c (Some u)) e h = record {
      is_named = or_right (same_variable x y) (named y) h.is_named;
      typed = h.typed;
      known = h.known;
      var = λ d. var_anywhere named (or_this x named) y (h.var d);
      may_be_assigned = λ d k. or_right (same_variable x y) (assigned y) (h.may_be_assigned d (⊎_elim
          (λ q. absurd (other_name other (variable y c (Some u)) e q))
          (λ q. q)
          (or_cases (bytes_eq text other) (scope.covers other) k)));
      before = before_more named assigned scope.locals 1 y h.before;
    }
    old_meant other (bound_variable depth) e h = h
    old_meant other (block_variable label) e h = h
    old_meant other (record_class n) e h = h
    old_meant other (method n None modifies) e h = h
    old_meant other (method n (Some signature) modifies) e h = record {
      there = h.there;
      params = h.params;
      result = h.result;
      known = h.known;
      modified = all_named_still scope.names (declared text (variable x changes (Some t)) ∷ []) modifies _ h.modified;
    }

    new_meant : (other : List ℕ) → IsMeant program own nodes (or_this x named) (or_this x assigned) more other (variable x changes (Some t))
    new_meant other = record {
      is_named = or_left (same_variable x x) (named x) (same_variable-itself x);
      typed = typed;
      known = known;
      var = λ c. le-leb (length own.params) scope.locals (enough c);
      may_be_assigned = λ c d. or_left (same_variable x x) (assigned x) (same_variable-itself x);
      before = omega arith;
    }

    meant : (other : List ℕ) (m : Meaning) → meaning_of more other ≡ Some m → IsMeant program own nodes (or_this x named) (or_this x assigned) more other m
    meant other m h = ⊎_elim
        (λ k. old_meant other m k (fits.meanings other m k))
        (λ k. subst (IsMeant program own nodes (or_this x named) (or_this x assigned) more other) k.1 (new_meant other))
        (meant_found scope.names (declared text (variable x changes (Some t))) other m h)

    is_before : (s : List ℕ) (y : Variable) (c : Bool) (u : Option ValueType) → meaning_of scope s ≡ Some (variable y c u) → IsBefore scope.locals y
    is_before s y c None h = absurd (fits.meanings s (variable y c None) h)
    is_before s y c (Some u) h = (fits.meanings s (variable y c (Some u)) h).before

    abbrev variable_in : Meaning → Variable
    variable_in (variable y c u) = y
    variable_in other = local 0

    not_before : IsBefore scope.locals x → ⊥
    not_before h = omega (arith, h)

    -- the new variable is no variable of an old name
    never_new : (s : List ℕ) (y : Variable) (c d : Bool) (u v : Option ValueType) → meaning_of scope s ≡ Some (variable y c u) →
        variable x changes (Some t) ≡ variable y d v → ⊥
    never_new s y c d u v h e = not_before (subst (IsBefore scope.locals) (sym (ap variable_in e)) (is_before s y c u h))

    found : (s : List ℕ) (m : Meaning) → meaning_of more s ≡ Some m → (meaning_of scope s ≡ Some m) ⊎ ((text ≡ s) × (variable x changes (Some t) ≡ m))
    found s m h = meant_found scope.names (declared text (variable x changes (Some t))) s m h

    stay_apart : (r s : List ℕ) (y : Variable) (c d : Bool) (u v : Option ValueType) → meaning_of more r ≡ Some (variable y c u) →
        meaning_of more s ≡ Some (variable y d v) → r ≡ s
    stay_apart r s y c d u v h k = ⊎_elim
        (λ a. ⊎_elim (λ b. fits.apart r s y c d u v a b) (λ b. absurd (never_new r y c d u v a b.1)) (found s (variable y d v) k))
        (λ a. ⊎_elim (λ b. absurd (never_new s y d c v u b a.1)) (λ b. sym a.0 ∙ b.0) (found s (variable y d v) k))
        (found r (variable y c u) h)

    pub fits_local : FitsAround program own nodes (or_this x named) (or_this x assigned) more
    fits_local = record {
      meanings = meant;
      apart = stay_apart;
      outside = fits.outside;
      fresh = λ n h. ⊎_elim
          (λ e. subst (IsBefore (scope.locals + 1)) (same_variable-true x (local n) e) (let k : IsBefore (scope.locals + 1) x = omega arith in k))
          (λ k. omega (arith, fits.fresh n k))
          (or_cases (same_variable x (local n)) (named (local n)) h);
      named_types = λ y u h k. ⊎_elim
          (λ e. subst (λ w. is_program_type program.records w ≡ true)
          (ap (λ o. unwrap_or o t) (sym typed ∙ subst (λ z. variable_types program own z ≡ Some u) (sym (same_variable-true x y e)) k)) known)
          (λ l. fits.named_types y u l k)
          (or_cases (same_variable x y) (named y) h);
      same_fields = fits.same_fields;
      typed_fields = fits.typed_fields;
      known_fields = fits.known_fields;
      value_fields = fits.value_fields;
    }

  -- ---- in a loop

  member_meant : (scope : Scope) (text : List ℕ) (y : Variable) (c : Bool) (u : Option ValueType) (modifies : List Name) →
      meaning_of scope text ≡ Some (variable y c u) → list_any (bytes_eq text) (texts modifies) ≡ true →
      list_any (same_variable y) (variables_meant scope modifies) ≡ true
  member_meant scope text y c u [] h k = k
  member_meant scope text y c u (written ∷ modifies) h k = ⊎_elim
      (λ e. or_left (same_variable y (variable_meant (meaning_of scope written.text))) (list_any (same_variable y) (variables_meant scope modifies))
      (subst (λ s. same_variable y (variable_meant (meaning_of scope s)) ≡ true) (same_bytes text written.text e)
      (subst (λ o. same_variable y (variable_meant o) ≡ true) (sym h) (same_variable-itself y))))
      (λ l. or_right (same_variable y (variable_meant (meaning_of scope written.text))) (list_any (same_variable y) (variables_meant scope modifies))
      (member_meant scope text y c u modifies h l))
      (or_cases (bytes_eq text written.text) (list_any (bytes_eq text) (texts modifies)) k)

  within_meant : (named assigned : Variable → Bool) (scope : Scope) (modifies : List Name) (text : List ℕ) (m : Meaning) → meaning_of scope text ≡ Some m →
      IsMeant program own nodes named assigned scope text m →
      IsMeant program own nodes named (only_these assigned (variables_meant scope modifies)) (within scope (texts modifies)) text m
  within_meant named assigned scope modifies text (variable y c None) e h = h
  within_meant named assigned scope modifies text (variable y c (Some t)) e h = record {
    is_named = h.is_named;
    typed = h.typed;
    known = h.known;
    var = h.var;
    may_be_assigned = λ d k.
        let p = and_parts (scope.covers text) (is_member bytes_eq (texts modifies) text) k in
        and_from (assigned y) (is_member same_variable (variables_meant scope modifies) y) (h.may_be_assigned d p.0)
        (member_meant scope text y c (Some t) modifies e p.1);
    before = h.before;
  }
  within_meant named assigned scope modifies text (bound_variable depth) e h = h
  within_meant named assigned scope modifies text (block_variable label) e h = h
  within_meant named assigned scope modifies text (record_class n) e h = h
  within_meant named assigned scope modifies text (method n None changes) e h = h
  within_meant named assigned scope modifies text (method n (Some signature) changes) e h = h

  pub fits_within : (named assigned : Variable → Bool) (scope : Scope) (modifies : List Name) → FitsAround program own nodes named assigned scope →
      FitsAround program own nodes named (only_these assigned (variables_meant scope modifies)) (within scope (texts modifies))
  fits_within named assigned scope modifies fits = record {
    meanings = λ text m h. within_meant named assigned scope modifies text m h (fits.meanings text m h);
    apart = fits.apart;
    outside = fits.outside;
    fresh = fits.fresh;
    named_types = fits.named_types;
    same_fields = fits.same_fields;
    typed_fields = fits.typed_fields;
    known_fields = fits.known_fields;
    value_fields = fits.value_fields;
  }
