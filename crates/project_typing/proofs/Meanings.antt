-- What the names of a project mean, and what is clean in a project without faults.
use Rattle.std.proofs.Common.{◌≡◌, inl, inr, ⊎_elim, ℕ, ◌+◌, ◌≤◌, Bool, true, false, not, List, [], ◌∷◌, ◌++◌, filter_map, Option, Some, is_some, refl, sym, ap, ◌∙◌, subst, arith}
use Rattle.std.specs.List.{AllByRecursion}
use Rattle.slang_values.specs.Value.{ValueType}
use Rattle.slang_tree.specs.DeclTree.{TypedName, GlobalDeclTree, MethodDeclTree, DeclTree, import_decl, global_decl, record_decl, method_decl}
use Rattle.program_trees.specs.Variables.{Variable, local, global}
use Rattle.type_rules.specs.Meanings.{Meaning, variable, bound_variable, block_variable, record_class, method, declared, Scope, meaning_of, is_well_declared, with_local}
use Rattle.type_rules.specs.Judged.{Judged}
use Rattle.type_rules.specs.Constants.{judged_const}
use Rattle.type_rules.specs.Statements.{declared_type, texts}
use Rattle.type_rules.specs.Projects.{global_of, method_of, signature_of, method_number, outline_names, outline_of, scope_of, global_faults, with_params, method_faults, decl_faults}
use Rattle.statement_typing.proofs.Names.{meant_found}
use Rattle.declaration_typing.proofs.Each.{AtEach, inner_of, IsFound}

-- ---- what holds of each name holds of what it means

module _ (outline : Scope) (decls : List DeclTree) (P : List ℕ → Meaning → Type 0) where
  abbrev pub AllMeant : ℕ → ℕ → List DeclTree → Type 0
  AllMeant g r [] = Unit {0}
  AllMeant g r (import_decl place path ∷ others) = AllMeant (g + 0) (r + 0) others
  AllMeant g r (global_decl decl ∷ others) =
      P decl.written.text (variable (global g) (not decl.fixed) (declared_type outline decl.ty (judged_const outline decl.init)))
      × AllMeant (g + 1) (r + 0) others
  AllMeant g r (record_decl decl ∷ others) = P decl.written.text (record_class r) × AllMeant (g + 0) (r + 1) others
  AllMeant g r (method_decl decl ∷ others) =
      P decl.written.text (method (method_number decls decl.written.text) (signature_of outline.names decl) (texts decl.modifies))
      × AllMeant (g + 0) (r + 0) others

  moved : (s text : List ℕ) (n m : Meaning) → s ≡ text → n ≡ m → P s n → P text m
  moved s text n m e k h = subst (λ t. P t m) e (subst (P s) k h)

  pub found_all : (g r : ℕ) (rest : List DeclTree) → AllMeant g r rest → (text : List ℕ) (m : Meaning) → IsFound outline decls g r rest text m → P text m
  found_all g r [] all text m h = absurd h
  found_all g r (import_decl place path ∷ others) all text m (inl h) = absurd h
  found_all g r (import_decl place path ∷ others) all text m (inr h) = found_all (g + 0) (r + 0) others all text m h
  found_all g r (global_decl decl ∷ others) all text m (inl h) =
      moved decl.written.text text (variable (global g) (not decl.fixed) (declared_type outline decl.ty (judged_const outline decl.init))) m h.0 h.1 all.0
  found_all g r (global_decl decl ∷ others) all text m (inr h) = found_all (g + 1) (r + 0) others all.1 text m h
  found_all g r (record_decl decl ∷ others) all text m (inl h) = moved decl.written.text text (record_class r) m h.0 h.1 all.0
  found_all g r (record_decl decl ∷ others) all text m (inr h) = found_all (g + 0) (r + 1) others all.1 text m h
  found_all g r (method_decl decl ∷ others) all text m (inl h) =
      moved decl.written.text text (method (method_number decls decl.written.text) (signature_of outline.names decl) (texts decl.modifies)) m h.0 h.1 all.0
  found_all g r (method_decl decl ∷ others) all text m (inr h) = found_all (g + 0) (r + 0) others all.1 text m h

-- ---- two names of one variable

abbrev pub variable_in : Meaning → Variable
variable_in (variable x c u) = x
variable_in other = local 0

abbrev pub number_in : Variable → ℕ
number_in (global n) = n
number_in other = 0

-- what is found is a global of at least that number
pub record IsGlobalFrom (g : ℕ) (x : Variable) : Type 0 where
  pub number : ℕ
  pub same : x ≡ global number
  pub least : g ≤ number

module _ (outline : Scope) (decls : List DeclTree) where
  from_next : (g k : ℕ) (x : Variable) → IsGlobalFrom (g + k) x → IsGlobalFrom g x
  from_next g k x h = record { number = h.number; same = h.same; least = omega (arith, h.least) }

  pub found_global : (g r : ℕ) (rest : List DeclTree) (text : List ℕ) (x : Variable) (c : Bool) (u : Option ValueType) →
      IsFound outline decls g r rest text (variable x c u) → IsGlobalFrom g x
  found_global g r [] text x c u h = absurd h
  found_global g r (import_decl place path ∷ others) text x c u (inl h) = absurd h
  found_global g r (import_decl place path ∷ others) text x c u (inr h) = from_next g 0 x (found_global (g + 0) (r + 0) others text x c u h)
  found_global g r (global_decl decl ∷ others) text x c u (inl h) = record { number = g; same = sym (ap variable_in h.1); least = omega arith }
  found_global g r (global_decl decl ∷ others) text x c u (inr h) = from_next g 1 x (found_global (g + 1) (r + 0) others text x c u h)
  found_global g r (record_decl decl ∷ others) text x c u (inl h) = absurd (let k : record_class r ≡ variable x c u = h.1 in cc)
  found_global g r (record_decl decl ∷ others) text x c u (inr h) = from_next g 0 x (found_global (g + 0) (r + 1) others text x c u h)
  found_global g r (method_decl decl ∷ others) text x c u (inl h) =
      absurd (let k : method (method_number decls decl.written.text) (signature_of outline.names decl) (texts decl.modifies) ≡ variable x c u = h.1 in cc)
  found_global g r (method_decl decl ∷ others) text x c u (inr h) = from_next g 0 x (found_global (g + 0) (r + 0) others text x c u h)

  -- the global of that number is none of those behind it
  never_later : {A : Type 0} → (g r : ℕ) (others : List DeclTree) (text : List ℕ) (x : Variable) (c : Bool) (u : Option ValueType) (y : Meaning) →
      variable_in y ≡ global g → y ≡ variable x c u → (s : List ℕ) (d : Bool) (v : Option ValueType) →
      IsFound outline decls (g + 1) r others s (variable x d v) → A
  never_later g r others text x c u y is e s d v h =
      let k = found_global (g + 1) r others s x d v h in
      let n : k.number ≡ g = ap number_in (sym k.same ∙ sym (ap variable_in e) ∙ is) in
      absurd (omega (arith, k.least, n))

  pub found_apart : (g r : ℕ) (rest : List DeclTree) (s t : List ℕ) (x : Variable) (c d : Bool) (u v : Option ValueType) →
      IsFound outline decls g r rest s (variable x c u) → IsFound outline decls g r rest t (variable x d v) → s ≡ t
  found_apart g r [] s t x c d u v h k = absurd h
  found_apart g r (import_decl place path ∷ others) s t x c d u v (inl h) k = absurd h
  found_apart g r (import_decl place path ∷ others) s t x c d u v (inr h) (inl k) = absurd k
  found_apart g r (import_decl place path ∷ others) s t x c d u v (inr h) (inr k) = found_apart (g + 0) (r + 0) others s t x c d u v h k
  found_apart g r (global_decl decl ∷ others) s t x c d u v (inl h) (inl k) = sym h.0 ∙ k.0
  found_apart g r (global_decl decl ∷ others) s t x c d u v (inl h) (inr k) =
      never_later g (r + 0) others s x c u (variable (global g) (not decl.fixed) (declared_type outline decl.ty (judged_const outline decl.init))) refl h.1 t d v k
  found_apart g r (global_decl decl ∷ others) s t x c d u v (inr h) (inl k) =
      never_later g (r + 0) others t x d v (variable (global g) (not decl.fixed) (declared_type outline decl.ty (judged_const outline decl.init))) refl k.1 s c u h
  found_apart g r (global_decl decl ∷ others) s t x c d u v (inr h) (inr k) = found_apart (g + 1) (r + 0) others s t x c d u v h k
  found_apart g r (record_decl decl ∷ others) s t x c d u v (inl h) k = absurd (let e : record_class r ≡ variable x c u = h.1 in cc)
  found_apart g r (record_decl decl ∷ others) s t x c d u v (inr h) (inl k) = absurd (let e : record_class r ≡ variable x d v = k.1 in cc)
  found_apart g r (record_decl decl ∷ others) s t x c d u v (inr h) (inr k) = found_apart (g + 0) (r + 1) others s t x c d u v h k
  found_apart g r (method_decl decl ∷ others) s t x c d u v (inl h) k =
      absurd (let e : method (method_number decls decl.written.text) (signature_of outline.names decl) (texts decl.modifies) ≡ variable x c u = h.1 in cc)
  found_apart g r (method_decl decl ∷ others) s t x c d u v (inr h) (inl k) =
      absurd (let e : method (method_number decls decl.written.text) (signature_of outline.names decl) (texts decl.modifies) ≡ variable x d v = k.1 in cc)
  found_apart g r (method_decl decl ∷ others) s t x c d u v (inr h) (inr k) = found_apart (g + 0) (r + 0) others s t x c d u v h k

-- ---- clean declarations

abbrev pub IsClean : List DeclTree → DeclTree → Type 0
IsClean decls (import_decl place path) = Unit {0}
IsClean decls (global_decl decl) = global_faults (outline_of decls) decl ≡ []
IsClean decls (record_decl decl) = Unit {0}
IsClean decls (method_decl decl) = method_faults (outline_names decls) (scope_of decls) decl ≡ []

clean_one : (decls before : List DeclTree) (decl : DeclTree) → decl_faults decls before decl ≡ [] → IsClean decls decl
clean_one decls before (import_decl place path) h = tt
clean_one decls before (global_decl decl) h = inner_of decls before (global_decl decl) h
clean_one decls before (record_decl decl) h = tt
clean_one decls before (method_decl decl) h = inner_of decls before (method_decl decl) h

pub clean_each : (decls before rest : List DeclTree) → AtEach (λ front decl. decl_faults decls front decl ≡ []) before rest →
    AllByRecursion (IsClean decls) rest
clean_each decls before [] h = tt
clean_each decls before (decl ∷ others) h = (clean_one decls before decl h.0, clean_each decls (before ++ decl ∷ []) others h.1)

pub each_global : (P : DeclTree → Type 0) (Q : GlobalDeclTree → Type 0) → ((d : GlobalDeclTree) → P (global_decl d) → Q d) → (rest : List DeclTree) →
    AllByRecursion P rest → AllByRecursion Q (filter_map global_of rest)
each_global P Q f [] h = tt
each_global P Q f (import_decl place path ∷ others) h = each_global P Q f others h.1
each_global P Q f (global_decl decl ∷ others) h = (f decl h.0, each_global P Q f others h.1)
each_global P Q f (record_decl decl ∷ others) h = each_global P Q f others h.1
each_global P Q f (method_decl decl ∷ others) h = each_global P Q f others h.1

pub each_method : (P : DeclTree → Type 0) (Q : MethodDeclTree → Type 0) → ((d : MethodDeclTree) → P (method_decl d) → Q d) → (rest : List DeclTree) →
    AllByRecursion P rest → AllByRecursion Q (filter_map method_of rest)
each_method P Q f [] h = tt
each_method P Q f (import_decl place path ∷ others) h = each_method P Q f others h.1
each_method P Q f (global_decl decl ∷ others) h = each_method P Q f others h.1
each_method P Q f (record_decl decl ∷ others) h = each_method P Q f others h.1
each_method P Q f (method_decl decl ∷ others) h = (f decl h.0, each_method P Q f others h.1)

-- ---- scopes with parameters

abbrev pub AreFine : Scope → Type 0
AreFine scope = (text : List ℕ) (m : Meaning) → meaning_of scope text ≡ Some m → is_well_declared scope m ≡ true

still_declared : (scope : Scope) (text : List ℕ) (changes : Bool) (o : Option ValueType) (m : Meaning) → is_well_declared scope m ≡ true →
    is_well_declared (with_local scope text changes o) m ≡ true
still_declared scope text changes o (variable x c type) h = h
still_declared scope text changes o (bound_variable depth) h = h
still_declared scope text changes o (block_variable label) h = h
still_declared scope text changes o (record_class n) h = h
still_declared scope text changes o (method n signature modifies) h = h

fine_local : (scope : Scope) (text : List ℕ) (changes : Bool) (o : Option ValueType) → is_some o ≡ true → AreFine scope → AreFine (with_local scope text changes o)
fine_local scope text changes o some fine other m h = ⊎_elim
    (λ k. still_declared scope text changes o m (fine other m k))
    (λ k. subst (λ n. is_well_declared (with_local scope text changes o) n ≡ true) k.1 some)
    (meant_found scope.names (declared text (variable (local scope.locals) changes o)) other m h)

pub fine_params : (params : List TypedName) (types : List Judged) (scope : Scope) → AllByRecursion (λ part. is_some part.type ≡ true) types → AreFine scope →
    AreFine (with_params scope params types)
fine_params [] types scope all fine = fine
fine_params (param ∷ params) [] scope all fine = fine
fine_params (param ∷ params) (type ∷ types) scope all fine =
    fine_params params types (with_local scope param.written.text false type.type) all.1 (fine_local scope param.written.text false type.type all.0 fine)

-- a global that is named behind the parameters is named before them
pub global_behind : (params : List TypedName) (types : List Judged) (scope : Scope) (text : List ℕ) (n : ℕ) (c : Bool) (u : Option ValueType) →
    meaning_of (with_params scope params types) text ≡ Some (variable (global n) c u) → meaning_of scope text ≡ Some (variable (global n) c u)
global_behind [] types scope text n c u h = h
global_behind (param ∷ params) [] scope text n c u h = h
global_behind (param ∷ params) (type ∷ types) scope text n c u h = ⊎_elim
    (λ k. k)
    (λ k. absurd (let e : local scope.locals ≡ global n = ap variable_in k.1 in cc))
    (meant_found scope.names (declared param.written.text (variable (local scope.locals) false type.type)) text (variable (global n) c u)
    (global_behind params types (with_local scope param.written.text false type.type) text n c u h))
