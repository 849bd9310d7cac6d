-- What reading a claim does: each of its variables has a term then, of its type, and what stood before stays.
use Rattle.std.proofs.Common.{◌≡◌, ℕ, zero, suc, pred, Bool, true, false, cond, List, [], ◌∷◌, ◌++◌, length, Option, Some, None, refl, sym, ap, ap₂, ◌∙◌, subst}
use Rattle.std.specs.Prelude.{nat_eq, slice_get, slice_index_or, unwrap_or, ◌&&◌}
use Rattle.std.specs.List.{AllByRecursion, fold}
use Rattle.std.proofs.lemmas.Bool.{and_parts}
use Rattle.std.proofs.lemmas.Bool.Decides.{Decides-eqb}
use Rattle.slang_values.specs.Value.{ValueType, unit_type, number_type, Records, is_known}
use Rattle.slang_values.specs.Tree.{Tree, literal, truth_literal, name, bound, unary, binary, update, quantified, listed, Trees, no_trees, tree_then}
use Rattle.slang_values.specs.Typing.{NameTypes, IsTyped, IsClosed}
use Rattle.validity.specs.Validity.{IsClaim}
use Rattle.validity.specs.Bind.{EachName, EachNameOfAll}
use Rattle.validity.proofs.Binds.{IsClosed-bind, IsTyped-bind, bind-name}
use Rattle.program_trees.specs.Claims.{ClaimName, variable, old_variable, let_symbol, ClaimTree}
use Rattle.leg_rules.specs.Store.{names, names_of_all, State, with_term, with_symbol, where_none, read_name, read_claim, term_of_name, term_of, with_fact, set_variable, take_symbol, make_fresh}
use Rattle.leg_rules.specs.Typed.{step_names, IsLegClaim}
use Rattle.leg_sequents.proofs.TypedNames.{IsTyped-bind_names}

-- ---- lists

-- the symbols of the first are symbols of the second, with their types
abbrev pub Wider : List ValueType → List ValueType → Type 0
Wider old new = (n : ℕ) (t : ValueType) → slice_get old n ≡ Some t → slice_get new n ≡ Some t

pub none≢some : {A : Type 0} {x : A} → None ≡ Some x → ⊥
none≢some e = cc

pub wider_push : (old : List ValueType) (u : ValueType) → Wider old (old ++ u ∷ [])
wider_push [] u n t h = absurd (none≢some h)
wider_push (v ∷ old) u zero t h = h
wider_push (v ∷ old) u (suc n) t h = wider_push old u n t h

pub pushed : (old : List ValueType) (u : ValueType) → slice_get (old ++ u ∷ []) (length old) ≡ Some u
pushed [] u = refl
pushed (v ∷ old) u = pushed old u

pub known_push : (records : Records) (old : List ValueType) (u : ValueType) → AllByRecursion (λ t. is_known records t ≡ true) old → is_known records u ≡ true
    → AllByRecursion (λ t. is_known records t ≡ true) (old ++ u ∷ [])
known_push records [] u h k = (k, tt)
known_push records (v ∷ old) u h k = (h.0, known_push records old u h.1 k)

pub known_at : (records : Records) (variables : List ValueType) (x : ℕ) → AllByRecursion (λ t. is_known records t ≡ true) variables
    → is_known records (slice_index_or variables x unit_type) ≡ true
known_at records [] x h = refl
known_at records (v ∷ variables) zero h = h.0
known_at records (v ∷ variables) (suc x) h = known_at records variables x h.1

pub type_at : (variables : List ValueType) (x : ℕ) (t : ValueType) → slice_get variables x ≡ Some t → slice_index_or variables x unit_type ≡ t
type_at [] x t h = absurd (none≢some h)
type_at (v ∷ variables) zero t h = cc
type_at (v ∷ variables) (suc x) t h = type_at variables x t h

-- ---- more names

pub IsTyped-more : {A : Type 0} (records : Records) (types new_types : NameTypes A) → ((a : A) (t : ValueType) → types a ≡ Some t → new_types a ≡ Some t)
    → (a : Tree A) (t : ValueType) → IsTyped records types a t → IsTyped records new_types a t
IsTyped-more records types new_types more a t h = subst (λ u. IsTyped records new_types u t) (bind-name a)
    (IsTyped-bind records types new_types name more a t h)

pub IsClaim-wider : (records : Records) (old new : List ValueType) → Wider old new → (t : Tree ℕ) → IsClaim records (slice_get old) t → IsClaim records
    (slice_get new) t
IsClaim-wider records old new wider t h = record { typed = IsTyped-more records (slice_get old) (slice_get new) wider t _ h.typed; closed = h.closed }

pub claims_wider : (records : Records) (old new : List ValueType) → Wider old new → (ts : List (Tree ℕ)) → AllByRecursion (IsClaim records (slice_get old)) ts
    → AllByRecursion (IsClaim records (slice_get new)) ts
claims_wider records old new wider [] h = tt
claims_wider records old new wider (t ∷ ts) h = (IsClaim-wider records old new wider t h.0, claims_wider records old new wider ts h.1)

pub claims_push : (records : Records) (types : NameTypes ℕ) (ts : List (Tree ℕ)) (t : Tree ℕ) → AllByRecursion (IsClaim records types) ts
    → IsClaim records types t
    → AllByRecursion (IsClaim records types) (ts ++ t ∷ [])
claims_push records types [] t h k = (k, tt)
claims_push records types (u ∷ ts) t h k = (h.0, claims_push records types ts t h.1 k)

-- ---- states

pub record IsGood (records : Records) (variables : List ValueType) (lets : ℕ → Bool) (state : State) : Type 0 where
  pub known : AllByRecursion (λ t. is_known records t ≡ true) state.sorts
  pub closed : (x k : ℕ) (u : Tree ℕ) → state.terms x k ≡ Some u → IsClosed 0 u
  pub typed : (x k : ℕ) (u : Tree ℕ) (t : ValueType) → state.terms x k ≡ Some u → slice_get variables x ≡ Some t → IsTyped records (slice_get state.sorts) u t
  pub symbols : (label : ℕ) → lets label ≡ true → slice_get state.sorts (state.lets label) ≡ Some number_type
  pub facts : AllByRecursion (IsClaim records (slice_get state.sorts)) state.facts

-- what reading keeps
pub record Reads (old new : State) : Type 0 where
  pub version : new.version ≡ old.version
  pub lets : new.lets ≡ old.lets
  pub facts : new.facts ≡ old.facts
  pub wider : Wider old.sorts new.sorts
  pub terms : (x k : ℕ) (u : Tree ℕ) → old.terms x k ≡ Some u → new.terms x k ≡ Some u

pub reads_nothing : (state : State) → Reads state state
reads_nothing state = record { version = refl; lets = refl; facts = refl; wider = λ n t h. h; terms = λ x k u h. h }

pub reads_on : (a b c : State) → Reads a b → Reads b c → Reads a c
reads_on a b c r s = record {
  version = s.version ∙ r.version;
  lets = s.lets ∙ r.lets;
  facts = s.facts ∙ r.facts;
  wider = λ n t h. s.wider n t (r.wider n t h);
  terms = λ x k u h. s.terms x k u (r.terms x k u h);
}

-- ---- a term for a version of a variable

chosen : (b : Bool) (P : Tree ℕ → Type 0) (term u : Tree ℕ) (old : Option (Tree ℕ)) → cond b (Some term) old ≡ Some u → (b ≡ true → P term) → (old
    ≡ Some u → P u) → P u
chosen true P term u old h here there = subst P (some_inj h) (here refl)
  where
    some_inj : {x y : Tree ℕ} → Some x ≡ Some y → x ≡ y
    some_inj e = cc
chosen false P term u old h here there = there h

same_variable_of : (y x m k : ℕ) → nat_eq y x && nat_eq m k ≡ true → y ≡ x
same_variable_of y x m k h = (Decides-eqb y x).0 (and_parts (nat_eq y x) (nat_eq m k) h).0

same_version_of : (y x m k : ℕ) → nat_eq y x && nat_eq m k ≡ true → m ≡ k
same_version_of y x m k h = (Decides-eqb m k).0 (and_parts (nat_eq y x) (nat_eq m k) h).1

-- whatever holds of the new term for its variable, and of the old ones for theirs
pub of_terms : (x k : ℕ) (term : Tree ℕ) (state : State) (P : ℕ → Tree ℕ → Type 0) → P x term → ((y m : ℕ) (u : Tree ℕ) → state.terms y m ≡ Some u → P y u)
    → (y m : ℕ) (u : Tree ℕ) → (with_term x k term state).terms y m ≡ Some u → P y u
of_terms x k term state P here there y m u h =
    chosen (nat_eq y x && nat_eq m k) (P y) term u (state.terms y m) h (λ e. subst (λ z. P z term) (sym (same_variable_of y x m k e)) here) (there y m u)

kept : (b : Bool) (term u : Tree ℕ) (old : Option (Tree ℕ)) → (b ≡ true → ⊥) → old ≡ Some u → cond b (Some term) old ≡ Some u
kept true term u old other h = absurd (other refl)
kept false term u old other h = h

reads_symbol : (t : ValueType) (x k : ℕ) (state : State) → state.terms x k ≡ None → Reads state (with_symbol t x k state)
reads_symbol t x k state free = record {
  version = refl;
  lets = refl;
  facts = refl;
  wider = wider_push state.sorts t;
  terms = λ y m u h. kept (nat_eq y x && nat_eq m k) (name (length state.sorts)) u (state.terms y m)
      (λ e. none≢some (sym free ∙ subst (λ z. state.terms z k ≡ Some u) (same_variable_of y x m k e) (subst (λ z. state.terms y z ≡ Some u)
      (same_version_of y x m k e) h))) h;
}

new_term : (x k : ℕ) (term : Tree ℕ) (state : State) → (with_term x k term state).terms x k ≡ Some term
new_term x k term state = ap₂ (λ a b. cond (a && b) (Some term) (state.terms x k)) ((Decides-eqb x x).1 refl) ((Decides-eqb k k).1 refl)

-- the name has been read
abbrev pub HasTerm : State → ClaimName ℕ → Type 0
HasTerm state (variable x) = (u : Tree ℕ) × (state.terms x (state.version x) ≡ Some u)
HasTerm state (old_variable x) = (u : Tree ℕ) × (state.terms x (pred (state.version x)) ≡ Some u)
HasTerm state (let_symbol label) = Unit {0}

has_kept : (old new : State) → Reads old new → (a : ClaimName ℕ) → HasTerm old a → HasTerm new a
has_kept old new r (variable x) h = (h.0, subst (λ v. new.terms x (v x) ≡ Some h.0) (sym r.version) (r.terms x (old.version x) h.0 h.1))
has_kept old new r (old_variable x) h = (h.0, subst (λ v. new.terms x (pred (v x)) ≡ Some h.0) (sym r.version) (r.terms x (pred (old.version x)) h.0 h.1))
has_kept old new r (let_symbol label) h = tt

-- ---- the names of a claim

all_left : {A : Type 0} (P : A → Type 0) (xs ys : List A) → AllByRecursion P (xs ++ ys) → AllByRecursion P xs
all_left P [] ys h = tt
all_left P (x ∷ xs) ys h = (h.0, all_left P xs ys h.1)

all_right : {A : Type 0} (P : A → Type 0) (xs ys : List A) → AllByRecursion P (xs ++ ys) → AllByRecursion P ys
all_right P [] ys h = h
all_right P (x ∷ xs) ys h = all_right P xs ys h.1

all_mapped : {A : Type 0} (P Q : A → Type 0) → ((a : A) → P a → Q a) → (xs : List A) → AllByRecursion P xs → AllByRecursion Q xs
all_mapped P Q f [] h = tt
all_mapped P Q f (x ∷ xs) h = (f x h.0, all_mapped P Q f xs h.1)

module _ {A : Type 0} (P : A → Type 0) where
  mutual
    pub each_of_names : (t : Tree A) → AllByRecursion P (names t) → EachName P t
    each_of_names (literal z) h = tt
    each_of_names (truth_literal b) h = tt
    each_of_names (name a) h = h.0
    each_of_names (bound n) h = tt
    each_of_names (unary op a) h = each_of_names a h
    each_of_names (binary op a b) h = (each_of_names a (all_left P (names a) (names b) h), each_of_names b (all_right P (names a) (names b) h))
    each_of_names (update a i x) h =
        let rest = all_right P (names a) (names i ++ names x) h in (
          each_of_names a (all_left P (names a) (names i ++ names x) h),
          each_of_names i (all_left P (names i) (names x) rest),
          each_of_names x (all_right P
              (names i) (names x) rest),
        )
    each_of_names (quantified q low high body) h =
        let rest = all_right P (names low) (names high ++ names body) h in (
          each_of_names low (all_left P (names low) (names high ++ names body) h),
          each_of_names high (all_left P (names high)
              (names body) rest),
          each_of_names body (all_right P (names high) (names body) rest),
        )
    each_of_names (listed l ts) h = each_of_all_names ts h

    each_of_all_names : (ts : Trees A) → AllByRecursion P (names_of_all ts) → EachNameOfAll P ts
    each_of_all_names no_trees h = tt
    each_of_all_names (tree_then t ts) h = (
      each_of_names t (all_left P (names t) (names_of_all ts) h),
      each_of_all_names ts (all_right P (names t)
          (names_of_all ts) h),
    )

-- ---- good states stay good

module _ (records : Records) (variables : List ValueType) (fine : AllByRecursion (λ t. is_known records t ≡ true) variables) where
  -- a symbol for a version of a variable
  pub good_symbol : (lets : ℕ → Bool) (x k : ℕ) (state : State) → IsGood records variables lets state
      → IsGood records variables lets (with_symbol (slice_index_or variables x unit_type) x k state)
  good_symbol lets x k state g =
      let u = slice_index_or variables x unit_type in
      let new = state.sorts ++ u ∷ [] in
      let wider = wider_push state.sorts u in
      record {
        known = known_push records state.sorts u g.known (known_at records variables x fine);
        closed = of_terms x k (name (length state.sorts)) state (λ y w. IsClosed 0 w) tt g.closed;
        typed = λ y m w t h at. of_terms x k (name (length state.sorts)) state (λ z v. (s : ValueType) → slice_get variables z ≡ Some s → IsTyped records
            (slice_get new) v s)
            (λ s at_x. pushed state.sorts u ∙ ap Some (type_at variables x s at_x))
            (λ z n v is s at_z. IsTyped-more records (slice_get state.sorts) (slice_get new) wider v s (g.typed z n v s is at_z)) y m w h t at;
        symbols = λ label h. wider (state.lets label) number_type (g.symbols label h);
        facts = claims_wider records state.sorts new wider state.facts g.facts;
      }

  module _ (lets : ℕ → Bool) where
    abbrev Good : State → Type 0
    Good state = IsGood records variables lets state

    version_read : (x k : ℕ) (state : State) (found : Option (Tree ℕ)) → state.terms x k ≡ found → Good state
        → Reads state (where_none found (with_symbol (slice_index_or variables x unit_type) x k state) state)
        × Good (where_none found (with_symbol (slice_index_or variables x unit_type) x k state) state)
        × ((u : Tree ℕ) × ((where_none found (with_symbol (slice_index_or variables x unit_type) x k state) state).terms x k ≡ Some u))
    version_read x k state None e g = (
      reads_symbol (slice_index_or variables x unit_type) x k state e,
      good_symbol lets x k state g,
      (
        name (length state.sorts),
        new_term x k (name
            (length state.sorts)) state,
      ),
    )
    version_read x k state (Some u) e g = (reads_nothing state, g, (u, e))

    name_read : (a : ClaimName ℕ) (state : State) → Good state → Reads state (read_name variables state a) × Good (read_name variables state a) × HasTerm
        (read_name variables state a) a
    name_read (variable x) state g =
        let new = read_name variables state (variable x) in
        let r = version_read x (state.version x) state (state.terms x (state.version x)) refl g in
        (r.0, r.1, (r.2.0, subst (λ v. new.terms x (v x) ≡ Some r.2.0) (sym r.0.version) r.2.1))
    name_read (old_variable x) state g =
        let new = read_name variables state (old_variable x) in
        let r = version_read x (pred (state.version x)) state (state.terms x (pred (state.version x))) refl g in
        (r.0, r.1, (r.2.0, subst (λ v. new.terms x (pred (v x)) ≡ Some r.2.0) (sym r.0.version) r.2.1))
    name_read (let_symbol label) state g = (reads_nothing state, g, tt)

    pub names_read : (as' : List (ClaimName ℕ)) (state : State) → Good state
        → Reads state (fold (read_name variables) state as') × Good (fold (read_name variables) state as') × AllByRecursion (HasTerm (fold
        (read_name variables) state as')) as'
    names_read [] state g = (reads_nothing state, g, tt)
    names_read (a ∷ as') state g =
        let one = name_read a state g in
        let next = read_name variables state a in
        let end = fold (read_name variables) next as' in
        let rest = names_read as' next one.1 in
        (reads_on state next end one.0 rest.0, rest.1, (has_kept next end rest.0 a one.2, rest.2))

    pub claim_reads : (claim : ClaimTree ℕ) (state : State) → Good state → Reads state (read_claim variables claim state)
    claim_reads claim state g = (names_read (names claim) state g).0

    pub good_read : (claim : ClaimTree ℕ) (state : State) → Good state → Good (read_claim variables claim state)
    good_read claim state g = (names_read (names claim) state g).1

    closed_or : (found : Option (Tree ℕ)) → ((u : Tree ℕ) → found ≡ Some u → IsClosed 0 u) → IsClosed 0 (unwrap_or found (name 0))
    closed_or None h = tt
    closed_or (Some u) h = h u refl

    pub closed_names : (state : State) → Good state → (a : ClaimName ℕ) → IsClosed 0 (term_of_name state a)
    closed_names state g (variable x) = closed_or (state.terms x (state.version x)) (g.closed x (state.version x))
    closed_names state g (old_variable x) = closed_or (state.terms x (pred (state.version x))) (g.closed x (pred (state.version x)))
    closed_names state g (let_symbol label) = tt

    let_type : (b : Bool) (sorts : List ValueType) (n : ℕ) (t : ValueType) → (b ≡ true → slice_get sorts n ≡ Some number_type)
        → cond b (Some number_type) None ≡ Some t → slice_get sorts n ≡ Some t
    let_type true sorts n t f h = f refl ∙ h
    let_type false sorts n t f h = absurd (none≢some h)

    fits_place : (state : State) → Good state → (a : ClaimName ℕ) → HasTerm state a → (t : ValueType) → step_names variables lets a ≡ Some t
        → IsTyped records (slice_get state.sorts) (term_of_name state a) t
    fits_place state g (variable x) h t at =
        subst (λ o. IsTyped records (slice_get state.sorts) (unwrap_or o (name 0)) t) (sym h.1) (g.typed x (state.version x) h.0 t h.1 at)
    fits_place state g (old_variable x) h t at =
        subst (λ o. IsTyped records (slice_get state.sorts) (unwrap_or o (name 0)) t) (sym h.1) (g.typed x (pred (state.version x)) h.0 t h.1 at)
    fits_place state g (let_symbol label) h t at = let_type (lets label) state.sorts (state.lets label) t (g.symbols label) at

    -- the term of a well-typed claim
    pub typed_term : (claim : ClaimTree ℕ) (t : ValueType) (state : State) → Good state → IsLegClaim records (step_names variables lets) t claim
        → IsTyped records (slice_get (read_claim variables claim state).sorts) (term_of (read_claim variables claim state) claim) t
    typed_term claim t state g h =
        let new = read_claim variables claim state in
        let r = names_read (names claim) state g in
        IsTyped-bind_names records (step_names variables lets) (slice_get new.sorts) (term_of_name new) claim t
        (each_of_names (λ a. (s : ValueType) → step_names variables lets a ≡ Some s → IsTyped records (slice_get new.sorts) (term_of_name new a) s) claim
        (all_mapped (HasTerm new) _ (fits_place new r.1) (names claim) r.2)) h.typed

    pub closed_term : (claim : ClaimTree ℕ) (t : ValueType) (state : State) → Good state → IsLegClaim records (step_names variables lets) t claim
        → IsClosed 0 (term_of (read_claim variables claim state) claim)
    closed_term claim t state g h =
        let new = read_claim variables claim state in
        IsClosed-bind (term_of_name new) (closed_names new (good_read claim state g)) claim 0 h.closed

  -- ---- changes

  some_same : {s t : ValueType} → Some s ≡ Some t → s ≡ t
  some_same e = cc

  pub good_set : (lets : ℕ → Bool) (x : ℕ) (t : ValueType) (term : Tree ℕ) (state : State) → IsGood records variables lets state → slice_get variables x
      ≡ Some t
      → IsTyped records (slice_get state.sorts) term t → IsClosed 0 term → IsGood records variables lets (set_variable x term state)
  good_set lets x t term state g at typed closed =
      let moved = record state { version = λ y. cond (nat_eq y x) (suc (state.version y)) (state.version y) } in
      record {
        known = g.known;
        closed = of_terms x (suc (state.version x)) term moved (λ y w. IsClosed 0 w) closed g.closed;
        typed = λ y m w s h at_y. of_terms x (suc (state.version x)) term moved (λ z v. (r : ValueType) → slice_get variables z ≡ Some r → IsTyped records
            (slice_get state.sorts) v r)
            (λ r at_x. subst (λ q. IsTyped records (slice_get state.sorts) term q) (some_same (sym at ∙ at_x)) typed)
            (λ z n v is r at_z. g.typed z n v r is at_z) y m w h s at_y;
        symbols = g.symbols;
        facts = g.facts;
      }

  pub good_fresh_each : (lets : ℕ → Bool) (xs : List ℕ) (state : State) → IsGood records variables lets state → IsGood records variables lets (fold
      (take_symbol variables) state xs)
  good_fresh_each lets [] state g = g
  good_fresh_each lets (x ∷ xs) state g = good_fresh_each lets xs (take_symbol variables state x) (good_symbol lets x (state.version x) state g)

  pub good_fresh : (lets : ℕ → Bool) (xs : List ℕ) (state : State) → IsGood records variables lets state → IsGood records variables lets
      (make_fresh variables xs state)
  good_fresh lets xs state g =
      good_fresh_each lets xs _ (record { known = g.known; closed = g.closed; typed = g.typed; symbols = g.symbols; facts = g.facts })

  pub good_fact : (lets : ℕ → Bool) (term : Tree ℕ) (state : State) → IsGood records variables lets state → IsClaim records (slice_get state.sorts) term
      → IsGood records variables lets (with_fact term state)
  good_fact lets term state g h =
      record {
        known = g.known;
        closed = g.closed;
        typed = g.typed;
        symbols = g.symbols;
        facts = claims_push records
            (slice_get state.sorts) state.facts term g.facts h;
      }
