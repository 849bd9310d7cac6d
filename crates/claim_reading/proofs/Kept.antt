-- Terms that have been read stay.
use Rattle.std.proofs.Common.{◌≡◌, ℕ, pred, Bool, true, false, cond, List, [], ◌∷◌, length, Option, Some, None, refl, sym, ap, ap₂, ◌∙◌, subst}
use Rattle.std.specs.Prelude.{nat_eq, slice_index_or, unwrap_or, ◌&&◌}
use Rattle.std.specs.List.{AllByRecursion, fold}
use Rattle.std.proofs.lemmas.Bool.{and_parts}
use Rattle.std.proofs.lemmas.Bool.Decides.{Decides-eqb}
use Rattle.slang_values.specs.Value.{ValueType, unit_type}
use Rattle.slang_values.specs.Tree.{Tree, name}
use Rattle.validity.proofs.Binds.{bind-same_names}
use Rattle.program_trees.specs.Claims.{ClaimName, variable, old_variable, let_symbol, ClaimTree}
use Rattle.leg_rules.specs.Store.{names, State, with_term, with_symbol, where_none, read_name, read_claim, term_of_name, term_of}
use Rattle.leg_sequents.proofs.Reading.{none≢some, each_of_names}
use Rattle.claim_reading.specs.Reading.{read_claims}

-- what reading keeps
pub record Keeps (old new : State) : Type 0 where
  pub version : new.version ≡ old.version
  pub lets : new.lets ≡ old.lets
  pub terms : (x k : ℕ) (u : Tree ℕ) → old.terms x k ≡ Some u → new.terms x k ≡ Some u

pub keeps_all : (state : State) → Keeps state state
keeps_all state = record { version = refl; lets = refl; terms = λ x k u h. h }

pub keeps_on : (a b c : State) → Keeps a b → Keeps b c → Keeps a c
keeps_on a b c r s = record { version = s.version ∙ r.version; lets = s.lets ∙ r.lets; terms = λ x k u h. s.terms x k u (r.terms x k u h) }

kept : (b : Bool) (term u : Tree ℕ) (old : Option (Tree ℕ)) → (b ≡ true → ⊥) → old ≡ Some u → cond b (Some term) old ≡ Some u
kept true term u old other h = absurd (other refl)
kept false term u old other h = h

same_variable_of : (y x m k : ℕ) → nat_eq y x && nat_eq m k ≡ true → y ≡ x
same_variable_of y x m k h = (Decides-eqb y x).0 (and_parts (nat_eq y x) (nat_eq m k) h).0

same_version_of : (y x m k : ℕ) → nat_eq y x && nat_eq m k ≡ true → m ≡ k
same_version_of y x m k h = (Decides-eqb m k).0 (and_parts (nat_eq y x) (nat_eq m k) h).1

keeps_symbol : (t : ValueType) (x k : ℕ) (state : State) → state.terms x k ≡ None → Keeps state (with_symbol t x k state)
keeps_symbol t x k state free = record {
  version = refl;
  lets = refl;
  terms = λ y m u h. kept (nat_eq y x && nat_eq m k) (name (length state.sorts)) u (state.terms y m)
      (λ e. none≢some (sym free ∙ subst (λ z. state.terms z k ≡ Some u) (same_variable_of y x m k e) (subst (λ z. state.terms y z ≡ Some u)
      (same_version_of y x m k e) h))) h;
}

pub new_term : (x k : ℕ) (term : Tree ℕ) (state : State) → (with_term x k term state).terms x k ≡ Some term
new_term x k term state = ap₂ (λ a b. cond (a && b) (Some term) (state.terms x k)) ((Decides-eqb x x).1 refl) ((Decides-eqb k k).1 refl)

-- the name has been read
abbrev pub HasTerm : State → ClaimName ℕ → Type 0
HasTerm state (variable x) = (u : Tree ℕ) × (state.terms x (state.version x) ≡ Some u)
HasTerm state (old_variable x) = (u : Tree ℕ) × (state.terms x (pred (state.version x)) ≡ Some u)
HasTerm state (let_symbol label) = Unit {0}

has_kept : (old new : State) → Keeps old new → (a : ClaimName ℕ) → HasTerm old a → HasTerm new a
has_kept old new r (variable x) h = (h.0, subst (λ v. new.terms x (v x) ≡ Some h.0) (sym r.version) (r.terms x (old.version x) h.0 h.1))
has_kept old new r (old_variable x) h = (h.0, subst (λ v. new.terms x (pred (v x)) ≡ Some h.0) (sym r.version) (r.terms x (pred (old.version x)) h.0 h.1))
has_kept old new r (let_symbol label) h = tt

-- a name that has been read keeps its term
same_term : (old new : State) → Keeps old new → (a : ClaimName ℕ) → HasTerm old a → term_of_name new a ≡ term_of_name old a
same_term old new r (variable x) h =
    ap (λ o. unwrap_or o (name 0)) (subst (λ v. new.terms x (v x) ≡ Some h.0) (sym r.version) (r.terms x (old.version x) h.0 h.1) ∙ sym h.1)
same_term old new r (old_variable x) h =
    ap (λ o. unwrap_or o (name 0)) (subst (λ v. new.terms x (pred (v x)) ≡ Some h.0) (sym r.version) (r.terms x (pred (old.version x)) h.0 h.1) ∙ sym h.1)
same_term old new r (let_symbol label) h = ap (λ l. name (l label)) r.lets

all_mapped : {A : Type 0} (P Q : A → Type 0) → ((a : A) → P a → Q a) → (xs : List A) → AllByRecursion P xs → AllByRecursion Q xs
all_mapped P Q f [] h = tt
all_mapped P Q f (x ∷ xs) h = (f x h.0, all_mapped P Q f xs h.1)

module _ (types : List ValueType) where
  version_read : (x k : ℕ) (state : State) (found : Option (Tree ℕ)) → state.terms x k ≡ found
      → Keeps state (where_none found (with_symbol (slice_index_or types x unit_type) x k state) state)
      × ((u : Tree ℕ) × ((where_none found (with_symbol (slice_index_or types x unit_type) x k state) state).terms x k ≡ Some u))
  version_read x k state None e = (keeps_symbol (slice_index_or types x unit_type) x k state e, (name (length state.sorts), new_term x k (name (length state.sorts)) state))
  version_read x k state (Some u) e = (keeps_all state, (u, e))

  name_read : (a : ClaimName ℕ) (state : State) → Keeps state (read_name types state a) × HasTerm (read_name types state a) a
  name_read (variable x) state =
      let new = read_name types state (variable x) in
      let r = version_read x (state.version x) state (state.terms x (state.version x)) refl in
      (r.0, (r.1.0, subst (λ v. new.terms x (v x) ≡ Some r.1.0) (sym r.0.version) r.1.1))
  name_read (old_variable x) state =
      let new = read_name types state (old_variable x) in
      let r = version_read x (pred (state.version x)) state (state.terms x (pred (state.version x))) refl in
      (r.0, (r.1.0, subst (λ v. new.terms x (pred (v x)) ≡ Some r.1.0) (sym r.0.version) r.1.1))
  name_read (let_symbol label) state = (keeps_all state, tt)

  names_read : (as' : List (ClaimName ℕ)) (state : State)
      → Keeps state (fold (read_name types) state as') × AllByRecursion (HasTerm (fold (read_name types) state as')) as'
  names_read [] state = (keeps_all state, tt)
  names_read (a ∷ as') state =
      let one = name_read a state in
      let next = read_name types state a in
      let end = fold (read_name types) next as' in
      let rest = names_read as' next in
      (keeps_on state next end one.0 rest.0, (has_kept next end rest.0 a one.1, rest.1))

  pub claim_keeps : (claim : ClaimTree ℕ) (state : State) → Keeps state (read_claim types claim state)
  claim_keeps claim state = (names_read (names claim) state).0

  pub claims_keep : (claims : List (ClaimTree ℕ)) (state : State) → Keeps state (read_claims types claims state)
  claims_keep [] state = keeps_all state
  claims_keep (claim ∷ claims) state =
      let next = read_claim types claim state in
      keeps_on state next (read_claims types claims next) (claim_keeps claim state) (claims_keep claims next)

  -- what is read later does not change the term
  pub same_later : (claim : ClaimTree ℕ) (state later : State) → Keeps (read_claim types claim state) later
      → term_of later claim ≡ term_of (read_claim types claim state) claim
  same_later claim state later k =
      let here = read_claim types claim state in
      bind-same_names (term_of_name later) (term_of_name here) claim
      (each_of_names (λ a. term_of_name later a ≡ term_of_name here a) claim
      (all_mapped (HasTerm here) (λ a. term_of_name later a ≡ term_of_name here a) (same_term here later k) (names claim) (names_read (names claim) state).1))
