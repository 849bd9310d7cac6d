-- A claim that is no name, and its parts.
use Rattle.std.proofs.Common.{◌≡◌, ℕ, zero, suc, ◌+◌, List, [], ◌∷◌, ◌++◌, map, take, slice_get, Some, None, refl, sym, ap, ap₂, ◌∙◌, arith}
use Rattle.std.specs.List.{fold, flat_map}
use Rattle.std.proofs.lemmas.List.{append-nil}
use Rattle.std.proofs.lemmas.Grind.{fold-append}
use Rattle.slang_values.specs.Value.{ValueType}
use Rattle.slang_values.specs.Tree.{Tree, literal, truth_literal, name, bound, unary, binary, update, quantified, listed, Trees, no_trees, tree_then, sequence_of, record_of, parts, tree_list}
use Rattle.tree_forms.specs.Order.{head}
use Rattle.validity.specs.Bind.{bind, bind_all}
use Rattle.program_trees.specs.Claims.{ClaimTree}
use Rattle.leg_rules.specs.Store.{names, names_of_all, State, read_name, read_claim, term_of_name}
use Rattle.leg_rules.specs.Sequents.{read_term}
use Rattle.leg_sequents.proofs.Reading.{none≢some}
use Rattle.claim_reading.specs.Readable.{name_in}
use Rattle.claim_reading.specs.Reading.{read_claims, read_terms, claim_head}
use Rattle.claim_reading.specs.Laws.{ReadingLaws}
use Rattle.claim_reading.proofs.Kept.{claims_keep, same_later}

-- ---- the names, and what is put in their places

names_of_list : {A : Type 0} (ts : Trees A) → names_of_all ts ≡ flat_map names (tree_list ts)
names_of_list no_trees = refl
names_of_list (tree_then t ts) = ap (λ xs. names t ++ xs) (names_of_list ts)

names_of_parts : {A : Type 0} (t : Tree A) → name_in t ≡ None → names t ≡ flat_map names (parts t)
names_of_parts (literal z) e = refl
names_of_parts (truth_literal b) e = refl
names_of_parts (name a) e = absurd (none≢some (sym e))
names_of_parts (bound n) e = refl
names_of_parts (unary op a) e = sym (append-nil (names a))
names_of_parts (binary op a b) e = ap (λ xs. names a ++ xs) (sym (append-nil (names b)))
names_of_parts (update a i x) e = ap (λ xs. names a ++ (names i ++ xs)) (sym (append-nil (names x)))
names_of_parts (quantified q low high body) e = ap (λ xs. names low ++ (names high ++ xs)) (sym (append-nil (names body)))
names_of_parts (listed l ts) e = names_of_list ts

bound_list : {A B : Type 0} (f : A → Tree B) (ts : Trees A) → tree_list (bind_all f ts) ≡ map (bind f) (tree_list ts)
bound_list f no_trees = refl
bound_list f (tree_then t ts) = ap (λ us. bind f t ∷ us) (bound_list f ts)

bound_parts : {A B : Type 0} (f : A → Tree B) (t : Tree A) → name_in t ≡ None → parts (bind f t) ≡ map (bind f) (parts t)
bound_parts f (literal z) e = refl
bound_parts f (truth_literal b) e = refl
bound_parts f (name a) e = absurd (none≢some (sym e))
bound_parts f (bound n) e = refl
bound_parts f (unary op a) e = refl
bound_parts f (binary op a b) e = refl
bound_parts f (update a i x) e = refl
bound_parts f (quantified q low high body) e = refl
bound_parts f (listed l ts) e = bound_list f ts

bound_head : {A : Type 0} (f g : A → Tree ℕ) (t : Tree A) → name_in t ≡ None → head (bind f t) ≡ head (bind g t)
bound_head f g (literal z) e = refl
bound_head f g (truth_literal b) e = refl
bound_head f g (name a) e = absurd (none≢some (sym e))
bound_head f g (bound n) e = refl
bound_head f g (unary op a) e = refl
bound_head f g (binary op a b) e = refl
bound_head f g (update a i x) e = refl
bound_head f g (quantified q low high body) e = refl
bound_head f g (listed (sequence_of t) ts) e = refl
bound_head f g (listed (record_of n) ts) e = refl

-- ---- reading

same_some : {A : Type 0} {x y : A} → Some x ≡ Some y → x ≡ y
same_some e = cc

fold_of_names : {A S : Type 0} (f : S → A → S) (state : S) (ts : List (Tree A)) → fold f state (flat_map names ts) ≡ fold (λ s t. fold f s (names t)) state ts
fold_of_names f state [] = refl
fold_of_names f state (t ∷ ts) = fold-append f state (names t) (flat_map names ts) ∙ fold_of_names f (fold f state (names t)) ts

module _ (types : List ValueType) where
  pub read-parts : (state : State) (claim : ClaimTree ℕ) → name_in claim ≡ None → read_claim types claim state ≡ read_claims types (parts claim) state
  read-parts state claim e = ap (fold (read_name types) state) (names_of_parts claim e) ∙ fold_of_names (read_name types) state (parts claim)

  bound_terms : (claims : List (ClaimTree ℕ)) (state : State)
      → map (bind (term_of_name (read_claims types claims state))) claims ≡ read_terms types state claims
  bound_terms [] state = refl
  bound_terms (claim ∷ claims) state =
      let next = read_claim types claim state in
      ap₂ (λ u us. u ∷ us) (same_later types claim state (read_claims types claims next) (claims_keep types claims next)) (bound_terms claims next)

  pub parts-read_term : (state : State) (claim : ClaimTree ℕ) → name_in claim ≡ None → parts (read_term types state claim) ≡ read_terms types state (parts claim)
  parts-read_term state claim e =
      bound_parts (term_of_name (read_claim types claim state)) claim e
      ∙ ap (λ s. map (bind (term_of_name s)) (parts claim)) (read-parts state claim e) ∙ bound_terms (parts claim) state

  pub head-read_term : (state : State) (claim : ClaimTree ℕ) → name_in claim ≡ None → head (read_term types state claim) ≡ claim_head claim
  head-read_term state claim e = bound_head (term_of_name (read_claim types claim state)) (λ a. name 0) claim e

  read_claims-suc : (claims : List (ClaimTree ℕ)) (state : State) (i : ℕ) (claim : ClaimTree ℕ) → slice_get claims i ≡ Some claim
      → read_claims types (take (suc i) claims) state ≡ read_claim types claim (read_claims types (take i claims) state)
  read_claims-suc [] state i claim e = absurd (none≢some e)
  read_claims-suc (c ∷ claims) state zero claim e = ap (λ x. read_claim types x state) (same_some e)
  read_claims-suc (c ∷ claims) state (suc i) claim e = read_claims-suc claims (read_claim types c state) i claim e

  pub read_claims-take : (claims : List (ClaimTree ℕ)) (state : State) (i : ℕ) (claim : ClaimTree ℕ) → slice_get claims i ≡ Some claim
      → read_claims types (take (i + 1) claims) state ≡ read_claim types claim (read_claims types (take i claims) state)
  read_claims-take claims state i claim e =
      let next : i + 1 ≡ suc i = omega arith in
      ap (λ n. read_claims types (take n claims) state) next ∙ read_claims-suc claims state i claim e

  pub read_terms-at : (claims : List (ClaimTree ℕ)) (state : State) (i : ℕ) (claim : ClaimTree ℕ) → slice_get claims i ≡ Some claim
      → slice_get (read_terms types state claims) i ≡ Some (read_term types (read_claims types (take i claims) state) claim)
  read_terms-at [] state i claim e = absurd (none≢some e)
  read_terms-at (c ∷ claims) state zero claim e = ap (λ x. Some (read_term types state x)) (same_some e)
  read_terms-at (c ∷ claims) state (suc i) claim e = read_terms-at claims (read_claim types c state) i claim e

pub reading_laws : ReadingLaws
reading_laws = record { state = read-parts; parts = parts-read_term; head = head-read_term }
