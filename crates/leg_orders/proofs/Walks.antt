-- How orders go on along claims, steps and items.
use Rattle.std.proofs.Common.{◌≡◌, ℕ, ℤ, Bool, List, [], ◌∷◌, ◌++◌, map, length, refl, ap, ap₂, sym, ◌∙◌, subst}
use Rattle.std.specs.Prelude.{nat_eq}
use Rattle.std.specs.List.{flat_map, fold}
use Rattle.std.proofs.lemmas.List.{append-nil, length-map}
use Rattle.std.proofs.lemmas.List.Sums.{fold-append}
use Rattle.std.proofs.lemmas.Grind.{flat_map-append}
use Rattle.slang_values.specs.Value.{ValueType, unit_type, record_type}
use Rattle.slang_values.specs.Tree.{literal, truth_literal, name, bound, unary, binary, update, quantified, listed, sequence_of, record_of}
use Rattle.slang_values.specs.declared.operators.Unary.{Unary}
use Rattle.slang_values.specs.declared.operators.Binary.{Binary}
use Rattle.slang_values.specs.declared.operators.Quantifier.{Quantifier}
use Rattle.validity.specs.Bind.{bind_all}
use Rattle.program_trees.specs.Claims.{ClaimTree, variable, old_variable, let_symbol, renamed_name, renamed_step, renamed_steps}
use Rattle.program_trees.specs.Programs.{MethodTree, ProgramTree}
use Rattle.program_trees.specs.Variables.{Variable}
use Rattle.lk_claims.specs.declared.claim.Claim.{Claim}
use Rattle.lk_claims.specs.declared.step.ProofStep.{ProofStep}
use Rattle.lk_claims.specs.Claim.{claim_tree, claim_trees}
use Rattle.lk_claims.specs.Step.{step_tree, step_trees}
use Rattle.lk_programs.specs.declared.typed.Typed.{Typed}
use Rattle.leg_rules.specs.LegNames.{LegName, same_name}
use Rattle.leg_rules.specs.Numbering.{Appearance, of_variable, of_type, claim_appears, parts_appear, step_appears, steps_appear, appearing_records, appearing_variables, leg_name_type, with_new, leg_appears, variable_order, record_order}
use Rattle.leg_rules.specs.Legs.{Items}
use Rattle.leg_items.specs.declared.name.Frame.{Frame}
use Rattle.leg_items.specs.declared.name.Name.{Name}
use Rattle.leg_items.specs.Names.{frame_name, leg_name}
use Rattle.leg_items.specs.Drafts.{framed}
use Rattle.leg_orders.specs.declared.order.Order.{Order}
use Rattle.leg_orders.specs.Places.{method_of, program_of}
use Rattle.leg_orders.specs.Orders.{Seen, seen, sees, sees_all, with_all_new}
use Rattle.leg_orders.specs.Closed.{IsClosed, records_of}
use Rattle.leg_orders.specs.Walks.{Follows, claims_appear}
use Rattle.leg_orders.proofs.Closed.{all_stay_closed, no_records, records_same}

count : (typed : Typed) → length typed.records ≡ length (program_of typed).records
count typed = sym (length-map typed.records _)

joined_closed : (typed : Typed) (t : ValueType) (order : List ℕ) → IsClosed (program_of typed) order →
    IsClosed (program_of typed) (with_all_new order (records_of (program_of typed) (length typed.records) t))
joined_closed typed t order closed =
    subst (λ d. IsClosed (program_of typed) (with_all_new order (records_of (program_of typed) d t))) (sym (count typed)) (all_stay_closed (program_of typed) typed.well_typed.records t order closed)

module _ (typed : Typed) (method : ℕ) where
  pub follows_nothing : (order : Order) → IsClosed (program_of typed) order.records → Follows typed method order order []
  follows_nothing order closed = record { more = refl; closed = closed }

  pub follows_then : (old middle new : Order) (xs ys : List Appearance) → Follows typed method old middle xs → Follows typed method middle new ys → Follows typed method old new (xs ++ ys)
  follows_then old middle new xs ys a b = record {
    more = b.more ∙ ap (λ s. sees_all (program_of typed) (method_of typed method) s ys) a.more
        ∙ sym (fold-append (sees (program_of typed) (method_of typed method)) (seen old.names old.records) xs ys);
    closed = b.closed;
  }

  pub follows_three : (old one two new : Order) (xs ys zs : List Appearance) → Follows typed method old one xs → Follows typed method one two ys → Follows typed method two new zs →
      Follows typed method old new (xs ++ (ys ++ zs))
  follows_three old one two new xs ys zs a b c = follows_then old one new xs (ys ++ zs) a (follows_then one two new ys zs b c)

  pub follows_more : {X : Type 0} (f : X → List Appearance) (xs all : List X) (x : X) (old middle new : Order) → all ≡ xs ++ x ∷ [] →
      Follows typed method old middle (flat_map f xs) → Follows typed method middle new (f x) → Follows typed method old new (flat_map f all)
  follows_more f xs all x old middle new e a b =
      subst (Follows typed method old new)
      (sym (ap (flat_map f) e ∙ flat_map-append f xs (x ∷ []) ∙ ap (λ l. flat_map f xs ++ l) (append-nil (f x))))
      (follows_then old middle new (flat_map f xs) (f x) a b)

  -- ---- one appearance

  pub appears_named : (old new : Order) (x : LegName) (t : ValueType) → map leg_name new.names ≡ with_new same_name (map leg_name old.names) x →
      t ≡ leg_name_type (program_of typed) (method_of typed method) x →
      new.records ≡ with_all_new old.records (records_of (program_of typed) (length typed.records) t) → IsClosed (program_of typed) old.records →
      Follows typed method old new (of_variable x ∷ [])
  appears_named old new x t a e b closed = record {
    more = ap₂ (λ v r. record { variables = v; records = r }) a (b ∙ ap (with_all_new old.records)
        (ap₂ (λ d u. records_of (program_of typed) d u) (count typed) e ∙ sym (records_same (program_of typed) (method_of typed method) (length (program_of typed).records) (leg_name_type (program_of typed) (method_of typed method) x))));
    closed = subst (IsClosed (program_of typed)) (sym b) (joined_closed typed t old.records closed);
  }

  pub appears_bare : (old new : Order) (x : LegName) → map leg_name new.names ≡ with_new same_name (map leg_name old.names) x →
      unit_type ≡ leg_name_type (program_of typed) (method_of typed method) x → new.records ≡ old.records → IsClosed (program_of typed) old.records →
      Follows typed method old new (of_variable x ∷ [])
  appears_bare old new x a e b closed =
      appears_named old new x unit_type a e (b ∙ sym (ap (with_all_new old.records) (no_records (program_of typed) (length typed.records) unit_type refl))) closed

  pub appears_front : (old new : Order) (t : ValueType) → new.names ≡ old.names →
      new.records ≡ with_all_new old.records (records_of (program_of typed) (length typed.records) t) → IsClosed (program_of typed) old.records →
      Follows typed method old new (of_type t ∷ [])
  appears_front old new t a b closed = record {
    more = ap₂ (λ v r. record { variables = v; records = r }) (ap (map leg_name) a) (b ∙ ap (with_all_new old.records)
        (ap (λ d. records_of (program_of typed) d t) (count typed) ∙ sym (records_same (program_of typed) (method_of typed method) (length (program_of typed).records) t)));
    closed = subst (IsClosed (program_of typed)) (sym b) (joined_closed typed t old.records closed);
  }

  -- ---- claims

  module _ (frame : Frame) where
    abbrev Goes : Order → Order → ClaimTree ℕ → Type 0
    Goes old new t = Follows typed method old new (claim_appears (framed frame t))

    pub goes_literal : (o : Order) (t : ClaimTree ℕ) (z : ℤ) → t ≡ literal z → IsClosed (program_of typed) o.records → Follows typed method o o (claim_appears (framed frame t))
    goes_literal o t z e h = subst (Goes o o) (sym e) (follows_nothing o h)

    pub goes_truth : (o : Order) (t : ClaimTree ℕ) (b : Bool) → t ≡ truth_literal b → IsClosed (program_of typed) o.records → Follows typed method o o (claim_appears (framed frame t))
    goes_truth o t b e h = subst (Goes o o) (sym e) (follows_nothing o h)

    pub goes_bound : (o : Order) (t : ClaimTree ℕ) (n : ℕ) → t ≡ bound n → IsClosed (program_of typed) o.records → Follows typed method o o (claim_appears (framed frame t))
    goes_bound o t n e h = subst (Goes o o) (sym e) (follows_nothing o h)

    pub goes_symbol : (o : Order) (t : ClaimTree ℕ) (n : ℕ) → t ≡ name (let_symbol n) → IsClosed (program_of typed) o.records → Follows typed method o o (claim_appears (framed frame t))
    goes_symbol o t n e h = subst (Goes o o) (sym e) (follows_nothing o h)

    pub goes_variable : (old new : Order) (t : ClaimTree ℕ) (n : ℕ) (x : LegName) → t ≡ name (variable n) → x ≡ frame_name frame n →
        Follows typed method old new (of_variable x ∷ []) → Follows typed method old new (claim_appears (framed frame t))
    goes_variable old new t n x e a h = subst (Goes old new) (sym e) (subst (λ y. Follows typed method old new (of_variable y ∷ [])) a h)

    pub goes_old : (old new : Order) (t : ClaimTree ℕ) (n : ℕ) (x : LegName) → t ≡ name (old_variable n) → x ≡ frame_name frame n →
        Follows typed method old new (of_variable x ∷ []) → Follows typed method old new (claim_appears (framed frame t))
    goes_old old new t n x e a h = subst (Goes old new) (sym e) (subst (λ y. Follows typed method old new (of_variable y ∷ [])) a h)

    pub goes_unary : (old new : Order) (t a : ClaimTree ℕ) (op : Unary) → t ≡ unary op a →
        Follows typed method old new (claim_appears (framed frame a)) → Follows typed method old new (claim_appears (framed frame t))
    goes_unary old new t a op e h = subst (Goes old new) (sym e) h

    pub goes_binary : (old middle new : Order) (t a b : ClaimTree ℕ) (op : Binary) → t ≡ binary op a b →
        Follows typed method old middle (claim_appears (framed frame a)) → Follows typed method middle new (claim_appears (framed frame b)) →
        Follows typed method old new (claim_appears (framed frame t))
    goes_binary old middle new t a b op e h k = subst (Goes old new) (sym e) (follows_then old middle new _ _ h k)

    pub goes_update : (old new : Order) (t a i x : ClaimTree ℕ) → t ≡ update a i x →
        Follows typed method old new (claim_appears (framed frame a) ++ (claim_appears (framed frame i) ++ claim_appears (framed frame x))) →
        Follows typed method old new (claim_appears (framed frame t))
    goes_update old new t a i x e h = subst (Goes old new) (sym e) h

    pub goes_quantified : (old new : Order) (t low high body : ClaimTree ℕ) (q : Quantifier) → t ≡ quantified q low high body →
        Follows typed method old new (claim_appears (framed frame low) ++ (claim_appears (framed frame high) ++ claim_appears (framed frame body))) →
        Follows typed method old new (claim_appears (framed frame t))
    goes_quantified old new t low high body q e h = subst (Goes old new) (sym e) h

    parts_of_list : (cs : List Claim) → parts_appear (bind_all (λ a. name (renamed_name (frame_name frame) a)) (claim_trees cs)) ≡ claims_appear frame cs
    parts_of_list [] = refl
    parts_of_list (c ∷ cs) = ap (λ l. claim_appears (framed frame (claim_tree c)) ++ l) (parts_of_list cs)

    pub goes_sequence : (old middle new : Order) (t : ClaimTree ℕ) (element : ValueType) (cs : List Claim) → t ≡ listed (sequence_of element) (claim_trees cs) →
        Follows typed method old middle (of_type element ∷ []) → Follows typed method middle new (claims_appear frame cs) →
        Follows typed method old new (claim_appears (framed frame t))
    goes_sequence old middle new t element cs e h k =
        subst (Goes old new) (sym e) (subst (λ l. Follows typed method old new (of_type element ∷ l)) (sym (parts_of_list cs)) (follows_then old middle new (of_type element ∷ []) _ h k))

    pub goes_record : (old middle new : Order) (t : ClaimTree ℕ) (n : ℕ) (cs : List Claim) → t ≡ listed (record_of n) (claim_trees cs) →
        Follows typed method old middle (of_type (record_type n) ∷ []) → Follows typed method middle new (claims_appear frame cs) →
        Follows typed method old new (claim_appears (framed frame t))
    goes_record old middle new t n cs e h k =
        subst (Goes old new) (sym e) (subst (λ l. Follows typed method old new (of_type (record_type n) ∷ l)) (sym (parts_of_list cs)) (follows_then old middle new (of_type (record_type n) ∷ []) _ h k))

    -- ---- steps

    pub steps_of_list : (ss : List ProofStep) → steps_appear (renamed_steps (frame_name frame) (step_trees ss)) ≡ flat_map (λ s. step_appears (renamed_step (frame_name frame) (step_tree s))) ss
    steps_of_list [] = refl
    steps_of_list (s ∷ ss) = ap (λ l. step_appears (renamed_step (frame_name frame) (step_tree s)) ++ l) (steps_of_list ss)

pub ruleset claim_lines = (goes_literal, goes_truth, goes_bound, goes_symbol, goes_variable, goes_old, goes_unary, goes_binary, goes_update, goes_quantified, goes_sequence, goes_record)

-- ---- the whole

pub flat-map : {X Y Z : Type 0} (f : Y → List Z) (g : X → Y) (xs : List X) → flat_map f (map g xs) ≡ flat_map (λ x. f (g x)) xs
flat-map f g [] = refl
flat-map f g (x ∷ xs) = ap (λ l. f (g x) ++ l) (flat-map f g xs)

module _ (program : ProgramTree Variable) (m : MethodTree Variable) where
  variables_seen : (s : Seen) (xs : List Appearance) → (sees_all program m s xs).variables ≡ fold (with_new same_name) s.variables (flat_map (appearing_variables program m) xs)
  variables_seen s [] = refl
  variables_seen s (x ∷ xs) =
      variables_seen (sees program m s x) xs ∙ sym (fold-append (with_new same_name) s.variables (appearing_variables program m x) (flat_map (appearing_variables program m) xs))

  records_seen : (s : Seen) (xs : List Appearance) → (sees_all program m s xs).records ≡ with_all_new s.records (flat_map (appearing_records program m) xs)
  records_seen s [] = refl
  records_seen s (x ∷ xs) =
      records_seen (sees program m s x) xs ∙ sym (fold-append (with_new nat_eq) s.records (appearing_records program m x) (flat_map (appearing_records program m) xs))

  pub variable_order_is : (names : List Name) (records : List ℕ) (items : Items) →
      seen names records ≡ sees_all program m (seen [] []) (leg_appears items) → map leg_name names ≡ variable_order program m items
  variable_order_is names records items e = ap (λ s. s.variables) e ∙ variables_seen (seen [] []) (leg_appears items)

  pub record_order_is : (names : List Name) (records : List ℕ) (items : Items) →
      seen names records ≡ sees_all program m (seen [] []) (leg_appears items) → records ≡ record_order program m items
  record_order_is names records items e = ap (λ s. s.records) e ∙ records_seen (seen [] []) (leg_appears items)
