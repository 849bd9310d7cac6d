-- A leg passes where the leg over numbers does.
use Rattle.std.proofs.Common.{◌≡◌, ℕ, zero, suc, Bool, true, false, cond, ◌||◌, List, [], ◌∷◌, ◌++◌, map, Some, refl, sym, ap, ap₂, ◌∙◌, subst}
use Rattle.std.specs.Prelude.{slice_get, slice_index_or, unwrap_or}
use Rattle.std.specs.List.{AllByRecursion, flat_map}
use Rattle.std.specs.Set.{is_member}
use Rattle.slang_values.specs.Value.{ValueType, unit_type, Records, is_known, AreWellFormed, Value, unit, truth_of, HasType}
use Rattle.slang_values.specs.Typing.{NameTypes, FitNames}
use Rattle.validity.specs.Validity.{no_bounds}
use Rattle.program_trees.specs.Claims.{ClaimName, variable, old_variable, let_symbol, ClaimTree, line, block, ProofStepTrees, no_steps, step_then, renamed_steps}
use Rattle.program_trees.specs.Programs.{MethodTree, ProgramTree}
use Rattle.program_trees.specs.Variables.{Variable, local, global, entry, result}
use Rattle.program_trees.specs.Legs.{ItemTree, assume, check, set, fresh, proof, renamed_item}
use Rattle.leg_rules.specs.LegNames.{LegName, own, of_call, same_name}
use Rattle.leg_rules.specs.Legs.{Items}
use Rattle.leg_rules.specs.Numbering.{Appearance, of_variable, of_type, name_appears, claim_appears, steps_appear, item_appears, leg_appears, leg_name_type, appearing_variables, variable_order, record_order, number_in, renumbered_type, renumbered_steps, renumbered_item, leg_tree}
use Rattle.leg_soundness.specs.Passing.{LegValues, begins, leg_name_value, leg_value, IsTrueAt, with_now, with_fresh, claimed, PassesItem, Passes, leg_types, AtEnd}
use Rattle.numbering_laws.specs.NumberedPassing.{LegPasses, IsKnownAppearance, number_name, named_items, number_types, NumberedPasses}
use Rattle.numbering_laws.proofs.Places.{none≢some, some_inj, In, all_left, all_right, all_mapped, number_at, same_numbers, all_in_firsts}
use Rattle.numbering_laws.proofs.SameNames.{same_name-true, same_name-self}
use Rattle.numbering_laws.proofs.Values.{renumbered_value, TypeIn, ValueIn, truth_of-renumbered, AreRenumbered, typed-in, typed-renumbered}
use Rattle.numbering_laws.proofs.RecordOrder.{appearing_type, is_record_order}
use Rattle.numbering_laws.proofs.RecordNumbers.{got_map, got_index, are_renumbered}
use Rattle.numbering_laws.proofs.Claims.{AppearsIn, number, new_claim, NameStands, value-in, value-new}

map_got : {A B : Type 0} (h : A → B) (xs : List A) (i : ℕ) (y : B) → slice_get (map h xs) i ≡ Some y → (x : A) × (slice_get xs i ≡ Some x) × (h x ≡ y)
map_got h [] i y e = absurd (none≢some e)
map_got h (x ∷ xs) zero y e = (x, refl, some_inj e)
map_got h (x ∷ xs) (suc i) y e = map_got h xs i y e

module _ (records new_records : Records) (S : ℕ → Type 0) (f back : ℕ → ℕ) (are : AreRenumbered records new_records S f back) (variables : List LegName) where
  abbrev Appears : Appearance → Type 0
  Appears = AppearsIn records new_records S f back are variables

  abbrev number_of_name : LegName → ℕ
  number_of_name x = number_in same_name variables x

  abbrev new_name : LegName → LegName
  new_name x = number_name (number_of_name x)

  abbrev claim_by_numbers : ClaimTree LegName → ClaimTree LegName
  claim_by_numbers c = new_claim records new_records S f back are variables c

  -- The values of the leg, and of the leg over numbers.
  record Stands (s new : LegValues) : Type 0 where
    now : (x : LegName) → In variables x → ValueIn S (s.now x) × (new.now (new_name x) ≡ renumbered_value f (s.now x))
    old : (x : LegName) → In variables x → ValueIn S (s.old x) × (new.old (new_name x) ≡ renumbered_value f (s.old x))

  name_stands : (s new : LegValues) → Stands s new → (a : ClaimName LegName) → AllByRecursion Appears (name_appears a)
      → NameStands records new_records S f back are variables (leg_name_value s) (leg_name_value new) a
  name_stands s new st (variable x) h = st.now x h.0
  name_stands s new st (old_variable x) h = st.old x h.0
  name_stands s new st (let_symbol label) h = (tt, refl)

  claim_in : (s new : LegValues) → Stands s new → (c : ClaimTree LegName) → AllByRecursion Appears (claim_appears c) → ValueIn S (leg_value records s c)
  claim_in s new st c h =
      value-in records new_records S f back are variables (leg_name_value s) (leg_name_value new) (name_stands s new st) c no_bounds h

  claim_value : (s new : LegValues) → Stands s new → (c : ClaimTree LegName) → AllByRecursion Appears (claim_appears c)
      → leg_value new_records new (claim_by_numbers c) ≡ renumbered_value f (leg_value records s c)
  claim_value s new st c h =
      value-new records new_records S f back are variables (leg_name_value s) (leg_name_value new) (name_stands s new st) c no_bounds h

  same_truth : (s new : LegValues) → Stands s new → (c : ClaimTree LegName) → AllByRecursion Appears (claim_appears c)
      → truth_of (leg_value new_records new (claim_by_numbers c)) ≡ truth_of (leg_value records s c)
  same_truth s new st c h = ap truth_of (claim_value s new st c h) ∙ truth_of-renumbered f (leg_value records s c)

  -- ---- changes

  same_number : (x y : LegName) → In variables x → In variables y → same_name (new_name y) (new_name x) ≡ same_name y x
  same_number x y at_x at_y = same_numbers same_name same_name-true same_name-self variables x y at_x at_y

  chosen : (b c : Bool) (v w new_v new_w : Value) → c ≡ b → ValueIn S v × (new_v ≡ renumbered_value f v) → ValueIn S w × (new_w ≡ renumbered_value f w)
      → ValueIn S (cond b v w) × (cond c new_v new_w ≡ renumbered_value f (cond b v w))
  chosen true c v w new_v new_w e p q = (p.0, ap (λ a. cond a new_v new_w) e ∙ p.1)
  chosen false c v w new_v new_w e p q = (q.0, ap (λ a. cond a new_v new_w) e ∙ q.1)

  stands_set : (s new : LegValues) → Stands s new → (x : LegName) → In variables x → (v w : Value) → ValueIn S v × (w ≡ renumbered_value f v)
      → Stands (with_now x v s) (with_now (new_name x) w new)
  stands_set s new st x at v w p = record {
    now = λ y at_y. chosen (same_name y x) _ v (s.now y) w (new.now (new_name y)) (same_number x y at at_y) p (st.now y at_y);
    old = λ y at_y. chosen (same_name y x) _ (s.now y) (s.old y) (new.now (new_name y)) (new.old (new_name y)) (same_number x y at at_y) (st.now y at_y)
        (st.old y at_y);
  }

  same_member : (xs : List LegName) (y : LegName) → AllByRecursion (In variables) xs → In variables y
      → is_member same_name (map number_name (map number_of_name xs)) (new_name y) ≡ is_member same_name xs y
  same_member [] y h at = refl
  same_member (x ∷ xs) y h at = ap₂ ◌||◌ (same_number x y h.0 at) (same_member xs y h.1 at)

  -- values of the variables, by their numbers
  abbrev new_values : (LegName → Value) → LegName → Value
  new_values values (own (local n)) = renumbered_value f (slice_index_or (map values variables) n unit)
  new_values values (own (global n)) = unit
  new_values values (own (entry n)) = unit
  new_values values (own result) = unit
  new_values values (of_call node number x) = unit

  new_value_at : (values : LegName → Value) (x : LegName) → In variables x → new_values values (new_name x) ≡ renumbered_value f (values x)
  new_value_at values x at =
      ap (renumbered_value f) (got_index (map values variables) (number_of_name x) (values x) unit
      (got_map values variables (number_of_name x) x (number_at same_name same_name-true same_name-self variables at.0 x at.1).1))

  module _ (types : NameTypes LegName) (type_of_name : LegName → ValueType) (typed : (i : ℕ) (x : LegName) → slice_get variables i ≡ Some x → (types x ≡ Some (type_of_name x)) × TypeIn S (type_of_name x)) where
    abbrev variable_types : List ValueType
    variable_types = map (λ x. renumbered_type f (type_of_name x)) variables

    value_stands : (values : LegName → Value) → FitNames records types values → (x : LegName) → In variables x
        → ValueIn S (values x) × (new_values values (new_name x) ≡ renumbered_value f (values x))
    value_stands values fit x at =
        let t = typed at.0 x at.1 in
        (typed-in records S are.members (values x) (type_of_name x) (fit x (type_of_name x) t.0) t.1, new_value_at values x at)

    new_fit : (values : LegName → Value) → FitNames records types values → FitNames new_records (number_types variable_types) (new_values values)
    new_fit values fit (own (local n)) t h =
        let at = map_got (λ x. renumbered_type f (type_of_name x)) variables n t h in
        let has = typed n at.0 at.1 in
        let v = typed-renumbered records new_records S f back are (values at.0) (type_of_name at.0) (fit at.0 (type_of_name at.0) has.0) has.1 in
        subst (λ w. HasType new_records (renumbered_value f w) t) (sym (got_index (map values variables) n (values at.0) unit (got_map values variables n at.0 at.1)))
        (subst (HasType new_records (renumbered_value f (values at.0))) at.2 v)
    new_fit values fit (own (global n)) t h = absurd (none≢some h)
    new_fit values fit (own (entry n)) t h = absurd (none≢some h)
    new_fit values fit (own result) t h = absurd (none≢some h)
    new_fit values fit (of_call node number x) t h = absurd (none≢some h)

    stands_fresh : (s new : LegValues) → Stands s new → (xs : List LegName) → AllByRecursion (In variables) xs → (values : LegName → Value)
        → FitNames records types values
        → Stands (with_fresh xs values s) (with_fresh (map number_name (map number_of_name xs)) (new_values values) new)
    stands_fresh s new st xs h values fit = record {
      now = λ y at. chosen (is_member same_name xs y) _ (values y) (s.now y) _ (new.now (new_name y)) (same_member xs y h at) (value_stands values fit y at)
          (st.now y at);
      old = λ y at. chosen (is_member same_name xs y) _ (s.now y) (s.old y) (new.now (new_name y)) (new.old (new_name y)) (same_member xs y h at)
          (st.now y at) (st.old y at);
    }

    -- ---- items

    claims_hold : (s new : LegValues) → Stands s new → (steps : ProofStepTrees LegName) → AllByRecursion Appears (steps_appear steps)
        → AllByRecursion (IsTrueAt new_records new) (claimed (renamed_steps number_name (renumbered_steps f (renamed_steps number_of_name steps))))
        → AllByRecursion (IsTrueAt records s) (claimed steps)
    claims_hold s new st no_steps h hold = tt
    claims_hold s new st (step_then (line label claim rule cites) steps) h hold = (
      sym (same_truth s new st claim (all_left Appears (claim_appears claim) (steps_appear steps) h)) ∙ hold.0,
      claims_hold s new st steps (all_right Appears (claim_appears claim) (steps_appear steps) h) hold.1,
    )
    claims_hold s new st (step_then (block label has_symbol assumed given inner) steps) h hold =
        claims_hold s new st steps (all_right Appears (claim_appears given ++ steps_appear inner) (steps_appear steps) h) hold

    in_variables : (xs : List LegName) → AllByRecursion Appears (map of_variable xs) → AllByRecursion (In variables) xs
    in_variables [] h = tt
    in_variables (x ∷ xs) h = (h.0, in_variables xs h.1)

    abbrev item_by_numbers : ItemTree LegName → ItemTree ℕ
    item_by_numbers item = renumbered_item f (renamed_item number_of_name item)

    item_passes : (item : ItemTree LegName) → AllByRecursion Appears (item_appears item) → (Next New : LegValues → Type 0)
        → ((s new : LegValues) → Stands s new → New new → Next s) → (s new : LegValues) → Stands s new
        → PassesItem new_records (number_types variable_types) (renamed_item number_name (item_by_numbers item)) New new
        → PassesItem records types item Next s
    item_passes (assume claim) h Next New next s new st p = λ holds. next s new st (p (same_truth s new st claim h ∙ holds))
    item_passes (check kind claim) h Next New next s new st p = (sym (same_truth s new st claim h) ∙ p.0, next s new st p.1)
    item_passes (set x claim) h Next New next s new st p =
        next _ _ (stands_set s new st x h.0 _ _ (claim_in s new st claim h.1, claim_value s new st claim h.1)) p
    item_passes (fresh xs) h Next New next s new st p =
        λ values fit. next _ _ (stands_fresh s new st xs (in_variables xs h) values fit) (p (new_values values) (new_fit values fit))
    item_passes (proof steps) h Next New next s new st p = (claims_hold s new st steps h p.0, next s new st p.1)

    items_pass : (items : Items) → AllByRecursion Appears (leg_appears items) → (s new : LegValues) → Stands s new
        → Passes new_records (number_types variable_types) (named_items (map (λ noted. item_by_numbers noted.item) items)) AtEnd new
        → Passes records types items AtEnd s
    items_pass [] h s new st p = tt
    items_pass (noted ∷ items) h s new st p =
        item_passes noted.item (all_left Appears (item_appears noted.item) (leg_appears items) h) (Passes records types items AtEnd)
        (Passes new_records (number_types variable_types) (named_items (map (λ other. item_by_numbers other.item) items)) AtEnd)
        (items_pass items (all_right Appears (item_appears noted.item) (leg_appears items) h)) s new st p

    leg_passes : (items : Items) → AllByRecursion Appears (leg_appears items)
        → ((names : LegName → Value) → FitNames new_records (number_types variable_types) names
        → Passes new_records (number_types variable_types) (named_items (map (λ noted. item_by_numbers noted.item) items)) AtEnd (begins names))
        → (names : LegName → Value) → FitNames records types names → Passes records types items AtEnd (begins names)
    leg_passes items h p names fit =
        items_pass items h (begins names) (begins (new_values names)) (record { now = value_stands names fit; old = value_stands names fit })
        (p (new_values names) (new_fit names fit))

-- ---- a leg of a method

module _ (program : ProgramTree Variable) (method : MethodTree Variable) where
  pub name_type : (x : LegName) (t : ValueType) → leg_types program method x ≡ Some t → leg_name_type program method x ≡ t
  name_type (own x) t h = ap (λ o. unwrap_or o unit_type) h
  name_type (of_call node number x) t h = ap (λ o. unwrap_or o unit_type) h

  pub known_type : (a : Appearance) → IsKnownAppearance program method a → is_known program.records (appearing_type program method a) ≡ true
  known_type (of_variable x) h = subst (λ t. is_known program.records t ≡ true) (sym (name_type x h.0 h.1)) h.2
  known_type (of_type t) h = h

  module _ (order : List ℕ) (variables : List LegName) where
    -- a variable of the leg has a type, which names records of the leg
    abbrev pub IsTypedVariable : LegName → Type 0
    IsTypedVariable x = (leg_types program method x ≡ Some (leg_name_type program method x)) × TypeIn (In order) (leg_name_type program method x)

    pub typed_variables : (as' : List Appearance) → AllByRecursion (IsKnownAppearance program method) as'
        → AllByRecursion (λ a. TypeIn (In order) (appearing_type program method a)) as'
        → AllByRecursion IsTypedVariable (flat_map (appearing_variables program method) as')
    typed_variables [] known types = tt
    typed_variables (of_variable x ∷ as') known types =
        ((known.0.1 ∙ ap Some (sym (name_type x known.0.0 known.0.1)), types.0), typed_variables as' known.1 types.1)
    typed_variables (of_type t ∷ as') known types = typed_variables as' known.1 types.1

    abbrev Numbered : Appearance → Type 0
    Numbered (of_variable x) = In variables x
    Numbered (of_type t) = TypeIn (In order) t

    pub all_numbered : (as' : List Appearance) → AllByRecursion (In variables) (flat_map (appearing_variables program method) as')
        → AllByRecursion (λ a. TypeIn (In order) (appearing_type program method a)) as' → AllByRecursion Numbered as'
    all_numbered [] at types = tt
    all_numbered (of_variable x ∷ as') at types = (at.0, all_numbered as' at.1 types.1)
    all_numbered (of_type t ∷ as') at types = (types.0, all_numbered as' at types.1)

  pub numbered_leg_passes : (items : Items) → AreWellFormed program.records → AllByRecursion (IsKnownAppearance program method) (leg_appears items)
      → NumberedPasses (leg_tree program method items) → LegPasses program method items
  numbered_leg_passes items fine known passes =
      let as' = leg_appears items in
      let order = record_order program method items in
      let variables = variable_order program method items in
      let record_facts = is_record_order program method fine as' (all_mapped _ _ known_type as' known) in
      let are = are_renumbered program.records order record_facts.behind record_facts.there fine in
      let firsts_of = all_in_firsts same_name same_name-true same_name-self (IsTypedVariable order variables) []
      (flat_map (appearing_variables program method) as') (λ i y h. absurd (none≢some h)) (typed_variables order variables as' known record_facts.types) in
      leg_passes program.records _ (In order) _ _ are variables (leg_types program method) (leg_name_type program method) firsts_of.2 items
      (all_numbered order variables as' firsts_of.1 record_facts.types) passes
