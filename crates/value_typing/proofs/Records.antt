-- Records none of which holds itself end.
use Rattle.std.proofs.Common.{◌≡◌, ◌⊎◌, inl, inr, ⊎_elim, ℕ, zero, suc, ◌+◌, ◌<◌, Bool, true, false, nat_lt, eqb, List, [], ◌∷◌, map, length, Option, Some, None, refl, sym, ◌∙◌, subst, arith, eq-eqb}
use Rattle.std.specs.Option.{option_map_or}
use Rattle.std.specs.List.{AllByRecursion, IsDistinct, list_all, list_any}
use Rattle.std.proofs.lemmas.Bool.{true≢false, and_parts, and_from, or_cases, or_left, or_right, eqb-true, ltb-true, false_from_ne_true}
use Rattle.std.proofs.lemmas.List.{get_or-map, length-map}
use Rattle.std.proofs.lemmas.Map.Steps.{length-le_from_distinct_below}
use Rattle.slang_values.specs.Value.{ValueType, Records, fields, named_record, is_known, ends_within}
use Rattle.type_rules.specs.Records.{FieldTypes, types_of_record, record_named, leads_within, holds_itself}
use Rattle.value_typing.specs.Records.{without_faults, RecordsEnd}

-- ---- lists

abbrev Among : {X : Type 0} → X → List X → Type 0
Among x [] = ⊥
Among x (y ∷ ys) = (y ≡ x) ⊎ Among x ys

all_from : {X : Type 0} (p : X → Bool) (xs : List X) → ((x : X) → Among x xs → p x ≡ true) → list_all p xs ≡ true
all_from p [] each = refl
all_from p (x ∷ xs) each = and_from (p x) (list_all p xs) (each x (inl refl)) (all_from p xs (λ y h. each y (inr h)))

all_at : {X : Type 0} (p : X → Bool) (xs : List X) (x : X) → Among x xs → list_all p xs ≡ true → p x ≡ true
all_at p [] x h all = absurd h
all_at p (y ∷ ys) x (inl e) all = subst (λ z. p z ≡ true) e (and_parts (p y) (list_all p ys) all).0
all_at p (y ∷ ys) x (inr h) all = all_at p ys x h (and_parts (p y) (list_all p ys) all).1

any_mapped : {X Y : Type 0} (p : Y → Bool) (f : X → Y) (xs : List X) (x : X) → Among x xs → p (f x) ≡ true → list_any p (map f xs) ≡ true
any_mapped p f [] x h e = absurd h
any_mapped p f (y ∷ ys) x (inl q) e = or_left (p (f y)) (list_any p (map f ys)) (subst (λ z. p (f z) ≡ true) (sym q) e)
any_mapped p f (y ∷ ys) x (inr h) e = or_right (p (f y)) (list_any p (map f ys)) (any_mapped p f ys x h e)

any_more : {X : Type 0} (p q : X → Bool) → ((x : X) → p x ≡ true → q x ≡ true) → (xs : List X) → list_any p xs ≡ true → list_any q xs ≡ true
any_more p q more [] h = h
any_more p q more (x ∷ xs) h = ⊎_elim
    (λ k. or_left (q x) (list_any q xs) (more x k))
    (λ k. or_right (q x) (list_any q xs) (any_more p q more xs k))
    (or_cases (p x) (list_any p xs) h)

optional_more : (f g : ℕ → Bool) → ((k : ℕ) → f k ≡ true → g k ≡ true) → (o : Option ℕ) → option_map_or f o false ≡ true →
    option_map_or g o false ≡ true
optional_more f g more None h = h
optional_more f g more (Some k) h = more k h

all_more : (P Q : ℕ → Type 0) → ((v : ℕ) → P v → Q v) → (vs : List ℕ) → AllByRecursion P vs → AllByRecursion Q vs
all_more P Q more [] h = tt
all_more P Q more (v ∷ vs) h = (more v h.0, all_more P Q more vs h.1)

-- ---- chains of records

module _ (written : FieldTypes) where
  -- the type of a field leads to record m in at most so many steps
  abbrev pub leads_to : ℕ → ℕ → Option ValueType → Bool
  leads_to s m type = option_map_or (λ k. leads_within written s k m) (record_named type) false

  -- a field of record v does
  abbrev pub Reaches : ℕ → ℕ → ℕ → Type 0
  Reaches s v m = list_any (leads_to s m) (types_of_record written v) ≡ true

  -- a field of record n names record m
  abbrev pub Names : ℕ → ℕ → Type 0
  Names n m = (s : ℕ) → Reaches s n m

  leads_itself : (s m : ℕ) → leads_within written s m m ≡ true
  leads_itself zero m = eq-eqb m m refl
  leads_itself (suc s) m = or_left (eqb m m) (list_any (leads_to s m) (types_of_record written m)) (eq-eqb m m refl)

  longer : (s a n m : ℕ) → Names n m → leads_within written s a n ≡ true → leads_within written (suc s) a m ≡ true
  longer zero a n m field h =
      or_right (eqb a m) (list_any (leads_to 0 m) (types_of_record written a)) (subst (λ b. Reaches 0 b m) (sym (eqb-true a n h)) (field 0))
  longer (suc s) a n m field h =
      or_right (eqb a m) (list_any (leads_to (suc s) m) (types_of_record written a)) (⊎_elim
      (λ e. subst (λ b. Reaches (suc s) b m) (sym (eqb-true a n e)) (field (suc s)))
      (λ k. any_more (leads_to s n) (leads_to (suc s) m)
      (λ type. optional_more (λ b. leads_within written s b n) (λ b. leads_within written (suc s) b m) (λ b. longer s b n m field)
      (record_named type))
      (types_of_record written a) k)
      (or_cases (eqb a n) (list_any (leads_to s n) (types_of_record written a)) h))

  reach_longer : (s v n m : ℕ) → Names n m → Reaches s v n → Reaches (suc s) v m
  reach_longer s v n m field h =
      any_more (leads_to s n) (leads_to (suc s) m)
      (λ type. optional_more (λ b. leads_within written s b n) (λ b. leads_within written (suc s) b m) (λ b. longer s b n m field) (record_named type))
      (types_of_record written v) h

  slower : (s a m : ℕ) → leads_within written s a m ≡ true → leads_within written (suc s) a m ≡ true
  slower zero a m h = or_left (eqb a m) (list_any (leads_to 0 m) (types_of_record written a)) h
  slower (suc s) a m h = ⊎_elim
      (λ e. or_left (eqb a m) (list_any (leads_to (suc s) m) (types_of_record written a)) e)
      (λ k. or_right (eqb a m) (list_any (leads_to (suc s) m) (types_of_record written a))
      (any_more (leads_to s m) (leads_to (suc s) m)
      (λ type. optional_more (λ b. leads_within written s b m) (λ b. leads_within written (suc s) b m) (λ b. slower s b m) (record_named type))
      (types_of_record written a) k))
      (or_cases (eqb a m) (list_any (leads_to s m) (types_of_record written a)) h)

  reach_slower : (d s v m limit : ℕ) → s + d ≡ limit → Reaches s v m → Reaches limit v m
  reach_slower zero s v m limit e h = subst (λ n. Reaches n v m) (let k : s ≡ limit = omega (arith, e) in k) h
  reach_slower (suc d) s v m limit e h =
      reach_slower d (suc s) v m limit (omega (arith, e))
      (any_more (leads_to s m) (leads_to (suc s) m)
      (λ type. optional_more (λ b. leads_within written s b m) (λ b. leads_within written (suc s) b m) (λ b. slower s b m) (record_named type))
      (types_of_record written v) h)

-- ---- records that end

module _ (records : Records) (known : (n : ℕ) → n < length records → list_all (is_known records) (fields records n) ≡ true)
    (none : (n : ℕ) → n < length records → holds_itself (without_faults records) n ≡ false) where
  abbrev written : FieldTypes
  written = without_faults records

  same_count : length written ≡ length records
  same_count = length-map records (λ types. map (λ t. Some t) types)

  types_at : (n : ℕ) → n < length records → types_of_record written n ≡ map (λ t. Some t) (fields records n)
  types_at n there = get_or-map (λ types. map (λ t. Some t) types) records n [] [] there

  not_back : (d s v : ℕ) → s + d ≡ length records → v < length records → Reaches written s v v → ⊥
  not_back d s v e there h =
      true≢false (sym (reach_slower written d s v v (length written) (e ∙ sym same_count) h) ∙ none v there)

  named_by : (n m : ℕ) (t : ValueType) → n < length records → Among t (fields records n) → named_record t ≡ Some m → Names written n m
  named_by n m t there among e s =
      subst (λ types. list_any (leads_to written s m) types ≡ true) (sym (types_at n there))
      (any_mapped (leads_to written s m) (λ u. Some u) (fields records n) t among
      (subst (λ o. option_map_or (λ k. leads_within written s k m) o false ≡ true) (sym e) (leads_itself written s m)))

  below : (m : ℕ) (t : ValueType) → is_known records t ≡ true → named_record t ≡ Some m → m < length records
  below m t h e =
      ltb-true m (length records) (subst (λ o. option_map_or (λ n. nat_lt n (length records)) o true ≡ true) e h)

  -- each of these records is there, and leads to record n
  abbrev Visited : ℕ → ℕ → List ℕ → Type 0
  Visited s n vs = AllByRecursion (λ v. (v < length records) × Reaches written s v n) vs

  visited_longer : (s n m : ℕ) (vs : List ℕ) → Names written n m → Visited s n vs → Visited (suc s) m vs
  visited_longer s n m vs field h =
      all_more (λ v. (v < length records) × Reaches written s v n) (λ v. (v < length records) × Reaches written (suc s) v m)
      (λ v p. (p.0, reach_longer written s v n m field p.1)) vs h

  apart : (d s m : ℕ) (vs : List ℕ) → s + d ≡ length records → Visited s m vs → AllByRecursion (λ y. eqb m y ≡ false) vs
  apart d s m vs e h =
      all_more (λ v. (v < length records) × Reaches written s v m) (λ y. eqb m y ≡ false)
      (λ v p. false_from_ne_true (eqb m v) (λ q. not_back d s v e p.0 (subst (λ k. Reaches written s v k) (eqb-true m v q) p.1))) vs h

  all_below : (s n : ℕ) (vs : List ℕ) → Visited s n vs → (q : ℕ) → list_any (eqb q) vs ≡ true → q < length records
  all_below s n [] h q k = absurd (true≢false (sym k))
  all_below s n (v ∷ vs) h q k = ⊎_elim
      (λ e. subst (λ w. w < length records) (sym (eqb-true q v e)) h.0.0)
      (λ l. all_below s n vs h.1 q l)
      (or_cases (eqb q v) (list_any (eqb q) vs) k)

  on_named : (d s n : ℕ) (vs : List ℕ) → s + suc d ≡ length records → length vs ≡ s → n < length records → Visited s n vs →
      IsDistinct eqb (n ∷ vs) → (t : ValueType) → Among t (fields records n) → (o : Option ℕ) → named_record t ≡ o →
      ((m : ℕ) → suc s + d ≡ length records → length (n ∷ vs) ≡ suc s → m < length records → Visited (suc s) m (n ∷ vs) →
      IsDistinct eqb (m ∷ n ∷ vs) → ends_within records d m ≡ true) →
      option_map_or (ends_within records d) o true ≡ true
  unfolding IsDistinct
  on_named d s n vs e l there visited distinct t among None q next = refl
  on_named d s n vs e l there visited distinct t among (Some m) q next =
      let field = named_by n m t there among q in
      let room : suc s + d ≡ length records = omega (arith, e) in
      let all : Visited (suc s) m (n ∷ vs) = ((there, field (suc s)), visited_longer s n m vs field visited) in
      next m room (omega (arith, l)) (below m t (all_at (is_known records) (fields records n) t among (known n there)) q) all
      (apart d (suc s) m (n ∷ vs) room all, distinct)

  ends : (d s n : ℕ) (vs : List ℕ) → s + d ≡ length records → length vs ≡ s → n < length records → Visited s n vs → IsDistinct eqb (n ∷ vs) →
      ends_within records d n ≡ true
  ends zero s n vs e l there visited distinct =
      absurd (omega (
        arith,
        e,
        l,
        length-le_from_distinct_below (n ∷ vs) (length records) distinct (λ q k. ⊎_elim
            (λ h. subst (λ w. w < length records) (sym (eqb-true q n h)) there)
            (λ h. all_below s n vs visited q h)
            (or_cases (eqb q n) (list_any (eqb q) vs) k)),
      ))
  ends (suc d) s n vs e l there visited distinct =
      all_from (λ t. option_map_or (ends_within records d) (named_record t) true) (fields records n)
      (λ t among. on_named d s n vs e l there visited distinct t among (named_record t) refl (λ m. ends d (suc s) m (n ∷ vs)))

  from_none : (n : ℕ) → n < length records → ends_within records (length records) n ≡ true
  unfolding IsDistinct
  from_none n there = ends (length records) 0 n [] (omega arith) refl there tt (tt, tt)

pub records_end : RecordsEnd
records_end records known none n there = from_none records known none n there
