-- Orders of records stay closed, where all records end.
use Rattle.std.proofs.Common.{◌≡◌, ℕ, zero, suc, ◌<◌, ◌≤◌, Bool, true, List, [], ◌∷◌, ◌++◌, ◌&&◌, map, take, length, get_or, Option, Some, None, refl, ap, ap₂, sym, ◌∙◌, ◌⊎◌, inl, inr, ⊎_elim, subst, arith}
use Rattle.std.specs.Prelude.{nat_eq}
use Rattle.std.specs.Option.{option_map_or}
use Rattle.std.specs.List.{AllByRecursion, flat_map, list_all}
use Rattle.std.specs.Set.{is_member}
use Rattle.std.proofs.lemmas.Bool.{cases_lt, false≢true, and_parts}
use Rattle.std.proofs.lemmas.Grind.{flat_map-append}
use Rattle.std.proofs.lemmas.List.{append-nil}
use Rattle.std.proofs.lemmas.List.Sums.{fold-append}
use Rattle.slang_values.specs.Value.{ValueType, record_type, Records, fields, named_record, ends_within, AreWellFormed}
use Rattle.program_trees.specs.Programs.{MethodTree, ProgramTree}
use Rattle.program_trees.specs.Variables.{Variable}
use Rattle.leg_rules.specs.Numbering.{records_within, with_new}
use Rattle.leg_orders.specs.Orders.{with_all_new}
use Rattle.leg_orders.specs.Closed.{AreIn, IsClosed, records_of, type_ends, TypeEnds}
use Rattle.leg_orders.proofs.Members.{added, all_kept, in_append, in_grown, old_or_new}

module _ (program : ProgramTree Variable) where
  -- the same whatever method is named
  pub records_same : (method : MethodTree Variable) (depth : ℕ) (t : ValueType) → records_within program method depth t ≡ records_of program depth t
  records_same method zero t = refl
  records_same method (suc depth) t =
      ap (λ w. option_map_or (λ n. flat_map w (fields program.records n) ++ n ∷ []) (named_record t) []) (λ i u. records_same method depth u i)

  -- and of types that name one record
  pub records_named : (depth : ℕ) (t u : ValueType) → named_record t ≡ named_record u → records_of program depth t ≡ records_of program depth u
  records_named zero t u e = refl
  records_named (suc depth) t u e = ap (λ o. option_map_or (λ n. flat_map (records_of program depth) (fields program.records n) ++ n ∷ []) o []) e

  -- the order has the records that the types name
  abbrev NamedIn : List ℕ → Option ℕ → Type 0
  NamedIn order None = Unit {0}
  NamedIn order (Some n) = is_member nat_eq order n ≡ true

  abbrev HasNamed : List ℕ → ValueType → Type 0
  HasNamed order t = NamedIn order (named_record t)

  named_kept : (order more : List ℕ) (o : Option ℕ) → NamedIn order o → NamedIn (with_all_new order more) o
  named_kept order more None h = tt
  named_kept order more (Some n) h = all_kept order more n h

  all_named_kept : (order more : List ℕ) (ts : List ValueType) → AllByRecursion (HasNamed order) ts → AllByRecursion (HasNamed (with_all_new order more)) ts
  all_named_kept order more [] h = tt
  all_named_kept order more (t ∷ ts) h = (named_kept order more (named_record t) h.0, all_named_kept order more ts h.1)

  -- a closed order has all that such a type is made of
  type_in : (order : List ℕ) → IsClosed program order → (depth : ℕ) (t : ValueType) (o : Option ℕ) → named_record t ≡ o → NamedIn order o → AreIn order (records_of program depth t)
  type_in order closed zero t o e h = tt
  type_in order closed (suc depth) t None e h = subst (λ o. AreIn order (option_map_or (λ n. flat_map (records_of program depth) (fields program.records n) ++ n ∷ []) o [])) (sym e) tt
  type_in order closed (suc depth) t (Some n) e h = subst (AreIn order) (sym (records_named (suc depth) t (record_type n) e)) (closed n (suc depth) h)

  types_in : (order : List ℕ) → IsClosed program order → (depth : ℕ) (ts : List ValueType) → AllByRecursion (HasNamed order) ts → AreIn order (flat_map (records_of program depth) ts)
  types_in order closed depth [] h = tt
  types_in order closed depth (t ∷ ts) h =
      in_append order (records_of program depth t) (flat_map (records_of program depth) ts) (type_in order closed depth t (named_record t) refl h.0) (types_in order closed depth ts h.1)

  -- a record whose fields name records that are there
  closed_new : (order : List ℕ) (n : ℕ) → IsClosed program order → AllByRecursion (HasNamed order) (fields program.records n) → IsClosed program (with_new nat_eq order n)
  closed_new order n closed named k depth h =
      ⊎_elim (λ old. in_grown order (n ∷ []) (records_of program depth (record_type k)) (closed k depth old))
      (λ e. subst (λ m. AreIn (with_new nat_eq order n) (records_of program depth (record_type m))) (sym e) (made depth)) (old_or_new order n k h)
    where
      made : (depth : ℕ) → AreIn (with_new nat_eq order n) (records_of program depth (record_type n))
      made zero = tt
      made (suc depth) =
          in_append (with_new nat_eq order n) (flat_map (records_of program depth) (fields program.records n)) (n ∷ [])
          (in_grown order (n ∷ []) (flat_map (records_of program depth) (fields program.records n)) (types_in order closed depth (fields program.records n) named))
          (added order n, tt)

  -- ---- what a type adds

  abbrev StaysClosed : ℕ → ValueType → Type 0
  StaysClosed depth t =
      (order : List ℕ) → IsClosed program order → IsClosed program (with_all_new order (records_of program depth t)) × HasNamed (with_all_new order (records_of program depth t)) t

  fields_closed : (depth : ℕ) → ((t : ValueType) → TypeEnds program.records depth t → StaysClosed depth t) → (ts : List ValueType) → list_all (type_ends program.records depth) ts ≡ true →
      (order : List ℕ) → IsClosed program order →
      IsClosed program (with_all_new order (flat_map (records_of program depth) ts)) × AllByRecursion (HasNamed (with_all_new order (flat_map (records_of program depth) ts))) ts
  fields_closed depth each [] ends order closed = (closed, tt)
  fields_closed depth each (t ∷ ts) ends order closed =
      let p = and_parts _ _ ends in
      let middle = with_all_new order (records_of program depth t) in
      let one = each t p.0 order closed in
      let rest = fields_closed depth each ts p.1 middle one.0 in
      let more = flat_map (records_of program depth) ts in
      subst (λ new. IsClosed program new × AllByRecursion (HasNamed new) (t ∷ ts)) (sym (fold-append (with_new nat_eq) order (records_of program depth t) more)) (
        rest.0,
        (named_kept middle more (named_record t) one.1, rest.1),
      )

  named_closed : (depth : ℕ) → ((t : ValueType) → TypeEnds program.records depth t → StaysClosed depth t) → (o : Option ℕ) → option_map_or (ends_within program.records (suc depth)) o true ≡ true →
      (order : List ℕ) → IsClosed program order →
      IsClosed program (with_all_new order (option_map_or (λ n. flat_map (records_of program depth) (fields program.records n) ++ n ∷ []) o []))
      × NamedIn (with_all_new order (option_map_or (λ n. flat_map (records_of program depth) (fields program.records n) ++ n ∷ []) o [])) o
  named_closed depth each None ends order closed = (closed, tt)
  named_closed depth each (Some n) ends order closed =
      let inner = fields_closed depth each (fields program.records n) ends order closed in
      let middle = with_all_new order (flat_map (records_of program depth) (fields program.records n)) in
      subst (λ new. IsClosed program new × (is_member nat_eq new n ≡ true)) (sym (fold-append (with_new nat_eq) order (flat_map (records_of program depth) (fields program.records n)) (n ∷ []))) (
        closed_new middle n inner.0 inner.1,
        added middle n,
      )

  none_ends : (o : Option ℕ) → option_map_or (ends_within program.records zero) o true ≡ true → (order : List ℕ) → NamedIn order o
  none_ends None e order = tt
  none_ends (Some n) e order = absurd (false≢true e)

  type_closed : (depth : ℕ) (t : ValueType) → TypeEnds program.records depth t → StaysClosed depth t
  type_closed zero t ends order closed = (closed, none_ends (named_record t) ends order)
  type_closed (suc depth) t ends order closed = named_closed depth (type_closed depth) (named_record t) ends order closed

  pub stays_closed : (depth : ℕ) (t : ValueType) (order : List ℕ) → TypeEnds program.records depth t → IsClosed program order → IsClosed program (with_all_new order (records_of program depth t))
  stays_closed depth t order ends closed = (type_closed depth t ends order closed).0

  pub fields_stay_closed : (depth : ℕ) (ts : List ValueType) (order : List ℕ) → list_all (type_ends program.records depth) ts ≡ true → IsClosed program order →
      IsClosed program (with_all_new order (flat_map (records_of program depth) ts))
  fields_stay_closed depth ts order ends closed = (fields_closed depth (type_closed depth) ts ends order closed).0

  -- ---- every record ends, where there are records

  pub record_ends : AreWellFormed program.records → (n depth : ℕ) → length program.records ≡ depth → 0 < depth → ends_within program.records depth n ≡ true
  record_ends fine n zero e h = absurd (omega arith)
  record_ends fine n (suc depth) e h = by (le_or_lt n)
    where
      outside : (rs : Records) (k : ℕ) → length rs ≤ k → fields rs k ≡ []
      outside [] k l = refl
      outside (r ∷ rs) zero l = absurd (omega arith)
      outside (r ∷ rs) (suc k) l = outside rs k (omega arith)

      le_or_lt : (k : ℕ) → (k < length program.records) ⊎ (length program.records ≤ k)
      le_or_lt k = cases_lt k (length program.records)

      by : (n < length program.records) ⊎ (length program.records ≤ n) → ends_within program.records (suc depth) n ≡ true
      by (inl l) = ap (λ d. ends_within program.records d n) (sym e) ∙ fine.finite n l
      by (inr l) = ap (list_all (type_ends program.records depth)) (outside program.records n l)

  pub type_ends_in : AreWellFormed program.records → (t : ValueType) (depth : ℕ) → length program.records ≡ depth → 0 < depth → TypeEnds program.records depth t
  type_ends_in fine t depth e h = by (named_record t)
    where
      by : (o : Option ℕ) → option_map_or (ends_within program.records depth) o true ≡ true
      by None = refl
      by (Some n) = record_ends fine n depth e h

  pub all_stay_closed : AreWellFormed program.records → (t : ValueType) (order : List ℕ) → IsClosed program order →
      IsClosed program (with_all_new order (records_of program (length program.records) t))
  all_stay_closed fine t order closed = by (length program.records) refl
    where
      by : (d : ℕ) → length program.records ≡ d → IsClosed program (with_all_new order (records_of program d t))
      by zero e = closed
      by (suc d) e = stays_closed (suc d) t order (type_ends_in fine t (suc d) e (omega arith)) closed

  -- a type without a record brings none
  pub no_records : (depth : ℕ) (t : ValueType) → named_record t ≡ None → records_of program depth t ≡ []
  no_records zero t e = refl
  no_records (suc depth) t e = ap (λ o. option_map_or (λ n. flat_map (records_of program depth) (fields program.records n) ++ n ∷ []) o []) e

  -- ---- a record, from its fields

  pub ends_inside : (n d depth : ℕ) → depth ≡ suc d → ends_within program.records depth n ≡ true → list_all (type_ends program.records d) (fields program.records n) ≡ true
  ends_inside n d depth e h = subst (λ k. ends_within program.records k n ≡ true) e h

  pub record_added : (n d depth : ℕ) (old middle new : List ℕ) → depth ≡ suc d → middle ≡ with_all_new old (flat_map (records_of program d) (fields program.records n)) →
      new ≡ with_new nat_eq middle n → new ≡ with_all_new old (records_of program depth (record_type n))
  record_added n d depth old middle new e a b =
      b ∙ ap (λ o. with_new nat_eq o n) a ∙ sym (fold-append (with_new nat_eq) old (flat_map (records_of program d) (fields program.records n)) (n ∷ []))
      ∙ ap (λ k. with_all_new old (records_of program k (record_type n))) (sym e)

  -- one field more
  pub fields_more : (depth : ℕ) (ts all : List ValueType) (t : ValueType) (old middle new : List ℕ) → all ≡ ts ++ t ∷ [] →
      middle ≡ with_all_new old (flat_map (records_of program depth) ts) → new ≡ with_all_new middle (records_of program depth t) →
      new ≡ with_all_new old (flat_map (records_of program depth) all)
  fields_more depth ts all t old middle new e a b =
      b ∙ ap (λ o. with_all_new o (records_of program depth t)) a ∙ sym (fold-append (with_new nat_eq) old (flat_map (records_of program depth) ts) (records_of program depth t))
      ∙ ap (with_all_new old) (sym (ap (flat_map (records_of program depth)) e ∙ flat_map-append (records_of program depth) ts (t ∷ [])
      ∙ ap (λ l. flat_map (records_of program depth) ts ++ l) (append-nil (records_of program depth t))))

-- ---- what holds of all

pub all_taken : {X Y : Type 0} (p : Y → Bool) (f : X → Y) (xs : List X) (k : ℕ) → list_all p (map f xs) ≡ true → list_all p (map f (take k xs)) ≡ true
all_taken p f [] zero h = refl
all_taken p f [] (suc k) h = refl
all_taken p f (x ∷ xs) zero h = refl
all_taken p f (x ∷ xs) (suc k) h = let q = and_parts _ _ h in ap₂ (λ a b. a && b) q.0 (all_taken p f xs k q.1)

all_inside : {X Y : Type 0} (p : Y → Bool) (f : X → Y) (ys : List X) (j : ℕ) (d : X) → j < length ys → list_all p (map f ys) ≡ true → p (f (get_or ys j d)) ≡ true
all_inside p f [] j d l h = absurd (omega arith)
all_inside p f (y ∷ ys) zero d l h = (and_parts _ _ h).0
all_inside p f (y ∷ ys) (suc j) d l h = all_inside p f ys j d (omega arith) (and_parts _ _ h).1

pub all_at : {X Y : Type 0} (p : Y → Bool) (f : X → Y) (xs : List X) (k : ℕ) (x : X) → k < length xs → x ≡ get_or xs k x → list_all p (map f xs) ≡ true → p (f x) ≡ true
all_at p f xs k x l e h = ap (λ y. p (f y)) e ∙ all_inside p f xs k x l h
