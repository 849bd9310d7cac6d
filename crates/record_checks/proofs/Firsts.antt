-- The firsts of a list are the names of the numbers below a bound, in order, exactly where their numbers first appear in order.
use Rattle.std.proofs.Common.{◌≡◌, ℕ, zero, suc, ◌+◌, ◌<◌, ◌≤◌, Bool, true, false, true≢false, ◌||◌, if◌then◌else◌, List, [], ◌∷◌, ◌++◌, map, length}
use Rattle.std.proofs.Common.{Option, Some, None, refl, sym, ap, ◌∙◌, arith, append_assoc, append-nil}
use Rattle.std.specs.Prelude.{nat_eq, nat_lt, slice_get}
use Rattle.std.specs.Option.{option_and_then, option_map_or}
use Rattle.std.specs.List.{fold, range_with_len}
use Rattle.std.specs.Set.{is_member}
use Rattle.std.proofs.lemmas.Bool.{ltb-true, lt-ltb, le-ltb}
use Rattle.std.proofs.lemmas.Bool.Decides.{nat_tests}
use Rattle.std.proofs.lemmas.List.Folds.{list_any-append}
use Rattle.std.proofs.lemmas.List.FromFn.{map-range_with_len_more}
use Rattle.leg_rules.specs.Numbering.{with_new, firsts}
use Rattle.record_checks.specs.Numbers.{with_number, numbered}
use Rattle.record_checks.proofs.Numbered.{none≢some, some_inj, old_number, next_number, Given, old, next, given, split_then}

-- the names f of the numbers, and the number of what has one of these names
module _ {A : Type 0} (same : A → A → Bool) (f : ℕ → A) (number : A → Option ℕ)
    (names : (x : A) (n : ℕ) → number x ≡ Some n → x ≡ f n)
    (numbers : (n : ℕ) → number (f n) ≡ Some n)
    (tells : (x : A) (m : ℕ) → same x (f m) ≡ option_map_or (λ n. nat_eq n m) (number x) false) where
  abbrev Order : ℕ → List A
  Order k = map f (range_with_len 0 k)

  order_more : (k : ℕ) → Order (suc k) ≡ Order k ++ f k ∷ []
  order_more k =
      let on : k + 1 ≡ suc k = omega arith in
      let from : 0 + k ≡ k = omega arith in
      ap (λ n. map f (range_with_len 0 n)) (sym on) ∙ map-range_with_len_more f 0 k k from

  either : (n k : ℕ) → (nat_lt n k || (nat_eq n k || false)) ≡ nat_lt n (suc k)
  either n k = grind (arith, nat_tests)

  -- a name is among those of the numbers below k exactly where its number is below k
  member_of : (x : A) (o : Option ℕ) → number x ≡ o → (k : ℕ) → is_member same (Order k) x ≡ option_map_or (λ n. nat_lt n k) o false
  member_of x None e zero = refl
  member_of x (Some n) e zero = sym (le-ltb n 0 (omega arith))
  member_of x None e (suc k) =
      ap (λ order. is_member same order x) (order_more k)
      ∙ list_any-append (same x) (Order k) (f k ∷ [])
      ∙ ap (λ c. c || (same x (f k) || false)) (member_of x None e k)
      ∙ ap (λ c. c || false) (tells x k ∙ ap (λ o. option_map_or (λ n. nat_eq n k) o false) e)
  member_of x (Some n) e (suc k) =
      ap (λ order. is_member same order x) (order_more k)
      ∙ list_any-append (same x) (Order k) (f k ∷ [])
      ∙ ap (λ c. c || (same x (f k) || false)) (member_of x (Some n) e k)
      ∙ ap (λ c. nat_lt n k || (c || false)) (tells x k ∙ ap (λ o. option_map_or (λ n. nat_eq n k) o false) e)
      ∙ either n k

  -- ---- in order

  -- a number by its name, which is none's where it has no number
  abbrev pub numbered_name : ℕ → ℕ → Option ℕ → Option ℕ
  numbered_name b k None = None
  numbered_name b k (Some n) = with_number b k n

  abbrev pub all_numbered : ℕ → ℕ → List A → Option ℕ
  all_numbered b k [] = Some k
  all_numbered b k (x ∷ xs) = option_and_then (λ j. all_numbered b j xs) (numbered_name b k (number x))

  one_in : (b k : ℕ) (x : A) (o : Option ℕ) (j : ℕ) → number x ≡ o → numbered_name b k o ≡ Some j → with_new same (Order k) x ≡ Order j
  one_in b k x None j e h = absurd (none≢some h)
  one_in b k x (Some n) j e h = by (given b k n j h)
    where
      by : Given b k n j → with_new same (Order k) x ≡ Order j
      by (old l i) =
          ap (λ c. if c then Order k else Order k ++ x ∷ []) (member_of x (Some n) e k ∙ lt-ltb n k l) ∙ ap Order (sym i)
      by (next l m i) =
          let late : k ≤ n = omega (arith, l) in
          ap (λ c. if c then Order k else Order k ++ x ∷ []) (member_of x (Some n) e k ∙ le-ltb n k late)
          ∙ ap (λ y. Order k ++ y ∷ []) (names x n e ∙ ap f l)
          ∙ sym (order_more k) ∙ ap Order (sym i)

  folds_in_order : (b k : ℕ) (xs : List A) (j : ℕ) → all_numbered b k xs ≡ Some j → fold (with_new same) (Order k) xs ≡ Order j
  folds_in_order b k [] j h = ap Order (some_inj h)
  folds_in_order b k (x ∷ xs) j h =
      let s = split_then (numbered_name b k (number x)) (λ i. all_numbered b i xs) j h in
      ap (λ order. fold (with_new same) order xs) (one_in b k x (number x) s.0 refl s.1) ∙ folds_in_order b s.0 xs j s.2

  pub firsts_in_order : (b : ℕ) (xs : List A) (j : ℕ) → all_numbered b 0 xs ≡ Some j → firsts same xs ≡ Order j
  firsts_in_order b xs j h = folds_in_order b 0 xs j h

  -- ---- and back

  -- what is added to an order stands behind it
  grown_by : (order xs : List A) → (more : List A) × (fold (with_new same) order xs ≡ order ++ more)
  grown_by order [] = ([], sym (append-nil order))
  grown_by order (x ∷ xs) = by (is_member same order x) (λ o. grown_by o xs)
    where
      by : (c : Bool) → ((o : List A) → (more : List A) × (fold (with_new same) o xs ≡ o ++ more))
          → (more : List A) × (fold (with_new same) (if c then order else order ++ x ∷ []) xs ≡ order ++ more)
      by true rest = rest order
      by false rest =
          let r = rest (order ++ x ∷ []) in (x ∷ r.0, r.1 ∙ append_assoc order (x ∷ []) r.0)

  -- what stands behind the names of the numbers below k, among those below b
  got_order : (start count i : ℕ) (x : A) → slice_get (map f (range_with_len start count)) i ≡ Some x → (x ≡ f (start + i)) × (i < count)
  got_order start zero i x h = absurd (none≢some h)
  got_order start (suc count) zero x h =
      let at : start ≡ start + 0 = omega arith in
      (sym (some_inj h) ∙ ap f at, omega arith)
  got_order start (suc count) (suc i) x h =
      let r = got_order (start + 1) count i x h in
      let at : (start + 1) + i ≡ start + suc i = omega arith in
      (r.0 ∙ ap f at, omega (arith, r.1))

  behind_order : (start count : ℕ) (x : A) (more : List A) → slice_get (map f (range_with_len start count) ++ x ∷ more) count ≡ Some x
  behind_order start zero x more = refl
  behind_order start (suc count) x more = behind_order (start + 1) count x more

  order_goes_on : (k b : ℕ) (x : A) (more : List A) → Order k ++ x ∷ more ≡ Order b → (x ≡ f k) × (k < b)
  order_goes_on k b x more h =
      let r = got_order 0 b k x (sym (ap (λ l. slice_get l k) h) ∙ behind_order 0 k x more) in
      let at : 0 + k ≡ k = omega arith in
      (r.0 ∙ ap f at, r.1)

  order_length : (k b : ℕ) → Order k ≡ Order b → k ≡ b
  order_length k b h = by_length k b (ap length h)
    where
      long : (start count : ℕ) → length (map f (range_with_len start count)) ≡ count
      long start zero = refl
      long start (suc count) = ap suc (long (start + 1) count)

      by_length : (k b : ℕ) → length (Order k) ≡ length (Order b) → k ≡ b
      by_length k b e = sym (long 0 k) ∙ e ∙ long 0 b

  -- a name behind those below k, where the firsts are those below b
  one_out : (b k : ℕ) (x : A) (xs : List A) (o : Option ℕ) (c : Bool) → number x ≡ o → option_map_or (λ n. nat_lt n k) o false ≡ c
      → fold (with_new same) (if c then Order k else Order k ++ x ∷ []) xs ≡ Order b
      → (j : ℕ) × (numbered_name b k o ≡ Some j) × (fold (with_new same) (Order j) xs ≡ Order b)
  one_out b k x xs None true e m h = absurd (true≢false (sym m))
  one_out b k x xs (Some n) true e m h = (k, old_number b k n (ltb-true n k m), h)
  one_out b k x xs o false e m h =
      let g = grown_by (Order k ++ x ∷ []) xs in
      let r = order_goes_on k b x g.0 (sym (append_assoc (Order k) (x ∷ []) g.0) ∙ sym g.1 ∙ h) in
      let is : o ≡ Some k = sym e ∙ ap number r.0 ∙ numbers k in (
        suc k,
        ap (numbered_name b k) is ∙ next_number b k k refl r.1,
        ap (λ order. fold (with_new same) order xs) (order_more k ∙ ap (λ y. Order k ++ y ∷ []) (sym r.0)) ∙ h,
      )

  folds_back : (b k : ℕ) (xs : List A) → fold (with_new same) (Order k) xs ≡ Order b → all_numbered b k xs ≡ Some b
  folds_back b k [] h = ap Some (order_length k b h)
  folds_back b k (x ∷ xs) h =
      let r = one_out b k x xs (number x) (option_map_or (λ n. nat_lt n k) (number x) false) refl refl
      (ap (λ c. fold (with_new same) (if c then Order k else Order k ++ x ∷ []) xs) (sym (member_of x (number x) refl k)) ∙ h) in
      ap (option_and_then (λ j. all_numbered b j xs)) r.1 ∙ folds_back b r.0 xs r.2

  pub order_of_firsts : (b : ℕ) (xs : List A) → firsts same xs ≡ Order b → all_numbered b 0 xs ≡ Some b
  order_of_firsts b xs h = folds_back b 0 xs h

-- ---- numbers as their own names

map_itself : (ns : List ℕ) → map (λ n. n) ns ≡ ns
map_itself [] = refl
map_itself (n ∷ ns) = ap (λ l. n ∷ l) (map_itself ns)

abbrev numbers_numbered : ℕ → ℕ → List ℕ → Option ℕ
numbers_numbered b k ns = all_numbered nat_eq (λ n. n) (λ n. Some n) (λ x n e. some_inj e) (λ n. refl) (λ x m. refl) b k ns

itself_numbered : (b k : ℕ) (ns : List ℕ) → numbers_numbered b k ns ≡ numbered b k ns
itself_numbered b k [] = refl
itself_numbered b k (n ∷ ns) = by (with_number b k n) (λ j. itself_numbered b j ns)
  where
    by : (o : Option ℕ) → ((j : ℕ) → numbers_numbered b j ns ≡ numbered b j ns)
        → option_and_then (λ j. numbers_numbered b j ns) o ≡ option_and_then (λ j. numbered b j ns) o
    by None same = refl
    by (Some j) same = same j

pub numbers_in_order : (b : ℕ) (ns : List ℕ) → numbered b 0 ns ≡ Some b → firsts nat_eq ns ≡ range_with_len 0 b
numbers_in_order b ns h =
    firsts_in_order nat_eq (λ n. n) (λ n. Some n) (λ x n e. some_inj e) (λ n. refl) (λ x m. refl) b ns b (itself_numbered b 0 ns ∙ h)
    ∙ map_itself (range_with_len 0 b)

pub order_of_numbers : (b : ℕ) (ns : List ℕ) → firsts nat_eq ns ≡ range_with_len 0 b → numbered b 0 ns ≡ Some b
order_of_numbers b ns h =
    sym (itself_numbered b 0 ns)
    ∙ order_of_firsts nat_eq (λ n. n) (λ n. Some n) (λ x n e. some_inj e) (λ n. refl) (λ x m. refl) b ns (h ∙ sym (map_itself (range_with_len 0 b)))
