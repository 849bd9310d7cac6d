-- Methods in the order of their names.
use Rattle.std.proofs.Common.{◌≡◌, ◌⊎◌, inl, inr, ⊎_elim, ℕ, suc, ◌+◌, ◌<◌, Bool, true, false, cond, bytes_eq, count_by, List, [], ◌∷◌, map, length, get_or, refl, sym, ap, ◌∙◌, subst, arith, Ordering, Less, Equal, Greater, is_lt, nat_cmp, one-add}
use Rattle.std.specs.List.{AllByRecursion, IsDistinct}
use Rattle.std.specs.Ordering.{ordering_reverse}
use Rattle.std.specs.Cmp.Lexicographic.{slice_cmp}
use Rattle.std.proofs.lemmas.Bool.{true≢false, false≢true}
use Rattle.std.proofs.lemmas.Cmp.{nat_list_cmp_total, tied_itself}
use Rattle.std.proofs.lemmas.List.Sums.{sum_by-cons}
use Rattle.std.proofs.lemmas.Map.Lookups.{exact_bytes}
use Rattle.program_trees.specs.Programs.{MethodTree}
use Rattle.program_trees.specs.Variables.{Variable}
use Rattle.run_rules.specs.Runs.{no_method}
use Rattle.typed_programs.specs.WellTyped.{AreAscending}
use Rattle.type_rules.specs.Faults.{precedes}
use Rattle.typed_texts.specs.TypedProjects.{with_sorted, sorted}
use Rattle.statement_typing.specs.Around.{Among}
use Rattle.statement_typing.proofs.Lists.{bytes_itself, bytes_flip, each_weaker}
use Rattle.declaration_typing.specs.Sorted.{SortedMethodsAscend}

-- ---- the order of names

is_less : (o : Ordering) → is_lt o ≡ true → o ≡ Less
is_less Less h = refl
is_less Equal h = absurd (false≢true h)
is_less Greater h = absurd (false≢true h)

cmp_is : (a b : List ℕ) → precedes a b ≡ true → slice_cmp nat_cmp a b ≡ Less
cmp_is a b h = is_less (slice_cmp nat_cmp a b) h

itself_not : (a : List ℕ) → precedes a a ≡ false
itself_not a = ap is_lt (tied_itself nat_list_cmp_total a)

before_both : (a b c : List ℕ) → precedes a b ≡ true → precedes b c ≡ true → precedes a c ≡ true
before_both a b c h k = ap is_lt (nat_list_cmp_total.trans a b c (cmp_is a b h) (cmp_is b c k))

not_back : (a b : List ℕ) → precedes a b ≡ true → precedes b a ≡ false
not_back a b h = ap is_lt (nat_list_cmp_total.antisymm b a ∙ ap ordering_reverse (cmp_is a b h))

other_before : (a b : List ℕ) → precedes a b ≡ false → bytes_eq a b ≡ false → precedes b a ≡ true
other_before a b h differ = at (slice_cmp nat_cmp a b) refl
  where
    at : (o : Ordering) → slice_cmp nat_cmp a b ≡ o → precedes b a ≡ true
    at Less e = absurd (false≢true (sym h ∙ ap is_lt e))
    at Equal e = absurd (true≢false (sym (bytes_itself a) ∙ subst (λ c. bytes_eq a c ≡ false) (sym (exact_bytes a b e)) differ))
    at Greater e = ap is_lt (nat_list_cmp_total.antisymm b a ∙ ap ordering_reverse e)

-- ---- lists that ascend

abbrev Method : Type 0
Method = MethodTree Variable

-- each comes before all behind it
abbrev Ascends : List Method → Type 0
Ascends [] = Unit {0}
Ascends (m ∷ ms) = AllByRecursion (λ o. precedes m.name o.name ≡ true) ms × Ascends ms

each_inserted : (P : Method → Type 0) (m : Method) (ms : List Method) → P m → AllByRecursion P ms → AllByRecursion P (with_sorted m ms)
each_inserted P m [] h all = (h, tt)
each_inserted P m (next ∷ ms) h all = at (precedes next.name m.name) (each_inserted P m ms h all.1)
  where
    at : (b : Bool) → AllByRecursion P (with_sorted m ms) → AllByRecursion P (cond b (next ∷ with_sorted m ms) (m ∷ next ∷ ms))
    at true rest = (all.0, rest)
    at false rest = (h, all)

pub each_sorted : (P : Method → Type 0) (ms : List Method) → AllByRecursion P ms → AllByRecursion P (sorted ms)
each_sorted P [] all = tt
each_sorted P (m ∷ ms) all = each_inserted P m (sorted ms) all.0 (each_sorted P ms all.1)

insert_ascends : (m : Method) (ms : List Method) → AllByRecursion (λ o. bytes_eq m.name o.name ≡ false) ms → Ascends ms → Ascends (with_sorted m ms)
insert_ascends m [] differ up = (tt, tt)
insert_ascends m (next ∷ ms) differ up = at (precedes next.name m.name) refl (insert_ascends m ms differ.1 up.1)
  where
    at : (b : Bool) → precedes next.name m.name ≡ b → Ascends (with_sorted m ms) → Ascends (cond b (next ∷ with_sorted m ms) (m ∷ next ∷ ms))
    at true e rest = (each_inserted (λ o. precedes next.name o.name ≡ true) m ms e up.0, rest)
    at false e rest =
        let first : precedes m.name next.name ≡ true = other_before next.name m.name e (bytes_flip next.name m.name ∙ differ.0) in
        ((first, each_weaker (λ o. precedes next.name o.name ≡ true) (λ o. precedes m.name o.name ≡ true) (λ o k. before_both m.name next.name o.name first k) ms up.0), up)

names_differ : (m : Method) (ms : List Method) → AllByRecursion (λ y. bytes_eq m.name y ≡ false) (map (λ o. o.name) ms) →
    AllByRecursion (λ o. bytes_eq m.name o.name ≡ false) ms
names_differ m [] h = tt
names_differ m (o ∷ ms) h = (h.0, names_differ m ms h.1)

sorted_ascends : (ms : List Method) → IsDistinct bytes_eq (map (λ o. o.name) ms) → Ascends (sorted ms)
unfolding IsDistinct
sorted_ascends [] h = tt
sorted_ascends (m ∷ ms) h =
    insert_ascends m (sorted ms) (each_sorted (λ o. bytes_eq m.name o.name ≡ false) ms (names_differ m ms h.0)) (sorted_ascends ms h.1)

ascending : (ms : List Method) → Ascends ms → AreAscending (map (λ o. o.name) ms)
ascending [] h = tt
ascending (m ∷ []) h = tt
ascending (m ∷ o ∷ ms) h = (cmp_is m.name o.name h.0.0, ascending (o ∷ ms) h.1)

-- ---- places

among_inserted : (x m : Method) (ms : List Method) → (m ≡ x) ⊎ Among x ms → Among x (with_sorted m ms)
among_inserted x m [] h = h
among_inserted x m (next ∷ ms) h = at (precedes next.name m.name) (among_inserted x m ms)
  where
    at : (b : Bool) → ((m ≡ x) ⊎ Among x ms → Among x (with_sorted m ms)) → Among x (cond b (next ∷ with_sorted m ms) (m ∷ next ∷ ms))
    at true deeper = ⊎_elim
        (λ e. inr (deeper (inl e)))
        (λ k. ⊎_elim (λ e. inl e) (λ l. inr (deeper (inr l))) k) h
    at false deeper = h

among_sorted : (x : Method) (ms : List Method) → Among x ms → Among x (sorted ms)
among_sorted x [] h = absurd h
among_sorted x (m ∷ ms) (inl e) = among_inserted x m (sorted ms) (inl e)
among_sorted x (m ∷ ms) (inr h) = among_inserted x m (sorted ms) (inr (among_sorted x ms h))

abbrev one_if : (Method → Bool) → Method → ℕ
one_if p m = cond (p m) 1 0

count_cons : (p : Method → Bool) (m : Method) (ms : List Method) → count_by p (m ∷ ms) ≡ one_if p m + count_by p ms
count_cons p m ms = sum_by-cons (one_if p) m ms

count_inserted : (p : Method → Bool) (m : Method) (ms : List Method) → count_by p (with_sorted m ms) ≡ one_if p m + count_by p ms
count_inserted p m [] = count_cons p m []
count_inserted p m (next ∷ ms) = at (precedes next.name m.name) (count_inserted p m ms)
  where
    at : (b : Bool) → count_by p (with_sorted m ms) ≡ one_if p m + count_by p ms →
        count_by p (cond b (next ∷ with_sorted m ms) (m ∷ next ∷ ms)) ≡ one_if p m + count_by p (next ∷ ms)
    at true rest = omega (arith, count_cons p next (with_sorted m ms), rest, count_cons p next ms)
    at false rest = count_cons p m (next ∷ ms)

count_sorted : (p : Method → Bool) (ms : List Method) → count_by p (sorted ms) ≡ count_by p ms
count_sorted p [] = refl
count_sorted p (m ∷ ms) = count_inserted p m (sorted ms) ∙ ap (λ n. one_if p m + n) (count_sorted p ms) ∙ sym (count_cons p m ms)

none_before : (x : List ℕ) (ms : List Method) → AllByRecursion (λ o. precedes x o.name ≡ true) ms → count_by (λ o. precedes o.name x) ms ≡ 0
none_before x [] h = refl
none_before x (m ∷ ms) h =
    count_cons (λ o. precedes o.name x) m ms ∙ ap (λ b. cond b 1 0 + count_by (λ o. precedes o.name x) ms) (not_back x m.name h.0)
    ∙ (let e : 0 + count_by (λ o. precedes o.name x) ms ≡ 0 = omega (arith, none_before x ms h.1) in e)

all_at : (P : Method → Type 0) (ms : List Method) (x : Method) → Among x ms → AllByRecursion P ms → P x
all_at P [] x h all = absurd h
all_at P (m ∷ ms) x (inl e) all = subst P e all.0
all_at P (m ∷ ms) x (inr h) all = all_at P ms x h all.1

-- the first stands before none, and each other one behind it
first_place : (m : Method) (ms : List Method) → AllByRecursion (λ o. precedes m.name o.name ≡ true) ms →
    count_by (λ o. precedes o.name m.name) (m ∷ ms) ≡ 0
first_place m ms all =
    count_cons (λ o. precedes o.name m.name) m ms ∙ ap (λ b. cond b 1 0 + count_by (λ o. precedes o.name m.name) ms) (itself_not m.name)
    ∙ (let e : 0 + count_by (λ o. precedes o.name m.name) ms ≡ 0 = omega (arith, none_before m.name ms all) in e)

later_place : (x m : Method) (ms : List Method) → precedes m.name x.name ≡ true →
    count_by (λ o. precedes o.name x.name) (m ∷ ms) ≡ suc (count_by (λ o. precedes o.name x.name) ms)
later_place x m ms h =
    count_cons (λ o. precedes o.name x.name) m ms ∙ ap (λ b. cond b 1 0 + count_by (λ o. precedes o.name x.name) ms) h
    ∙ one-add (count_by (λ o. precedes o.name x.name) ms)

at_its_place : (ms : List Method) (x : Method) → Ascends ms → Among x ms → get_or ms (count_by (λ o. precedes o.name x.name) ms) no_method ≡ x
at_its_place [] x up h = absurd h
at_its_place (m ∷ ms) x up (inl e) =
    subst (λ y. get_or (m ∷ ms) (count_by (λ o. precedes o.name y.name) (m ∷ ms)) no_method ≡ y) e
    (ap (λ n. get_or (m ∷ ms) n no_method) (first_place m ms up.0))
at_its_place (m ∷ ms) x up (inr h) =
    ap (λ n. get_or (m ∷ ms) n no_method) (later_place x m ms (all_at (λ o. precedes m.name o.name ≡ true) ms x h up.0)) ∙ at_its_place ms x up.1 h

below_count : (ms : List Method) (x : Method) → Ascends ms → Among x ms → count_by (λ o. precedes o.name x.name) ms < length ms
below_count [] x up h = absurd h
below_count (m ∷ ms) x up (inl e) =
    subst (λ y. count_by (λ o. precedes o.name y.name) (m ∷ ms) < length (m ∷ ms)) e
    (let n = first_place m ms up.0 in omega (arith, n))
below_count (m ∷ ms) x up (inr h) =
    omega (arith, later_place x m ms (all_at (λ o. precedes m.name o.name ≡ true) ms x h up.0), below_count ms x up.1 h)

pub are_sorted : SortedMethodsAscend
are_sorted methods distinct =
    let up = sorted_ascends methods distinct in
    record {
      ascending = ascending (sorted methods) up;
      there = λ method h. subst (λ n. n < length (sorted methods)) (count_sorted (λ o. precedes o.name method.name) methods)
          (below_count (sorted methods) method up (among_sorted method methods h));
      at_place = λ method h. ap (λ n. get_or (sorted methods) n no_method) (sym (count_sorted (λ o. precedes o.name method.name) methods))
          ∙ at_its_place (sorted methods) method up (among_sorted method methods h);
    }
