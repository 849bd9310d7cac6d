-- Marks and the numbers found, as methods are marked.
use Rattle.std.proofs.Common.{◌≡◌, ◌⊎◌, inl, inr, ◌≢◌, ℕ, ◌<◌, List, [], ◌∷◌, ◌++◌, Bool, true, false, ◌||◌, length, refl, sym, ap, ◌∙◌, true≢false}
use Rattle.std.proofs.Math.ListN.{set}
use Rattle.std.specs.Prelude.{nat_eq}
use Rattle.std.specs.Set.{is_member}
use Rattle.std.proofs.lemmas.Bool.{cases_Bool}
use Rattle.std.proofs.lemmas.Bool.Decides.{Decides-eqb}
use Rattle.std.proofs.lemmas.Cmp.{nat_eq_equiv}
use Rattle.std.proofs.lemmas.List.{append_assoc, append-nil, get_or-set_same, get_or-set_other, length-set}
use Rattle.std.proofs.lemmas.List.Folds.{list_any-append}
use Rattle.std.proofs.lemmas.Map.Keys.{IsDistinct-push}
use Rattle.method_reach.specs.Search.{is_marked, IsFound, Marks}

or_implied : (b c : Bool) → (c ≡ true → b ≡ true) → b ≡ (b || (c || false))
or_implied true c h = refl
or_implied false true h = h refl
or_implied false false h = refl

or_true : (b c : Bool) → c ≡ true → true ≡ (b || (c || false))
or_true true c h = refl
or_true false true h = refl
or_true false false h = sym h

or_of_or : (a b c : Bool) → ((a || b) || c) ≡ (a || (b || c))
or_of_or true b c = refl
or_of_or false b c = refl

or_false : (b : Bool) → b ≡ (b || false)
or_false true = refl
or_false false = refl

pub marked_before : (method : ℕ) (marks : List Bool) (found : List ℕ) → is_marked marks method ≡ true → IsFound marks found → Marks
    (method ∷ []) marks found marks found
marked_before method marks found is is_found = record {
  same_length = refl;
  marked = λ n. or_implied (is_marked marks n) (nat_eq n method) (λ same. ap (is_marked marks) ((Decides-eqb n method).0 same) ∙ is);
  is_found = is_found;
  more = [];
  longer = sym (append-nil found);
}

pub marked_now : (method : ℕ) (marks : List Bool) (found : List ℕ) → method < length marks → is_marked marks method ≡ false → IsFound marks found
    → Marks (method ∷ []) marks found (set marks method true) (found ++ method ∷ [])
marked_now method marks found within is is_found = record {
  same_length = length-set marks method true;
  marked = marks_are;
  is_found = record {
    same = λ n. marks_are n ∙ ap (λ b. b || (nat_eq n method || false)) (is_found.same n) ∙ sym (list_any-append (nat_eq n) found (method ∷ []));
    distinct = IsDistinct-push nat_eq_equiv found method is_found.distinct (sym (is_found.same method) ∙ is);
  };
  more = method ∷ [];
  longer = refl;
}
  where
    by : (n : ℕ) → (nat_eq n method ≡ true) ⊎ (nat_eq n method ≡ false) → is_marked (set marks method true) n ≡
        (is_marked marks n || (nat_eq n method || false))
    by n (inl same) =
        ap (is_marked (set marks method true)) ((Decides-eqb n method).0 same) ∙ get_or-set_same marks method true false within
        ∙ or_true (is_marked marks n) (nat_eq n method) same
    by n (inr other) =
        get_or-set_other marks method n true false (λ same. true≢false (sym ((Decides-eqb n method).1 same) ∙ other))
        ∙ or_implied (is_marked marks n) (nat_eq n method) (λ same. absurd (true≢false (sym same ∙ other)))

    marks_are : (n : ℕ) → is_marked (set marks method true) n ≡ (is_marked marks n || (nat_eq n method || false))
    marks_are n = by n (cases_Bool (nat_eq n method))

pub none_marked : (marks : List Bool) (found : List ℕ) → IsFound marks found → Marks [] marks found marks found
none_marked marks found is_found = record {
  same_length = refl;
  marked = λ n. or_false (is_marked marks n);
  is_found = is_found;
  more = [];
  longer = sym (append-nil found);
}

pub marked_more : (numbers : List ℕ) (method : ℕ) (before : List Bool) (found : List ℕ) (between : List Bool) (then_ : List ℕ) (after : List Bool)
    (now : List ℕ)
    → Marks numbers before found between then_ → Marks (method ∷ []) between then_ after now → Marks (numbers ++ method ∷ []) before found after now
marked_more numbers method before found between then_ after now first second = record {
  same_length = second.same_length ∙ first.same_length;
  marked = λ n.
      second.marked n ∙ ap (λ b. b || is_member nat_eq (method ∷ []) n) (first.marked n)
      ∙ or_of_or (is_marked before n) (is_member nat_eq numbers n) (is_member nat_eq (method ∷ []) n)
      ∙ ap (λ b. is_marked before n || b) (sym (list_any-append (nat_eq n) numbers (method ∷ [])));
  is_found = second.is_found;
  more = first.more ++ second.more;
  longer = second.longer ∙ ap (λ xs. xs ++ second.more) first.longer ∙ append_assoc found first.more second.more;
}
