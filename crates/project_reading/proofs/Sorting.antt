-- Items in the order of their names: one that comes last in the list goes behind those whose names do not come after its own.
use Rattle.std.proofs.Common.{◌≡◌, ℕ, zero, suc, ◌+◌, ◌<◌, Bool, true, false, cond, List, [], ◌∷◌, ◌++◌, length, take, drop, map, get_or, refl, sym, ap, ◌∙◌, subst, true≢false, arith}
use Rattle.std.specs.List.{insert}
use Rattle.std.proofs.lemmas.List.{map-append}
use Rattle.type_rules.specs.Faults.{precedes}
use Rattle.project_files.proofs.Order.{none-trans, trans}
use Rattle.project_reports.specs.Projects.{with_named, ordered}
use Rattle.project_reading.specs.Texts.{place_behind}

-- the item behind those whose names do not come after its own
abbrev pub with_behind : {X : Type 0} → (X → List ℕ) → X → List X → List X
with_behind name item [] = item ∷ []
with_behind name item (next ∷ items) = cond (precedes (name item) (name next)) (item ∷ next ∷ items) (next ∷ with_behind name item items)

module _ {X : Type 0} (name : X → List ℕ) where
  inserted_by : (b : Bool) (next : X) (rest : List X) (item : X) (n : ℕ) → insert rest n item ≡ with_behind name item rest →
      insert (next ∷ rest) (cond b 0 (n + 1)) item ≡ cond b (item ∷ next ∷ rest) (next ∷ with_behind name item rest)
  inserted_by true next rest item n h = refl
  inserted_by false next rest item n h =
      let more : n + 1 ≡ suc n = omega arith in
      ap (λ k. insert (next ∷ rest) k item) more ∙ ap (λ fs. next ∷ fs) h

  pub inserted : (item : X) (items : List X) → insert items (place_behind name item items) item ≡ with_behind name item items
  inserted item [] = refl
  inserted item (next ∷ items) = inserted_by (precedes (name item) (name next)) next items item (place_behind name item items) (inserted item items)

  -- ---- it does not matter which of two is put in its place first

  with-step : (x y : X) (ys : List X) (b : Bool) → precedes (name y) (name x) ≡ b → with_named name x (y ∷ ys) ≡ cond b (y ∷ with_named name x ys) (x ∷ y ∷ ys)
  with-step x y ys b h = ap (λ t. cond t (y ∷ with_named name x ys) (x ∷ y ∷ ys)) h

  behind-step : (f y : X) (ys : List X) (b : Bool) → precedes (name f) (name y) ≡ b → with_behind name f (y ∷ ys) ≡ cond b (f ∷ y ∷ ys) (y ∷ with_behind name f ys)
  behind-step f y ys b h = ap (λ t. cond t (f ∷ y ∷ ys) (y ∷ with_behind name f ys)) h

  both_by : (x f y : X) (ys : List X) (fy yx fx : Bool) → precedes (name f) (name y) ≡ fy → precedes (name y) (name x) ≡ yx → precedes (name f) (name x) ≡ fx →
      with_named name x (with_behind name f ys) ≡ with_behind name f (with_named name x ys) →
      with_named name x (with_behind name f (y ∷ ys)) ≡ with_behind name f (with_named name x (y ∷ ys))
  both_by x f y ys true true true a b c h =
      ap (with_named name x) (behind-step f y ys true a) ∙ with-step x f (y ∷ ys) true c ∙ ap (λ fs. f ∷ fs) (with-step x y ys true b)
      ∙ sym (ap (with_behind name f) (with-step x y ys true b) ∙ behind-step f y (with_named name x ys) true a)
  both_by x f y ys true true false a b c h = absurd (true≢false (sym (trans (name f) (name y) (name x) a b) ∙ c))
  both_by x f y ys true false true a b c h =
      ap (with_named name x) (behind-step f y ys true a) ∙ with-step x f (y ∷ ys) true c ∙ ap (λ fs. f ∷ fs) (with-step x y ys false b)
      ∙ sym (ap (with_behind name f) (with-step x y ys false b) ∙ behind-step f x (y ∷ ys) true c)
  both_by x f y ys true false false a b c h =
      ap (with_named name x) (behind-step f y ys true a) ∙ with-step x f (y ∷ ys) false c
      ∙ sym (ap (with_behind name f) (with-step x y ys false b) ∙ behind-step f x (y ∷ ys) false c ∙ ap (λ fs. x ∷ fs) (behind-step f y ys true a))
  both_by x f y ys false true fx a b c h =
      ap (with_named name x) (behind-step f y ys false a) ∙ with-step x y (with_behind name f ys) true b ∙ ap (λ fs. y ∷ fs) h
      ∙ sym (ap (with_behind name f) (with-step x y ys true b) ∙ behind-step f y (with_named name x ys) false a)
  both_by x f y ys false false true a b c h = absurd (true≢false (sym c ∙ none-trans (name f) (name y) (name x) a b))
  both_by x f y ys false false false a b c h =
      ap (with_named name x) (behind-step f y ys false a) ∙ with-step x y (with_behind name f ys) false b
      ∙ sym (ap (with_behind name f) (with-step x y ys false b) ∙ behind-step f x (y ∷ ys) false c ∙ ap (λ fs. x ∷ fs) (behind-step f y ys false a))

  both_none : (x f : X) (b : Bool) → precedes (name f) (name x) ≡ b → with_named name x (f ∷ []) ≡ with_behind name f (x ∷ [])
  both_none x f true h = with-step x f [] true h ∙ sym (behind-step f x [] true h)
  both_none x f false h = with-step x f [] false h ∙ sym (behind-step f x [] false h)

  both : (x f : X) (ys : List X) → with_named name x (with_behind name f ys) ≡ with_behind name f (with_named name x ys)
  both x f [] = both_none x f (precedes (name f) (name x)) refl
  both x f (y ∷ ys) = both_by x f y ys (precedes (name f) (name y)) (precedes (name y) (name x)) (precedes (name f) (name x)) refl refl refl (both x f ys)

  pub ordered_more : (items : List X) (item : X) → ordered name (items ++ item ∷ []) ≡ with_behind name item (ordered name items)
  ordered_more [] item = refl
  ordered_more (next ∷ items) item = ap (with_named name next) (ordered_more items item) ∙ both next item (ordered name items)

-- ---- what is seen of the items

map-take : {X Y : Type 0} (f : X → Y) (n : ℕ) (xs : List X) → map f (take n xs) ≡ take n (map f xs)
map-take f zero xs = refl
map-take f (suc n) [] = refl
map-take f (suc n) (x ∷ xs) = ap (λ ys. f x ∷ ys) (map-take f n xs)

map-drop : {X Y : Type 0} (f : X → Y) (n : ℕ) (xs : List X) → map f (drop n xs) ≡ drop n (map f xs)
map-drop f zero xs = refl
map-drop f (suc n) [] = refl
map-drop f (suc n) (x ∷ xs) = map-drop f n xs

pub map-insert : {X Y : Type 0} (f : X → Y) (xs : List X) (n : ℕ) (x : X) → map f (insert xs n x) ≡ insert (map f xs) n (f x)
map-insert f xs n x =
    map-append f (take n xs) (x ∷ drop n xs)
    ∙ ap (λ ys. ys ++ f x ∷ map f (drop n xs)) (map-take f n xs)
    ∙ ap (λ ys. take n (map f xs) ++ f x ∷ ys) (map-drop f n xs)
