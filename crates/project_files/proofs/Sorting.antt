-- The order of files: one that comes last in the list goes behind those whose names do not come after its own.
use Rattle.std.proofs.Common.{◌≡◌, ℕ, zero, suc, ◌+◌, ◌<◌, Bool, true, false, cond, List, [], ◌∷◌, ◌++◌, length, take, drop, map, get_or, refl, sym, ap, ◌∙◌, subst, true≢false, arith}
use Rattle.std.specs.List.{insert}
use Rattle.std.proofs.lemmas.List.{map-append}
use Rattle.type_rules.specs.Faults.{precedes}
use Rattle.type_rules.specs.Projects.{FileTree, in_order, with_file}
use Rattle.project_files.specs.Files.{place_behind}
use Rattle.project_files.proofs.Order.{none-trans, trans}

-- the file behind those whose names do not come after its own
abbrev pub with_behind : FileTree → List FileTree → List FileTree
with_behind file [] = file ∷ []
with_behind file (next ∷ files) = cond (precedes file.name next.name) (file ∷ next ∷ files) (next ∷ with_behind file files)

inserted_by : (b : Bool) (next : FileTree) (rest : List FileTree) (file : FileTree) (n : ℕ) → insert rest n file ≡ with_behind file rest →
    insert (next ∷ rest) (cond b 0 (n + 1)) file ≡ cond b (file ∷ next ∷ rest) (next ∷ with_behind file rest)
inserted_by true next rest file n h = refl
inserted_by false next rest file n h =
    let more : n + 1 ≡ suc n = omega arith in
    ap (λ k. insert (next ∷ rest) k file) more ∙ ap (λ fs. next ∷ fs) h

pub inserted : (file : FileTree) (files : List FileTree) → insert files (place_behind file files) file ≡ with_behind file files
inserted file [] = refl
inserted file (next ∷ files) = inserted_by (precedes file.name next.name) next files file (place_behind file files) (inserted file files)

-- ---- it does not matter which of two is put in its place first

with-step : (x y : FileTree) (ys : List FileTree) (b : Bool) → precedes y.name x.name ≡ b → with_file x (y ∷ ys) ≡ cond b (y ∷ with_file x ys) (x ∷ y ∷ ys)
with-step x y ys b h = ap (λ t. cond t (y ∷ with_file x ys) (x ∷ y ∷ ys)) h

behind-step : (f y : FileTree) (ys : List FileTree) (b : Bool) → precedes f.name y.name ≡ b → with_behind f (y ∷ ys) ≡ cond b (f ∷ y ∷ ys) (y ∷ with_behind f ys)
behind-step f y ys b h = ap (λ t. cond t (f ∷ y ∷ ys) (y ∷ with_behind f ys)) h

both_by : (x f y : FileTree) (ys : List FileTree) (fy yx fx : Bool) → precedes f.name y.name ≡ fy → precedes y.name x.name ≡ yx → precedes f.name x.name ≡ fx →
    with_file x (with_behind f ys) ≡ with_behind f (with_file x ys) →
    with_file x (with_behind f (y ∷ ys)) ≡ with_behind f (with_file x (y ∷ ys))
both_by x f y ys true true true a b c h =
    ap (with_file x) (behind-step f y ys true a) ∙ with-step x f (y ∷ ys) true c ∙ ap (λ fs. f ∷ fs) (with-step x y ys true b)
    ∙ sym (ap (with_behind f) (with-step x y ys true b) ∙ behind-step f y (with_file x ys) true a)
both_by x f y ys true true false a b c h = absurd (true≢false (sym (trans f.name y.name x.name a b) ∙ c))
both_by x f y ys true false true a b c h =
    ap (with_file x) (behind-step f y ys true a) ∙ with-step x f (y ∷ ys) true c ∙ ap (λ fs. f ∷ fs) (with-step x y ys false b)
    ∙ sym (ap (with_behind f) (with-step x y ys false b) ∙ behind-step f x (y ∷ ys) true c)
both_by x f y ys true false false a b c h =
    ap (with_file x) (behind-step f y ys true a) ∙ with-step x f (y ∷ ys) false c
    ∙ sym (ap (with_behind f) (with-step x y ys false b) ∙ behind-step f x (y ∷ ys) false c ∙ ap (λ fs. x ∷ fs) (behind-step f y ys true a))
both_by x f y ys false true fx a b c h =
    ap (with_file x) (behind-step f y ys false a) ∙ with-step x y (with_behind f ys) true b ∙ ap (λ fs. y ∷ fs) h
    ∙ sym (ap (with_behind f) (with-step x y ys true b) ∙ behind-step f y (with_file x ys) false a)
both_by x f y ys false false true a b c h = absurd (true≢false (sym c ∙ none-trans f.name y.name x.name a b))
both_by x f y ys false false false a b c h =
    ap (with_file x) (behind-step f y ys false a) ∙ with-step x y (with_behind f ys) false b
    ∙ sym (ap (with_behind f) (with-step x y ys false b) ∙ behind-step f x (y ∷ ys) false c ∙ ap (λ fs. x ∷ fs) (behind-step f y ys false a))

both_none : (x f : FileTree) (b : Bool) → precedes f.name x.name ≡ b → with_file x (f ∷ []) ≡ with_behind f (x ∷ [])
both_none x f true h = with-step x f [] true h ∙ sym (behind-step f x [] true h)
both_none x f false h = with-step x f [] false h ∙ sym (behind-step f x [] false h)

both : (x f : FileTree) (ys : List FileTree) → with_file x (with_behind f ys) ≡ with_behind f (with_file x ys)
both x f [] = both_none x f (precedes f.name x.name) refl
both x f (y ∷ ys) = both_by x f y ys (precedes f.name y.name) (precedes y.name x.name) (precedes f.name x.name) refl refl refl (both x f ys)

pub ordered_more : (files : List FileTree) (file : FileTree) → in_order (files ++ file ∷ []) ≡ with_behind file (in_order files)
ordered_more [] file = refl
ordered_more (next ∷ files) file = ap (with_file next) (ordered_more files file) ∙ both next file (in_order files)

-- ---- what is seen of files

map-take : {X Y : Type 0} (f : X → Y) (n : ℕ) (xs : List X) → map f (take n xs) ≡ take n (map f xs)
map-take f zero xs = refl
map-take f (suc n) [] = refl
map-take f (suc n) (x ∷ xs) = ap (λ ys. f x ∷ ys) (map-take f n xs)

map-drop : {X Y : Type 0} (f : X → Y) (n : ℕ) (xs : List X) → map f (drop n xs) ≡ drop n (map f xs)
map-drop f zero xs = refl
map-drop f (suc n) [] = refl
map-drop f (suc n) (x ∷ xs) = map-drop f n xs

pub map-insert : {X Y : Type 0} (f : X → Y) (xs : List X) (n : ℕ) (x : X) → map f (insert xs n x) ≡ insert (map f xs) n (f x)
map-insert f xs n x =
    map-append f (take n xs) (x ∷ drop n xs)
    ∙ ap (λ ys. ys ++ f x ∷ map f (drop n xs)) (map-take f n xs)
    ∙ ap (λ ys. take n (map f xs) ++ f x ∷ ys) (map-drop f n xs)
