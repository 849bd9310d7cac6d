-- Tables that are made place by place.
use Rattle.std.proofs.Common.{◌≡◌, ℕ, zero, suc, ◌+◌, ◌<◌, List, [], ◌∷◌, ◌++◌, length, drop, get_or, map, Option, Some, None, append_assoc, refl, sym, ap, ◌∙◌, arith}
use Rattle.std.specs.Option.{option_map}
use Rattle.std.specs.List.{slice_get}
use Rattle.std.proofs.Math.Seq.{drop-cons}
use Rattle.record_parts.specs.Chains.{at_places}

pub from : {X : Type 0} (xs : List X) (i : ℕ) (x : X) → i < length xs → x ≡ get_or xs i x → drop i xs ≡ x ∷ drop (i + 1) xs
from xs i x within is =
    let next : suc i ≡ i + 1 = omega arith in
    drop-cons xs i x within ∙ ap (λ n. get_or xs i x ∷ drop n xs) next ∙ ap (λ y. y ∷ drop (i + 1) xs) (sym is)

-- one place more
pub at_next : {Z X Y : Type 0} (see : Z → X) (f : ℕ → X → Y) (done new all : List Y) (xs : List Z) (i : ℕ) (x : Z) (y : Y) →
    i < length xs → x ≡ get_or xs i x → y ≡ f i (see x) → new ≡ done ++ y ∷ [] →
    done ++ at_places f i (map see (drop i xs)) ≡ all → new ++ at_places f (i + 1) (map see (drop (i + 1) xs)) ≡ all
at_next see f done new all xs i x y within is value more before =
    let rest = at_places f (i + 1) (map see (drop (i + 1) xs)) in
    ap (λ ys. ys ++ rest) more
    ∙ append_assoc done (y ∷ []) rest
    ∙ ap (λ v. done ++ v ∷ rest) value
    ∙ ap (λ zs. done ++ at_places f i (map see zs)) (sym (from xs i x within is))
    ∙ before

pub at_get : {X Y : Type 0} (f : ℕ → X → Y) (k i j : ℕ) (xs : List X) → j ≡ k + i → slice_get (at_places f k xs) i ≡ option_map (f j) (slice_get xs i)
at_get f k i j [] e = refl
at_get f k zero j (x ∷ xs) e =
    let same : k ≡ j = omega (arith, e) in
    ap (λ n. Some (f n x)) same
at_get f k (suc i) j (x ∷ xs) e =
    let next : j ≡ k + 1 + i = omega (arith, e) in
    at_get f (k + 1) i j xs next

pub at_start : {X Y : Type 0} (f : ℕ → X → Y) (i : ℕ) (xs : List X) → slice_get (at_places f 0 xs) i ≡ option_map (f i) (slice_get xs i)
at_start f i xs =
    let e : i ≡ 0 + i = omega arith in
    at_get f 0 i i xs e
