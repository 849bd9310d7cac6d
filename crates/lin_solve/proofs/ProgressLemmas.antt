-- What the definition does step by step: an ending stays, and each element of a list comes in its turn.
use Rattle.std.proofs.Common.{◌≡◌, ℕ, ◌+◌, ◌<◌, List, [], ◌∷◌, fold, drop, length, get_or, ap, sym, refl, ◌∙◌, subst}
use Rattle.std.proofs.lemmas.List.{drop_more}
use Rattle.lin_rows.specs.Inequality.{Inequality}
use Rattle.elimination.specs.Elimination.{Ending, Progress, Going, Ended}
use Rattle.lin_solve.specs.declared.SolveEnd.{SolveEnd}
use Rattle.lin_solve.specs.declared.SolveEnd.TheVariants.{Rows, Wide, NoMemory}
use Rattle.lin_solve.specs.Answers.{EndsAs}

-- ---- a step keeps an ending
abbrev pub Absorbs : {X : Type 0} → (Progress → X → Progress) → Type 0
Absorbs {X} f = (e : Ending) (x : X) → f (Ended e) x ≡ Ended e

pub fold-ended : {X : Type 0} (f : Progress → X → Progress) → Absorbs f → (e : Ending) (xs : List X) → fold f (Ended e) xs ≡ Ended e
fold-ended f a e [] = refl
fold-ended f a e (x ∷ xs) = ap (λ (p : Progress). fold f p xs) (a e x) ∙ fold-ended f a e xs

-- so where it ends before the last element, the whole ends so
pub EndsAs-fold : {X : Type 0} (f : Progress → X → Progress) → Absorbs f → (e : SolveEnd) (p : Progress) (xs : List X) → EndsAs e p → EndsAs e (fold f p xs)
EndsAs-fold f a Rows p xs h = ap (λ (q : Progress). fold f q xs) h ∙ fold-ended f a _ xs
EndsAs-fold f a Wide p xs h = ap (λ (q : Progress). fold f q xs) h ∙ fold-ended f a _ xs
EndsAs-fold f a NoMemory p xs h = tt

-- ---- the element that comes next
pub fold-next : {X : Type 0} (f : Progress → X → Progress) (p : Progress) (xs : List X) (i : ℕ) (d : X) → i < length xs → fold f p (drop i xs) ≡ fold f (f p (get_or xs i d)) (drop (i + 1) xs)
fold-next f p xs i d h = ap (fold f p) (drop_more xs i d h)

-- an element taken, where the rows that stand are then those of the definition
pub taken_at : {X : Type 0} (f : Progress → X → Progress) (rows next : List Inequality) (xs : List X) (i : ℕ) (d : X) (whole : Progress) → i < length xs → fold f (Going rows) (drop i xs) ≡ whole → f (Going rows) (get_or xs i d) ≡ Going next → fold f (Going next) (drop (i + 1) xs) ≡ whole
taken_at f rows next xs i d whole h w g =
    ap (λ (p : Progress). fold f p (drop (i + 1) xs)) (sym g) ∙ sym (fold-next f (Going rows) xs i d h) ∙ w

-- or where it ends
pub ended_at : {X : Type 0} (f : Progress → X → Progress) → Absorbs f → (rows : List Inequality) (xs : List X) (i : ℕ) (d : X) (whole : Progress) (e : SolveEnd) → i < length xs → fold f (Going rows) (drop i xs) ≡ whole → EndsAs e (f (Going rows) (get_or xs i d)) → EndsAs e whole
ended_at f a rows xs i d whole e h w t =
    subst (EndsAs e) (sym (fold-next f (Going rows) xs i d h) ∙ w) (EndsAs-fold f a e (f (Going rows) (get_or xs i d)) (drop (i + 1) xs) t)

-- the same, of an element that was read
pub taken : {X : Type 0} (f : Progress → X → Progress) (rows next : List Inequality) (xs : List X) (i : ℕ) (x : X) (whole : Progress) → i < length xs → x ≡ get_or xs i x → fold f (Going rows) (drop i xs) ≡ whole → f (Going rows) x ≡ Going next → fold f (Going next) (drop (i + 1) xs) ≡ whole
taken f rows next xs i x whole h e w g = taken_at f rows next xs i x whole h w (ap (f (Going rows)) (sym e) ∙ g)

pub ended_there : {X : Type 0} (f : Progress → X → Progress) → Absorbs f → (rows : List Inequality) (xs : List X) (i : ℕ) (x : X) (whole : Progress) (e : SolveEnd) → i < length xs → x ≡ get_or xs i x → fold f (Going rows) (drop i xs) ≡ whole → EndsAs e (f (Going rows) x) → EndsAs e whole
ended_there f a rows xs i x whole e h q w t =
    ended_at f a rows xs i x whole e h w (subst (λ y. EndsAs e (f (Going rows) y)) q t)
