-- Answers that are the only ones, one after the other.
use Rattle.std.proofs.Common.{◌≡◌, Option, Some, None, subst}
use Rattle.argument_fronts.specs.Only.{IsOnly}

-- the same of a property that holds where the other does
pub only_as : {X A : Type 0} (view : X → A) (P Q : A → Type 0) → ((a : A) → P a → Q a) → ((a : A) → Q a → P a) → (r : Option X) → IsOnly view P r
    → IsOnly view Q r
only_as view P Q to back None h = λ a q. h a (back a q)
only_as view P Q to back (Some x) h = (to (view x) h.0, λ a q. h.1 a (back a q))

-- nothing is found where a first part is missing
pub none_first : {A B : Type 0} (P : A → Type 0) (Q : B → Type 0) → ((b : B) → Q b → ⊥) → ((a : A) → P a → (b : B) × Q b) → (a : A) → P a → ⊥
none_first P Q none split a p = let q = split a p in none q.0 q.1

-- a first part, and then the rest behind it
pub only_then : {X Y A B : Type 0} (view : X → A) (first : Y → B) (P : A → Type 0) (Q : B → Type 0) (R : B → A → Type 0) (y : Y)
    → IsOnly first Q (Some y) → ((a : A) → P a → (b : B) × Q b × R b a) → ((b : B) (a : A) → Q b → R b a → P a)
    → (r : Option X) → IsOnly view (R (first y)) r → IsOnly view P r
only_then view first P Q R y found split join None h = λ a p. let s = split a p in h a (subst (λ b. R b a) (found.1 s.0 s.1) s.2)
only_then view first P Q R y found split join (Some x) h =
    (join (first y) (view x) found.0 h.0, λ a p. let s = split a p in h.1 a (subst (λ b. R b a) (found.1 s.0 s.1) s.2))
