-- Lists of which some element has a property.
use Rattle.std.proofs.Common.{inl, inr, List, [], ◌∷◌, ◌++◌, map}
use Rattle.std.specs.List.{AllByRecursion, flat_map}
use Rattle.read_rules.specs.Some.{SomeIn}

pub some_left : {X : Type 0} (P : X → Type 0) (xs ys : List X) → SomeIn P xs → SomeIn P (xs ++ ys)
some_left P [] ys h = absurd h
some_left P (x ∷ xs) ys (inl h) = inl h
some_left P (x ∷ xs) ys (inr h) = inr (some_left P xs ys h)

pub some_right : {X : Type 0} (P : X → Type 0) (xs ys : List X) → SomeIn P ys → SomeIn P (xs ++ ys)
some_right P [] ys h = h
some_right P (x ∷ xs) ys h = inr (some_right P xs ys h)

pub some_weaker : {X : Type 0} (P Q : X → Type 0) → ((x : X) → P x → Q x) → (xs : List X) → SomeIn P xs → SomeIn Q xs
some_weaker P Q f [] h = h
some_weaker P Q f (x ∷ xs) (inl h) = inl (f x h)
some_weaker P Q f (x ∷ xs) (inr h) = inr (some_weaker P Q f xs h)

pub some_map : {X Y : Type 0} (P : Y → Type 0) (f : X → Y) (xs : List X) → SomeIn (λ x. P (f x)) xs → SomeIn P (map f xs)
some_map P f [] h = h
some_map P f (x ∷ xs) (inl h) = inl h
some_map P f (x ∷ xs) (inr h) = inr (some_map P f xs h)

pub some_flat : {X Y : Type 0} (P : Y → Type 0) (f : X → List Y) (xs : List X) → SomeIn (λ x. SomeIn P (f x)) xs → SomeIn P (flat_map f xs)
some_flat P f [] h = h
some_flat P f (x ∷ xs) (inl h) = some_left P (f x) (flat_map f xs) h
some_flat P f (x ∷ xs) (inr h) = some_right P (f x) (flat_map f xs) (some_flat P f xs h)

pub all_append : {X : Type 0} (P : X → Type 0) (xs ys : List X) → AllByRecursion P xs → AllByRecursion P ys → AllByRecursion P (xs ++ ys)
all_append P [] ys h k = k
all_append P (x ∷ xs) ys h k = (h.0, all_append P xs ys h.1 k)
