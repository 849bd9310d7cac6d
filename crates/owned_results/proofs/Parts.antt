-- What each result has, its part and its error have.
use Rattle.std.proofs.Common.{◌≡◌, ◌⊎◌, IfOk, IfErr, IsOk, Result, Ok, Err, inl, inr, subst}

pub of_part : {A E : Type 0} (P : A → Type 0) (r : Result A E) (x : A) → IfOk r P → r ≡ Ok x → P x
of_part P r x h e = subst (λ s. IfOk s P) e h

pub of_error : {A E : Type 0} (P : E → Type 0) (r : Result A E) (x : E) → IfErr r P → r ≡ Err x → P x
of_error P r x h e = subst (λ s. IfErr s P) e h

-- the first error of two
pub of_first : {A B E : Type 0} (P : E → Type 0) (a : Result A E) (b : Result B E) (x : E) → IfErr a P → IfErr b P → (a ≡ Err x) ⊎ (IsOk a × (b ≡ Err x)) → P x
of_first P a b x h k (inl e) = of_error P a x h e
of_first P a b x h k (inr e) = of_error P b x k e.1

-- the first error of three
pub of_first_of_three : {A B C E : Type 0} (P : E → Type 0) (a : Result A E) (b : Result B E) (c : Result C E) (x : E) → IfErr a P → IfErr b P → IfErr c P →
    (a ≡ Err x) ⊎ (IsOk a × (b ≡ Err x)) ⊎ (IsOk a × IsOk b × (c ≡ Err x)) → P x
of_first_of_three P a b c x h k l (inl e) = of_error P a x h e
of_first_of_three P a b c x h k l (inr (inl e)) = of_error P b x k e.1
of_first_of_three P a b c x h k l (inr (inr e)) = of_error P c x l e.2
