-- Texts that are added one after the other.
use Rattle.std.proofs.Common.{◌≡◌, ℕ, List, ◌++◌, append_assoc, ap, ◌∙◌}
use Rattle.std.specs.Prelude.{Result, Ok, Err, OnOk}

pub on_ok : {X E : Type 0} (r : Result X E) (P Q : Type 0) → (P → Q) → OnOk r P → OnOk r Q
on_ok (Ok x) P Q f h = f h
on_ok (Err e) P Q f h = tt

regroup : (old a b c d e : List ℕ) → ((((old ++ a) ++ b) ++ c) ++ d) ++ e ≡ old ++ (a ++ (b ++ (c ++ (d ++ e))))
regroup old a b c d e = simp append_assoc

pub five_added : (old a b c d e x y z u v : List ℕ) → x ≡ old ++ a → y ≡ x ++ b → z ≡ y ++ c → u ≡ z ++ d → v ≡ u ++ e
    → v ≡ old ++ (a ++ (b ++ (c ++ (d ++ e))))
five_added old a b c d e x y z u v p q r s t =
    t ∙ ap (λ (w : List ℕ). w ++ e) (s ∙ ap (λ (w : List ℕ). w ++ d) (r ∙ ap (λ (w : List ℕ). w ++ c) (q ∙ ap (λ (w : List ℕ). w ++ b) p)))
    ∙ regroup old a b c d e
