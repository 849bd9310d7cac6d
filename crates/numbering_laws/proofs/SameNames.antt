-- Names of a leg that are the same are equal.
use Rattle.std.proofs.Common.{◌≡◌, true, refl, ap}
use Rattle.std.specs.Prelude.{nat_eq, ◌&&◌}
use Rattle.std.proofs.lemmas.Bool.{and_parts, and_from, false≢true}
use Rattle.std.proofs.lemmas.Bool.Decides.{Decides-eqb}
use Rattle.program_trees.specs.Variables.{Variable, local, global, entry, result, same_variable}
use Rattle.leg_rules.specs.LegNames.{LegName, own, of_call, same_name}

same_variable-true : (x y : Variable) → same_variable x y ≡ true → x ≡ y
same_variable-true (local m) (local n) h = ap local ((Decides-eqb m n).0 h)
same_variable-true (local m) (global n) h = absurd (false≢true h)
same_variable-true (local m) (entry n) h = absurd (false≢true h)
same_variable-true (local m) result h = absurd (false≢true h)
same_variable-true (global m) (global n) h = ap global ((Decides-eqb m n).0 h)
same_variable-true (global m) (local n) h = absurd (false≢true h)
same_variable-true (global m) (entry n) h = absurd (false≢true h)
same_variable-true (global m) result h = absurd (false≢true h)
same_variable-true (entry m) (entry n) h = ap entry ((Decides-eqb m n).0 h)
same_variable-true (entry m) (local n) h = absurd (false≢true h)
same_variable-true (entry m) (global n) h = absurd (false≢true h)
same_variable-true (entry m) result h = absurd (false≢true h)
same_variable-true result result h = refl
same_variable-true result (local n) h = absurd (false≢true h)
same_variable-true result (global n) h = absurd (false≢true h)
same_variable-true result (entry n) h = absurd (false≢true h)

same_variable-self : (x : Variable) → same_variable x x ≡ true
same_variable-self (local n) = (Decides-eqb n n).1 refl
same_variable-self (global n) = (Decides-eqb n n).1 refl
same_variable-self (entry n) = (Decides-eqb n n).1 refl
same_variable-self result = refl

pub same_name-true : (x y : LegName) → same_name x y ≡ true → x ≡ y
same_name-true (own x) (own y) h = ap own (same_variable-true x y h)
same_name-true (own x) (of_call n g y) h = absurd (false≢true h)
same_name-true (of_call m f x) (own y) h = absurd (false≢true h)
same_name-true (of_call m f x) (of_call n g y) h =
    let p = and_parts (nat_eq m n) (nat_eq f g && same_variable x y) h in
    let q = and_parts (nat_eq f g) (same_variable x y) p.1 in
    let a = (Decides-eqb m n).0 p.0 in
    let b = (Decides-eqb f g).0 q.0 in
    let c = same_variable-true x y q.1 in
    λ i. of_call (a i) (b i) (c i)

pub same_name-self : (x : LegName) → same_name x x ≡ true
same_name-self (own x) = same_variable-self x
same_name-self (of_call m f x) =
    and_from (nat_eq m m) (nat_eq f f && same_variable x x) ((Decides-eqb m m).1 refl)
    (and_from (nat_eq f f) (same_variable x x) ((Decides-eqb f f).1 refl) (same_variable-self x))
