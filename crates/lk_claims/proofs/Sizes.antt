-- The parts of a claim are less deep than the claim, for each variant.
use Rattle.std.proofs.Common.{◌≡◌, ℕ, zero, suc, ◌<◌, ◌≤◌, max, List, [], ◌∷◌, length, get_or, refl, ap, arith}
use denote.Param.Weighed.{most}
use Rattle.lk_claims.specs.declared.ty.Ty.{Ty}
use Rattle.lk_claims.specs.declared.claim.Claim.{Claim, size-Claim}
use Rattle.lk_claims.specs.declared.claim.Claim.TheVariants.{Neg, Not, Add, Sub, Mul, Div, Rem, And, Or, Imply, Eq, Lt, Le, Size, Read, Update, Append, SeqLit, Rec, Field, All, Exists}
use Rattle.lk_claims.specs.declared.claim.Claim.TheViews.{sized-Neg, sized-Not, sized-Add, sized-Sub, sized-Mul, sized-Div, sized-Rem, sized-And, sized-Or, sized-Imply, sized-Eq, sized-Lt, sized-Le, sized-Size, sized-Read, sized-Update, sized-Append, sized-SeqLit, sized-Rec, sized-Field, sized-All, sized-Exists}
use Rattle.lk_claims.specs.Shape.{deepest}

deepest_is : (ts : List Claim) → most size-Claim ts ≡ deepest ts
deepest_is [] = refl
deepest_is (t ∷ ts) = ap (max (size-Claim t)) (deepest_is ts)

-- no claim of the list is deeper than the deepest
pub size-deepest : (ts : List Claim) (k : ℕ) (d : Claim) → k < length ts → size-Claim (get_or ts k d) ≤ deepest ts
size-deepest [] k d h = absurd (omega arith)
size-deepest (t ∷ ts) zero d h = omega arith
size-deepest (t ∷ ts) (suc k) d h = omega (arith, size-deepest ts k d (omega arith))

pub size-Neg : (a : Claim) → size-Claim a < size-Claim (Neg a)
size-Neg a = omega (arith, sized-Neg a)

pub size-Not : (a : Claim) → size-Claim a < size-Claim (Not a)
size-Not a = omega (arith, sized-Not a)

pub size-Add_first : (a : Claim) (b : Claim) → size-Claim a < size-Claim (Add a b)
size-Add_first a b = omega (arith, sized-Add a b)

pub size-Add_second : (a : Claim) (b : Claim) → size-Claim b < size-Claim (Add a b)
size-Add_second a b = omega (arith, sized-Add a b)

pub size-Sub_first : (a : Claim) (b : Claim) → size-Claim a < size-Claim (Sub a b)
size-Sub_first a b = omega (arith, sized-Sub a b)

pub size-Sub_second : (a : Claim) (b : Claim) → size-Claim b < size-Claim (Sub a b)
size-Sub_second a b = omega (arith, sized-Sub a b)

pub size-Mul_first : (a : Claim) (b : Claim) → size-Claim a < size-Claim (Mul a b)
size-Mul_first a b = omega (arith, sized-Mul a b)

pub size-Mul_second : (a : Claim) (b : Claim) → size-Claim b < size-Claim (Mul a b)
size-Mul_second a b = omega (arith, sized-Mul a b)

pub size-Div_first : (a : Claim) (b : Claim) → size-Claim a < size-Claim (Div a b)
size-Div_first a b = omega (arith, sized-Div a b)

pub size-Div_second : (a : Claim) (b : Claim) → size-Claim b < size-Claim (Div a b)
size-Div_second a b = omega (arith, sized-Div a b)

pub size-Rem_first : (a : Claim) (b : Claim) → size-Claim a < size-Claim (Rem a b)
size-Rem_first a b = omega (arith, sized-Rem a b)

pub size-Rem_second : (a : Claim) (b : Claim) → size-Claim b < size-Claim (Rem a b)
size-Rem_second a b = omega (arith, sized-Rem a b)

pub size-And_first : (a : Claim) (b : Claim) → size-Claim a < size-Claim (And a b)
size-And_first a b = omega (arith, sized-And a b)

pub size-And_second : (a : Claim) (b : Claim) → size-Claim b < size-Claim (And a b)
size-And_second a b = omega (arith, sized-And a b)

pub size-Or_first : (a : Claim) (b : Claim) → size-Claim a < size-Claim (Or a b)
size-Or_first a b = omega (arith, sized-Or a b)

pub size-Or_second : (a : Claim) (b : Claim) → size-Claim b < size-Claim (Or a b)
size-Or_second a b = omega (arith, sized-Or a b)

pub size-Imply_first : (a : Claim) (b : Claim) → size-Claim a < size-Claim (Imply a b)
size-Imply_first a b = omega (arith, sized-Imply a b)

pub size-Imply_second : (a : Claim) (b : Claim) → size-Claim b < size-Claim (Imply a b)
size-Imply_second a b = omega (arith, sized-Imply a b)

pub size-Eq_first : (a : Claim) (b : Claim) → size-Claim a < size-Claim (Eq a b)
size-Eq_first a b = omega (arith, sized-Eq a b)

pub size-Eq_second : (a : Claim) (b : Claim) → size-Claim b < size-Claim (Eq a b)
size-Eq_second a b = omega (arith, sized-Eq a b)

pub size-Lt_first : (a : Claim) (b : Claim) → size-Claim a < size-Claim (Lt a b)
size-Lt_first a b = omega (arith, sized-Lt a b)

pub size-Lt_second : (a : Claim) (b : Claim) → size-Claim b < size-Claim (Lt a b)
size-Lt_second a b = omega (arith, sized-Lt a b)

pub size-Le_first : (a : Claim) (b : Claim) → size-Claim a < size-Claim (Le a b)
size-Le_first a b = omega (arith, sized-Le a b)

pub size-Le_second : (a : Claim) (b : Claim) → size-Claim b < size-Claim (Le a b)
size-Le_second a b = omega (arith, sized-Le a b)

pub size-Size : (a : Claim) → size-Claim a < size-Claim (Size a)
size-Size a = omega (arith, sized-Size a)

pub size-Read_first : (a : Claim) (b : Claim) → size-Claim a < size-Claim (Read a b)
size-Read_first a b = omega (arith, sized-Read a b)

pub size-Read_second : (a : Claim) (b : Claim) → size-Claim b < size-Claim (Read a b)
size-Read_second a b = omega (arith, sized-Read a b)

pub size-Update_first : (a : Claim) (i : Claim) (x : Claim) → size-Claim a < size-Claim (Update a i x)
size-Update_first a i x = omega (arith, sized-Update a i x)

pub size-Update_second : (a : Claim) (i : Claim) (x : Claim) → size-Claim i < size-Claim (Update a i x)
size-Update_second a i x = omega (arith, sized-Update a i x)

pub size-Update_third : (a : Claim) (i : Claim) (x : Claim) → size-Claim x < size-Claim (Update a i x)
size-Update_third a i x = omega (arith, sized-Update a i x)

pub size-Append_first : (a : Claim) (b : Claim) → size-Claim a < size-Claim (Append a b)
size-Append_first a b = omega (arith, sized-Append a b)

pub size-Append_second : (a : Claim) (b : Claim) → size-Claim b < size-Claim (Append a b)
size-Append_second a b = omega (arith, sized-Append a b)

pub size-SeqLit : (s : Ty) (ts : List Claim) → deepest ts < size-Claim (SeqLit s ts)
size-SeqLit s ts = omega (arith, sized-SeqLit s ts, deepest_is ts)

pub size-Rec : (n : ℕ) (ts : List Claim) → deepest ts < size-Claim (Rec n ts)
size-Rec n ts = omega (arith, sized-Rec n ts, deepest_is ts)

pub size-Field : (a : Claim) (k : ℕ) → size-Claim a < size-Claim (Field a k)
size-Field a k = omega (arith, sized-Field a k)

pub size-All_first : (low : Claim) (high : Claim) (body : Claim) → size-Claim low < size-Claim (All low high body)
size-All_first low high body = omega (arith, sized-All low high body)

pub size-All_second : (low : Claim) (high : Claim) (body : Claim) → size-Claim high < size-Claim (All low high body)
size-All_second low high body = omega (arith, sized-All low high body)

pub size-All_third : (low : Claim) (high : Claim) (body : Claim) → size-Claim body < size-Claim (All low high body)
size-All_third low high body = omega (arith, sized-All low high body)

pub size-Exists_first : (low : Claim) (high : Claim) (body : Claim) → size-Claim low < size-Claim (Exists low high body)
size-Exists_first low high body = omega (arith, sized-Exists low high body)

pub size-Exists_second : (low : Claim) (high : Claim) (body : Claim) → size-Claim high < size-Claim (Exists low high body)
size-Exists_second low high body = omega (arith, sized-Exists low high body)

pub size-Exists_third : (low : Claim) (high : Claim) (body : Claim) → size-Claim body < size-Claim (Exists low high body)
size-Exists_third low high body = omega (arith, sized-Exists low high body)

pub ruleset deepest_lines = (size-deepest)

pub ruleset smaller_lines = (size-Neg, size-Not, size-Add_first, size-Add_second, size-Sub_first, size-Sub_second, size-Mul_first, size-Mul_second, size-Div_first, size-Div_second, size-Rem_first, size-Rem_second, size-And_first, size-And_second, size-Or_first, size-Or_second, size-Imply_first, size-Imply_second, size-Eq_first, size-Eq_second, size-Lt_first, size-Lt_second, size-Le_first, size-Le_second, size-Size, size-Read_first, size-Read_second, size-Update_first, size-Update_second, size-Update_third, size-Append_first, size-Append_second, size-SeqLit, size-Rec, size-Field, size-All_first, size-All_second, size-All_third, size-Exists_first, size-Exists_second, size-Exists_third)
