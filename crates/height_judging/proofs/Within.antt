-- Whether what is one higher than its parts is within a limit.
use Rattle.std.proofs.Common.{◌≡◌, ℕ, zero, suc, length, get_or, map, ap, ◌+◌, ◌-◌, ◌<◌, ◌≤◌, max, nat_le, Bool, true, false, ◌&&◌, List, [], ◌∷◌, ◌++◌, refl, sym, ◌∙◌, arith, le-leb, leb-true}
use Rattle.slang_tree.specs.ExprTree.{ExprTree, exprs_of}
use Rattle.slang_tree.specs.ExprTree as e
use Rattle.slang_tree.specs.DeclTree.{ConstTree, consts_of}
use Rattle.slang_tree.specs.DeclTree as c
use Rattle.text_heights.specs.Heights.{text_height, greatest_height, const_height, greatest_const}

-- the test where it holds, and where it does not
pub is_le : (a b n m : ℕ) → (a ≤ n → b ≤ m) → (b ≤ m → a ≤ n) → nat_le a n ≡ nat_le b m
is_le a b n m to from = at (nat_le a n) (nat_le b m) refl refl
  where
    at : (p q : Bool) → nat_le a n ≡ p → nat_le b m ≡ q → p ≡ q
    at true true h k = refl
    at false false h k = refl
    at true false h k = sym (le-leb b m (to (leb-true a n h))) ∙ k
    at false true h k = sym h ∙ le-leb a n (from (leb-true b m k))

-- a part within the limit of the parts
pub one_more : (a n : ℕ) → 0 < n → nat_le a (n - 1) ≡ nat_le (a + 1) n
one_more a n h = is_le a (a + 1) (n - 1) n (λ k. omega arith) (λ k. omega arith)

pub none_within : (a n : ℕ) → 0 < a → n ≡ 0 → false ≡ nat_le a n
none_within a n h k = at (nat_le a n) refl
  where
    at : (p : Bool) → nat_le a n ≡ p → false ≡ p
    at false e = refl
    at true e = absurd (let l : a ≤ n = leb-true a n e in omega arith)

pub leaf_within : (n : ℕ) → 0 < n → true ≡ nat_le 1 n
leaf_within n h = sym (le-leb 1 n (omega arith))

and_false : (b : Bool) → (b && false) ≡ false
and_false true = refl
and_false false = refl

-- ---- the highest of several

pub both_within : (a b n : ℕ) → (nat_le a n && nat_le b n) ≡ nat_le (max a b) n
both_within a b n = at (nat_le a n) (nat_le b n) refl refl
  where
    at : (p q : Bool) → nat_le a n ≡ p → nat_le b n ≡ q → (p && q) ≡ nat_le (max a b) n
    at true true h k = sym (le-leb (max a b) n (let i = leb-true a n h in let j = leb-true b n k in omega arith))
    at true false h k = sym k ∙ is_le b (max a b) n n (λ l. let i = leb-true a n h in omega arith) (λ l. omega arith)
    at false q h k = sym h ∙ is_le a (max a b) n n
        (λ l. absurd (let t : true ≡ false = sym (le-leb a n l) ∙ h in cc)) (λ l. omega arith)

pub text_height-positive : (tree : ExprTree) → 0 < text_height tree
text_height-positive (e.number place z) = omega arith
text_height-positive (e.truth place) = omega arith
text_height-positive (e.falsity place) = omega arith
text_height-positive (e.name text place) = omega arith
text_height-positive (e.result place ty) = omega arith
text_height-positive (e.entry_value place written) = omega arith
text_height-positive (e.old_value place written) = omega arith
text_height-positive (e.minus place operand) = omega arith
text_height-positive (e.negation place operand) = omega arith
text_height-positive (e.binary place operator left right) = omega arith
text_height-positive (e.application place head arguments) = omega arith
text_height-positive (e.update place head index element) = omega arith
text_height-positive (e.field place head written) = omega arith
text_height-positive (e.sequence place ty elements) = omega arith
text_height-positive (e.quantified place quantifier low high named body) = omega arith
text_height-positive (e.quantified_indices place quantifier head named body) = omega arith

pub const_height-positive : (tree : ConstTree) → 0 < const_height tree
const_height-positive (c.const_number place z) = omega arith
const_height-positive (c.const_minus place digits z) = omega arith
const_height-positive (c.const_truth place) = omega arith
const_height-positive (c.const_falsity place) = omega arith
const_height-positive (c.const_sequence place ty elements) = omega arith
const_height-positive (c.const_record written fields) = omega arith

-- ---- lists

pub greatest-append : (xs ys : List ExprTree) → greatest_height (exprs_of (xs ++ ys)) ≡ max (greatest_height (exprs_of xs)) (greatest_height (exprs_of ys))
greatest-append [] ys = omega arith
greatest-append (x ∷ xs) ys = omega (arith, greatest-append xs ys)

pub greatest_const-append : (xs ys : List ConstTree) → greatest_const (consts_of (xs ++ ys)) ≡ max (greatest_const (consts_of xs)) (greatest_const (consts_of ys))
greatest_const-append [] ys = omega arith
greatest_const-append (x ∷ xs) ys = omega (arith, greatest_const-append xs ys)

-- a list with a part that is too high
pub not_within : {A : Type 0} (f : A → ExprTree) (xs : List A) (k n : ℕ) (d : A) → k < length xs → false ≡ nat_le (text_height (f (get_or xs k d))) n →
    false ≡ nat_le (greatest_height (exprs_of (map f xs))) n
not_within f [] k n d h wrong = absurd (omega arith)
not_within f (x ∷ xs) zero n d h wrong =
    ap (λ b. b && nat_le (greatest_height (exprs_of (map f xs))) n) wrong ∙ both_within (text_height (f x)) (greatest_height (exprs_of (map f xs))) n
not_within f (x ∷ xs) (suc k) n d h wrong =
    sym (and_false (nat_le (text_height (f x)) n)) ∙ ap (λ b. nat_le (text_height (f x)) n && b) (not_within f xs k n d (omega arith) wrong)
    ∙ both_within (text_height (f x)) (greatest_height (exprs_of (map f xs))) n

pub not_within_const : {A : Type 0} (f : A → ConstTree) (xs : List A) (k n : ℕ) (d : A) → k < length xs → false ≡ nat_le (const_height (f (get_or xs k d))) n →
    false ≡ nat_le (greatest_const (consts_of (map f xs))) n
not_within_const f [] k n d h wrong = absurd (omega arith)
not_within_const f (x ∷ xs) zero n d h wrong =
    ap (λ b. b && nat_le (greatest_const (consts_of (map f xs))) n) wrong ∙ both_within (const_height (f x)) (greatest_const (consts_of (map f xs))) n
not_within_const f (x ∷ xs) (suc k) n d h wrong =
    sym (and_false (nat_le (const_height (f x)) n)) ∙ ap (λ b. nat_le (const_height (f x)) n && b) (not_within_const f xs k n d (omega arith) wrong)
    ∙ both_within (const_height (f x)) (greatest_const (consts_of (map f xs))) n

-- one part more
pub more_within : (xs : List ExprTree) (x : ExprTree) (n : ℕ) → nat_le (greatest_height (exprs_of xs)) n ≡ true → nat_le (text_height x) n ≡ true →
    nat_le (greatest_height (exprs_of (xs ++ x ∷ []))) n ≡ true
more_within xs x n h k =
    le-leb (greatest_height (exprs_of (xs ++ x ∷ []))) n
    (let a = leb-true (greatest_height (exprs_of xs)) n h in let b = leb-true (text_height x) n k in let e = greatest-append xs (x ∷ []) in omega arith)

pub more_within_const : (xs : List ConstTree) (x : ConstTree) (n : ℕ) → nat_le (greatest_const (consts_of xs)) n ≡ true → nat_le (const_height x) n ≡ true →
    nat_le (greatest_const (consts_of (xs ++ x ∷ []))) n ≡ true
more_within_const xs x n h k =
    le-leb (greatest_const (consts_of (xs ++ x ∷ []))) n
    (let a = leb-true (greatest_const (consts_of xs)) n h in let b = leb-true (const_height x) n k in let e = greatest_const-append xs (x ∷ []) in omega arith)
