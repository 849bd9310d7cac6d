-- What the code tells of hefts is what holds of them.
use Rattle.std.proofs.Common.{◌≡◌, ℕ, ◌+◌, ◌<◌, min, max, nat_eq, nat_lt, Bool, true, false, not, ◌&&◌, ◌||◌, List, [], ◌∷◌, map, take, length, get_or, zero, suc, refl, sym, ap, ◌∙◌, subst, arith}
use Rattle.std.proofs.lemmas.Bool.{false≢true}
use Rattle.slang_tree.specs.declared.expression.Expr.{Expr}
use Rattle.slang_grammar.specs.declared.operator.Infix.{Infix}
use Rattle.slang_grammar.specs.declared.operator.Side.TheVariants.{Left, Right}
use Rattle.slang_grammar.specs.Operators.{whole_level}
use Rattle.slang_grammar.specs.Expressions.{ExprText, level}
use Rattle.print_expressions.specs.Hefts.{Heft, heft, peak_of, heavy, is_lighter, stays}
use Rattle.print_expressions.specs.Accounts.{in_brackets_unless, is_operand, left_stays, right_stays, head_stays, first_stays}
use Rattle.expression_standing.specs.declared.heft.Heft.{Heft as Held}
use Rattle.expression_standing.specs.Account.{account_of, accounts_of}
use Rattle.expression_standing.specs.Hefts.{IsCapped, is_less, most_of}

less_is : (a b : Held) (x y : Heft) → IsCapped a x → IsCapped b y → is_less a b ≡ is_lighter x y
unfolding is_lighter
less_is a b x y p q =
    λ i. nat_lt (p.peak i) (q.peak i) || (nat_eq (p.peak i) (q.peak i) && nat_lt (p.count i) (q.count i))

pub stays_is : (may own : Bool) (bare enclosed : Held) (x y : Heft) → may ≡ own → IsCapped bare x → IsCapped enclosed y
    → (may && not (is_less enclosed bare)) ≡ stays true own x y
unfolding stays
stays_is may own bare enclosed x y e p q = λ i. e i && not (less_is enclosed bare y x q p i)

-- in brackets or not, where the code knows which
pub placed_is : (held : Held) (stands own : Bool) (text : ExprText) → stands ≡ own → IsCapped held (heft (in_brackets_unless stands text))
    → IsCapped held (heft (in_brackets_unless own text))
placed_is held stands own text e h = subst (λ b. IsCapped held (heft (in_brackets_unless b text))) e h

-- ---- lists

pub most_more : (exprs : List Expr) (at : ℕ) (d : Expr) → at < length exprs
    → most_of (take (at + 1) exprs) ≡ max (heft (account_of true (get_or exprs at d))).peak (most_of (take at exprs))
most_more [] at d h = absurd (omega arith)
most_more (x ∷ []) zero d h = refl
most_more (x ∷ y ∷ exprs) zero d h = refl
most_more (x ∷ exprs) (suc at) d h =
    let e = most_more exprs at d (omega arith) in
    let s : suc at + 1 ≡ suc (at + 1) = omega arith in
    let f = ap (λ n. most_of (take n (x ∷ exprs))) s in
    omega (arith, e, f)

pub most_is : (exprs : List Expr) → most_of exprs ≡ peak_of (accounts_of true exprs)
most_is [] = refl
most_is (x ∷ []) = omega arith
most_is (x ∷ y ∷ exprs) = ap (max (heft (account_of true x)).peak) (most_is (y ∷ exprs))

-- ---- where nothing needs to be lighter

pub left_plain : (light : Bool) (row : Infix) (l r : ExprText) → light ≡ false → left_stays light row l r ≡ is_operand Left row l
unfolding left_stays stays
left_plain false row l r h = refl
left_plain true row l r h = absurd (false≢true (sym h))

pub right_plain : (light : Bool) (row : Infix) (l r : ExprText) → light ≡ false → right_stays light row l r ≡ is_operand Right row r
unfolding right_stays stays
right_plain false row l r h = refl
right_plain true row l r h = absurd (false≢true (sym h))

pub head_plain : (light : Bool) (text : ExprText) (next : Heft) → light ≡ false → head_stays light text next ≡ nat_eq (level text) whole_level
unfolding head_stays stays
head_plain false text next h = refl
head_plain true text next h = absurd (false≢true (sym h))

pub first_plain : (light : Bool) (text next : ExprText) → light ≡ false → first_stays light text next ≡ true
unfolding first_stays stays
first_plain false text next h = refl
first_plain true text next h = absurd (false≢true (sym h))
