-- No text of the same tree adds less to the weights than what is printed lightly.
use Rattle.std.proofs.Common.{◌≡◌, ℕ, ◌+◌, ◌<◌, ◌≤◌, ◌⊎◌, inl, inr, min, max, nat_eq, nat_le, nat_lt, Bool, true, false, not, ◌&&◌, ◌||◌, cond, Option, Some, None, refl, sym, ap, ◌∙◌, subst, arith, ltb-true, ltb-false, eqb-true, eq-eqb, le-leb, lt-ltb}
use Rattle.std.specs.Option.{option_map}
use Rattle.std.proofs.lemmas.Bool.{false≢true, and_parts}
use Rattle.slang_tree.specs.declared.place.Place.{Place}
use Rattle.slang_tree.specs.ExprTree.{ExprTree, ExprTrees, place_of}
use Rattle.slang_tree.specs.ExprTree as e
use Rattle.slang_grammar.specs.declared.operator.Side.{Side}
use Rattle.slang_grammar.specs.declared.operator.Side.TheVariants.{Left, Right}
use Rattle.slang_grammar.specs.declared.operator.Prefix.{Prefix}
use Rattle.slang_grammar.specs.declared.operator.Prefix.TheVariants as prefix
use Rattle.slang_grammar.specs.declared.operator.Infix.{Infix}
use Rattle.slang_grammar.specs.Operators.{infix_of, prefix_level, whole_level}
use Rattle.slang_grammar.specs.Parts.{TypeText, z_type, b_type, unit_type, sequence_type, record_type, type_tree, ElementText, element_tree}
use Rattle.slang_grammar.specs.Expressions.{ExprText, number, truth, falsity, variable, result, entry_value, old_value, sequence, quantified, quantified_indices, bracketed, application, update, field, prefixed, binary, ExprsText, no_exprs, last_expr, expr_then, level, joins, IsOperand, IsGrouped, AreGrouped, prefix_tree, expr_tree, exprs_tree}
use Rattle.print_expressions.specs.Bare.{nowhere}
use Rattle.print_expressions.specs.Hefts.{Heft, nothing, one, around, followed, type_heft, element_heft, binary_heft, heft, peak_of, heavy, is_lighter, stays}
use Rattle.print_expressions.specs.Accounts.{type_account, element_account, in_brackets, in_brackets_unless, is_operand, as_operand, as_prefixed, as_head, left_stays, left_operand, right_stays, right_operand, head_stays, head_before, first_stays, first_before, binary_account, expr_account, exprs_account}
use Rattle.light_expressions.specs.Laws.{ExpressionsAreLightest}
use Rattle.print_expressions.proofs.Rows.{row_back, operand_from}
use Rattle.light_expressions.proofs.Choice.{NoMore, Lighter, same, onward, below, Fits, as_it_is, within, pushed, placed}

-- ---- counts

type_counted : (text : TypeText) → (type_heft text).count ≤ (type_heft text).peak
type_counted (z_type place) = omega arith
type_counted (b_type place) = omega arith
type_counted (unit_type place) = omega arith
type_counted (sequence_type word left element right) = omega arith
type_counted (record_type written) = omega arith

-- no more is left counted than was added
counted : (text : ExprText) → (heft text).count ≤ (heft text).peak
counted (number digits place) = omega arith
counted (truth place) = omega arith
counted (falsity place) = omega arith
counted (variable n) = omega arith
counted (result word None) = omega arith
counted (result word (Some ty)) = omega arith
counted (entry_value word left n right) = omega arith
counted (old_value word left n right) = omega arith
counted (sequence word None left elements right) = omega arith
counted (sequence word (Some ty) left elements right) = omega arith
counted (quantified by word left low until high right bound body) = omega arith
counted (quantified_indices by word left head dot indices right bound body) = omega arith
counted (bracketed left inner right) = omega arith
counted (application head left arguments right) = omega arith
counted (update head left index arrow element right) = omega arith
counted (field head dot n) = omega arith
counted (prefixed by place operand) = let h = counted operand in omega arith
counted (binary left row place right) = let h = counted right in omega arith

-- what adds something leaves something counted
counts_some : (text : ExprText) → 0 < (heft text).peak → 0 < (heft text).count
counts_some (number digits place) h = absurd (omega arith)
counts_some (truth place) h = absurd (omega arith)
counts_some (falsity place) h = absurd (omega arith)
counts_some (variable n) h = absurd (omega arith)
counts_some (result word None) h = absurd (omega arith)
counts_some (result word (Some ty)) h = omega arith
counts_some (entry_value word left n right) h = omega arith
counts_some (old_value word left n right) h = omega arith
counts_some (sequence word None left elements right) h = omega arith
counts_some (sequence word (Some ty) left elements right) h = omega arith
counts_some (quantified by word left low until high right bound body) h = omega arith
counts_some (quantified_indices by word left head dot indices right bound body) h = omega arith
counts_some (bracketed left inner right) h = omega arith
counts_some (application head left arguments right) h = omega arith
counts_some (update head left index arrow element right) h = omega arith
counts_some (field head dot n) h = omega arith
counts_some (prefixed by place operand) h = omega arith
counts_some (binary left row place right) h = omega arith

-- ---- parts

abbrev again : ExprTree → ExprText
again tree = expr_account true tree

-- what is printed of a tree begins with the same form as a text of it, and is not heavier
record SameTop (text : ExprText) (tree : ExprTree) : Type 0 where
  same_level : level (again tree) ≡ level text
  same_joins : joins (again tree) ≡ joins text
  lighter : Lighter (heft (again tree)) (heft text)

-- that, or there is room for brackets
data IsLeast (text : ExprText) (tree : ExprTree) : Type 0 where
  bare : SameTop text tree → IsLeast text tree
  roomy : NoMore (around (heft (again tree)).peak) (heft text) → IsLeast text tree

least_peak : (text : ExprText) (tree : ExprTree) → IsLeast text tree → (heft (again tree)).peak ≤ (heft text).peak
least_peak text tree (bare same) = same.lighter.peak
least_peak text tree (roomy n) = let p = n.peak in omega arith

part : (text : ExprText) (tree : ExprTree) (may : Bool) → IsLeast text tree → (SameTop text tree → may ≡ true)
    → Fits may (heft (again tree)) (around (heft (again tree)).peak) (heft text)
part text tree may (roomy n) h = within n
part text tree may (bare same) h = at (below (heft (again tree)).peak (heft text).peak)
  where
    at : ((heft (again tree)).peak < (heft text).peak) ⊎ ((heft text).peak ≤ (heft (again tree)).peak)
        → Fits may (heft (again tree)) (around (heft (again tree)).peak) (heft text)
    at (inl less) = within (record { peak = omega arith; count = counts_some text (omega arith) })
    at (inr no_less) =
        let p = same.lighter.peak in
        as_it_is (h same) (record { peak = p; count = same.lighter.count (omega arith) })

-- the same of a whole that the part is put into
within_whole : (f : Heft → Heft) (may : Bool) (own part target : Heft) → ((a : Heft) → NoMore a part → NoMore (f a) target)
    → Fits may own (around own.peak) part → Fits may (f own) (f (around own.peak)) target
within_whole f may own part target m (as_it_is h n) = as_it_is h (m own n)
within_whole f may own part target m (within n) = within (m (around own.peak) n)

head_may : (text : ExprText) (tree : ExprTree) → level text ≡ whole_level → SameTop text tree → nat_eq (level (again tree)) whole_level ≡ true
head_may text tree h same = eq-eqb (level (again tree)) whole_level (same.same_level ∙ h)

-- a head in front of what adds no more than before
head_least : (text : ExprText) (tree : ExprTree) (next next' : Heft) → level text ≡ whole_level → IsLeast text tree → NoMore next next'
    → next.count ≤ next.peak → (followed (heft text) next').peak < heavy → next'.count ≤ next'.peak
    → Lighter (followed (heft (head_before true (again tree) next)) next) (followed (heft text) next')
unfolding head_stays
head_least text tree next next' h least n c p c' =
    placed (λ a. followed a next) (nat_eq (level (again tree)) whole_level) (again tree) (followed (heft text) next') p
    (omega arith)
    (within_whole (λ a. followed a next) (nat_eq (level (again tree)) whole_level) (heft (again tree)) (heft text) (followed (heft text) next')
    (λ a m. record {
      peak = (let u = m.peak in let v = m.count in let x = n.peak in omega arith);
      count = (let v = m.count in let x = n.count in omega arith);
    })
    (part text tree (nat_eq (level (again tree)) whole_level) least (head_may text tree h)))

-- the first of two that count together: what they add
first_least : (text : ExprText) (tree : ExprTree) (next : ExprText) (next' : ExprText) → IsLeast text tree → (heft next).peak ≤ (heft next').peak
    → (followed (heft text) (heft next')).peak < heavy
    → (followed (heft (first_before true (again tree) next)) (heft next)).peak ≤ (followed (heft text) (heft next')).peak
unfolding first_stays
first_least text tree next next' least n p =
    let most = (followed (heft text) (heft next')).peak in
    let target : Heft = record { peak = most; count = most } in
    let inside = counted next in
    let l : Lighter (followed (heft (first_before true (again tree) next)) (heft next)) target
    = placed (λ a. followed a (heft next)) true (again tree) target p p
    (within_whole (λ a. followed a (heft next)) true (heft (again tree)) (heft text) target
    (λ a m. record { peak = (let u = m.peak in let v = m.count in omega arith); count = (let u = m.peak in let v = m.count in omega arith) })
    (part text tree true least (λ same. refl))) in
    l.peak

-- ---- two operands

-- where the left one could be this, what was chosen for it is as light before such a right one
abbrev IsLeft : Heft → Heft → Heft → Type 0
IsLeft a x next = (target : Heft) → target.peak < heavy → target.count < heavy → NoMore (binary_heft x next) target → Lighter (binary_heft a next) target

-- where the right one could be this, what was chosen for it is as light
abbrev IsRight : Heft → Heft → Heft → Type 0
IsRight a y b = (target : Heft) → target.peak < heavy → target.count < heavy → NoMore (binary_heft a y) target → Lighter (binary_heft a b) target

light_of : (a b : Heft) → NoMore a b → Lighter a b
light_of a b n = record { peak = n.peak; count = λ e. n.count }

-- what was chosen for the left one in front of this right one, and then that one
one_form : (a b x y left right : Heft) → y.count ≤ y.peak → NoMore x left → NoMore y right → (binary_heft left right).peak < heavy → IsLeft a x y → IsRight a y b
    → Lighter (binary_heft a b) (binary_heft left right)
one_form a b x y left right c h k p on_left on_right =
    let n : NoMore (binary_heft x y) (binary_heft left right) = record {
      peak = (let u = h.peak in let v = h.count in let w = k.peak in omega arith);
      count = (let v = h.count in let w = k.count in omega arith);
    } in
    let q = n.peak in
    let l = on_left (binary_heft x y) (omega arith) (omega arith) (same (binary_heft x y)) in
    let u = l.peak in
    let r = on_right (binary_heft a y) (omega arith) (omega arith) (same (binary_heft a y)) in
    onward (binary_heft a b) (binary_heft a y) (binary_heft left right) r
    (onward (binary_heft a y) (binary_heft x y) (binary_heft left right) l (light_of _ _ n))

-- what was chosen for the left one in front of the right one as it is, and then that in brackets
other_form : (a b x r left right : Heft) → r.count ≤ r.peak → NoMore x left → NoMore (around r.peak) right → (binary_heft left right).peak < heavy
    → IsLeft a x r → IsRight a r b → IsRight a (around r.peak) b → Lighter (binary_heft a b) (binary_heft left right)
other_form a b x r left right c h k p on_left on_bare on_right =
    let n : NoMore (binary_heft x (around r.peak)) (binary_heft left right) = record {
      peak = (let u = h.peak in let v = h.count in let w = k.peak in omega arith);
      count = (let v = h.count in let w = k.count in omega arith);
    } in
    let q = n.peak in
    let l = on_left (binary_heft x r) (omega arith) (omega arith) (same (binary_heft x r)) in
    let u = l.peak in
    at n l (below (binary_heft a r).peak (binary_heft x r).peak)
  where
    at : NoMore (binary_heft x (around r.peak)) (binary_heft left right) → Lighter (binary_heft a r) (binary_heft x r)
        → ((binary_heft a r).peak < (binary_heft x r).peak) ⊎ ((binary_heft x r).peak ≤ (binary_heft a r).peak)
        → Lighter (binary_heft a b) (binary_heft left right)
    at n l (inl less) =
        let q = n.peak in let u = l.peak in
        let s = on_bare (binary_heft a r) (omega arith) (omega arith) (same (binary_heft a r)) in
        let v = s.peak in
        record { peak = omega arith; count = λ e. absurd (omega arith) }
    at n l (inr no_less) =
        let q = n.peak in let u = l.peak in
        let e : (binary_heft a r).peak ≡ (binary_heft x r).peak = omega arith in
        let v = l.count e in
        let m : NoMore (binary_heft a (around r.peak)) (binary_heft x (around r.peak)) = record { peak = omega arith; count = omega arith } in
        let s = on_right (binary_heft x (around r.peak)) (omega arith) (omega arith) m in
        onward (binary_heft a b) (binary_heft x (around r.peak)) (binary_heft left right) s (light_of _ _ n)

-- whichever form the right one has in the text
right_form : (may : Bool) (a b x r left right : Heft) → r.count ≤ r.peak → NoMore x left → (binary_heft left right).peak < heavy
    → IsLeft a x (cond may r (around r.peak)) → (may ≡ true → IsRight a r b) → IsRight a (around r.peak) b → Fits may r (around r.peak) right
    → Lighter (binary_heft a b) (binary_heft left right)
right_form true a b x r left right c h p on_left on_bare on_right (as_it_is m n) =
    one_form a b x r left right c h n p on_left (on_bare refl)
right_form true a b x r left right c h p on_left on_bare on_right (within n) =
    other_form a b x r left right c h n p on_left (on_bare refl) on_right
right_form false a b x r left right c h p on_left on_bare on_right (as_it_is m n) = absurd (false≢true m)
right_form false a b x r left right c h p on_left on_bare on_right (within n) =
    one_form a b x (around r.peak) left right (omega arith) h n p on_left on_right

operand_may : (side : Side) (row : Infix) (text : ExprText) (tree : ExprTree) → IsOperand side row text → SameTop text tree
    → is_operand side row (again tree) ≡ true
operand_may side row text tree h top = operand_from side row (again tree) (at h)
  where
    at : IsOperand side row text → IsOperand side row (again tree)
    at (inl k) = let s = top.same_level in inl (omega arith)
    at (inr k) = inr (top.same_level ∙ k.0, k.1, top.same_joins ∙ k.2)

operands_least : (row : Infix) (left right : ExprText) (l r : ExprTree) → IsOperand Left row left → IsOperand Right row right → IsLeast left l → IsLeast right r
    → (binary_heft (heft left) (heft right)).peak < heavy
    → Lighter (heft (binary_account true row (again l) (again r))) (binary_heft (heft left) (heft right))
unfolding left_stays right_stays
operands_least row left right l r on_left on_right tl tr p =
    by (part left l may_left tl (operand_may Left row left l on_left)) (part right r may_right tr (operand_may Right row right r on_right))
  where
    may_left : Bool
    may_left = is_operand Left row (again l)

    may_right : Bool
    may_right = is_operand Right row (again r)

    a : Heft
    a = heft (left_operand true row (again l) (again r))

    b : Heft
    b = heft (right_operand true row (again l) (again r))

    forced : heft (as_operand Right row (again r)) ≡ cond may_right (heft (again r)) (around (heft (again r)).peak)
    forced = pushed (λ h. h) may_right (again r)

    next : Heft
    next = heft (as_operand Right row (again r))

    on_left_if : (x : Heft) → ((target : Heft) → NoMore (binary_heft x next) target
        → Fits may_left (binary_heft (heft (again l)) next) (binary_heft (around (heft (again l)).peak) next) target) → IsLeft a x next
    on_left_if x f target q c n = placed (λ h. binary_heft h next) may_left (again l) target q c (f target n)

    on_bare : may_right ≡ true → IsRight a (heft (again r)) b
    on_bare m target q c n = placed (λ h. binary_heft a h) may_right (again r) target q c (as_it_is m n)

    on_right_within : IsRight a (around (heft (again r)).peak) b
    on_right_within target q c n = placed (λ h. binary_heft a h) may_right (again r) target q c (within n)

    with_left : (x : Heft) → NoMore x (heft left) → IsLeft a x next → Fits may_right (heft (again r)) (around (heft (again r)).peak) (heft right)
        → Lighter (binary_heft a b) (binary_heft (heft left) (heft right))
    with_left x n s fits =
        right_form may_right a b x (heft (again r)) (heft left) (heft right) (counted (again r)) n p (subst (λ h. IsLeft a x h) forced s) on_bare on_right_within fits

    by : Fits may_left (heft (again l)) (around (heft (again l)).peak) (heft left) → Fits may_right (heft (again r)) (around (heft (again r)).peak) (heft right)
        → Lighter (binary_heft a b) (binary_heft (heft left) (heft right))
    by (as_it_is m n) fits = with_left (heft (again l)) n (on_left_if (heft (again l)) (λ target k. as_it_is m k)) fits
    by (within n) fits = with_left (around (heft (again l)).peak) n (on_left_if (around (heft (again l)).peak) (λ target k. within k)) fits

-- ---- forms

type_light : (text : TypeText) → type_heft (type_account (type_tree text)) ≡ type_heft text
type_light (z_type place) = refl
type_light (b_type place) = refl
type_light (unit_type place) = refl
type_light (sequence_type word left element right) = ap (λ h. around h.peak) (type_light element)
type_light (record_type written) = refl

element_light : (ty : Option ElementText) → element_heft (option_map element_account (option_map element_tree ty)) ≡ element_heft ty
element_light None = refl
element_light (Some ty) = ap (λ h. around h.peak) (type_light ty.ty)

top : (text : ExprText) (tree : ExprTree) → level (again tree) ≡ level text → joins (again tree) ≡ joins text → Lighter (heft (again tree)) (heft text)
    → IsLeast text tree
top text tree l j n = bare (record { same_level = l; same_joins = j; lighter = n })

equal : (a b : Heft) → a ≡ b → Lighter a b
equal a b e = record { peak = (let p = ap (λ h. h.peak) e in omega arith); count = λ q. (let p = ap (λ h. h.count) e in omega arith) }

prefixed_light : (text : ExprText) (tree : ExprTree) → prefix_level ≤ level text → IsLeast text tree
    → Lighter (followed one (heft (as_prefixed (again tree)))) (followed one (heft text))
prefixed_light text tree h least = at (nat_le prefix_level (level (again tree))) least (λ s. le-leb prefix_level (level (again tree)) (let e = s.same_level in omega arith))
  where
    at : (b : Bool) → IsLeast text tree → (SameTop text tree → b ≡ true)
        → Lighter (followed one (heft (in_brackets_unless b (again tree)))) (followed one (heft text))
    at true (bare s) m = record {
      peak = (let p = s.lighter.peak in omega arith);
      count = λ e. (let p = s.lighter.peak in let c = s.lighter.count (omega arith) in omega arith);
    }
    at false (bare s) m = absurd (false≢true (m s))
    at true (roomy n) m = record {
      peak = (let p = n.peak in omega arith);
      count = λ e. (let p = n.peak in omega arith);
    }
    at false (roomy n) m = record { peak = (let p = n.peak in omega arith); count = λ e. (let c = n.count in omega arith) }

-- the head of a range, of which only what it adds matters
indices_light : (text : ExprText) (tree : ExprTree) → level text ≡ whole_level → IsLeast text tree
    → (followed (heft (as_head (again tree))) one).peak ≤ (followed (heft text) one).peak
indices_light text tree h least = at (nat_eq (level (again tree)) whole_level) least (head_may text tree h)
  where
    at : (b : Bool) → IsLeast text tree → (SameTop text tree → b ≡ true)
        → (followed (heft (in_brackets_unless b (again tree))) one).peak ≤ (followed (heft text) one).peak
    at true (bare s) m = by (below (heft (again tree)).peak (heft text).peak)
      where
        by : ((heft (again tree)).peak < (heft text).peak) ⊎ ((heft text).peak ≤ (heft (again tree)).peak)
            → (followed (heft (again tree)) one).peak ≤ (followed (heft text) one).peak
        by (inl less) = let c = counted (again tree) in omega arith
        by (inr no_less) = let p = s.lighter.peak in let c = s.lighter.count (omega arith) in omega arith
    at false (bare s) m = absurd (false≢true (m s))
    at true (roomy n) m = let p = n.peak in let c = counted (again tree) in omega arith
    at false (roomy n) m = let p = n.peak in let c = n.count in omega arith

prefix_least : (by : Prefix) (at place : Place) (text : ExprText) (tree : ExprTree) → prefix_level ≤ level text → IsLeast text tree
    → IsLeast (prefixed by at text) (prefix_tree by place tree)
prefix_least prefix.Not at place text tree h least = top _ _ refl refl (prefixed_light text tree h least)
prefix_least prefix.Minus at place text tree h least = top _ _ refl refl (prefixed_light text tree h least)

binary_least : (row : Infix) (at place : Place) (left right : ExprText) (l r : ExprTree) → infix_of row.sign ≡ Some row → IsOperand Left row left
    → IsOperand Right row right → IsLeast left l → IsLeast right r → (binary_heft (heft left) (heft right)).peak < heavy
    → IsLeast (binary left row at right) (e.binary place row.operator l r)
binary_least row at place left right l r found on_left on_right tl tr p =
    let back = row_back row.sign row found in
    top (binary left row at right) (e.binary place row.operator l r) (ap (λ (own : Infix). own.level) back) (ap (λ (own : Infix). Some own.joins) back)
    (subst (λ (own : Infix). Lighter (heft (binary_account true own (again l) (again r))) (binary_heft (heft left) (heft right))) (sym back)
    (operands_least row left right l r on_left on_right tl tr p))

more_peak : (tree : ExprTree) (trees : ExprTrees) (n m : ℕ) → (heft (again tree)).peak ≤ n → peak_of (exprs_account true trees) ≤ m
    → peak_of (exprs_account true (e.expr_then tree trees)) ≤ max n m
more_peak tree e.no_exprs n m h k = omega arith
more_peak tree (e.expr_then next trees) n m h k = omega arith

mutual
  least : (text : ExprText) → IsGrouped text → (heft text).peak < heavy → IsLeast text (expr_tree text)
  least (number digits place) g p = top _ _ refl refl (equal _ _ refl)
  least (truth place) g p = top _ _ refl refl (equal _ _ refl)
  least (falsity place) g p = top _ _ refl refl (equal _ _ refl)
  least (variable n) g p = top _ _ refl refl (equal _ _ refl)
  least (result word ty) g p = top _ _ refl refl (equal _ _ (element_light ty))
  least (entry_value word left n right) g p = top _ _ refl refl (equal _ _ refl)
  least (old_value word left n right) g p = top _ _ refl refl (equal _ _ refl)
  least (sequence word ty left elements right) g p =
      let e = element_light ty in
      let q = ap (λ h. h.peak) e in
      let c = ap (λ h. h.count) e in
      let a = all_least elements g.1 (omega arith) in
      top (sequence word ty left elements right) (expr_tree (sequence word ty left elements right)) refl refl (record { peak = omega arith; count = λ x. omega arith })
  least (quantified by word left low until high right bound body) g p =
      let l = least low g.0 (omega arith) in
      let h = least_peak high (expr_tree high) (least high g.1 (omega arith)) in
      let b = least_peak body (expr_tree body) (least body g.3 (omega arith)) in
      let f = first_least low (expr_tree low) (again (expr_tree high)) high l h (omega arith) in
      top (quantified by word left low until high right bound body) (expr_tree (quantified by word left low until high right bound body)) refl refl
      (record { peak = omega arith; count = λ x. omega arith })
  least (quantified_indices by word left head dot indices right bound body) g p =
      let h = indices_light head (expr_tree head) g.0 (least head g.1 (omega arith)) in
      let b = least_peak body (expr_tree body) (least body g.3 (omega arith)) in
      top (quantified_indices by word left head dot indices right bound body) (expr_tree (quantified_indices by word left head dot indices right bound body)) refl
      refl (record { peak = omega arith; count = λ x. omega arith })
  least (bracketed left inner right) g p =
      let i = least_peak inner (expr_tree inner) (least inner g (omega arith)) in
      roomy (record { peak = omega arith; count = omega arith })
  least (application head left arguments right) g p =
      let a = all_least arguments g.2 (omega arith) in
      top (application head left arguments right) (expr_tree (application head left arguments right)) refl refl
      (head_least head (expr_tree head) (around (peak_of (exprs_account true (exprs_tree arguments)))) (around (peak_of arguments)) g.0
      (least head g.1 (omega arith)) (record { peak = omega arith; count = omega arith }) (omega arith) p (omega arith))
  least (update head left index arrow element right) g p =
      let i = least index g.2 (omega arith) in
      let v = least_peak element (expr_tree element) (least element g.3 (omega arith)) in
      let f = first_least index (expr_tree index) (again (expr_tree element)) element i v (omega arith) in
      let next = around (followed (heft (first_before true (again (expr_tree index)) (again (expr_tree element)))) (heft (again (expr_tree element)))).peak in
      top (update head left index arrow element right) (expr_tree (update head left index arrow element right)) refl refl
      (head_least head (expr_tree head) next (around (followed (heft index) (heft element)).peak) g.0
      (least head g.1 (omega arith)) (record { peak = omega arith; count = omega arith }) (omega arith) p (omega arith))
  least (field head dot n) g p =
      top (field head dot n) (expr_tree (field head dot n)) refl refl
      (head_least head (expr_tree head) one one g.0 (least head g.1 (omega arith)) (same one) (omega arith) p (omega arith))
  least (prefixed by place operand) g p = prefix_least by place place operand (expr_tree operand) g.0 (least operand g.1 (omega arith))
  least (binary left row place right) g p =
      binary_least row place (place_of (expr_tree left)) left right (expr_tree left) (expr_tree right) g.0 g.1 g.2 (least left g.3 (omega arith))
      (least right g.4 (omega arith)) p

  all_least : (texts : ExprsText) → AreGrouped texts → peak_of texts < heavy → peak_of (exprs_account true (exprs_tree texts)) ≤ peak_of texts
  all_least no_exprs g p = omega arith
  all_least (last_expr text) g p = least_peak text (expr_tree text) (least text g p)
  all_least (expr_then text comma more) g p =
      more_peak (expr_tree text) (exprs_tree more) (heft text).peak (peak_of more) (least_peak text (expr_tree text) (least text g.0 (omega arith)))
      (all_least more g.1 (omega arith))

pub expressions_are_lightest : ExpressionsAreLightest
expressions_are_lightest text g p = least_peak text (expr_tree text) (least text g p)

-- the same of several, for the crates above
pub expression_lists_are_lightest : (texts : ExprsText) → AreGrouped texts → peak_of texts < heavy
    → peak_of (exprs_account true (exprs_tree texts)) ≤ peak_of texts
expression_lists_are_lightest texts g p = all_least texts g p
