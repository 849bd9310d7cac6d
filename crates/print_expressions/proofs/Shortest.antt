-- No text of the same tree has fewer tokens than what is printed.
use Rattle.std.proofs.Common.{◌≡◌, ℕ, suc, ◌+◌, ◌≤◌, ◌⊎◌, inl, inr, nat_eq, nat_le, Bool, true, false, length, List, [], ◌∷◌, ◌++◌, Option, Some, None, refl, sym, ap, ◌∙◌, subst, arith, length-append, eq-eqb, le-leb}
use Rattle.std.specs.Option.{option_map}
use Rattle.slang_lexer.specs.declared.token.TokenKind.TheVariants as kind
use Rattle.slang_tree.specs.declared.place.Place.{Place}
use Rattle.slang_tree.specs.ExprTree.{ExprTree, ExprTrees, place_of}
use Rattle.slang_tree.specs.ExprTree as e
use Rattle.slang_tokens.specs.Tok.{Tok, sign}
use Rattle.slang_grammar.specs.declared.operator.Side.{Side}
use Rattle.slang_grammar.specs.declared.operator.Side.TheVariants.{Left, Right}
use Rattle.slang_grammar.specs.declared.operator.Prefix.{Prefix}
use Rattle.slang_grammar.specs.declared.operator.Prefix.TheVariants as prefix
use Rattle.slang_grammar.specs.declared.operator.Infix.{Infix}
use Rattle.slang_grammar.specs.Operators.{infix_of, prefix_level, whole_level}
use Rattle.slang_grammar.specs.Parts.{TypeText, z_type, b_type, unit_type, sequence_type, record_type, type_tokens, type_tree, ElementText, element_tokens, element_tree, optional, name_token}
use Rattle.slang_grammar.specs.Expressions.{ExprText, number, truth, falsity, variable, result, entry_value, old_value, sequence, quantified, quantified_indices, bracketed, application, update, field, prefixed, binary, ExprsText, no_exprs, last_expr, expr_then, bound_tokens, indices_token, expr_tokens, exprs_tokens, level, joins, IsOperand, IsGrouped, AreGrouped, prefix_tree, expr_tree, exprs_tree}
use Rattle.print_expressions.specs.Hefts.{stays}
use Rattle.print_expressions.specs.Accounts.{type_account, element_account, in_brackets_unless, is_operand, as_operand, as_prefixed, as_head, left_stays, right_stays, head_stays, first_stays, expr_account, exprs_account}
use Rattle.print_expressions.specs.Laws.{ExpressionsAreShortest}
use Rattle.print_expressions.proofs.Rows.{row_back, operand_from}

-- ---- counts of tokens

abbrev type_count : TypeText → ℕ
type_count (sequence_type word left element right) = type_count element + 3
type_count other = 1

abbrev element_count : Option ElementText → ℕ
element_count None = 0
element_count (Some ty) = type_count ty.ty + 2

abbrev mutual
  count : ExprText → ℕ
  count (number digits place) = 1
  count (truth place) = 1
  count (falsity place) = 1
  count (variable n) = 1
  count (result word ty) = element_count ty + 1
  count (entry_value word left n right) = 4
  count (old_value word left n right) = 4
  count (sequence word ty left elements right) = element_count ty + counts elements + 3
  count (quantified by word left low until high right bound body) = count low + count high + count body + 8
  count (quantified_indices by word left head dot indices right bound body) = count head + count body + 9
  count (bracketed left inner right) = count inner + 2
  count (application head left arguments right) = count head + counts arguments + 2
  count (update head left index arrow element right) = count head + count index + count element + 3
  count (field head dot n) = count head + 2
  count (prefixed by place operand) = count operand + 1
  count (binary left row place right) = count left + count right + 1

  counts : ExprsText → ℕ
  counts no_exprs = 0
  counts (last_expr text) = count text
  counts (expr_then text comma more) = count text + counts more + 1

type_counted : (text : TypeText) → length (type_tokens text) ≡ type_count text
type_counted (z_type place) = refl
type_counted (b_type place) = refl
type_counted (unit_type place) = refl
type_counted (sequence_type word left element right) =
    omega (arith, type_counted element, length-append (type_tokens element) (sign kind.RightBracket right ∷ []))
type_counted (record_type written) = refl

element_counted : (ty : Option ElementText) → length (optional element_tokens ty) ≡ element_count ty
element_counted None = refl
element_counted (Some ty) = omega (arith, type_counted ty.ty, length-append (type_tokens ty.ty) (sign kind.RightBracket ty.right ∷ []))

-- a token between two parts
between : (a : List Tok) (x : Tok) (b : List Tok) (n m : ℕ) → length a ≡ n → length b ≡ m → length (a ++ (x ∷ b)) ≡ n + m + 1
between a x b n m h k = omega (arith, length-append a (x ∷ b))

-- behind what may stand in front
behind : (a b : List Tok) (n m : ℕ) → length a ≡ n → length b ≡ m → length (a ++ b) ≡ n + m
behind a b n m h k = omega (arith, length-append a b)

more : (n m : ℕ) {k : ℕ} → k ≡ n → n ≡ m → k ≡ m
more n m h e = h ∙ e

mutual
  counted : (text : ExprText) → length (expr_tokens text) ≡ count text
  counted (number digits place) = refl
  counted (truth place) = refl
  counted (falsity place) = refl
  counted (variable n) = refl
  counted (result word ty) = omega (arith, element_counted ty)
  counted (entry_value word left n right) = refl
  counted (old_value word left n right) = refl
  counted (sequence word ty left elements right) =
      let front = behind (optional element_tokens ty) (sign kind.LeftParen left ∷ exprs_tokens elements) (element_count ty) (suc (counts elements))
      (element_counted ty) (ap suc (all_counted elements)) in
      let all = between (optional element_tokens ty ++ (sign kind.LeftParen left ∷ exprs_tokens elements)) (sign kind.RightParen right) []
      (element_count ty + suc (counts elements)) 0 front refl in
      more (suc (element_count ty + suc (counts elements) + 0 + 1)) (element_count ty + counts elements + 3) (ap suc all) (omega arith)
  counted (quantified by word left low until high right bound body) =
      let last = between (expr_tokens body) (sign kind.RightParen bound.right) [] (count body) 0 (counted body) refl in
      let range = between (expr_tokens low) (sign kind.Until until) (expr_tokens high) (count low) (count high) (counted low) (counted high) in
      let all = between (expr_tokens low ++ (sign kind.Until until ∷ expr_tokens high)) (sign kind.RightParen right) (bound_tokens bound (expr_tokens body))
      (count low + count high + 1) (count body + 4) range
      (more (suc (suc (suc (count body + 0 + 1)))) (count body + 4) (ap (λ n. suc (suc (suc n))) last) (omega arith)) in
      more (suc (suc (count low + count high + 1 + (count body + 4) + 1))) (count low + count high + count body + 8) (ap (λ n. suc (suc n)) all) (omega arith)
  counted (quantified_indices by word left head dot indices right bound body) =
      let last = between (expr_tokens body) (sign kind.RightParen bound.right) [] (count body) 0 (counted body) refl in
      let all = between (expr_tokens head) (sign kind.Dot dot) (indices_token indices ∷ sign kind.RightParen right ∷ bound_tokens bound (expr_tokens body))
      (count head) (count body + 6) (counted head)
      (more (suc (suc (suc (suc (suc (count body + 0 + 1)))))) (count body + 6) (ap (λ n. suc (suc (suc (suc (suc n))))) last) (omega arith)) in
      more (suc (suc (count head + (count body + 6) + 1))) (count head + count body + 9) (ap (λ n. suc (suc n)) all) (omega arith)
  counted (bracketed left inner right) =
      let all = between (expr_tokens inner) (sign kind.RightParen right) [] (count inner) 0 (counted inner) refl in
      more (suc (count inner + 0 + 1)) (count inner + 2) (ap suc all) (omega arith)
  counted (application head left arguments right) =
      let front = between (expr_tokens head) (sign kind.LeftParen left) (exprs_tokens arguments) (count head) (counts arguments) (counted head)
      (all_counted arguments) in
      let all = between (expr_tokens head ++ (sign kind.LeftParen left ∷ exprs_tokens arguments)) (sign kind.RightParen right) []
      (count head + counts arguments + 1) 0 front refl in
      more (count head + counts arguments + 1 + 0 + 1) (count head + counts arguments + 2) all (omega arith)
  counted (update head left index arrow element right) =
      let front = between (expr_tokens head) (sign kind.LeftParen left) (expr_tokens index) (count head) (count index) (counted head) (counted index) in
      let both = between (expr_tokens head ++ (sign kind.LeftParen left ∷ expr_tokens index)) (sign kind.TildeArrow arrow) (expr_tokens element)
      (count head + count index + 1) (count element) front (counted element) in
      let all = between (expr_tokens head ++ (sign kind.LeftParen left ∷ expr_tokens index) ++ (sign kind.TildeArrow arrow ∷ expr_tokens element))
      (sign kind.RightParen right) [] (count head + count index + 1 + count element + 1) 0 both refl in
      more (count head + count index + 1 + count element + 1 + 0 + 1) (count head + count index + count element + 3) all (omega arith)
  counted (field head dot n) =
      let all = between (expr_tokens head) (sign kind.Dot dot) (name_token n ∷ []) (count head) 1 (counted head) refl in
      more (count head + 1 + 1) (count head + 2) all (omega arith)
  counted (prefixed by place operand) = more (suc (count operand)) (count operand + 1) (ap suc (counted operand)) (omega arith)
  counted (binary left row place right) = between (expr_tokens left) (sign row.sign place) (expr_tokens right) (count left) (count right) (counted left) (counted right)

  all_counted : (texts : ExprsText) → length (exprs_tokens texts) ≡ counts texts
  all_counted no_exprs = refl
  all_counted (last_expr text) = counted text
  all_counted (expr_then text comma others) =
      between (expr_tokens text) (sign kind.Comma comma) (exprs_tokens others) (count text) (counts others) (counted text) (all_counted others)

-- ---- types

type_short : (text : TypeText) → type_count (type_account (type_tree text)) ≤ type_count text
type_short (z_type place) = omega arith
type_short (b_type place) = omega arith
type_short (unit_type place) = omega arith
type_short (sequence_type word left element right) = omega (arith, type_short element)
type_short (record_type written) = omega arith

element_short : (ty : Option ElementText) → element_count (option_map element_account (option_map element_tree ty)) ≤ element_count ty
element_short None = omega arith
element_short (Some ty) = omega (arith, type_short ty.ty)

-- ---- brackets

-- what is printed of a tree begins with the same form as a text of it, and is not longer
record SameTop (text : ExprText) (tree : ExprTree) : Type 0 where
  same_level : level (expr_account false tree) ≡ level text
  same_joins : joins (expr_account false tree) ≡ joins text
  no_more : count (expr_account false tree) ≤ count text

-- that, or there is room for brackets
abbrev IsTight : ExprText → ExprTree → Type 0
IsTight text tree = SameTop text tree ⊎ (count (expr_account false tree) + 2 ≤ count text)

not_longer : (text : ExprText) (tree : ExprTree) → IsTight text tree → count (expr_account false tree) ≤ count text
not_longer text tree (inl same) = same.no_more
not_longer text tree (inr slack) = omega arith

in_more : (b : Bool) (text : ExprText) → count (in_brackets_unless b text) ≤ count text + 2
in_more true text = omega arith
in_more false text = omega arith

placed_short : (b : Bool) (text : ExprText) (tree : ExprTree) → IsTight text tree → (SameTop text tree → b ≡ true) →
    count (in_brackets_unless b (expr_account false tree)) ≤ count text
placed_short b text tree (inl same) stands = subst (λ c. count (in_brackets_unless c (expr_account false tree)) ≤ count text) (sym (stands same)) same.no_more
placed_short b text tree (inr slack) stands = omega (arith, in_more b (expr_account false tree))

head_short : (text : ExprText) (tree : ExprTree) → level text ≡ whole_level → IsTight text tree → count (as_head (expr_account false tree)) ≤ count text
head_short text tree h t =
    placed_short (nat_eq (level (expr_account false tree)) whole_level) text tree t
    (λ same. eq-eqb (level (expr_account false tree)) whole_level (same.same_level ∙ h))

prefixed_short : (text : ExprText) (tree : ExprTree) → prefix_level ≤ level text → IsTight text tree → count (as_prefixed (expr_account false tree)) ≤ count text
prefixed_short text tree h t =
    placed_short (nat_le prefix_level (level (expr_account false tree))) text tree t
    (λ same. le-leb prefix_level (level (expr_account false tree)) (let s = same.same_level in omega arith))

stands_too : (side : Side) (row : Infix) (text : ExprText) (tree : ExprTree) → IsOperand side row text → SameTop text tree → IsOperand side row (expr_account false tree)
stands_too side row text tree (inl h) same = let s = same.same_level in inl (omega arith)
stands_too side row text tree (inr h) same = inr (same.same_level ∙ h.0, h.1, same.same_joins ∙ h.2)

operand_short : (side : Side) (row : Infix) (text : ExprText) (tree : ExprTree) → IsOperand side row text → IsTight text tree →
    count (as_operand side row (expr_account false tree)) ≤ count text
operand_short side row text tree h t =
    placed_short (is_operand side row (expr_account false tree)) text tree t
    (λ same. operand_from side row (expr_account false tree) (stands_too side row text tree h same))

-- ---- forms

prefix_tight : (by : Prefix) (at place : Place) (text : ExprText) (tree : ExprTree) → count (as_prefixed (expr_account false tree)) ≤ count text →
    IsTight (prefixed by at text) (prefix_tree by place tree)
prefix_tight prefix.Not at place text tree h = inl (record { same_level = refl; same_joins = refl; no_more = omega arith })
prefix_tight prefix.Minus at place text tree h = inl (record { same_level = refl; same_joins = refl; no_more = omega arith })

binary_tight : (row : Infix) (at place : Place) (left right : ExprText) (l r : ExprTree) → infix_of row.sign ≡ Some row → IsOperand Left row left →
    IsOperand Right row right → IsTight left l → IsTight right r → IsTight (binary left row at right) (e.binary place row.operator l r)
unfolding left_stays right_stays stays
binary_tight row at place left right l r found on_left on_right tl tr =
    let back = row_back row.sign row found in
    inl (record {
      same_level = ap (λ (own : Infix). own.level) back;
      same_joins = ap (λ (own : Infix). Some own.joins) back;
      no_more = subst
          (λ (own : Infix). count (binary (as_operand Left own (expr_account false l)) own at (as_operand Right own (expr_account false r))) ≤ count left + count right + 1)
          (sym back) (omega (arith, operand_short Left row left l on_left tl, operand_short Right row right r on_right tr));
    })

more_short : (tree : ExprTree) (trees : ExprTrees) (n m : ℕ) → count (expr_account false tree) ≤ n → counts (exprs_account false trees) ≤ m →
    counts (exprs_account false (e.expr_then tree trees)) ≤ n + m + 1
more_short tree e.no_exprs n m h k = omega arith
more_short tree (e.expr_then next trees) n m h k = omega arith

mutual
  unfolding head_stays first_stays stays

  tight : (text : ExprText) → IsGrouped text → IsTight text (expr_tree text)
  tight (number digits place) g = inl (record { same_level = refl; same_joins = refl; no_more = omega arith })
  tight (truth place) g = inl (record { same_level = refl; same_joins = refl; no_more = omega arith })
  tight (falsity place) g = inl (record { same_level = refl; same_joins = refl; no_more = omega arith })
  tight (variable n) g = inl (record { same_level = refl; same_joins = refl; no_more = omega arith })
  tight (result word ty) g = inl (record { same_level = refl; same_joins = refl; no_more = omega (arith, element_short ty) })
  tight (entry_value word left n right) g = inl (record { same_level = refl; same_joins = refl; no_more = omega arith })
  tight (old_value word left n right) g = inl (record { same_level = refl; same_joins = refl; no_more = omega arith })
  tight (sequence word ty left elements right) g =
      inl (record { same_level = refl; same_joins = refl; no_more = omega (arith, element_short ty, all_short elements g.1) })
  tight (quantified by word left low until high right bound body) g =
      let l = not_longer low (expr_tree low) (tight low g.0) in
      let h = not_longer high (expr_tree high) (tight high g.1) in
      let b = not_longer body (expr_tree body) (tight body g.3) in
      inl (record { same_level = refl; same_joins = refl; no_more = omega arith })
  tight (quantified_indices by word left head dot indices right bound body) g =
      let h = head_short head (expr_tree head) g.0 (tight head g.1) in
      let b = not_longer body (expr_tree body) (tight body g.3) in
      inl (record { same_level = refl; same_joins = refl; no_more = omega arith })
  tight (bracketed left inner right) g = let i = not_longer inner (expr_tree inner) (tight inner g) in inr (omega arith)
  tight (application head left arguments right) g =
      let h = head_short head (expr_tree head) g.0 (tight head g.1) in
      let a = all_short arguments g.2 in
      inl (record { same_level = refl; same_joins = refl; no_more = omega arith })
  tight (update head left index arrow element right) g =
      let h = head_short head (expr_tree head) g.0 (tight head g.1) in
      let i = not_longer index (expr_tree index) (tight index g.2) in
      let x = not_longer element (expr_tree element) (tight element g.3) in
      inl (record { same_level = refl; same_joins = refl; no_more = omega arith })
  tight (field head dot n) g =
      let h = head_short head (expr_tree head) g.0 (tight head g.1) in
      inl (record { same_level = refl; same_joins = refl; no_more = omega arith })
  tight (prefixed by place operand) g =
      prefix_tight by place place operand (expr_tree operand) (prefixed_short operand (expr_tree operand) g.0 (tight operand g.1))
  tight (binary left row place right) g =
      binary_tight row place (place_of (expr_tree left)) left right (expr_tree left) (expr_tree right) g.0 g.1 g.2 (tight left g.3) (tight right g.4)

  all_short : (texts : ExprsText) → AreGrouped texts → counts (exprs_account false (exprs_tree texts)) ≤ counts texts
  all_short no_exprs g = omega arith
  all_short (last_expr text) g = not_longer text (expr_tree text) (tight text g)
  all_short (expr_then text comma more) g =
      let h = not_longer text (expr_tree text) (tight text g.0) in
      let m = all_short more g.1 in
      more_short (expr_tree text) (exprs_tree more) (count text) (counts more) h m

pub expressions_are_shortest : ExpressionsAreShortest
expressions_are_shortest text g =
    omega (arith, counted text, counted (expr_account false (expr_tree text)), not_longer text (expr_tree text) (tight text g))
