-- What is printed of an expression is in the grammar, and has the same tree without places.
use Rattle.std.proofs.Common.{not, ◌≡◌, ℕ, ◌^◌, ◌<◌, ◌≤◌, inl, nat_eq, nat_le, nat_lt, Bool, true, false, pos, List, Option, Some, None, IsTrue, refl, sym, ap, ap₂, ◌∙◌, subst, arith, ltb-true, leb-true, eqb-true}
use Rattle.std.specs.Option.{option_map}
use Rattle.std.proofs.lemmas.Bool.{and_parts}
use Rattle.slang_lexer.specs.declared.token.TokenKind.{TokenKind}
use Rattle.slang_lexer.specs.Spelling.{is_number}
use Rattle.slang_lexer.specs.Next.{value_of as number_value}
use Rattle.slang_tree.specs.declared.place.Place.{Place}
use Rattle.slang_tree.specs.TypeTree.{sequence_name}
use Rattle.slang_tree.specs.ExprTree.{ExprTree, ExprTrees, place_of}
use Rattle.slang_tree.specs.ExprTree as e
use Rattle.slang_grammar.specs.declared.operator.Side.{Side}
use Rattle.slang_grammar.specs.declared.operator.Side.TheVariants.{Left, Right}
use Rattle.slang_grammar.specs.declared.operator.Prefix.{Prefix}
use Rattle.slang_grammar.specs.declared.operator.Prefix.TheVariants as prefix
use Rattle.slang_grammar.specs.declared.operator.Infix.{Infix}
use Rattle.slang_grammar.specs.Operators.{infix_of, prefix_level, whole_level}
use Rattle.slang_grammar.specs.Parts.{TypeText, z_type, b_type, unit_type, sequence_type, record_type, IsType, type_tree, ElementText, IsElement, element_tree, IfWritten, is_numeral}
use Rattle.slang_grammar.specs.Expressions.{QuantifierWord, all_word, exists_word, all_sign, exists_sign, quantifier_of, ExprText, number, truth, falsity, variable, result, entry_value, old_value, sequence, quantified, quantified_indices, bracketed, application, update, field, prefixed, binary, ExprsText, no_exprs, last_expr, expr_then, level, IsOperand, IsGrouped, AreGrouped, prefix_tree, expr_tree, exprs_tree}
use Rattle.print_expressions.specs.Bare.{nowhere, bare_name, bare_type, bare_expr, bare_exprs}
use Rattle.print_expressions.specs.Hefts.{Heft, one, around, followed, heft, peak_of, stays, is_lighter}
use Rattle.print_expressions.specs.Accounts.{type_account, element_account, word_of, in_brackets_unless, is_operand, as_operand, as_prefixed, as_head, left_stays, left_operand, right_stays, right_operand, head_stays, head_before, first_stays, first_before, binary_account, application_account, update_account, expr_account, exprs_account}
use Rattle.print_expressions.specs.Laws.{ExpressionsReadBack}
use Rattle.print_expressions.proofs.Numerals.{numerals_read_back}
use Rattle.print_expressions.proofs.Rows.{row_back, row_loose, operand_to}

pub bare_place : (tree : ExprTree) → place_of (bare_expr tree) ≡ nowhere
bare_place (e.number place z) = refl
bare_place (e.truth place) = refl
bare_place (e.falsity place) = refl
bare_place (e.name text place) = refl
bare_place (e.result place ty) = refl
bare_place (e.entry_value place written) = refl
bare_place (e.old_value place written) = refl
bare_place (e.minus place operand) = refl
bare_place (e.negation place operand) = refl
bare_place (e.binary place operator left right) = refl
bare_place (e.application place head arguments) = refl
bare_place (e.update place head index element) = refl
bare_place (e.field place head written) = refl
bare_place (e.sequence place ty elements) = refl
bare_place (e.quantified place quantifier low high named body) = refl
bare_place (e.quantified_indices place quantifier head named body) = refl

-- ---- types

pub type_back : (text : TypeText) → IsType text → IsType (type_account (type_tree text)) × (type_tree (type_account (type_tree text)) ≡ bare_type (type_tree text))
type_back (z_type place) h = (tt, refl)
type_back (b_type place) h = (tt, refl)
type_back (unit_type place) h = (tt, refl)
type_back (sequence_type word left element right) h =
    let p = type_back element h in (p.0, ap (sequence_name nowhere) p.1)
type_back (record_type written) h = (h, refl)

element_back : (ty : Option ElementText) → IfWritten IsElement ty →
    IfWritten IsElement (option_map element_account (option_map element_tree ty))
    × (option_map element_tree (option_map element_account (option_map element_tree ty)) ≡ option_map bare_type (option_map element_tree ty))
element_back None h = (tt, refl)
element_back (Some ty) h = let p = type_back ty.ty h in (p.0, ap Some p.1)

-- ---- brackets

-- what stands without brackets may stand so
may_stay : (light may : Bool) (bare enclosed : Heft) → stays light may bare enclosed ≡ true → may ≡ true
unfolding stays
may_stay false may bare enclosed h = h
may_stay true may bare enclosed h = (and_parts may (not (is_lighter enclosed bare)) h).0

in_tree : (b : Bool) (text : ExprText) → expr_tree (in_brackets_unless b text) ≡ expr_tree text
in_tree true text = refl
in_tree false text = refl

in_grouped : (b : Bool) (text : ExprText) → IsGrouped text → IsGrouped (in_brackets_unless b text)
in_grouped true text g = g
in_grouped false text g = g

whole_if : (b : Bool) (text : ExprText) → (b ≡ true → nat_eq (level text) whole_level ≡ true) → level (in_brackets_unless b text) ≡ whole_level
whole_if true text h = eqb-true (level text) whole_level (h refl)
whole_if false text h = refl

head_level : (text : ExprText) → level (as_head text) ≡ whole_level
head_level text = whole_if (nat_eq (level text) whole_level) text (λ h. h)

before_level : (light : Bool) (text : ExprText) (next : Heft) → level (head_before light text next) ≡ whole_level
unfolding head_stays
before_level light text next = whole_if (head_stays light text next) text (may_stay light (nat_eq (level text) whole_level) _ _)

prefixed_level : (text : ExprText) → prefix_level ≤ level (as_prefixed text)
prefixed_level text = at (nat_le prefix_level (level text)) refl
  where
    at : (b : Bool) → nat_le prefix_level (level text) ≡ b → prefix_level ≤ level (in_brackets_unless b text)
    at true h = leb-true prefix_level (level text) h
    at false h = omega arith

operand_if : (side : Side) (row : Infix) (text : ExprText) → row.level < whole_level → (b : Bool) → (b ≡ true → is_operand side row text ≡ true)
    → IsOperand side row (in_brackets_unless b text)
operand_if side row text loose true h = operand_to side row text (h refl)
operand_if side row text loose false h = inl loose

left_is : (light : Bool) (row : Infix) (left right : ExprText) → row.level < whole_level → IsOperand Left row (left_operand light row left right)
unfolding left_stays
left_is light row left right loose = operand_if Left row left loose (left_stays light row left right) (may_stay light (is_operand Left row left) _ _)

right_is : (light : Bool) (row : Infix) (left right : ExprText) → row.level < whole_level → IsOperand Right row (right_operand light row left right)
unfolding right_stays
right_is light row left right loose = operand_if Right row right loose (right_stays light row left right) (may_stay light (is_operand Right row right) _ _)

module _ (light : Bool) where
  abbrev IsBack : ExprTree → Type 0
  IsBack tree = IsGrouped (expr_account light tree) × (expr_tree (expr_account light tree) ≡ bare_expr tree)

  abbrev AreBack : ExprTrees → Type 0
  AreBack trees = AreGrouped (exprs_account light trees) × (exprs_tree (exprs_account light trees) ≡ bare_exprs trees)

  -- ---- in brackets or not

  placed_tree : (b : Bool) (tree : ExprTree) → IsBack tree → expr_tree (in_brackets_unless b (expr_account light tree)) ≡ bare_expr tree
  placed_tree b tree h = in_tree b (expr_account light tree) ∙ h.1

  placed_place : (b : Bool) (tree : ExprTree) → IsBack tree → place_of (expr_tree (in_brackets_unless b (expr_account light tree))) ≡ nowhere
  placed_place b tree h = ap place_of (placed_tree b tree h) ∙ bare_place tree

  placed_grouped : (b : Bool) (tree : ExprTree) → IsBack tree → IsGrouped (in_brackets_unless b (expr_account light tree))
  placed_grouped b tree h = in_grouped b (expr_account light tree) h.0

  -- ---- forms

  prefixed_back : (by : Prefix) (place : Place) (tree : ExprTree) → IsBack tree → IsBack (prefix_tree by place tree)
  prefixed_back prefix.Not place tree h =
      let b = nat_le prefix_level (level (expr_account light tree)) in
      ((prefixed_level (expr_account light tree), placed_grouped b tree h), ap (e.negation nowhere) (placed_tree b tree h))
  prefixed_back prefix.Minus place tree h =
      let b = nat_le prefix_level (level (expr_account light tree)) in
      ((prefixed_level (expr_account light tree), placed_grouped b tree h), ap (e.minus nowhere) (placed_tree b tree h))

  binary_back : (sign : TokenKind) (row : Infix) (place : Place) (left right : ExprTree) → infix_of sign ≡ Some row → row.sign ≡ sign → IsBack left
      → IsBack right → IsBack (e.binary place row.operator left right)
  binary_back sign row place left right found same l r =
      let back = row_back sign row found in
      let loose = row_loose sign row found in
      let a = left_stays light row (expr_account light left) (expr_account light right) in
      let b = right_stays light row (expr_account light left) (expr_account light right) in
      subst (λ (own : Infix). IsGrouped (binary_account light own (expr_account light left) (expr_account light right))
      × (expr_tree (binary_account light own (expr_account light left) (expr_account light right))
      ≡ e.binary nowhere row.operator (bare_expr left) (bare_expr right)))
      (sym back) (
        (
          ap infix_of same ∙ found,
          left_is light row (expr_account light left) (expr_account light right) loose,
          right_is light row (expr_account light left) (expr_account light right) loose,
          placed_grouped a left l,
          placed_grouped b right r,
        ),
        ap₂ (λ (t : ExprTree) (p : Place). e.binary p row.operator t (expr_tree (in_brackets_unless b (expr_account light right)))) (placed_tree a left l)
            (placed_place a left l)
            ∙ ap (e.binary nowhere row.operator (bare_expr left)) (placed_tree b right r),
      )

  more_back : (tree : ExprTree) (trees : ExprTrees) → IsBack tree → AreBack trees → AreBack (e.expr_then tree trees)
  more_back tree e.no_exprs h k = (h.0, ap (λ t. e.expr_then t e.no_exprs) h.1)
  more_back tree (e.expr_then next trees) h k = ((h.0, k.0), ap₂ e.expr_then h.1 k.1)

word_back : (by : QuantifierWord) → quantifier_of (word_of (quantifier_of by)) ≡ quantifier_of by
word_back all_word = refl
word_back exists_word = refl
word_back all_sign = refl
word_back exists_sign = refl

-- ---- expressions

small : (digits : List ℕ) → IsTrue (is_numeral digits) → number_value digits < 2 ^ 127
small digits h = ltb-true (number_value digits) (2 ^ 127) (and_parts (is_number digits) (nat_lt (number_value digits) (2 ^ 127)) h).1

module _ (light : Bool) where
  -- the account of the tree of a text
  abbrev again : ExprText → ExprText
  again text = expr_account light (expr_tree text)

  mutual
    expr_back : (text : ExprText) → IsGrouped text → IsBack light (expr_tree text)
    expr_back (number digits place) g =
        let p = numerals_read_back (number_value digits) (small digits g) in (p.0, ap (λ n. e.number nowhere (pos n)) p.1)
    expr_back (truth place) g = (tt, refl)
    expr_back (falsity place) g = (tt, refl)
    expr_back (variable n) g = (g, refl)
    expr_back (result word ty) g = let p = element_back ty g in (p.0, ap (e.result nowhere) p.1)
    expr_back (entry_value word left n right) g = (g, refl)
    expr_back (old_value word left n right) g = (g, refl)
    expr_back (sequence word ty left elements right) g =
        let p = element_back ty g.0 in
        let q = exprs_back elements g.1 in
        ((p.0, q.0), ap₂ (e.sequence nowhere) p.1 q.1)
    expr_back (quantified by word left low until high right bound body) g =
        let l = expr_back low g.0 in
        let h = expr_back high g.1 in
        let b = expr_back body g.3 in
        let x = first_stays light (again low) (again high) in (
          (placed_grouped light x (expr_tree low) l, h.0, g.2, b.0),
          ap₂ (λ q t. e.quantified nowhere q t (expr_tree (again high)) (bare_name bound.variable) (expr_tree (again body))) (word_back by)
              (placed_tree light x (expr_tree low) l)
              ∙ ap₂ (λ t u. e.quantified nowhere (quantifier_of by) (bare_expr (expr_tree low)) t (bare_name bound.variable) u) h.1 b.1,
        )
    expr_back (quantified_indices by word left head dot indices right bound body) g =
        let h = expr_back head g.1 in
        let b = expr_back body g.3 in
        let x = nat_eq (level (again head)) whole_level in (
          (head_level (again head), placed_grouped light x (expr_tree head) h, g.2, b.0),
          ap (λ q. e.quantified_indices nowhere q (expr_tree (as_head (again head))) (bare_name bound.variable) (expr_tree (again body))) (word_back by)
              ∙ ap₂ (λ t u. e.quantified_indices nowhere (quantifier_of by) t (bare_name bound.variable) u) (placed_tree light x (expr_tree head) h) b.1,
        )
    expr_back (bracketed left inner right) g = expr_back inner g
    expr_back (application head left arguments right) g =
        let h = expr_back head g.1 in
        let a = exprs_back arguments g.2 in
        let next = around (peak_of (exprs_account light (exprs_tree arguments))) in
        let x = head_stays light (again head) next in (
          (before_level light (again head) next, placed_grouped light x (expr_tree head) h, a.0),
          ap (λ p. e.application p (expr_tree (head_before light (again head) next)) (exprs_tree (exprs_account light (exprs_tree arguments))))
              (placed_place light x (expr_tree head) h)
              ∙ ap₂ (e.application nowhere) (placed_tree light x (expr_tree head) h) a.1,
        )
    expr_back (update head left index arrow element right) g =
        let h = expr_back head g.1 in
        let i = expr_back index g.2 in
        let v = expr_back element g.3 in
        let first = first_before light (again index) (again element) in
        let next = around (followed (heft first) (heft (again element))).peak in
        let x = head_stays light (again head) next in
        let y = first_stays light (again index) (again element) in (
          (before_level light (again head) next, placed_grouped light x (expr_tree head) h, placed_grouped light y (expr_tree index) i, v.0),
          ap₂ (λ p t. e.update p t (expr_tree first) (expr_tree (again element))) (placed_place light x (expr_tree head) h)
              (placed_tree light x (expr_tree head) h)
              ∙ ap₂ (e.update nowhere (bare_expr (expr_tree head))) (placed_tree light y (expr_tree index) i) v.1,
        )
    expr_back (field head dot n) g =
        let h = expr_back head g.1 in
        let x = head_stays light (again head) one in (
          (before_level light (again head) one, placed_grouped light x (expr_tree head) h, g.2),
          ap₂ (λ p t. e.field p t (bare_name n)) (placed_place light x (expr_tree head) h) (placed_tree light x (expr_tree head) h),
        )
    expr_back (prefixed by place operand) g = prefixed_back light by place (expr_tree operand) (expr_back operand g.1)
    expr_back (binary left row place right) g =
        binary_back light row.sign row (place_of (expr_tree left)) (expr_tree left) (expr_tree right) g.0 refl (expr_back left g.3) (expr_back right g.4)

    exprs_back : (texts : ExprsText) → AreGrouped texts → AreBack light (exprs_tree texts)
    exprs_back no_exprs g = (tt, refl)
    exprs_back (last_expr text) g = let p = expr_back text g in (p.0, ap (λ t. e.expr_then t e.no_exprs) p.1)
    exprs_back (expr_then text comma more) g =
        more_back light (expr_tree text) (exprs_tree more) (expr_back text g.0) (exprs_back more g.1)

pub expressions_read_back : ExpressionsReadBack
expressions_read_back light text g = expr_back light text g

-- the same of several, for the crates above
pub expression_lists_read_back : (light : Bool) (texts : ExprsText) → AreGrouped texts →
    AreGrouped (exprs_account light (exprs_tree texts)) × (exprs_tree (exprs_account light (exprs_tree texts)) ≡ bare_exprs (exprs_tree texts))
expression_lists_read_back light texts g = exprs_back light texts g
