-- What comes behind an expression, among what is open around it; types, names and values.
use Rattle.std.proofs.Common.{◌≡◌, ℕ, ◌+◌, ◌<◌, ◌≤◌, Bool, true, not, List, [], ◌∷◌, ◌++◌, Option, Some, None, refl, ap, ◌∙◌, append_assoc, arith, cond}
use Rattle.std.specs.Prelude.{option_and_then}
use Rattle.std.proofs.lemmas.Bool.{lt-ltb, le-ltb}
use Rattle.slang_lexer.specs.declared.token.TokenKind.TheVariants as kind
use Rattle.slang_values.specs.declared.operators.Quantifier.{Quantifier}
use Rattle.slang_tree.specs.declared.place.Place.{Place}
use Rattle.slang_tree.specs.ExprTree as e
use Rattle.slang_tree.specs.ExprTree.{ExprTree}
use Rattle.slang_tokens.specs.Tok.{Tok, sign}
use Rattle.slang_grammar.specs.declared.operator.Side.TheVariants.{Left, Right}
use Rattle.slang_grammar.specs.declared.operator.Prefix.{Prefix}
use Rattle.slang_grammar.specs.declared.operator.Prefix.TheVariants as prefix
use Rattle.slang_grammar.specs.declared.operator.Infix.{Infix}
use Rattle.slang_grammar.specs.Operators.{infix_of, prefix_kind, whole_level, operators}
use Rattle.slang_grammar.specs.Parts.{name_token, IsPlain, TypeText, z_type, b_type, unit_type, sequence_type, record_type, type_tokens, IsType, type_tree}
use Rattle.slang_tree.specs.TypeTree.{record_name}
use Rattle.slang_tree.specs.DeclTree.{DeclTree}
use Rattle.slang_tree.specs.declared.expression.Name.{Name}
use Rattle.slang_grammar.specs.Expressions.{QuantifierWord, all_word, exists_word, all_sign, exists_sign, quantifier_kind, quantifier_of, BoundText, ExprText, variable, prefixed, binary, expr_tokens, expr_tree, IsGrouped, level}
use Rattle.slang_machine.specs.Open.{Around, alone, inside, under, right_of, argument_of, element_at, element_of, low_of, high_of, body_over, body_over_indices, AroundType, sequence_of, held, pull, Grown, grown, close, infix_tree}
use Rattle.slang_machine.specs.States.{Operand, whole, dotted, Range, ValueWord, want, have, argument_or_end, field_written, want_type, range_left, bound_left, bound_arrow, value_left, value_right}
use Rattle.slang_machine.specs.Expressions.{is, next_begin, operand_tree, next_operator, next_ended, next_behind, next_right, range_of, body_around, value_tree, on}
use Rattle.slang_machine.specs.Declarations.{begin_type, end_type}
use Rattle.slang_machine.specs.Statements.{next_whole}
use Rattle.slang_machine.specs.Machine.{run}
use Rattle.slang_machine.proofs.Operators.{strength, in_table}

-- what is pulled no less strongly than what is open goes no further
pub close_held : (around : Around) (least : ℕ) (expr : ExprTree) → 0 < least → least ≤ 18 → held around < least + 1 → close least expr around ≡ grown expr around
close_held (under by place around) least expr a b h = absurd (omega (arith, a, b, h))
close_held (right_of left row around) least expr a b h =
    ap (λ c. cond c (close least (infix_tree row left expr) around) (grown expr (right_of left row around))) (let p : held
    (right_of left row around) ≤ least = omega (arith, h) in le-ltb least (pull Right row) p)
close_held (alone at) least expr a b h = refl
close_held (inside around) least expr a b h = refl
close_held (argument_of head arguments around) least expr a b h = refl
close_held (element_at head index around) least expr a b h = refl
close_held (element_of place ty elements around) least expr a b h = refl
close_held (low_of by place around) least expr a b h = refl
close_held (high_of by place low around) least expr a b h = refl
close_held (body_over by place low high bound around) least expr a b h = refl
close_held (body_over_indices by place head bound around) least expr a b h = refl

-- What stands behind an expression begins with no `[`.
abbrev pub no_bracket : List Tok → Bool
no_bracket [] = true
no_bracket (token ∷ rest) = not (is kind.LeftBracket token)

-- the operand, read among what is open around it: the same as the whole expression for each operator that it pulls more strongly
-- than, and the expression itself where it needs no brackets
pub record ReadAs (around : Around) (text : ExprText) : Type 0 where
  pub operand : Operand
  pub left : Around
  pub reads : (rest : List Tok) → no_bracket rest ≡ true → run (want around) (expr_tokens text ++ rest) ≡ run (have operand left) rest
  pub closes : (least : ℕ) → least < strength Right text → close least (operand_tree operand) left ≡ close least (expr_tree text) around
  pub tight : level text ≡ whole_level → (left ≡ around) × (operand_tree operand ≡ expr_tree text)

-- an operator takes what has grown
pub after_operator : (row : Infix) (place : Place) (operand : Operand) (expr : ExprTree) (inner around : Around) (rest : List Tok)
    → infix_of row.sign ≡ Some row → held around < pull Left row
    → close (pull Left row) (operand_tree operand) inner ≡ grown expr around
    → run (have operand inner) (sign row.sign place ∷ rest) ≡ run (want (right_of expr row around)) rest
after_operator row place operand expr inner around rest is_row h closed =
    let table = in_table row is_row in
    ap (λ b. option_and_then (λ s. run s rest) (cond b (Some (argument_or_end (operand_tree operand) [] inner)) (cond (is kind.Dot (sign row.sign place))
    (Some (field_written (operand_tree operand) inner)) (next_operator next_whole operand inner (sign row.sign place)
    (infix_of row.sign))))) table.no_paren
    ∙ ap (λ b. option_and_then (λ s. run s rest) (cond b (Some (field_written (operand_tree operand) inner)) (next_operator next_whole operand inner
    (sign row.sign place) (infix_of row.sign)))) table.no_dot
    ∙ ap (λ o. option_and_then (λ s. run s rest) (next_operator next_whole operand inner (sign row.sign place) o)) is_row
    ∙ ap (λ (g : Grown). option_and_then (λ s. run s rest) (next_right g row)) closed
    ∙ ap (λ t. option_and_then (λ s. run s rest) (on t (want (right_of expr row around)))) (lt-ltb (held around) (pull Left row) h)

-- The range of a quantifier stands right below it, so what closes to another place is no range.
abbrev pub IsNoRange : Around → Type 0
IsNoRange target = (by : Quantifier) (place : Place) (outer : Around) → low_of by place outer ≡ target → ⊥

pub no_range_at : (target : Around) → IsNoRange target → (operand : Operand) (left : Around) (least : ℕ) (expr : ExprTree)
    → close least (operand_tree operand) left ≡ grown expr target → range_of operand left ≡ None
no_range_at target no_low (whole expr) left least grew h = refl
no_range_at target no_low (dotted head written) (alone at) least grew h = refl
no_range_at target no_low (dotted head written) (inside outer) least grew h = refl
no_range_at target no_low (dotted head written) (under by place outer) least grew h = refl
no_range_at target no_low (dotted head written) (right_of expr row outer) least grew h = refl
no_range_at target no_low (dotted head written) (argument_of other arguments outer) least grew h = refl
no_range_at target no_low (dotted head written) (element_at other index outer) least grew h = refl
no_range_at target no_low (dotted head written) (element_of place ty elements outer) least grew h = refl
no_range_at target no_low (dotted head written) (low_of by place outer) least grew h = absurd (no_low by place outer (ap (λ (g : Grown). g.around) h))
no_range_at target no_low (dotted head written) (high_of by place low outer) least grew h = refl
no_range_at target no_low (dotted head written) (body_over by place low high bound outer) least grew h = refl
no_range_at target no_low (dotted head written) (body_over_indices by place other bound outer) least grew h = refl

-- behind an expression that was read among what is open
abbrev pub Behind : List Tok → ExprTree → Around → Tok → Option (List DeclTree)
Behind rest expr target token = option_and_then (λ s. run s rest) (next_behind next_whole expr target token)

pub paren_behind : (target : Around) → IsNoRange target → (place : Place) (operand : Operand) (left : Around) (expr : ExprTree) (rest : List Tok)
    → close 0 (operand_tree operand) left ≡ grown expr target
    → run (have operand left) (sign kind.RightParen place ∷ rest) ≡ Behind rest expr target (sign kind.RightParen place)
unfolding operators
paren_behind target no_low place operand left expr rest h =
    ap (λ o. option_and_then (λ s. run s rest) (next_ended next_whole operand left (sign kind.RightParen place) o))
    (no_range_at target no_low operand left 0 expr h)
    ∙ ap (λ (g : Grown). Behind rest g.expr g.around (sign kind.RightParen place)) h

pub comma_behind : (target : Around) (place : Place) (operand : Operand) (left : Around) (expr : ExprTree) (rest : List Tok)
    → close 0 (operand_tree operand) left ≡ grown expr target
    → run (have operand left) (sign kind.Comma place ∷ rest) ≡ Behind rest expr target (sign kind.Comma place)
unfolding operators
comma_behind target place operand left expr rest h = ap (λ (g : Grown). Behind rest g.expr g.around (sign kind.Comma place)) h

pub until_behind : (target : Around) (place : Place) (operand : Operand) (left : Around) (expr : ExprTree) (rest : List Tok)
    → close 0 (operand_tree operand) left ≡ grown expr target
    → run (have operand left) (sign kind.Until place ∷ rest) ≡ Behind rest expr target (sign kind.Until place)
unfolding operators
until_behind target place operand left expr rest h = ap (λ (g : Grown). Behind rest g.expr g.around (sign kind.Until place)) h

pub arrow_behind : (target : Around) (place : Place) (operand : Operand) (left : Around) (expr : ExprTree) (rest : List Tok)
    → close 0 (operand_tree operand) left ≡ grown expr target
    → run (have operand left) (sign kind.TildeArrow place ∷ rest) ≡ Behind rest expr target (sign kind.TildeArrow place)
unfolding operators
arrow_behind target place operand left expr rest h = ap (λ (g : Grown). Behind rest g.expr g.around (sign kind.TildeArrow place)) h

-- Types.

pub read_type : (ty : TypeText) (around : AroundType) (rest : List Tok) → IsType ty → run (want_type around) (type_tokens ty ++ rest)
    ≡ run (end_type (type_tree ty) around) rest
read_type (z_type place) around rest g = refl
read_type (b_type place) around rest g = refl
read_type (unit_type place) around rest g = refl
read_type (sequence_type word left element right) around rest g =
    ap (run (want_type (sequence_of word around))) (append_assoc (type_tokens element) (sign kind.RightBracket right ∷ []) rest)
    ∙ read_type element (sequence_of word around) (sign kind.RightBracket right ∷ rest) g
read_type (record_type n) around rest g = ap (λ b. option_and_then (λ s. run s rest) (begin_type around (name_token n) (on b (record_name n)))) g

pub want_under : (by : Prefix) (place : Place) (around : Around) (rest : List Tok) → run (want around) (sign (prefix_kind by) place ∷ rest)
    ≡ run (want (under by place around)) rest
want_under prefix.Not place around rest = refl
want_under prefix.Minus place around rest = refl

pub name_leaf : (n : Name) (around : Around) (rest : List Tok) → IsPlain n → run (want around) (name_token n ∷ rest)
    ≡ run (have (whole (e.name n.text n.place)) around) rest
name_leaf n around rest g =
    ap (λ b. option_and_then (λ s. run s rest) (next_begin around (name_token n) (cond b (Some (e.name n.text n.place)) None) None)) g

-- a head holds together as tightly as what stands around it allows
pub held_tight : (around : Around) (head : ExprText) → IsGrouped head → level head ≡ whole_level → held around < 22 → held around < strength Left head
held_tight around (prefixed by place operand) g h b = absurd (omega (arith, h))
held_tight around (binary left row place right) g h b = let small = (in_table row g.0).small in absurd (omega (arith, h, small))
held_tight around _ g h b = b

pub want_quantifier : (by : QuantifierWord) (place : Place) (around : Around) (rest : List Tok)
    → run (want around) (sign (quantifier_kind by) place ∷ rest) ≡ run (range_left (quantifier_of by) place around) rest
want_quantifier all_word place around rest = refl
want_quantifier exists_word place around rest = refl
want_quantifier all_sign place around rest = refl
want_quantifier exists_sign place around rest = refl

-- `In` and `Old`
pub read_value : (word : ValueWord) (place left : Place) (n : Name) (right : Place) (around : Around) (rest : List Tok) → IsPlain n
    → run (value_left word place around) (sign kind.LeftParen left ∷ name_token n ∷ sign kind.RightParen right ∷ rest)
    ≡ run (have (whole (value_tree word place n)) around) rest
read_value word place left n right around rest g =
    ap (λ b. option_and_then (λ s. run s (sign kind.RightParen right ∷ rest)) (on b (value_right word place n around))) g

-- the variable of a quantifier
pub read_bound : (by : Quantifier) (place : Place) (range : Range) (bound : BoundText) (around : Around) (rest : List Tok) → IsPlain bound.variable
    → run (bound_left by place range around) (sign kind.LeftParen bound.left ∷ name_token bound.variable ∷ sign kind.FatArrow bound.arrow ∷ rest)
    ≡ run (want (body_around by place range bound.variable around)) rest
read_bound by place range bound around rest g =
    ap (λ b. option_and_then (λ s. run s (sign kind.FatArrow bound.arrow ∷ rest)) (on b (bound_arrow by place range bound.variable around))) g
