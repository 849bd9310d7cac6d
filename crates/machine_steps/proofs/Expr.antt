-- What grows by operators is accounted for.
use Rattle.machine_stands.proofs.Tokens.{IsOperator, is_operator, on_case}
use Rattle.machine_stands.proofs.Opened.{Head}
use Rattle.machine_stands.proofs.Inside.{OpenAround, OpenOperand}
use Rattle.machine_stands.proofs.Stands.{Stands}
use Rattle.slang_grammar.specs.Parts.{name_token}
use Rattle.slang_grammar.specs.Operators.{prefix_kind, whole_level}
use Rattle.slang_grammar.specs.Expressions.{ExprText, field, prefixed, binary, expr_tokens, level, IsGrouped, prefix_tree, expr_tree}
use Rattle.slang_machine.specs.Open.{Around, alone, inside, under, right_of, argument_of, element_at, element_of, low_of, high_of, body_over, body_over_indices, pull, held, Grown, grown, infix_tree, close}
use Rattle.slang_machine.specs.States.{Operand, whole, dotted, want, have}
use Rattle.slang_machine.specs.Expressions.{operand_tree, next_right}
use Rattle.slang_machine.proofs.Operators.{in_table, pull-small, strength, strong_tight, pulls_operand}
use Rattle.slang_tree.specs.ExprTree.{ExprTree, place_of}
use Rattle.slang_tree.specs.declared.place.Place.{Place}
use Rattle.slang_grammar.specs.declared.operator.Infix.{Infix}
use Rattle.slang_grammar.specs.declared.operator.Prefix.{Prefix}
use Rattle.slang_grammar.specs.declared.operator.Side.{Side}
use Rattle.slang_grammar.specs.declared.operator.Side.TheVariants.{Left, Right}
use Rattle.slang_tokens.specs.Tok.{Tok, sign}
use Rattle.std.proofs.Common.{◌≡◌, ℕ, ◌<◌, ◌≤◌, Bool, true, false, List, [], ◌∷◌, ◌++◌, refl, sym, ap, ◌∙◌, subst, append_assoc, arith, cond, ltb}
use Rattle.std.specs.Option.{IfSome}
use Rattle.std.proofs.lemmas.Bool.{ltb-true}
use Rattle.slang_tree.specs.ExprTree as e
use Rattle.slang_lexer.specs.declared.token.TokenKind.TheVariants as kind

-- what is open pulls no more strongly than a prefix
held_small : (all : List Tok) (around : Around) (rest : List Tok) → OpenAround all around rest → held around ≤ 19
held_small all (right_of left row around) rest h = let p = pull-small Right row (in_table row h.is_row).small in let q = p.1 in omega (arith, q)
held_small all (under by place around) rest h = omega arith
held_small all _ rest h = omega arith

-- What has grown up to what is open: an expression that pulls more strongly than that and than what comes.
pub record Grew (all : List Tok) (least : ℕ) (g : Grown) (rest : List Tok) : Type 0 where
  pub text : ExprText
  pub grouped : IsGrouped text
  pub same : expr_tree text ≡ g.expr
  pub strong : least < strength Right text
  pub weak : held g.around < strength Left text
  pub opened : OpenAround all g.around (expr_tokens text ++ rest)

prefix_same : (by : Prefix) (place : Place) (text : ExprText) (expr : ExprTree) → expr_tree text ≡ expr
    → expr_tree (prefixed by place text) ≡ prefix_tree by place expr
prefix_same by place text expr h = ap (prefix_tree by place) h

infix_same : (row : Infix) (place : Place) (a b : ExprText) (left right : ExprTree) → expr_tree a ≡ left → expr_tree b ≡ right
    → expr_tree (binary a row place b) ≡ infix_tree row left right
infix_same row place a b left right h k =
    ap (λ x. e.binary (place_of x) row.operator x (expr_tree b)) h ∙ ap (λ y. e.binary (place_of left) row.operator left y) k

-- an operand grows by what is open and pulls it
pub grew : (all : List Tok) (least : ℕ) (expr : ExprTree) (around : Around) (rest : List Tok) (text : ExprText) → least ≤ 18 → IsGrouped text
    → expr_tree text ≡ expr → least < strength Right text → held around < strength Left text → OpenAround all around (expr_tokens text ++ rest)
    → Grew all least (close least expr around) rest
grew all least expr (under by place around) rest text small g same strong weak h =
    let held_bound = held_small all around (sign (prefix_kind by) place ∷ expr_tokens text ++ rest) h in
    grew all least (prefix_tree by place expr) around rest (prefixed by place text) small (strong_tight Left text weak, g)
    (prefix_same by place text expr same) (omega (arith, small)) (omega (arith, held_bound)) h
grew all least expr (right_of left row around) rest text small g same strong weak h =
    by (ltb least (pull Right row)) refl (λ e.
    grew all least (infix_tree row left expr) around rest (binary h.text row h.place text) small
    (h.is_row, h.operand, pulls_operand Right row text (in_table row h.is_row).small weak, h.grouped, g)
    (infix_same row h.place h.text text left expr h.same same) (ltb-true least (pull Right row) e) h.pulls
    (subst (OpenAround all around) (sym (append_assoc (expr_tokens h.text) (sign row.sign h.place ∷ expr_tokens text) rest)) h.opened)) where
      by : (b : Bool) → ltb least (pull Right row) ≡ b
          → (ltb least (pull Right row) ≡ true → Grew all least (close least (infix_tree row left expr) around) rest)
          → Grew all least (cond b (close least (infix_tree row left expr) around) (grown expr (right_of left row around))) rest
      by true e grows = grows e
      by false e grows = record { text = text; grouped = g; same = same; strong = strong; weak = weak; opened = h }
grew all least expr (alone at) rest text small g same strong weak h =
    record { text = text; grouped = g; same = same; strong = strong; weak = weak; opened = h }
grew all least expr (inside around) rest text small g same strong weak h =
    record { text = text; grouped = g; same = same; strong = strong; weak = weak; opened = h }
grew all least expr (argument_of head arguments around) rest text small g same strong weak h =
    record { text = text; grouped = g; same = same; strong = strong; weak = weak; opened = h }
grew all least expr (element_at head index around) rest text small g same strong weak h =
    record { text = text; grouped = g; same = same; strong = strong; weak = weak; opened = h }
grew all least expr (element_of place ty elements around) rest text small g same strong weak h =
    record { text = text; grouped = g; same = same; strong = strong; weak = weak; opened = h }
grew all least expr (low_of by place around) rest text small g same strong weak h =
    record { text = text; grouped = g; same = same; strong = strong; weak = weak; opened = h }
grew all least expr (high_of by place low around) rest text small g same strong weak h =
    record { text = text; grouped = g; same = same; strong = strong; weak = weak; opened = h }
grew all least expr (body_over by place low high bound around) rest text small g same strong weak h =
    record { text = text; grouped = g; same = same; strong = strong; weak = weak; opened = h }
grew all least expr (body_over_indices by place head bound around) rest text small g same strong weak h =
    record { text = text; grouped = g; same = same; strong = strong; weak = weak; opened = h }

-- what needs no brackets pulls most strongly
whole_strong : (side : Side) (text : ExprText) → IsGrouped text → level text ≡ whole_level → 22 ≤ strength side text
whole_strong side (prefixed by place operand) g h = absurd (omega (arith, h))
whole_strong side (binary left row place right) g h = let small = (in_table row g.0).small in absurd (omega (arith, h, small))
whole_strong side _ g h = omega arith

pub operand_head : (all : List Tok) (operand : Operand) (around : Around) (rest : List Tok) → OpenOperand all operand around rest
    → Head (operand_tree operand) (OpenAround all around) rest
operand_head all (whole expr) around rest h = h
operand_head all (dotted head written) around rest h =
    let dot = h.opened in
    let inner = dot.opened in
    record {
      text = field inner.text dot.place written;
      grouped = (inner.tight, inner.grouped, h.plain);
      tight = refl;
      same = ap (λ t. e.field (place_of t) t written) inner.same;
      opened = subst (OpenAround all around) (sym (append_assoc (expr_tokens inner.text) (sign kind.Dot dot.place ∷ name_token written ∷ []) rest)) inner.opened;
    }

-- an operand grows up to an operator, or to the end
pub operand_grew : (all : List Tok) (least : ℕ) (operand : Operand) (around : Around) (rest : List Tok) → least ≤ 18 → OpenOperand all operand around rest
    → Grew all least (close least (operand_tree operand) around) rest
operand_grew all least operand around rest small h =
    let head = operand_head all operand around rest h in
    let strong = whole_strong Right head.text head.grouped head.tight in
    let left_strong = whole_strong Left head.text head.grouped head.tight in
    let held_bound = held_small all around (expr_tokens head.text ++ rest) head.opened in
    grew all least (operand_tree operand) around rest head.text small head.grouped head.same (omega (arith, strong, small))
    (omega (arith, left_strong, held_bound)) head.opened

-- an operator takes what has grown
pub next_right_stands : (all : List Tok) (g : Grown) (row : Infix) (token : Tok) (rest : List Tok) → IsOperator token row
    → Grew all (pull Left row) g (token ∷ rest) → IfSome (next_right g row) (λ state. Stands all state rest)
next_right_stands all g row token rest is_operator h =
    on_case (ltb (held g.around) (pull Left row)) (want (right_of g.expr row g.around)) (λ state. Stands all state rest) (λ b. record {
      text = h.text;
      grouped = h.grouped;
      same = h.same;
      is_row = is_operator.is_row;
      operand = pulls_operand Left row h.text (in_table row is_operator.is_row).small h.strong;
      pulls = ltb-true (held g.around) (pull Left row) b;
      place = token.place;
      opened = subst (λ t. OpenAround all g.around (expr_tokens h.text ++ t ∷ rest)) is_operator.same h.opened;
    })

-- a whole operand
pub whole_head : (all : List Tok) (around : Around) (text : ExprText) (expr : ExprTree) (rest : List Tok) → IsGrouped text → level text ≡ whole_level
    → expr_tree text ≡ expr → OpenAround all around (expr_tokens text ++ rest) → Stands all (have (whole expr) around) rest
whole_head all around text expr rest g tight same h = record { text = text; grouped = g; tight = tight; same = same; opened = h }
