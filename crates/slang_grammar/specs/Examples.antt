-- The definitions of the grammar, tried on small texts: each statement is computed. An account is spelled as its form says, and
-- has the tree of that form.
use Rattle.std.specs.Prelude.{◌≡◌, ℕ, false, List, [], ◌∷◌, map, Some, None, codes, refl}
use Rattle.std.proofs.Common.{inl, inr, arith}
use Rattle.slang_lexer.specs.declared.token.TokenKind.{TokenKind}
use Rattle.slang_lexer.specs.declared.token.TokenKind.TheVariants as kind
use Rattle.slang_tree.specs.declared.place.Place.{Place}
use Rattle.slang_tree.specs.declared.expression.Name.{Name}
use Rattle.slang_tree.specs.declared.expression.Operator.TheVariants as o
use Rattle.slang_tree.specs.ExprTree as t
use Rattle.slang_tree.specs.ExprTree.{ExprTree}
use Rattle.slang_tokens.specs.Tok.{Tok, sign}
use Rattle.slang_lexer.specs.Statement.{ends_statement, begins_statement}
use Rattle.slang_tokens.specs.Kinds.{counted_kinds}
use Rattle.slang_tokens.specs.Newlines.{standing}
use Rattle.slang_tokens.specs.Weights.{weight}
use Rattle.slang_grammar.specs.declared.operator.Side.TheVariants.{Left, Right}
use Rattle.slang_grammar.specs.declared.operator.Infix.{Infix}
use Rattle.slang_grammar.specs.Operators.{entry, operators}
use Rattle.slang_grammar.specs.Parts.{LabelText, NamesText, TypedText, z_type, sequence_type}
use Rattle.slang_grammar.specs.Expressions.{ExprText, variable, sequence, quantified, quantified_indices, bracketed, application, update, field, binary, all_word, exists_sign, BoundText, no_exprs, last_expr, expr_then, expr_tokens, expr_tree, IsGrouped}
use Rattle.slang_grammar.specs.Proofs.{AssumeText, line, block, nothing_behind, last_step, step_then, subst_less, steps_tokens}
use Rattle.slang_grammar.specs.Statements.{TestText, BlockText, StmtText, value, assignment, call, branch, if_then, no_else, else_block, else_if, loop, no_body, body, assertion, deduction, no_stmts, last_stmt, stmt_then, no_claims, claims_behind, stmt_tokens}
use Rattle.slang_grammar.specs.Statements as s
use Rattle.slang_grammar.specs.Declarations.{ParamText, import_text, global_text, record_text, method_text, const_minus, contract_part, return_part, requires_clause, modifies_clause, decl_tokens}

-- a place in the first line
abbrev pub at : ℕ → Place
at col = record { line = 1; col = col }

abbrev pub named : List ℕ → Name
named text = record { text = text; place = at 1 }

abbrev pub x : ExprText
x = variable (named (codes "x"))

-- the kinds of tokens
abbrev pub kinds : List Tok → List TokenKind
kinds tokens = map (λ (token : Tok). token.kind) tokens

abbrev pub signs : List TokenKind → List Tok
signs kinds = map (λ k. sign k (at 1)) kinds

-- Newlines.

-- a newline behind a name stands
pub newline_stands : kinds (standing [] (signs (kind.Name ∷ kind.Newline ∷ kind.Newline ∷ kind.Name ∷ []))) ≡ kind.Name ∷ kind.Newline ∷ kind.Name ∷ []
unfolding ends_statement begins_statement
newline_stands = refl

-- but not in round brackets
pub newline_in_brackets : kinds (standing [] (signs (kind.LeftParen ∷ kind.Name ∷ kind.Newline ∷ kind.Name ∷ []))) ≡ kind.LeftParen ∷ kind.Name ∷ kind.Name ∷ []
unfolding ends_statement begins_statement
newline_in_brackets = refl

-- nor between the `)` of a test and a `{`, where one behind another `)` stands
pub newline_behind_test : kinds (standing [] (signs (kind.If ∷ kind.LeftParen ∷ kind.Name ∷ kind.RightParen ∷ kind.Newline ∷ kind.LeftBrace ∷ [])))
    ≡ kind.If ∷ kind.LeftParen ∷ kind.Name ∷ kind.RightParen ∷ kind.LeftBrace ∷ []
unfolding ends_statement begins_statement
newline_behind_test = refl

pub newline_behind_call : kinds (standing [] (signs (kind.Name ∷ kind.LeftParen ∷ kind.Name ∷ kind.RightParen ∷ kind.Newline ∷ kind.LeftBrace ∷ [])))
    ≡ kind.Name ∷ kind.LeftParen ∷ kind.Name ∷ kind.RightParen ∷ kind.Newline ∷ kind.LeftBrace ∷ []
unfolding ends_statement begins_statement
newline_behind_call = refl

-- Weights.

-- what was counted before a comma counts no more, and what was counted around the bracket does
pub weight_behind_comma : weight (signs (kind.Minus ∷ kind.LeftParen ∷ kind.Minus ∷ kind.Minus ∷ kind.Comma ∷ kind.Minus ∷ [])) ≡ 3
unfolding counted_kinds
weight_behind_comma = refl

pub weight_behind_bracket : weight (signs (kind.Minus ∷ kind.LeftParen ∷ kind.Minus ∷ kind.Minus ∷ kind.RightParen ∷ kind.Dot ∷ [])) ≡ 3
unfolding counted_kinds
weight_behind_bracket = refl

-- Expressions.

abbrev pub plus : Infix
plus = entry kind.Plus o.Add 7 Left

abbrev pub times : Infix
times = entry kind.Star o.Mul 8 Left

abbrev pub arrow : Infix
arrow = entry kind.DashArrow o.Imply 7 Right

abbrev pub conjunction : Infix
conjunction = entry kind.Ampersand o.And 3 Left

abbrev pub joined : ExprText → Infix → ExprText → ExprText
joined left row right = binary left row (at 2) right

-- `x + x * x` is `x + (x * x)` and nothing else
pub product_first : IsGrouped (joined x plus (joined x times x))
unfolding operators
product_first = (refl, inl (omega arith), inl (omega arith), refl, (refl, inl (omega arith), inl (omega arith), refl, refl))

pub sum_is_no_factor : IsGrouped (joined (joined x plus x) times x) → ⊥
unfolding operators
sum_is_no_factor g = elim g.1 [ inl h ↦ omega (arith, h) | inr h ↦ let e = h.0 in omega (arith, e) ]

-- `x + x ->: x` is nothing
pub no_mixed_chain : IsGrouped (joined (joined x plus x) arrow x) → ⊥
unfolding operators
no_mixed_chain g = elim g.1 [ inl h ↦ omega (arith, h) | inr h ↦ right_left h.1 ] where
  right_left : Right ≡ Left → ⊥
  right_left e = cc (e)

pub no_mixed_chain_to_the_right : IsGrouped (joined x plus (joined x arrow x)) → ⊥
unfolding operators
no_mixed_chain_to_the_right g = elim g.2 [ inl h ↦ omega (arith, h) | inr h ↦ left_right h.1 ] where
  left_right : Left ≡ Right → ⊥
  left_right e = cc (e)

-- `x & x ->: x` is `x & (x ->: x)`
pub arrow_first : IsGrouped (joined x conjunction (joined x arrow x))
unfolding operators
arrow_first = (refl, inl (omega arith), inl (omega arith), refl, (refl, inl (omega arith), inl (omega arith), refl, refl))

-- `(x + x)(x)` has a head, and `x + x(x)` is a sum
pub head_in_brackets : IsGrouped (application (bracketed (at 1) (joined x plus x) (at 2)) (at 3) (last_expr x) (at 4))
unfolding operators
head_in_brackets = (refl, (refl, inl (omega arith), inl (omega arith), refl, refl), refl)

pub sum_is_no_head : IsGrouped (application (joined x plus x) (at 3) (last_expr x) (at 4)) → ⊥
sum_is_no_head g = let e = g.0 in omega (arith, e)

-- round brackets leave nothing in the tree, and the place is that of what they hold
pub brackets_leave_nothing : expr_tree (bracketed (at 1) (variable (record { text = codes "x"; place = at 2 })) (at 3)) ≡ t.name (codes "x") (at 2)
brackets_leave_nothing = refl

-- `All(x until x)(x => x)`, and `∃(x.indices)(x => x)`
abbrev pub bound : BoundText
bound = record { left = at 1; variable = named (codes "x"); arrow = at 1; right = at 1 }

pub quantifier_spelled : kinds (expr_tokens (quantified all_word (at 1) (at 1) x (at 1) x (at 1) bound x))
    ≡ kind.All ∷ kind.LeftParen ∷ kind.Name ∷ kind.Until ∷ kind.Name ∷ kind.RightParen ∷ kind.LeftParen ∷ kind.Name ∷ kind.FatArrow ∷ kind.Name
    ∷ kind.RightParen ∷ []
quantifier_spelled = refl

pub indices_spelled : kinds (expr_tokens (quantified_indices exists_sign (at 1) (at 1) x (at 1) (at 1) (at 1) bound x))
    ≡ kind.ExistsSign ∷ kind.LeftParen ∷ kind.Name ∷ kind.Dot ∷ kind.Name ∷ kind.RightParen ∷ kind.LeftParen ∷ kind.Name ∷ kind.FatArrow ∷ kind.Name
    ∷ kind.RightParen ∷ []
indices_spelled = refl

-- `ISZ[ISZ[Z]](x,)`, with a comma behind the last element
pub sequence_spelled : kinds (expr_tokens (sequence (at 1) (Some (record {
  left = at 1;
  ty = sequence_type (at 1) (at 1) (z_type (at 1)) (at 1);
  right = at 1;
})) (at 1) (expr_then x (at 1) no_exprs) (at 1)))
    ≡ kind.TypeIsz ∷ kind.LeftBracket ∷ kind.TypeIsz ∷ kind.LeftBracket ∷ kind.TypeZ ∷ kind.RightBracket ∷ kind.RightBracket ∷ kind.LeftParen ∷ kind.Name
    ∷ kind.Comma ∷ kind.RightParen ∷ []
sequence_spelled = refl

-- `x(x ~> x).f`
pub update_spelled : kinds (expr_tokens (field (update x (at 1) x (at 1) x (at 1)) (at 1) (named (codes "f"))))
    ≡ kind.Name ∷ kind.LeftParen ∷ kind.Name ∷ kind.TildeArrow ∷ kind.Name ∷ kind.RightParen ∷ kind.Dot ∷ kind.Name ∷ []
update_spelled = refl

-- Steps.

abbrev pub label : LabelText
label = record { digits = codes "1"; place = at 1 }

abbrev pub assume : AssumeText
assume = record { word = at 1; left = at 1; label = label; assume = at 1; claim_left = at 1; claim = x; claim_right = at 1 }

-- `1 (x) by Subst_<(1, 1)`, `1 SubProof(1 Assume(x))`
pub steps_spelled : kinds (steps_tokens (step_then (line label (at 1) x (at 1) (at 1) (subst_less (at 1)) (Some (record {
  left = at 1;
  labels = record { front = (label, at 1) ∷ []; last = Some label };
  right = at 1;
}))) (at 1) (last_step (block label assume nothing_behind (at 1)))))
    ≡ kind.Number ∷ kind.LeftParen ∷ kind.Name ∷ kind.RightParen ∷ kind.By ∷ kind.SubstLess ∷ kind.LeftParen ∷ kind.Number ∷ kind.Comma ∷ kind.Number
    ∷ kind.RightParen ∷ kind.Comma
    ∷ kind.Number ∷ kind.SubProof ∷ kind.LeftParen ∷ kind.Number ∷ kind.Assume ∷ kind.LeftParen ∷ kind.Name ∷ kind.RightParen ∷ kind.RightParen ∷ []
steps_spelled = refl

-- Statements.

abbrev pub test : TestText
test = record { word = at 1; left = at 1; test = x; right = at 1 }

abbrev pub empty_block : BlockText
empty_block = s.block (at 1) no_stmts (at 1)

-- `if (x) { } else if (x) { }`
pub branch_spelled : kinds (stmt_tokens (branch (if_then test empty_block (else_if (at 1) (if_then test empty_block no_else)))))
    ≡ kind.If ∷ kind.LeftParen ∷ kind.Name ∷ kind.RightParen ∷ kind.LeftBrace ∷ kind.RightBrace ∷ kind.Else
    ∷ kind.If ∷ kind.LeftParen ∷ kind.Name ∷ kind.RightParen ∷ kind.LeftBrace ∷ kind.RightBrace ∷ []
branch_spelled = refl

abbrev pub names : NamesText
names = record { left = at 1; names = record { front = []; last = Some (named (codes "x")) }; right = at 1 }

-- `while (x) { Invariant(Modifies(x), x) <newline> x = x }`
pub loop_spelled : kinds (stmt_tokens (loop test (at 1) (record {
  word = at 1;
  left = at 1;
  modifies = at 1;
  names = names;
  claims = claims_behind (at 1) (last_expr x);
  right = at 1;
}) (body (at 1) (last_stmt (assignment (named (codes "x")) (at 1) x))) (at 1)))
    ≡ kind.While ∷ kind.LeftParen ∷ kind.Name ∷ kind.RightParen ∷ kind.LeftBrace ∷ kind.Invariant ∷ kind.LeftParen ∷ kind.Modifies ∷ kind.LeftParen
    ∷ kind.Name ∷ kind.RightParen ∷ kind.Comma ∷ kind.Name ∷ kind.RightParen
    ∷ kind.Newline ∷ kind.Name ∷ kind.Equals ∷ kind.Name ∷ kind.RightBrace ∷ []
loop_spelled = refl

-- Declarations.

abbrev pub typed : TypedText
typed = record { colon = at 1; ty = z_type (at 1) }

-- `import x.x`, `var x: Z = -1`, `@datatype class x(val x: Z, x: Z)`
pub import_spelled : kinds (decl_tokens (import_text (at 1) (named (codes "x")) (record { dot = at 1; written = named (codes "_") } ∷ []))) ≡ kind.Import
    ∷ kind.Name ∷ kind.Dot ∷ kind.Name ∷ []
import_spelled = refl

pub global_spelled : kinds (decl_tokens (global_text false (at 1) (named (codes "x")) (Some typed) (at 1) (const_minus (at 1) (codes "1") (at 1))))
    ≡ kind.Var ∷ kind.Name ∷ kind.Colon ∷ kind.TypeZ ∷ kind.Equals ∷ kind.Minus ∷ kind.Number ∷ []
global_spelled = refl

abbrev pub param : ParamText
param = record { written = named (codes "x"); ty = typed }

pub record_spelled : kinds (decl_tokens (record_text (at 1) (at 1) (at 1) (named (codes "x")) (at 1) (record {
  front = (
    record {
      fixed = Some (at 1);
      param = param;
    },
    at 1,
  ) ∷ [];
  last = Some (record { fixed = None; param = param });
}) (at 1)))
    ≡ kind.At ∷ kind.Name ∷ kind.Class ∷ kind.Name ∷ kind.LeftParen ∷ kind.Val ∷ kind.Name ∷ kind.Colon ∷ kind.TypeZ ∷ kind.Comma ∷ kind.Name ∷ kind.Colon
    ∷ kind.TypeZ ∷ kind.RightParen ∷ []
record_spelled = refl

-- `def x(): Z = { Contract(Requires(x), Modifies(x)) <newline> return x }`
pub method_spelled : kinds (decl_tokens (method_text (record {
  word = at 1;
  written = named (codes "x");
  left = at 1;
  params = record { front = []; last = None };
  right = at 1;
  result = typed;
  equals = at 1;
  begin =
      at 1;
  body = record {
    front = (
      contract_part (record {
        word = at 1;
        left = at 1;
        clauses = record {
          front = (
            requires_clause (at 1) (record {
              left = at 1;
              claims = last_expr x;
              right = at 1;
            }),
            at 1,
          ) ∷ [];
          last = Some (modifies_clause (at 1) names);
        };
        right = at 1;
      }),
      at 1,
    ) ∷ [];
    last = Some (return_part (at 1) x);
  };
  end = at 1;
})))
    ≡ kind.Def ∷ kind.Name ∷ kind.LeftParen ∷ kind.RightParen ∷ kind.Colon ∷ kind.TypeZ ∷ kind.Equals ∷ kind.LeftBrace
    ∷ kind.Contract ∷ kind.LeftParen ∷ kind.Requires ∷ kind.LeftParen ∷ kind.Name ∷ kind.RightParen ∷ kind.Comma ∷ kind.Modifies ∷ kind.LeftParen
    ∷ kind.Name ∷ kind.RightParen ∷ kind.RightParen
    ∷ kind.Newline ∷ kind.Return ∷ kind.Name ∷ kind.RightBrace ∷ []
method_spelled = refl
