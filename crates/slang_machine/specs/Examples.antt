-- The machine, tried on small texts: each account of the grammar is read with its tree, and what is no text is stopped. Each
-- statement is computed.
use Rattle.std.specs.Prelude.{◌≡◌, true, false, [], ◌∷◌, Some, None, codes, refl}
use Rattle.slang_lexer.specs.declared.token.TokenKind.TheVariants as kind
use Rattle.slang_lexer.specs.Spelling.{is_number}
use Rattle.slang_tokens.specs.Tok.{sign}
use Rattle.slang_grammar.specs.Operators.{operators}
use Rattle.slang_grammar.specs.declared.operator.Prefix.TheVariants as prefix
use Rattle.slang_grammar.specs.Expressions.{ExprText, result, entry_value, old_value, sequence, quantified, quantified_indices, bracketed, application, update, field, prefixed, all_word, exists_sign, no_exprs, last_expr, expr_then}
use Rattle.slang_grammar.specs.Proofs.{line, block, let_block, nothing_behind, behind, last_step, step_then, subst_less}
use Rattle.slang_grammar.specs.Statements.{StmtText, value, assignment, call, branch, if_then, no_else, else_block, else_if, loop, no_body, body, assertion, deduction, no_stmts, last_stmt, stmt_then, no_claims, claims_behind}
use Rattle.slang_grammar.specs.Statements as s
use Rattle.slang_grammar.specs.Declarations.{DeclText, import_text, global_text, record_text, method_text, const_minus, const_truth, const_sequence, const_record, no_consts, last_const, const_then, PartText, contract_part, stmt_part, return_part, requires_clause, modifies_clause, ensures_clause, decl_tokens, decl_tree}
use Rattle.slang_grammar.specs.Examples.{at, named, x, plus, times, arrow, conjunction, joined, bound, label, assume, test, empty_block, names, typed, param, signs}
use Rattle.slang_machine.specs.States.{top}
use Rattle.slang_machine.specs.Machine.{run}

-- the account is read with its tree
abbrev IsRead : DeclText → Type 0
IsRead decl = run (top []) (decl_tokens decl) ≡ Some (decl_tree decl ∷ [])

-- a method whose body has this part
abbrev with_part : PartText → DeclText
with_part part = method_text (record {
  word = at 1;
  written = named (codes "f");
  left = at 1;
  params = record { front = (param, at 1) ∷ []; last = Some param };
  right = at 1;
  result =
      typed;
  equals = at 1;
  begin = at 1;
  body = record { front = (part, at 1) ∷ []; last = Some (return_part (at 1) x) };
  end = at 1;
})

-- a method that assigns this expression
abbrev with_expr : ExprText → DeclText
with_expr e = with_part (stmt_part (assignment (named (codes "x")) (at 1) e))

pub import_read : IsRead (import_text (at 1) (named (codes "x")) (record { dot = at 1; written = named (codes "_") } ∷ []))
import_read = refl

pub global_read : IsRead (global_text false (at 1) (named (codes "x")) (Some typed) (at 1) (const_minus (at 1) (codes "12") (at 1)))
unfolding is_number
global_read = refl

pub constants_read : IsRead (global_text true (at 1) (named (codes "x")) None (at 1) (const_sequence (at 1) None (at 1) (const_then (const_record (named
    (codes "x")) (at 1) (last_const (const_truth (at 1))) (at 1)) (at 1) no_consts) (at 1)))
constants_read = refl

pub record_read : IsRead (record_text (at 1) (at 1) (at 1) (named (codes "x")) (at 1) (record {
  front = (
    record {
      fixed = Some (at 1);
      param = param;
    },
    at 1,
  ) ∷ [];
  last = Some (record { fixed = None; param = param });
}) (at 1))
record_read = refl

pub contract_read : IsRead (with_part (contract_part (record {
  word = at 1;
  left = at 1;
  clauses = record {
    front = (requires_clause (at 1) (record { left = at 1; claims = expr_then x (at 1) (last_expr x); right = at 1 }), at 1)
        ∷ (modifies_clause (at 1) names, at 1) ∷ [];
    last = Some (ensures_clause (at 1) (record { left = at 1; claims = last_expr x; right = at 1 }));
  };
  right = at 1;
})))
unfolding operators
contract_read = refl

pub operators_read : IsRead (with_expr (joined (joined x plus (joined x times x)) plus (prefixed prefix.Minus (at 1) x)))
unfolding operators
operators_read = refl

pub arrows_read : IsRead (with_expr (joined x conjunction (joined x arrow (joined x arrow x))))
unfolding operators
arrows_read = refl

pub brackets_read : IsRead (with_expr (application (bracketed (at 1) (joined x plus x) (at 1)) (at 1) (expr_then x (at 1) (last_expr x)) (at 1)))
unfolding operators
brackets_read = refl

pub update_read : IsRead (with_expr (field (update x (at 1) x (at 1) (joined x plus x) (at 1)) (at 1) (named (codes "x"))))
unfolding operators
update_read = refl

pub sequence_read : IsRead (with_expr (sequence (at 1) (Some (record {
  left = at 1;
  ty = typed.ty;
  right = at 1;
})) (at 1) (expr_then x (at 1) no_exprs) (at 1)))
unfolding operators
sequence_read = refl

pub quantifiers_read : IsRead (with_expr (quantified all_word (at 1) (at 1) x (at 1) (joined x plus x) (at 1) bound (quantified_indices exists_sign (at 1)
    (at 1) x (at 1) (at 1) (at 1) bound x)))
unfolding operators
quantifiers_read = refl

pub values_read : IsRead (with_expr (joined (entry_value (at 1) (at 1) (named (codes "x")) (at 1)) plus (old_value (at 1) (at 1) (named (codes "x")) (at 1))))
unfolding operators
values_read = refl

pub result_read : IsRead (with_expr (joined (result (at 1) None) plus (result (at 1) (Some (record { left = at 1; ty = typed.ty; right = at 1 })))))
unfolding operators
result_read = refl

pub value_read : IsRead (with_part (stmt_part (value true (at 1) (named (codes "x")) (Some typed) (at 1) x)))
unfolding operators
value_read = refl

pub call_read : IsRead (with_part (stmt_part (call (named (codes "x")) (at 1) (expr_then x (at 1) no_exprs) (at 1))))
unfolding operators
call_read = refl

pub branch_read : IsRead (with_part (stmt_part (branch (if_then test (s.block (at 1) (last_stmt (assertion (at 1) (at 1) x (at 1))) (at 1)) (else_if (at 1)
    (if_then test empty_block (else_block (at 1) empty_block)))))))
unfolding operators
branch_read = refl

pub loop_read : IsRead (with_part (stmt_part (loop test (at 1) (record {
  word = at 1;
  left = at 1;
  modifies = at 1;
  names = names;
  claims = claims_behind (at 1) (last_expr x);
  right = at 1;
}) (body (at 1) (last_stmt (assignment (named (codes "x")) (at 1) x))) (at 1))))
unfolding operators
loop_read = refl

pub steps_read : IsRead (with_part (stmt_part (deduction (at 1) (at 1)
    (step_then (line label (at 1) x (at 1) (at 1) (subst_less (at 1)) (Some (record {
      left = at 1;
      labels = record {
        front = (label, at 1) ∷ [];
        last = Some label;
      };
      right = at 1;
    }))) (at 1)
    (last_step (let_block label (record {
      word = at 1;
      outer = at 1;
      left = at 1;
      variable = named (codes "x");
      colon = at 1;
      ty = at 1;
      right = at 1;
      arrow = at 1;
    }) assume
    (behind (at 1) (last_step (block label assume nothing_behind (at 1)))) (at 1) (at 1)))) (at 1))))
unfolding operators is_number
steps_read = refl

-- What is no text.

-- `import` and a newline
pub path_is_due : run (top []) (signs (kind.Import ∷ kind.Newline ∷ [])) ≡ None
path_is_due = refl

-- `def x(): Z = { if`, where a `(` is due
pub test_is_due : run (top []) (sign kind.Def (at 1) ∷ record { kind = kind.Name; text = codes "x"; place = at 1 } ∷ signs (kind.LeftParen
    ∷ kind.RightParen ∷ kind.Colon ∷ kind.TypeZ ∷ kind.Equals ∷ kind.LeftBrace ∷ kind.If ∷ kind.LeftBrace ∷ [])) ≡ None
test_is_due = refl
