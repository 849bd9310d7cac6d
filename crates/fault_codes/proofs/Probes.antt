-- What a state takes of a small number, of `Invariant` and of `!`, and what may come there.
use Rattle.std.proofs.Common.{◌≡◌, ◌||◌, ◌&&◌, ℕ, Bool, true, false, cond, List, [], ◌∷◌, Option, Some, None, refl, sym, ap, ◌∙◌, nat_le}
use Rattle.std.specs.Prelude.{codes}
use Rattle.slang_lexer.specs.Spelling.{is_number}
use Rattle.slang_lexer.specs.declared.token.TokenKind.TheVariants as kind
use Rattle.slang_tree.specs.declared.place.Place.{Place}
use Rattle.slang_tree.specs.ExprTree as e
use Rattle.slang_tree.specs.ExprTree.{ExprTree, exprs_of}
use Rattle.slang_tree.specs.StmtTree as s
use Rattle.slang_tree.specs.StmtTree.{StmtTree}
use Rattle.slang_tokens.specs.Tok.{Tok, sign}
use Rattle.slang_grammar.specs.Parts.{number_token, is_plain, is_numeral}
use Rattle.slang_grammar.specs.Operators.{operators}
use Rattle.slang_grammar.specs.Statements.{value_tree}
use Rattle.slang_machine.specs.Open.{Draft, Block, body_of, then_of, else_of, loop_of, Within, with_stmt, put, Purpose, value_of, assigned_to, Around, alone, argument_of, Consts, close}
use Rattle.slang_machine.specs.States.{State, Operand, whole, part_or_end, stmt_end, else_or_end, have, result_or_type, want, element_or_end, argument_or_end, claim_or_end, call_or_end, loop_claim_or_end, want_const, minus_digits, const_or_end}
use Rattle.slang_machine.specs.Expressions.{is, is_name, is_number_token, leaf_of, prefix_of, next_begin, next_want, next_behind, next_index, next_have, operand_tree, end_or_want}
use Rattle.slang_machine.specs.Statements.{next_stmt_end, next_stmt_end_in, next_part, next_whole}
use Rattle.slang_machine.specs.Declarations.{begin_const}
use Rattle.slang_machine.specs.Machine.{next}
use Rattle.token_cursor.specs.declared.stop.Due.TheVariants as due
use Rattle.token_cursor.specs.Outcome.{due_of}
use Rattle.token_cursor.proofs.Steps.{one_kind}
use Rattle.first_faults.specs.Stops.{has_some, takes}
use Rattle.fault_codes.specs.Codes.{same_due}

true_false : true ≡ false → ⊥
true_false h = cc (h)

abbrev zero_at : Place → Tok
zero_at place = number_token (codes "0") place

-- none of the three leads anywhere
record NoneTaken (f : Tok → Option State) (place : Place) : Type 0 where
  invariant : f (sign kind.Invariant place) ≡ None
  bang : f (sign kind.Bang place) ≡ None
  zero : f (zero_at place) ≡ None

in_block : (stmts : List StmtTree) (block : Block) (place : Place) → NoneTaken (next_stmt_end_in stmts block) place
in_block stmts (body_of draft) place = record { invariant = refl; bang = refl; zero = refl }
in_block stmts (then_of place' test target) place = record { invariant = refl; bang = refl; zero = refl }
in_block stmts (else_of place' test on_true target) place = record { invariant = refl; bang = refl; zero = refl }
in_block stmts (loop_of place' test modifies claims before block) place = record { invariant = refl; bang = refl; zero = refl }

stmt_end_none : (at : Within) (place : Place) → NoneTaken (next_stmt_end at) place
stmt_end_none at place = in_block at.stmts at.block place

whole_none : (expr : ExprTree) (purpose : Purpose) (place : Place) → NoneTaken (next_whole expr purpose) place
whole_none expr (value_of fixed place' written ty at) place = stmt_end_none (with_stmt at (value_tree fixed place' written ty expr)) place
whole_none expr (assigned_to written at) place = stmt_end_none (with_stmt at (s.assignment written expr)) place
whole_none expr _ place = record { invariant = refl; bang = refl; zero = refl }

index_none : (head : ExprTree) (arguments : List ExprTree) (expr : ExprTree) (around : Around) (place : Place)
    → NoneTaken (next_index head arguments expr around) place
index_none head [] expr around place = record { invariant = refl; bang = refl; zero = refl }
index_none head (argument ∷ arguments) expr around place = record { invariant = refl; bang = refl; zero = refl }

behind_none : (expr : ExprTree) (around : Around) (place : Place) → NoneTaken (next_behind next_whole expr around) place
behind_none expr (alone purpose) place = whole_none expr purpose place
behind_none expr (argument_of head arguments around) place =
    let none = index_none head arguments expr around place in
    record { invariant = none.invariant; bang = none.bang; zero = none.zero }
behind_none expr _ place = record { invariant = refl; bang = refl; zero = refl }

have_none : (operand : Operand) (around : Around) (place : Place) → NoneTaken (next_have next_whole operand around) place
unfolding operators
have_none operand around place =
    let g = close 0 (operand_tree operand) around in
    let none = behind_none g.expr g.around place in
    record { invariant = none.invariant; bang = none.bang; zero = none.zero }

abbrev none_to : (A : Type 0) → Option A
none_to A = None

part_none : (least : ℕ) (draft : Draft) (place : Place) → NoneTaken (next_part least draft) place
part_none least draft place = record {
  invariant = same (nat_le least 1);
  bang = same (nat_le least 1);
  zero = same (nat_le least 1);
} where
  same : (b : Bool) → cond b (none_to State) (none_to State) ≡ none_to State
  same true = refl
  same false = refl

-- a number may come, which is then part of an operand or of a constant
abbrev pub takes_number : State → Bool
takes_number (want around) = true
takes_number (element_or_end place ty elements around) = true
takes_number (argument_or_end head arguments around) = true
takes_number (claim_or_end word claims draft) = true
takes_number (call_or_end written arguments at) = true
takes_number (loop_claim_or_end head) = true
takes_number (want_const around) = true
takes_number (minus_digits place around) = true
takes_number (const_or_end around) = true
takes_number _ = false

-- what the state takes of the three, and of any number
pub record Answers (state : State) (place : Place) : Type 0 where
  pub invariant : takes state (sign kind.Invariant place) ≡ same_due (due_of state) due.Invariant
  pub bang : takes state (sign kind.Bang place) ≡ same_due (due_of state) due.Operand
  pub zero : takes state (zero_at place) ≡ (same_due (due_of state) due.Label || takes_number state)
  pub number : (token : Tok) → is_number_token token ≡ true → takes_number state ≡ true → takes state token ≡ true

none : (state : State) (place : Place) → NoneTaken (next state) place → due_of state ≡ due.Other → takes_number state ≡ false → Answers state place
none state place x d n = record {
  invariant = ap has_some x.invariant ∙ sym (ap (λ m. same_due m due.Invariant) d);
  bang = ap has_some x.bang ∙ sym (ap (λ m. same_due m due.Operand) d);
  zero = ap has_some x.zero ∙ sym (ap (λ m. same_due m due.Label || takes_number state) d ∙ n);
  number = λ token h k. absurd (true_false (sym k ∙ n));
}

-- Numbers.

is_number_kind : (token : Tok) → is_number_token token ≡ true → is kind.Number token ≡ true
is_number_kind token h = by (is kind.Number token) (is_numeral token.text) h where
  by : (a b : Bool) → (a && b) ≡ true → a ≡ true
  by true b k = refl
  by false b k = absurd (true_false (sym k))

test_holds : {A : Type 0} (b : Bool) (x : A) (o : Option A) → b ≡ true → has_some (cond b (Some x) o) ≡ true
test_holds true x o h = refl
test_holds false x o h = absurd (true_false (sym h))

skips : {A : Type 0} (b : Bool) (x y : Option A) → b ≡ false → has_some y ≡ true → has_some (cond b x y) ≡ true
skips true x y h k = absurd (true_false h)
skips false x y h k = k

leaf_some : (token : Tok) → is_number_token token ≡ true → has_some (leaf_of token) ≡ true
leaf_some token h =
    let k = is_number_kind token h in
    skips (is kind.True token) _ _ (one_kind kind.Number kind.True token refl k)
    (skips (is kind.False token) _ _ (one_kind kind.Number kind.False token refl k)
    (skips (is_name token) _ _ (ap (λ b. b && is_plain token.text) (one_kind kind.Number kind.Name token refl k)) (test_holds (is_number_token token) _ None h)))

want_number : (around : Around) (token : Tok) → is_number_token token ≡ true → has_some (next_want around token) ≡ true
want_number around token h = by (leaf_of token) (leaf_some token h) where
  by : (leaf : Option ExprTree) → has_some leaf ≡ true → has_some (next_begin around token leaf (prefix_of token)) ≡ true
  by (Some leaf) k = refl
  by None k = absurd (true_false (sym k))

end_number : (end : State) (around : Around) (token : Tok) → is_number_token token ≡ true → has_some (end_or_want end around token) ≡ true
end_number end around token h =
    skips (is kind.RightParen token) _ _ (one_kind kind.Number kind.RightParen token refl (is_number_kind token h)) (want_number around token h)

const_number : (around : Consts) (token : Tok) → is_number_token token ≡ true → has_some (begin_const around token) ≡ true
const_number around token h = test_holds (is_number_token token) _ _ h

pub answers : (state : State) (place : Place) → Answers state place
unfolding is_number
answers (part_or_end least draft) place = none (part_or_end least draft) place (part_none least draft place) refl refl
answers (stmt_end at) place = none (stmt_end at) place (stmt_end_none at place) refl refl
answers (else_or_end place' test on_true target) place =
    let end = stmt_end_none (put target (s.branch place' test on_true s.no_else)) place in
    none (else_or_end place' test on_true target) place (record { invariant = end.invariant; bang = end.bang; zero = end.zero }) refl refl
answers (have operand around) place = none (have operand around) place (have_none operand around place) refl refl
answers (result_or_type place' around) place =
    let end = have_none (whole (e.result place' None)) around place in
    none (result_or_type place' around) place (record { invariant = end.invariant; bang = end.bang; zero = end.zero }) refl refl
answers (want around) place = record { invariant = refl; bang = refl; zero = refl; number = λ token h k. want_number around token h }
answers (element_or_end place' ty elements around) place =
    record { invariant = refl; bang = refl; zero = refl; number = λ token h k. end_number _ _ token h }
answers (argument_or_end head arguments around) place =
    record { invariant = refl; bang = refl; zero = refl; number = λ token h k. end_number _ _ token h }
answers (claim_or_end word claims draft) place =
    record { invariant = refl; bang = refl; zero = refl; number = λ token h k. end_number _ _ token h }
answers (call_or_end written arguments at) place =
    record { invariant = refl; bang = refl; zero = refl; number = λ token h k. end_number _ _ token h }
answers (loop_claim_or_end head) place =
    record { invariant = refl; bang = refl; zero = refl; number = λ token h k. end_number _ _ token h }
answers (want_const around) place = record { invariant = refl; bang = refl; zero = refl; number = λ token h k. const_number around token h }
answers (minus_digits place' around) place =
    record { invariant = refl; bang = refl; zero = refl; number = λ token h k. test_holds (is_number_token token) _ None h }
answers (const_or_end around) place = record {
  invariant = refl;
  bang = refl;
  zero = refl;
  number = λ token h k.
      skips (is kind.RightParen token) _ _ (one_kind kind.Number kind.RightParen token refl (is_number_kind token h)) (const_number around token h);
}
answers _ place = record { invariant = refl; bang = refl; zero = refl; number = λ token h k. absurd (true_false (sym k)) }
