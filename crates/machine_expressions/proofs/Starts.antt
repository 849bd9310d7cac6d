-- How an expression begins, and lists of expressions in round brackets.
use Rattle.std.proofs.Common.{◌≡◌, true, false, not, List, [], ◌∷◌, ◌++◌, Option, Some, None, refl, sym, ap, ◌∙◌, append_assoc, cond}
use Rattle.std.specs.Prelude.{option_and_then}
use Rattle.std.proofs.lemmas.Bool.{not-true}
use Rattle.slang_lexer.specs.declared.token.TokenKind.TheVariants as kind
use Rattle.slang_values.specs.declared.operators.Quantifier.{Quantifier}
use Rattle.slang_tree.specs.declared.place.Place.{Place}
use Rattle.slang_tree.specs.ExprTree as e
use Rattle.slang_tree.specs.ExprTree.{ExprTree, exprs_of}
use Rattle.slang_tokens.specs.Tok.{Tok, sign, same_kind}
use Rattle.slang_grammar.specs.declared.operator.Prefix.{Prefix}
use Rattle.slang_grammar.specs.declared.operator.Prefix.TheVariants as prefix
use Rattle.slang_grammar.specs.Operators.{prefix_kind, operators}
use Rattle.slang_tree.specs.TypeTree.{TypeTree}
use Rattle.slang_grammar.specs.Expressions.{QuantifierWord, all_word, exists_word, all_sign, exists_sign, quantifier_kind, ExprText, truth, falsity, variable, number, result, entry_value, old_value, sequence, quantified, quantified_indices, bracketed, application as applied, update, field, prefixed, binary, ExprsText, no_exprs, last_expr, expr_then, expr_tokens, exprs_tokens, expr_tree, exprs_tree, expr_trees, indices_token}
use Rattle.slang_machine.specs.Open.{Around, argument_of, element_of, low_of, whole_type, of_result, held, grown, close}
use Rattle.slang_machine.specs.States.{whole, indices_of, State, want, have, argument_or_end, element_or_end, field_written, want_type, bound_left, result_or_type}
use Rattle.slang_machine.specs.Expressions.{is, next_behind, next_want, next_have, end_or_want, application}
use Rattle.slang_machine.specs.Statements.{next_whole}
use Rattle.slang_machine.specs.Machine.{next, run}
use Rattle.machine_expressions.proofs.Behind.{no_bracket, ReadAs, IsNoRange}

-- An expression does not begin with a `)`.
pub record Starts (tokens : List Tok) : Type 0 where
  pub token : Tok
  pub more : List Tok
  pub same : tokens ≡ token ∷ more
  pub no_paren : is kind.RightParen token ≡ false

pub quantifier_no_paren : (by : QuantifierWord) → same_kind (quantifier_kind by) kind.RightParen ≡ false
quantifier_no_paren all_word = refl
quantifier_no_paren exists_word = refl
quantifier_no_paren all_sign = refl
quantifier_no_paren exists_sign = refl

pub prefix_no_paren : (by : Prefix) → same_kind (prefix_kind by) kind.RightParen ≡ false
prefix_no_paren prefix.Not = refl
prefix_no_paren prefix.Minus = refl

pub starts_same : (xs ys rest : List Tok) → Starts (xs ++ (ys ++ rest)) → Starts ((xs ++ ys) ++ rest)
starts_same xs ys rest h = record { token = h.token; more = h.more; same = append_assoc xs ys rest ∙ h.same; no_paren = h.no_paren }

pub starts : (text : ExprText) (rest : List Tok) → Starts (expr_tokens text ++ rest)
starts (number digits place) rest = record { token = _; more = _; same = refl; no_paren = refl }
starts (truth place) rest = record { token = _; more = _; same = refl; no_paren = refl }
starts (falsity place) rest = record { token = _; more = _; same = refl; no_paren = refl }
starts (variable n) rest = record { token = _; more = _; same = refl; no_paren = refl }
starts (result word ty) rest = record { token = _; more = _; same = refl; no_paren = refl }
starts (entry_value word left n right) rest = record { token = _; more = _; same = refl; no_paren = refl }
starts (old_value word left n right) rest = record { token = _; more = _; same = refl; no_paren = refl }
starts (sequence word ty left elements right) rest = record { token = _; more = _; same = refl; no_paren = refl }
starts (quantified by word left low until high right bound body) rest = record { token = _; more = _; same = refl; no_paren = quantifier_no_paren by }
starts (quantified_indices by word left head dot indices right bound body) rest = record { token = _; more = _; same = refl; no_paren = quantifier_no_paren by }
starts (bracketed left inner right) rest = record { token = _; more = _; same = refl; no_paren = refl }
starts (applied head left arguments right) rest =
    starts_same (expr_tokens head ++ sign kind.LeftParen left ∷ exprs_tokens arguments) (sign kind.RightParen right ∷ []) rest
    (starts_same (expr_tokens head) (sign kind.LeftParen left ∷ exprs_tokens arguments) (sign kind.RightParen right ∷ rest) (starts head _))
starts (update head left index arrow element right) rest =
    starts_same ((expr_tokens head ++ sign kind.LeftParen left ∷ expr_tokens index) ++ sign kind.TildeArrow arrow
    ∷ expr_tokens element) (sign kind.RightParen right ∷ []) rest
    (starts_same (expr_tokens head ++ sign kind.LeftParen left ∷ expr_tokens index) (sign kind.TildeArrow arrow
    ∷ expr_tokens element) (sign kind.RightParen right ∷ rest)
    (starts_same (expr_tokens head) (sign kind.LeftParen left ∷ expr_tokens index) (sign kind.TildeArrow arrow ∷ expr_tokens element
    ++ sign kind.RightParen right ∷ rest) (starts head _)))
starts (field head dot n) rest = starts_same (expr_tokens head) _ rest (starts head _)
starts (prefixed by place operand) rest = record { token = _; more = _; same = refl; no_paren = prefix_no_paren by }
starts (binary left row place right) rest = starts_same (expr_tokens left) _ rest (starts left _)

-- Lists of expressions in round brackets: the states where a member or the end is due, the state behind the end, and what is open
-- around a member.
pub record IsList (due over : List ExprTree → State) (member : List ExprTree → Around) : Type 0 where
  pub begins : (trees : List ExprTree) (token : Tok) → next (due trees) token ≡ end_or_want (over trees) (member trees) token
  pub comma : (trees : List ExprTree) (expr : ExprTree) (place : Place) → next_behind next_whole expr (member trees) (sign kind.Comma place)
      ≡ Some (due (trees ++ expr ∷ []))
  pub ends : (trees : List ExprTree) (expr : ExprTree) (place : Place) → next_behind next_whole expr (member trees) (sign kind.RightParen place)
      ≡ Some (over (trees ++ expr ∷ []))
  pub stays : (trees : List ExprTree) (expr : ExprTree) → close 0 expr (member trees) ≡ grown expr (member trees)
  pub loose : (trees : List ExprTree) → held (member trees) ≡ 0
  pub no_range : (trees : List ExprTree) → IsNoRange (member trees)

pub arguments_list : (head : ExprTree) (around : Around) → IsList (λ trees. argument_or_end head trees around) (λ trees. have (whole
    (application head trees)) around) (λ trees. argument_of head trees around)
arguments_list head around = record {
  begins = λ trees token. refl;
  comma = λ trees expr place. refl;
  ends = λ trees expr place. refl;
  stays = λ trees expr. refl;
  loose = λ trees. refl;
  no_range = λ trees by place outer e. cc (e);
}

pub elements_list : (word : Place) (ty : Option TypeTree) (around : Around)
    → IsList (λ trees. element_or_end word ty trees around) (λ trees. have (whole (e.sequence word ty (exprs_of trees))) around)
    (λ trees. element_of word ty trees around)
elements_list word ty around = record {
  begins = λ trees token. refl;
  comma = λ trees expr place. refl;
  ends = λ trees expr place. refl;
  stays = λ trees expr. refl;
  loose = λ trees. refl;
  no_range = λ trees by place outer e. cc (e);
}

-- where a member is due one begins
pub starts_member : (due over : List ExprTree → State) (member : List ExprTree → Around) → IsList due over member
    → (trees : List ExprTree) (text : ExprText) (rest : List Tok)
    → run (due trees) (expr_tokens text ++ rest) ≡ run (want (member trees)) (expr_tokens text ++ rest)
starts_member due over member list trees text rest =
    let s = starts text rest in
    ap (run (due trees)) s.same
    ∙ ap (λ o. option_and_then (λ state. run state s.more) o) (list.begins trees s.token)
    ∙ ap (λ b. option_and_then (λ state. run state s.more) (cond b (Some (over trees)) (next_want (member trees) s.token))) s.no_paren
    ∙ sym (ap (run (want (member trees))) s.same)

pub exprs_trees : (texts : ExprsText) → exprs_of (expr_trees texts) ≡ exprs_tree texts
exprs_trees no_exprs = refl
exprs_trees (last_expr text) = refl
exprs_trees (expr_then text comma more) = ap (e.expr_then (expr_tree text)) (exprs_trees more)

-- no `[` behind `Res`
pub result_ends : (word : Place) (around : Around) (rest : List Tok) → no_bracket rest ≡ true → run (result_or_type word around) rest
    ≡ run (have (whole (e.result word None)) around) rest
result_ends word around [] h = refl
result_ends word around (token ∷ rest) h =
    ap (λ b. option_and_then (λ s. run s rest) (cond b (Some (want_type (whole_type (of_result word around)))) (next_have next_whole (whole
    (e.result word None)) around token))) (not-true _ h)

-- the indices of an operand are the range of a quantifier
pub range_read : (by : Quantifier) (word : Place) (head : ExprTree) (indices right : Place) (around : Around) (rest : List Tok)
    → run (field_written head (low_of by word around)) (indices_token indices ∷ sign kind.RightParen right ∷ rest)
    ≡ run (bound_left by word (indices_of head) around) rest
unfolding operators
range_read by word head indices right around rest = refl

abbrev pub itself : (around : Around) (text : ExprText) → ((rest : List Tok) → no_bracket rest ≡ true → run (want around) (expr_tokens text ++ rest)
    ≡ run (have (whole (expr_tree text)) around) rest) → ReadAs around text
itself around text reads = record { operand = whole (expr_tree text); left = around; reads = reads; closes = λ least h. refl; tight = λ h. (refl, refl) }
