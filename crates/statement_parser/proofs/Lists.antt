-- Lists of names, of labels that are cited, and of claims and arguments.
use Rattle.std.proofs.Common.{◌≡◌, true, false, cond, List, [], ◌∷◌, ◌++◌, Some, refl, sym, ap, ◌∙◌}
use Rattle.std.specs.Option.{option_map}
use Rattle.slang_lexer.specs.declared.token.TokenKind.TheVariants as kind
use Rattle.slang_tree.specs.declared.place.Place.{Place}
use Rattle.slang_tree.specs.declared.expression.Name.{Name}
use Rattle.slang_tree.specs.declared.statement.Label.{Label}
use Rattle.slang_tree.specs.ExprTree.{ExprTree, exprs_of}
use Rattle.slang_tree.specs.StmtTree as s
use Rattle.slang_tokens.specs.Tok.{Tok}
use Rattle.slang_machine.specs.Open.{Draft, Within, with_stmt, Labelled, ClaimWord, alone, clause_claim, loop_claim, argument_of_call}
use Rattle.slang_machine.specs.States.{State, NamesOf, first_name, name_end, name_or_end, claim_or_end, call_or_end, loop_claim_end, loop_claim_or_end, invariant_end, cites_or_end, cite_due, cite_end, cite_or_end, step_end}
use Rattle.slang_machine.specs.Expressions.{is, is_name, name_of, on}
use Rattle.slang_machine.specs.Statements.{end_names, end_claims, label_of, with_line, next_step_end, after_stmt}
use Rattle.token_cursor.specs.Outcome.{outcome}
use Rattle.token_cursor.specs.Gives.{Expects, ExpectsName}
use Rattle.token_cursor.specs.Lists.{begins, behind, member_end}
use Rattle.token_cursor.proofs.Steps.{expects_name}
use Rattle.token_cursor.proofs.Turns.{or_end, end_by}
use Rattle.expression_parser.specs.Expects.{ExprList, ReadsExprs}
use Rattle.statement_parser.specs.Expects.{ExpectsLabel, NoEnd, head_of_loop}
use Rattle.statement_parser.proofs.Reading.{takes_it, passes_by}

-- Names.

abbrev pub name_state : List Name → NamesOf → State
name_state [] of = first_name of
name_state (written ∷ names) of = name_or_end (written ∷ names) of

pub name_due : (names : List Name) (of : NamesOf) (tokens : List Tok) → NoEnd names tokens → ExpectsName tokens (name_state names of) (λ n. name_end (names ++ n ∷ []) of)
name_due [] of tokens h = expects_name _ _ refl refl (λ token. refl)
name_due (written ∷ names) of tokens h = record {
  at_end = refl;
  no_other = refl;
  step = λ token rest e.
      let all : List Name = written ∷ names in
      ap (λ b. cond b (Some (end_names all of)) (on (is_name token) (name_end (all ++ name_of token ∷ []) of))) (sym (ap (begins kind.RightParen) e) ∙ h);
}

pub name_member : (names : List Name) (written : Name) (of : NamesOf) → name_state (names ++ written ∷ []) of ≡ name_or_end (names ++ written ∷ []) of
name_member [] written of = refl
name_member (name ∷ names) written of = refl

pub name_turn : (names : List Name) (of : NamesOf) (tokens : List Tok)
    → outcome (name_end names of) tokens ≡ member_end kind.Comma kind.RightParen (name_or_end names of) (end_names names of) tokens
name_turn names of tokens =
    let either : State = name_or_end names of in
    let over : State = end_names names of in
    end_by kind.Comma kind.RightParen (name_end names of) either either over tokens refl refl refl
    (λ token rest e h. ap (λ b. cond b (Some either) (on (is kind.RightParen token) over)) h)
    (λ token rest e h. ap (λ b. cond b (Some either) (on (is kind.RightParen token) over)) h)
    (λ rest. or_end kind.RightParen either either over rest refl refl
    (λ token h. ap (λ b. cond b (Some over) (on (is_name token) (name_end (names ++ name_of token ∷ []) of))) h) (λ token h. refl))

-- Labels that are cited.

abbrev pub cite_state : ExprTree → Name → List Label → Labelled → State
cite_state claim rule [] at = cite_due claim rule at
cite_state claim rule (label ∷ cites) at = cite_or_end claim rule (label ∷ cites) at

pub cite_expected : (claim : ExprTree) (rule : Name) (cites : List Label) (at : Labelled) (tokens : List Tok) → NoEnd cites tokens
    → ExpectsLabel tokens (cite_state claim rule cites at) (λ l. cite_end claim rule (cites ++ l ∷ []) at)
cite_expected claim rule [] at tokens h = record { at_end = refl; label = refl; step = λ token rest e. refl }
cite_expected claim rule (label ∷ cites) at tokens h = record {
  at_end = refl;
  label = refl;
  step = λ token rest e.
      let all : List Label = label ∷ cites in
      ap (λ b. cond b (Some (step_end (with_line claim rule all at) at.around)) (option_map (λ l. cite_end claim rule (all ++ l ∷ []) at) (label_of token)))
      (sym (ap (begins kind.RightParen) e) ∙ h);
}

pub cite_member : (claim : ExprTree) (rule : Name) (cites : List Label) (label : Label) (at : Labelled)
    → cite_state claim rule (cites ++ label ∷ []) at ≡ cite_or_end claim rule (cites ++ label ∷ []) at
cite_member claim rule [] label at = refl
cite_member claim rule (cite ∷ cites) label at = refl

pub cite_turn : (claim : ExprTree) (rule : Name) (cites : List Label) (at : Labelled) (tokens : List Tok)
    → outcome (cite_end claim rule cites at) tokens
    ≡ member_end kind.Comma kind.RightParen (cite_or_end claim rule cites at) (step_end (with_line claim rule cites at) at.around) tokens
cite_turn claim rule cites at tokens =
    let either : State = cite_or_end claim rule cites at in
    let over : State = step_end (with_line claim rule cites at) at.around in
    end_by kind.Comma kind.RightParen (cite_end claim rule cites at) either either over tokens refl refl refl
    (λ token rest e h. ap (λ b. cond b (Some either) (on (is kind.RightParen token) over)) h)
    (λ token rest e h. ap (λ b. cond b (Some either) (on (is kind.RightParen token) over)) h)
    (λ rest. or_end kind.RightParen either either over rest refl refl
    (λ token h. ap (λ b. cond b (Some over) (option_map (λ l. cite_end claim rule (cites ++ l ∷ []) at) (label_of token))) h) (λ token h. refl))

pub cites_absent : (claim : ExprTree) (rule : Name) (at : Labelled) (tokens : List Tok) → begins kind.LeftParen tokens ≡ false
    → outcome (cites_or_end claim rule at) tokens ≡ outcome (step_end (with_line claim rule [] at) at.around) tokens
cites_absent claim rule at tokens h =
    passes_by kind.LeftParen (cites_or_end claim rule at) (step_end (with_line claim rule [] at) at.around) tokens h refl refl
    (λ token g. ap (λ b. cond b (Some (cite_due claim rule at)) (next_step_end (with_line claim rule [] at) at.around token)) g)

pub cites_open : (claim : ExprTree) (rule : Name) (at : Labelled) (tokens : List Tok) → begins kind.LeftParen tokens ≡ true
    → outcome (cites_or_end claim rule at) tokens ≡ outcome (cite_due claim rule at) (behind tokens)
cites_open claim rule at tokens h =
    takes_it kind.LeftParen (cites_or_end claim rule at) (cite_due claim rule at) tokens h
    (λ token g. ap (λ b. cond b (Some (cite_due claim rule at)) (next_step_end (with_line claim rule [] at) at.around token)) g)

-- Claims and arguments.

abbrev pub claim_list : ClaimWord → Draft → ExprList
claim_list word draft = record {
  member = λ claims. alone (clause_claim word claims draft);
  member_or_end = λ claims. claim_or_end word claims draft;
  over = λ claims. end_claims word claims draft;
}

pub reads_claims : (word : ClaimWord) (draft : Draft) → ReadsExprs (claim_list word draft) 0
reads_claims word draft = record {
  each = λ claims few. record {
    begins = record { apart = refl; no_range = refl };
    at_end = refl;
    operand = refl;
    next_member = λ token. refl;
    behind = λ expr token. refl;
  };
}

abbrev pub loop_claim_list : Place → ExprTree → List Name → Within → ExprList
loop_claim_list place test names at = record {
  member = λ claims. alone (loop_claim (head_of_loop place test names claims at));
  member_or_end = λ claims. loop_claim_or_end (head_of_loop place test names claims at);
  over = λ claims. invariant_end (head_of_loop place test names claims at);
}

pub reads_loop_claims : (place : Place) (test : ExprTree) (names : List Name) (at : Within) → ReadsExprs (loop_claim_list place test names at) 0
reads_loop_claims place test names at = record {
  each = λ claims few. record {
    begins = record { apart = refl; no_range = refl };
    at_end = refl;
    operand = refl;
    next_member = λ token. refl;
    behind = λ expr token. refl;
  };
}

pub loop_claims_open : (place : Place) (test : ExprTree) (names : List Name) (at : Within) (tokens : List Tok) → begins kind.Comma tokens ≡ true
    → outcome (loop_claim_end (head_of_loop place test names [] at)) tokens ≡ outcome (loop_claim_or_end (head_of_loop place test names [] at)) (behind tokens)
loop_claims_open place test names at tokens h =
    let head = head_of_loop place test names [] at in
    takes_it kind.Comma (loop_claim_end head) (loop_claim_or_end head) tokens h
    (λ token g. ap (λ b. cond b (Some (loop_claim_or_end head)) (on (is kind.RightParen token) (invariant_end head))) g)

pub loop_claims_over : (place : Place) (test : ExprTree) (names : List Name) (at : Within) (tokens tokens' : List Tok) → tokens' ≡ tokens → begins kind.Comma tokens ≡ false
    → Expects kind.RightParen tokens' (loop_claim_end (head_of_loop place test names [] at)) (invariant_end (head_of_loop place test names [] at))
loop_claims_over place test names at tokens tokens' m h = record {
  at_end = refl;
  no_other = refl;
  step = λ token rest e.
      let head = head_of_loop place test names [] at in
      ap (λ b. cond b (Some (loop_claim_or_end head)) (on (is kind.RightParen token) (invariant_end head)))
      (sym (ap (begins kind.Comma) e) ∙ ap (begins kind.Comma) m ∙ h);
}

abbrev pub call_list : Name → Within → ExprList
call_list written at = record {
  member = λ arguments. alone (argument_of_call written arguments at);
  member_or_end = λ arguments. call_or_end written arguments at;
  over = λ arguments. after_stmt (with_stmt at (s.call written (exprs_of arguments)));
}

pub reads_call : (written : Name) (at : Within) → ReadsExprs (call_list written at) 0
reads_call written at = record {
  each = λ arguments few. record {
    begins = record { apart = refl; no_range = refl };
    at_end = refl;
    operand = refl;
    next_member = λ token. refl;
    behind = λ expr token. refl;
  };
}
