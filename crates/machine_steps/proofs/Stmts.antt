-- What stands behind an expression that stands for itself is accounted for.
use Rattle.machine_stands.proofs.Tokens.{on_case, or_case}
use Rattle.machine_stands.proofs.Fronts.{Front, separator, whole_last, grow, every, LastOf, WholeOf, last_is_whole, HasAny, any_more}
use Rattle.machine_stands.proofs.Opened.{At, Sign, Named, Expression, Expressions, PartFits, part_step, BodyBegin, LastPart, ClauseFits, clause_step, ContractBegin, InvariantIs, LoopBegin, OpenTarget}
use Rattle.machine_stands.proofs.Inside.{In, EndIn, IsInner, ClaimsBegin, LoopNames, AssumeIs, Label-of, SubBegin, OpenPurpose}
use Rattle.machine_stands.proofs.Stands.{Stands}
use Rattle.machine_stands.proofs.Gathered.{gather_exprs}
use Rattle.machine_stands.proofs.Ends.{at_step, sign_step, EndAt, stands_after, stmt_ends, whole_end, block_ends, next_in, method_ends}
use Rattle.slang_grammar.specs.Parts.{optional, name_token, names_tokens, label_token, typed_tokens}
use Rattle.slang_grammar.specs.Expressions.{ExprText, expr_tokens, exprs_tokens, IsGrouped, expr_tree}
use Rattle.slang_grammar.specs.Statements.{block, value_word, ClaimsBehind, claims_behind, claims_behind_tokens, AreClaimsBehind, claims_behind_trees, value, assignment, call, assertion, value_tree}
use Rattle.slang_grammar.specs.Declarations.{ClauseText, requires_clause, ensures_clause, clause_tokens, return_part, part_tokens}
use Rattle.slang_machine.specs.Open.{Draft, Block, body_of, then_of, else_of, loop_of, Within, with_stmt, Labelled, ClaimWord, requiring, ensuring, LoopHead, Purpose, value_of, assigned_to, argument_of_call, test_of_if, test_of_loop, asserted, returned, clause_claim, loop_claim, step_claim, assumed_in}
use Rattle.slang_machine.specs.States.{part_or_end, claim_or_end, stmt_or_end, call_or_end, then_due, loop_begin, loop_claim_or_end, invariant_end, step_end, by_due}
use Rattle.slang_machine.specs.Expressions.{is}
use Rattle.slang_machine.specs.Statements.{with_method, end_method, next_part_end, with_body, after_stmt, end_block, next_stmt_end_in, next_stmt_end, end_claims, with_loop_claim, sub_steps, next_whole}
use Rattle.slang_tree.specs.ExprTree.{ExprTree, exprs_of}
use Rattle.slang_tree.specs.StmtTree.{StmtTree}
use Rattle.slang_tree.specs.declared.place.Place.{Place}
use Rattle.slang_tree.specs.declared.expression.Name.{Name}
use Rattle.slang_tree.specs.declared.statement.Label.{Label}
use Rattle.slang_tokens.specs.Tok.{Tok, sign}
use Rattle.slang_tokens.proofs.Bare.{IsBare}
use Rattle.std.proofs.Common.{◌≡◌, ℕ, inr, true, List, [], ◌∷◌, ◌++◌, Option, Some, None, refl, sym, ap, ◌∙◌, subst, append_assoc, cond}
use Rattle.std.specs.Option.{IfSome}
use Rattle.slang_lexer.specs.declared.token.TokenKind.TheVariants as kind
use Rattle.slang_tree.specs.StmtTree as s

-- Behind parts, clauses and statements.

pub part_end_stands : (all : List Tok) (least : ℕ) (draft : Draft) (token : Tok) (rest : List Tok) → IsBare token → LastPart all least draft (token ∷ rest)
    → IfSome (next_part_end least draft token) (λ state. Stands all state rest)
part_end_stands all least draft token rest bare h =
    or_case (is kind.Newline token) (Some (part_or_end least draft)) _ (λ state. Stands all state rest)
    (λ b. let h' = at_step kind.Newline token rest (LastPart all least draft) refl refl bare b h in record {
      bare = h'.bare;
      parts = separator kind.Newline part_tokens PartFits part_step (0, h'.bare) (BodyBegin all draft.done h'.bare) (least, draft.method) token.place rest
          h'.parts;
    })
    (λ b. on_case (is kind.RightBrace token) (end_method draft) (λ state. Stands all state rest)
    (λ b. let h' = at_step kind.RightBrace token rest (LastPart all least draft) refl refl bare b h in
    method_ends all least draft h'.bare token.place rest
    (whole_last kind.Newline part_tokens PartFits part_step (0, h'.bare) (BodyBegin all draft.done h'.bare) (least, draft.method)
    (sign kind.RightBrace token.place ∷ rest) h'.parts)))

inner_end_stands : (all : List Tok) (inner : Block) (stmts : List StmtTree) (token : Tok) (rest : List Tok) → IsBare token → IsInner inner
    → EndIn all inner stmts (token ∷ rest)
    → IfSome (cond (is kind.Newline token) (Some (stmt_or_end (record { stmts = stmts; block = inner }))) (cond (is kind.RightBrace token) (end_block stmts inner)
    None)) (λ state. Stands all state rest)
inner_end_stands all inner stmts token rest bare i h =
    or_case (is kind.Newline token) (Some (stmt_or_end (record { stmts = stmts; block = inner }))) _ (λ state. Stands all state rest)
    (λ b. (i, next_in all inner stmts token.place rest i (at_step kind.Newline token rest (EndIn all inner stmts) refl refl bare b h)))
    (λ b. or_case (is kind.RightBrace token) (end_block stmts inner) None (λ state. Stands all state rest)
    (λ b. block_ends all inner stmts token.place rest i (whole_end all inner stmts (sign kind.RightBrace token.place ∷ rest) i
    (at_step kind.RightBrace token rest (EndIn all inner stmts) refl refl bare b h)))
    (λ b. tt))

stmt_end_in : (all : List Tok) (inner : Block) (stmts : List StmtTree) (token : Tok) (rest : List Tok) → IsBare token → EndIn all inner stmts (token ∷ rest)
    → IfSome (next_stmt_end_in stmts inner token) (λ state. Stands all state rest)
stmt_end_in all (body_of draft) stmts token rest bare h = part_end_stands all 1 (with_body draft stmts) token rest bare h
stmt_end_in all (then_of place test target) stmts token rest bare h = inner_end_stands all (then_of place test target) stmts token rest bare tt h
stmt_end_in all (else_of place test on_true target) stmts token rest bare h =
    inner_end_stands all (else_of place test on_true target) stmts token rest bare tt h
stmt_end_in all (loop_of place test modifies claims before outer) stmts token rest bare h =
    inner_end_stands all (loop_of place test modifies claims before outer) stmts token rest bare tt h

pub stmt_end_stands : (all : List Tok) (at : Within) (token : Tok) (rest : List Tok) → IsBare token → EndAt all at (token ∷ rest)
    → IfSome (next_stmt_end at token) (λ state. Stands all state rest)
stmt_end_stands all at token rest bare h = stmt_end_in all at.block at.stmts token rest bare h

-- Claims and names at their ends.

pub claims_end : (all : List Tok) (word : ClaimWord) (claims : List ExprTree) (draft : Draft) (right : Place) (rest : List Tok) → HasAny claims
    → WholeOf kind.Comma expr_tokens IsGrouped expr_tree (Sign kind.LeftParen (ClaimsBegin all word draft)) claims (sign kind.RightParen right ∷ rest)
    → Stands all (end_claims word claims draft) rest
claims_end all requiring claims draft right rest any h =
    let list = gather_exprs (Sign kind.LeftParen (ClaimsBegin all requiring draft)) claims (sign kind.RightParen right ∷ rest) h in
    let begun = list.opened in
    let word = begun.opened in
    let before_it = word.opened.opened in
    let text : ClauseText = requires_clause word.opened.place (record { left = begun.place; claims = list.text; right = right }) in
    record {
      bare = before_it.bare;
      clauses = record {
        before = (word.least, draft.method);
        member = text;
        fits = (word.fits, (list.any any, list.fits));
        same = ap (λ (c : List ExprTree). (1, record draft.method { requires_ = c })) list.listed;
        opened = subst (λ x. Front kind.Comma clause_tokens ClauseFits clause_step (0, before_it.bare)
            (Sign kind.LeftParen (ContractBegin all (with_method draft before_it.bare))) (word.least, draft.method) (sign kind.Requires word.opened.place
            ∷ sign kind.LeftParen begun.place ∷ x)) (sym (append_assoc (exprs_tokens list.text) (sign kind.RightParen right ∷ []) rest)) before_it.clauses;
      };
    }
claims_end all ensuring claims draft right rest any h =
    let list = gather_exprs (Sign kind.LeftParen (ClaimsBegin all ensuring draft)) claims (sign kind.RightParen right ∷ rest) h in
    let begun = list.opened in
    let word = begun.opened in
    let before_it = word.opened.opened in
    let text : ClauseText = ensures_clause word.opened.place (record { left = begun.place; claims = list.text; right = right }) in
    record {
      bare = before_it.bare;
      clauses = record {
        before = (word.least, draft.method);
        member = text;
        fits = (word.fits, (list.any any, list.fits));
        same = ap (λ (c : List ExprTree). (3, record draft.method { ensures_ = c })) list.listed;
        opened = subst (λ x. Front kind.Comma clause_tokens ClauseFits clause_step (0, before_it.bare)
            (Sign kind.LeftParen (ContractBegin all (with_method draft before_it.bare))) (word.least, draft.method) (sign kind.Ensures word.opened.place
            ∷ sign kind.LeftParen begun.place ∷ x)) (sym (append_assoc (exprs_tokens list.text) (sign kind.RightParen right ∷ []) rest)) before_it.clauses;
      };
    }

-- an invariant with these claims
pub claims_of_loop : (all : List Tok) (head : LoopHead) (claims : List ExprTree) (text : ClaimsBehind) (right : Place) (rest : List Tok)
    → AreClaimsBehind text → claims_behind_trees text ≡ claims → LoopNames all head (claims_behind_tokens text ++ sign kind.RightParen right ∷ rest)
    → InvariantIs head.modifies claims (LoopBegin head.place head.test (In all head.around)) rest
claims_of_loop all head claims text right rest fits same h =
    let word = h.opened in
    let left = word.opened in
    let invariant = left.opened in
    record {
      text = record { word = invariant.place; left = left.place; modifies = word.place; names = h.text; claims = text; right = right };
      fits = (h.fits, fits);
      same_names = h.same;
      same_claims = same;
      opened = subst (λ x. LoopBegin head.place head.test (In all head.around) (sign kind.Invariant invariant.place ∷ sign kind.LeftParen left.place
          ∷ sign kind.Modifies word.place ∷ x)) (sym (append_assoc (names_tokens h.text ++ claims_behind_tokens text) (sign kind.RightParen right ∷ []) rest
          ∙ append_assoc (names_tokens h.text) (claims_behind_tokens text) (sign kind.RightParen right ∷ rest))) invariant.opened;
    }

pub loop_claims_end : (all : List Tok) (head : LoopHead) (claims : List ExprTree) (right : Place) (rest : List Tok)
    → WholeOf kind.Comma expr_tokens IsGrouped expr_tree (Sign kind.Comma (LoopNames all head)) claims (sign kind.RightParen right ∷ rest)
    → InvariantIs head.modifies claims (LoopBegin head.place head.test (In all head.around)) rest
loop_claims_end all head claims right rest h =
    let list = gather_exprs (Sign kind.Comma (LoopNames all head)) claims (sign kind.RightParen right ∷ rest) h in
    let begun = list.opened in
    claims_of_loop all head claims (claims_behind begun.place list.text) right rest list.fits list.listed begun.opened

-- Expressions that stand for themselves.

-- one more expression of a list
pub one_more : (K : List Tok → Type 0) (trees : List ExprTree) (text : ExprText) (expr : ExprTree) (rest : List Tok) → IsGrouped text → expr_tree text ≡ expr
    → Expressions K trees (expr_tokens text ++ rest) → LastOf kind.Comma expr_tokens IsGrouped expr_tree K (trees ++ expr ∷ []) rest
one_more K trees text expr rest g same h = record { before = trees; member = text; fits = g; same = ap (λ x. trees ++ x ∷ []) same; opened = h }

pub more_exprs : (K : List Tok → Type 0) (trees : List ExprTree) (token : Tok) (rest : List Tok) → IsBare token → is kind.Comma token ≡ true
    → LastOf kind.Comma expr_tokens IsGrouped expr_tree K trees (token ∷ rest) → Expressions K trees rest
more_exprs K trees token rest bare b h =
    separator kind.Comma expr_tokens (every IsGrouped) (grow expr_tree) [] K trees token.place rest
    (at_step kind.Comma token rest (LastOf kind.Comma expr_tokens IsGrouped expr_tree K trees) refl refl bare b h)

pub all_exprs : (K : List Tok → Type 0) (trees : List ExprTree) (token : Tok) (rest : List Tok) → IsBare token → is kind.RightParen token ≡ true
    → LastOf kind.Comma expr_tokens IsGrouped expr_tree K trees (token ∷ rest)
    → WholeOf kind.Comma expr_tokens IsGrouped expr_tree K trees (sign kind.RightParen token.place ∷ rest)
all_exprs K trees token rest bare b h =
    last_is_whole kind.Comma expr_tokens IsGrouped expr_tree K trees (sign kind.RightParen token.place ∷ rest)
    (at_step kind.RightParen token rest (LastOf kind.Comma expr_tokens IsGrouped expr_tree K trees) refl refl bare b h)

-- the arguments of a call that stands alone
pub call_ends : (all : List Tok) (written : Name) (at : Within) (arguments : List ExprTree) (right : Place) (rest : List Tok)
    → WholeOf kind.Comma expr_tokens IsGrouped expr_tree (Sign kind.LeftParen (Named written (In all at))) arguments (sign kind.RightParen right ∷ rest)
    → Stands all (after_stmt (with_stmt at (s.call written (exprs_of arguments)))) rest
call_ends all written at arguments right rest h =
    let list = gather_exprs (Sign kind.LeftParen (Named written (In all at))) arguments (sign kind.RightParen right ∷ rest) h in
    let begun = list.opened in
    let n = begun.opened in
    stands_after all (with_stmt at (s.call written (exprs_of arguments))) rest
    (stmt_ends all at (call written begun.place list.text right) (s.call written (exprs_of arguments)) rest (n.plain, list.fits)
    (ap (s.call written) list.same)
    (subst (λ x. In all at (name_token written ∷ sign kind.LeftParen begun.place ∷ x)) (sym (append_assoc (exprs_tokens list.text) (sign kind.RightParen right
    ∷ []) rest)) n.opened))

sub_stands : (all : List Tok) (bound : Option Name) (assumed : Label) (expr : ExprTree) (at : Labelled) (rest : List Tok)
    → AssumeIs assumed expr (SubBegin all bound at) rest → Stands all (step_end [] (sub_steps bound assumed expr at)) rest
sub_stands all None assumed expr at rest h = inr (refl, h)
sub_stands all (Some bound) assumed expr at rest h = inr (refl, h)

pub whole_stands : (all : List Tok) (text : ExprText) (expr : ExprTree) (purpose : Purpose) (token : Tok) (rest : List Tok) → IsBare token → IsGrouped text
    → expr_tree text ≡ expr → OpenPurpose all purpose (expr_tokens text ++ token ∷ rest)
    → IfSome (next_whole expr purpose token) (λ state. Stands all state rest)
whole_stands all text expr (value_of fixed place written ty at) token rest bare g same h =
    let typed = h.opened in
    let n = typed.opened in
    stmt_end_stands all (with_stmt at (value_tree fixed place written ty expr)) token rest bare
    (stmt_ends all at (value fixed place written typed.text h.place text) (value_tree fixed place written ty expr) (token ∷ rest) (n.plain, typed.fits, g)
    (ap (λ t. value_tree fixed place written t (expr_tree text)) typed.same ∙ ap (value_tree fixed place written ty) same)
    (subst (λ x. In all at (sign (value_word fixed) place ∷ name_token written ∷ x)) (sym (append_assoc (optional typed_tokens typed.text)
    (sign kind.Equals h.place ∷ expr_tokens text) (token ∷ rest))) n.opened))
whole_stands all text expr (assigned_to written at) token rest bare g same h =
    let n = h.opened in
    stmt_end_stands all (with_stmt at (s.assignment written expr)) token rest bare
    (stmt_ends all at (assignment written h.place text) (s.assignment written expr) (token ∷ rest) (n.plain, g) (ap (s.assignment written) same) n.opened)
whole_stands all text expr (argument_of_call written arguments at) token rest bare g same h =
    let K : List Tok → Type 0 = Sign kind.LeftParen (Named written (In all at)) in
    let one = one_more K arguments text expr (token ∷ rest) g same h in
    or_case (is kind.RightParen token) (Some (after_stmt (with_stmt at (s.call written (exprs_of (arguments ++ expr ∷ [])))))) _ (λ state. Stands all state rest)
    (λ b. call_ends all written at (arguments ++ expr ∷ []) token.place rest (all_exprs K (arguments ++ expr ∷ []) token rest bare b one))
    (λ b. on_case (is kind.Comma token) (call_or_end written (arguments ++ expr ∷ []) at) (λ state. Stands all state rest)
    (λ b. more_exprs K (arguments ++ expr ∷ []) token rest bare b one))
whole_stands all text expr (test_of_if place target) token rest bare g same h =
    on_case (is kind.RightParen token) (then_due place expr target) (λ state. Stands all state rest)
    (λ b. sign_step kind.RightParen token rest (Expression expr (Sign kind.LeftParen (At kind.If place (OpenTarget all target)))) refl refl bare b
    (record { text = text; grouped = g; same = same; opened = h }))
whole_stands all text expr (test_of_loop place at) token rest bare g same h =
    on_case (is kind.RightParen token) (loop_begin place expr at) (λ state. Stands all state rest)
    (λ b. sign_step kind.RightParen token rest (Expression expr (Sign kind.LeftParen (At kind.While place (In all at)))) refl refl bare b
    (record { text = text; grouped = g; same = same; opened = h }))
whole_stands all text expr (asserted place at) token rest bare g same h =
    on_case (is kind.RightParen token) (after_stmt (with_stmt at (s.assertion place expr))) (λ state. Stands all state rest)
    (λ b. stands_after all (with_stmt at (s.assertion place expr)) rest
    (stmt_ends all at (assertion place h.place text token.place) (s.assertion place expr) rest g (ap (s.assertion place) same)
    (subst (λ x. In all at (sign kind.Assert place ∷ sign kind.LeftParen h.place ∷ x)) (sym (append_assoc (expr_tokens text)
    (sign kind.RightParen token.place ∷ []) rest))
    (at_step kind.RightParen token rest (λ r. In all at (sign kind.Assert place ∷ sign kind.LeftParen h.place ∷ expr_tokens text ++ r)) refl refl bare b
    h.opened))))
whole_stands all text expr (returned place draft) token rest bare g same h =
    let before_it = h.opened in
    part_end_stands all 3 (with_method draft (record draft.method { returned = Some (record { place = place; value = expr }) })) token rest bare (record {
      bare = before_it.bare;
      parts = record {
        before = (h.least, draft.method);
        member = return_part place text;
        fits = (h.fits, g);
        same = ap (λ (t : ExprTree). (3, record draft.method { returned = Some (record { place = place; value = t }) })) same;
        opened = before_it.parts;
      };
    })
whole_stands all text expr (clause_claim word claims draft) token rest bare g same h =
    let K : List Tok → Type 0 = Sign kind.LeftParen (ClaimsBegin all word draft) in
    let one = one_more K claims text expr (token ∷ rest) g same h in
    or_case (is kind.RightParen token) (Some (end_claims word (claims ++ expr ∷ []) draft)) _ (λ state. Stands all state rest)
    (λ b. claims_end all word (claims ++ expr ∷ []) draft token.place rest (any_more claims expr) (all_exprs K (claims ++ expr ∷ []) token rest bare b one))
    (λ b. on_case (is kind.Comma token) (claim_or_end word (claims ++ expr ∷ []) draft) (λ state. Stands all state rest)
    (λ b. (any_more claims expr, more_exprs K (claims ++ expr ∷ []) token rest bare b one)))
whole_stands all text expr (loop_claim head) token rest bare g same h =
    let K : List Tok → Type 0 = Sign kind.Comma (LoopNames all head) in
    let one = one_more K head.claims text expr (token ∷ rest) g same h in
    or_case (is kind.RightParen token) (Some (invariant_end (with_loop_claim head expr))) _ (λ state. Stands all state rest)
    (λ b. loop_claims_end all head (head.claims ++ expr ∷ []) token.place rest (all_exprs K (head.claims ++ expr ∷ []) token rest bare b one))
    (λ b. on_case (is kind.Comma token) (loop_claim_or_end (with_loop_claim head expr)) (λ state. Stands all state rest)
    (λ b. more_exprs K (head.claims ++ expr ∷ []) token rest bare b one))
whole_stands all text expr (step_claim at) token rest bare g same h =
    on_case (is kind.RightParen token) (by_due expr at) (λ state. Stands all state rest)
    (λ b. sign_step kind.RightParen token rest (Expression expr (Sign kind.LeftParen (Label-of all at))) refl refl bare b
    (record { text = text; grouped = g; same = same; opened = h }))
whole_stands all text expr (assumed_in bound assumed at) token rest bare g same h =
    let word = h.opened in
    let label = word.opened in
    let left = label.opened in
    let sub = left.opened in
    on_case (is kind.RightParen token) (step_end [] (sub_steps bound assumed expr at)) (λ state. Stands all state rest)
    (λ b. sub_stands all bound assumed expr at rest (record {
      text = record {
        word = sub.place;
        left = left.place;
        label = label.text;
        assume = word.place;
        claim_left = h.place;
        claim = text;
        claim_right = token.place;
      };
      fits = (label.fits, g);
      same_label = label.same;
      same_claim = same;
      opened = subst (λ x. SubBegin all bound at (sign kind.SubProof sub.place ∷ sign kind.LeftParen left.place ∷ label_token label.text
          ∷ sign kind.Assume word.place ∷ sign kind.LeftParen h.place ∷ x)) (sym (append_assoc (expr_tokens text) (sign kind.RightParen token.place ∷ []) rest))
          (at_step kind.RightParen token rest (λ r. SubBegin all bound at (sign kind.SubProof sub.place ∷ sign kind.LeftParen left.place
          ∷ label_token label.text ∷ sign kind.Assume word.place ∷ sign kind.LeftParen h.place ∷ expr_tokens text ++ r)) refl refl bare b sub.opened);
    }))
