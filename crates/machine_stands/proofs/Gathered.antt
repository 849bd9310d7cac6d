-- Lists as the grammar accounts for them.
use Rattle.machine_stands.proofs.Fronts.{firsts, WholeOf, HasAny}
use Rattle.slang_grammar.specs.Parts.{separated, optional}
use Rattle.slang_grammar.specs.Expressions.{ExprText, ExprsText, no_exprs, last_expr, expr_then, expr_tokens, exprs_tokens, IsGrouped, AreGrouped, expr_tree, exprs_tree, HasExpr, expr_trees}
use Rattle.slang_grammar.specs.Proofs.{StepText, StepsText, no_steps, last_step, step_then, step_tokens, steps_tokens, IsStep, AreSteps, step_tree, steps_tree, HasStep}
use Rattle.slang_grammar.specs.Statements.{StmtText, StmtsText, no_stmts, last_stmt, stmt_then, stmt_tokens, stmts_tokens, IsStmt, AreStmts, stmt_tree, stmts_tree}
use Rattle.slang_grammar.specs.Declarations.{ConstText, ConstsText, no_consts, last_const, const_then, const_tokens, consts_tokens, HasConst, IsConst, AreConsts, const_tree, consts_tree}
use Rattle.slang_tree.specs.ExprTree.{ExprTree, exprs_of}
use Rattle.slang_tree.specs.StmtTree.{StepTree, steps_of, StmtTree, stmts_of}
use Rattle.slang_tree.specs.DeclTree.{ConstTree, consts_of}
use Rattle.slang_tree.specs.declared.place.Place.{Place}
use Rattle.slang_tokens.specs.Tok.{Tok, sign}
use Rattle.std.proofs.Common.{◌≡◌, List, [], ◌∷◌, ◌++◌, Option, Some, None, refl, sym, ap, ◌∙◌, subst, append_assoc, map}
use Rattle.std.specs.Prelude.{option_to_list}
use Rattle.std.specs.List.{AllByRecursion}
use Rattle.slang_tree.specs.DeclTree as d
use Rattle.slang_tree.specs.ExprTree as e
use Rattle.slang_lexer.specs.declared.token.TokenKind.TheVariants as kind
use Rattle.slang_tree.specs.StmtTree as s

-- Expressions of a list.

to_exprs : List (ExprText × Place) → Option ExprText → ExprsText
to_exprs [] None = no_exprs
to_exprs [] (Some a) = last_expr a
to_exprs (m ∷ front) last = expr_then m.0 m.1 (to_exprs front last)

exprs_spelled : (front : List (ExprText × Place)) (last : Option ExprText)
    → exprs_tokens (to_exprs front last) ≡ separated kind.Comma expr_tokens front ++ optional expr_tokens last
unfolding to_exprs
exprs_spelled [] None = refl
exprs_spelled [] (Some a) = refl
exprs_spelled (m ∷ front) last =
    ap (λ x. expr_tokens m.0 ++ sign kind.Comma m.1 ∷ x) (exprs_spelled front last)
    ∙ sym (append_assoc (expr_tokens m.0) (sign kind.Comma m.1 ∷ separated kind.Comma expr_tokens front) (optional expr_tokens last))

exprs_fit : (front : List (ExprText × Place)) (last : Option ExprText) → AllByRecursion IsGrouped (firsts front ++ option_to_list last)
    → AreGrouped (to_exprs front last)
unfolding to_exprs
exprs_fit [] None g = tt
exprs_fit [] (Some a) g = g.0
exprs_fit (m ∷ front) last g = (g.0, exprs_fit front last g.1)

exprs_shaped : (front : List (ExprText × Place)) (last : Option ExprText)
    → exprs_tree (to_exprs front last) ≡ exprs_of (map expr_tree (firsts front ++ option_to_list last))
unfolding to_exprs
exprs_shaped [] None = refl
exprs_shaped [] (Some a) = refl
exprs_shaped (m ∷ front) last = ap (e.expr_then (expr_tree m.0)) (exprs_shaped front last)

exprs_listed : (front : List (ExprText × Place)) (last : Option ExprText)
    → expr_trees (to_exprs front last) ≡ map expr_tree (firsts front ++ option_to_list last)
unfolding to_exprs
exprs_listed [] None = refl
exprs_listed [] (Some a) = refl
exprs_listed (m ∷ front) last = ap (λ x. expr_tree m.0 ∷ x) (exprs_listed front last)

exprs_any : (front : List (ExprText × Place)) (last : Option ExprText) → HasAny (map expr_tree (firsts front ++ option_to_list last))
    → HasExpr (to_exprs front last)
unfolding to_exprs
exprs_any [] None h = h
exprs_any [] (Some a) h = tt
exprs_any (m ∷ front) last h = tt

pub record ExprsIs (K : List Tok → Type 0) (trees : List ExprTree) (rest : List Tok) : Type 0 where
  pub text : ExprsText
  pub fits : AreGrouped text
  pub same : exprs_tree text ≡ exprs_of trees
  pub listed : expr_trees text ≡ trees
  pub any : HasAny trees → HasExpr text
  pub opened : K (exprs_tokens text ++ rest)

pub gather_exprs : (K : List Tok → Type 0) (trees : List ExprTree) (rest : List Tok) → WholeOf kind.Comma expr_tokens IsGrouped expr_tree K trees rest → ExprsIs K trees rest
gather_exprs K trees rest h =
    let front = h.list.front in
    let last = h.list.last in
    record {
      text = to_exprs front last;
      fits = exprs_fit front last h.each;
      same = exprs_shaped front last ∙ ap exprs_of h.same;
      listed = exprs_listed front last ∙ h.same;
      any = λ a. exprs_any front last (subst HasAny (sym h.same) a);
      opened = subst (λ x. K (x ++ rest)) (sym (exprs_spelled front last)) h.opened;
    }

-- Constants of a list.

to_consts : List (ConstText × Place) → Option ConstText → ConstsText
to_consts [] None = no_consts
to_consts [] (Some a) = last_const a
to_consts (m ∷ front) last = const_then m.0 m.1 (to_consts front last)

consts_spelled : (front : List (ConstText × Place)) (last : Option ConstText)
    → consts_tokens (to_consts front last) ≡ separated kind.Comma const_tokens front ++ optional const_tokens last
unfolding to_consts
consts_spelled [] None = refl
consts_spelled [] (Some a) = refl
consts_spelled (m ∷ front) last =
    ap (λ x. const_tokens m.0 ++ sign kind.Comma m.1 ∷ x) (consts_spelled front last)
    ∙ sym (append_assoc (const_tokens m.0) (sign kind.Comma m.1 ∷ separated kind.Comma const_tokens front) (optional const_tokens last))

consts_fit : (front : List (ConstText × Place)) (last : Option ConstText) → AllByRecursion IsConst (firsts front ++ option_to_list last)
    → AreConsts (to_consts front last)
unfolding to_consts
consts_fit [] None g = tt
consts_fit [] (Some a) g = g.0
consts_fit (m ∷ front) last g = (g.0, consts_fit front last g.1)

consts_shaped : (front : List (ConstText × Place)) (last : Option ConstText)
    → consts_tree (to_consts front last) ≡ consts_of (map const_tree (firsts front ++ option_to_list last))
unfolding to_consts
consts_shaped [] None = refl
consts_shaped [] (Some a) = refl
consts_shaped (m ∷ front) last = ap (d.const_then (const_tree m.0)) (consts_shaped front last)

consts_any : (front : List (ConstText × Place)) (last : Option ConstText) → HasAny (map const_tree (firsts front ++ option_to_list last))
    → HasConst (to_consts front last)
unfolding to_consts
consts_any [] None h = h
consts_any [] (Some a) h = tt
consts_any (m ∷ front) last h = tt

pub record ConstsIs (K : List Tok → Type 0) (trees : List ConstTree) (rest : List Tok) : Type 0 where
  pub text : ConstsText
  pub fits : AreConsts text
  pub same : consts_tree text ≡ consts_of trees
  pub any : HasAny trees → HasConst text
  pub opened : K (consts_tokens text ++ rest)

pub gather_consts : (K : List Tok → Type 0) (trees : List ConstTree) (rest : List Tok) → WholeOf kind.Comma const_tokens IsConst const_tree K trees rest → ConstsIs K trees rest
gather_consts K trees rest h =
    let front = h.list.front in
    let last = h.list.last in
    record {
      text = to_consts front last;
      fits = consts_fit front last h.each;
      same = consts_shaped front last ∙ ap consts_of h.same;
      any = λ a. consts_any front last (subst HasAny (sym h.same) a);
      opened = subst (λ x. K (x ++ rest)) (sym (consts_spelled front last)) h.opened;
    }

-- Steps of a list.

to_steps : List (StepText × Place) → Option StepText → StepsText
to_steps [] None = no_steps
to_steps [] (Some a) = last_step a
to_steps (m ∷ front) last = step_then m.0 m.1 (to_steps front last)

steps_spelled : (front : List (StepText × Place)) (last : Option StepText)
    → steps_tokens (to_steps front last) ≡ separated kind.Comma step_tokens front ++ optional step_tokens last
unfolding to_steps
steps_spelled [] None = refl
steps_spelled [] (Some a) = refl
steps_spelled (m ∷ front) last =
    ap (λ x. step_tokens m.0 ++ sign kind.Comma m.1 ∷ x) (steps_spelled front last)
    ∙ sym (append_assoc (step_tokens m.0) (sign kind.Comma m.1 ∷ separated kind.Comma step_tokens front) (optional step_tokens last))

steps_fit : (front : List (StepText × Place)) (last : Option StepText) → AllByRecursion IsStep (firsts front ++ option_to_list last)
    → AreSteps (to_steps front last)
unfolding to_steps
steps_fit [] None g = tt
steps_fit [] (Some a) g = g.0
steps_fit (m ∷ front) last g = (g.0, steps_fit front last g.1)

steps_shaped : (front : List (StepText × Place)) (last : Option StepText)
    → steps_tree (to_steps front last) ≡ steps_of (map step_tree (firsts front ++ option_to_list last))
unfolding to_steps
steps_shaped [] None = refl
steps_shaped [] (Some a) = refl
steps_shaped (m ∷ front) last = ap (s.step_then (step_tree m.0)) (steps_shaped front last)

steps_any : (front : List (StepText × Place)) (last : Option StepText) → HasAny (map step_tree (firsts front ++ option_to_list last))
    → HasStep (to_steps front last)
unfolding to_steps
steps_any [] None h = h
steps_any [] (Some a) h = tt
steps_any (m ∷ front) last h = tt

pub record StepsIs (K : List Tok → Type 0) (trees : List StepTree) (rest : List Tok) : Type 0 where
  pub text : StepsText
  pub fits : AreSteps text
  pub same : steps_tree text ≡ steps_of trees
  pub any : HasAny trees → HasStep text
  pub opened : K (steps_tokens text ++ rest)

pub gather_steps : (K : List Tok → Type 0) (trees : List StepTree) (rest : List Tok) → WholeOf kind.Comma step_tokens IsStep step_tree K trees rest → StepsIs K trees rest
gather_steps K trees rest h =
    let front = h.list.front in
    let last = h.list.last in
    record {
      text = to_steps front last;
      fits = steps_fit front last h.each;
      same = steps_shaped front last ∙ ap steps_of h.same;
      any = λ a. steps_any front last (subst HasAny (sym h.same) a);
      opened = subst (λ x. K (x ++ rest)) (sym (steps_spelled front last)) h.opened;
    }

-- Statements of a list.

to_stmts : List (StmtText × Place) → Option StmtText → StmtsText
to_stmts [] None = no_stmts
to_stmts [] (Some a) = last_stmt a
to_stmts (m ∷ front) last = stmt_then m.0 m.1 (to_stmts front last)

stmts_spelled : (front : List (StmtText × Place)) (last : Option StmtText)
    → stmts_tokens (to_stmts front last) ≡ separated kind.Newline stmt_tokens front ++ optional stmt_tokens last
unfolding to_stmts
stmts_spelled [] None = refl
stmts_spelled [] (Some a) = refl
stmts_spelled (m ∷ front) last =
    ap (λ x. stmt_tokens m.0 ++ sign kind.Newline m.1 ∷ x) (stmts_spelled front last)
    ∙ sym (append_assoc (stmt_tokens m.0) (sign kind.Newline m.1 ∷ separated kind.Newline stmt_tokens front) (optional stmt_tokens last))

stmts_fit : (front : List (StmtText × Place)) (last : Option StmtText) → AllByRecursion IsStmt (firsts front ++ option_to_list last)
    → AreStmts (to_stmts front last)
unfolding to_stmts
stmts_fit [] None g = tt
stmts_fit [] (Some a) g = g.0
stmts_fit (m ∷ front) last g = (g.0, stmts_fit front last g.1)

stmts_shaped : (front : List (StmtText × Place)) (last : Option StmtText)
    → stmts_tree (to_stmts front last) ≡ stmts_of (map stmt_tree (firsts front ++ option_to_list last))
unfolding to_stmts
stmts_shaped [] None = refl
stmts_shaped [] (Some a) = refl
stmts_shaped (m ∷ front) last = ap (s.stmt_then (stmt_tree m.0)) (stmts_shaped front last)

pub record StmtsIs (K : List Tok → Type 0) (trees : List StmtTree) (rest : List Tok) : Type 0 where
  pub text : StmtsText
  pub fits : AreStmts text
  pub same : stmts_tree text ≡ stmts_of trees
  pub opened : K (stmts_tokens text ++ rest)

pub gather_stmts : (K : List Tok → Type 0) (trees : List StmtTree) (rest : List Tok) → WholeOf kind.Newline stmt_tokens IsStmt stmt_tree K trees rest → StmtsIs K trees rest
gather_stmts K trees rest h =
    let front = h.list.front in
    let last = h.list.last in
    record {
      text = to_stmts front last;
      fits = stmts_fit front last h.each;
      same = stmts_shaped front last ∙ ap stmts_of h.same;
      opened = subst (λ x. K (x ++ rest)) (sym (stmts_spelled front last)) h.opened;
    }
