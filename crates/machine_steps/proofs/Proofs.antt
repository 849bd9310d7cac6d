-- Steps of proofs are accounted for.
use Rattle.machine_stands.proofs.Tokens.{on_case, or_case}
use Rattle.machine_stands.proofs.Fronts.{none_yet, separator, grow, every, WholeOf, last_is_whole, HasAny, any_length, any_mapped, last_has_any}
use Rattle.machine_stands.proofs.Opened.{At, Sign}
use Rattle.machine_stands.proofs.Inside.{In, LabelIs, RuleIs, AssumeIs, LetIs, StepsBegin, OpenSteps, NoSteps, EndOfStep, Ruled}
use Rattle.machine_stands.proofs.Stands.{MayEndSteps, LetDone, Stands}
use Rattle.machine_stands.proofs.Gathered.{gather_steps}
use Rattle.machine_stands.proofs.Ends.{at_step, name_step, stands_after, stmt_ends}
use Rattle.slang_grammar.specs.Parts.{members, optional, listed, label_token, IsLabel, label_tree, IfWritten}
use Rattle.slang_grammar.specs.Expressions.{expr_tokens, expr_tree}
use Rattle.slang_grammar.specs.Proofs.{rule_name, subst_less, subst_greater, rule_token, rule_tree, CitesText, one_label, cites_tokens, AreCites, cites_tree, cited, assume_tokens, let_tokens, line, block, let_block, BehindText, nothing_behind, behind, step_tokens, behind_tokens, steps_tokens, IsStep, AreBehind, step_tree, behind_tree}
use Rattle.slang_grammar.specs.Statements.{deduction}
use Rattle.slang_machine.specs.Open.{with_stmt, Steps, deduction_of, block_of, let_of, Labelled}
use Rattle.slang_machine.specs.States.{step_or_end}
use Rattle.slang_machine.specs.Expressions.{is, is_name, name_of}
use Rattle.slang_machine.specs.Statements.{end_steps, next_step_end, with_line, rule_of}
use Rattle.slang_tree.specs.ExprTree.{ExprTree}
use Rattle.slang_tree.specs.StmtTree.{StepTree, StepTrees, steps_of}
use Rattle.slang_tree.specs.declared.place.Place.{Place}
use Rattle.slang_tree.specs.declared.expression.Name.{Name}
use Rattle.slang_tree.specs.declared.statement.Label.{Label}
use Rattle.slang_tokens.specs.Tok.{Tok, sign}
use Rattle.slang_tokens.proofs.Bare.{IsBare}
use Rattle.std.proofs.Common.{◌≡◌, inl, inr, List, [], ◌∷◌, ◌++◌, Option, Some, refl, sym, ap, ◌∙◌, subst, append_assoc}
use Rattle.std.specs.Prelude.{codes}
use Rattle.std.specs.Option.{IfSome}
use Rattle.slang_lexer.specs.declared.token.TokenKind.TheVariants as kind
use Rattle.slang_tree.specs.StmtTree as s

-- A line of a proof.

pub line_done : (all : List Tok) (claim : ExprTree) (rule : Name) (cites : List Label) (at : Labelled) (text : Option CitesText) (rest : List Tok)
    → IfWritten AreCites text → cited cites_tree text ≡ cites → Ruled all claim rule at (optional cites_tokens text ++ rest)
    → EndOfStep all at.around (with_line claim rule cites at) rest
line_done all claim rule cites at text rest fits same h =
    let by = h.opened in
    let right = by.opened in
    let expr = right.opened in
    let left = expr.opened in
    let label = left.opened in
    inl (record {
      before = at.steps;
      member = line label.text left.place expr.text right.place by.place h.text text;
      fits = (label.fits, expr.grouped, h.fits, fits);
      same = ap (λ l. at.steps ++ s.line l (expr_tree expr.text) (rule_tree h.text) (cited cites_tree text) ∷ []) label.same
          ∙ ap (λ c. at.steps ++ s.line at.label c (rule_tree h.text) (cited cites_tree text) ∷ []) expr.same
          ∙ ap (λ r. at.steps ++ s.line at.label claim r (cited cites_tree text) ∷ []) h.same
          ∙ ap (λ c. at.steps ++ s.line at.label claim rule c ∷ []) same;
      opened = subst (λ x. OpenSteps all at.around at.steps (label_token label.text ∷ sign kind.LeftParen left.place ∷ x)) (sym (append_assoc
          (expr_tokens expr.text) (sign kind.RightParen right.place ∷ sign kind.By by.place ∷ rule_token h.text ∷ optional cites_tokens text) rest))
          label.opened;
    })

pub cites_end : (all : List Tok) (claim : ExprTree) (rule : Name) (cites : List Label) (at : Labelled) (right : Place) (rest : List Tok) → HasAny cites
    → WholeOf kind.Comma one_label IsLabel label_tree (Sign kind.LeftParen (Ruled all claim rule at)) cites (sign kind.RightParen right ∷ rest)
    → EndOfStep all at.around (with_line claim rule cites at) rest
cites_end all claim rule cites at right rest any h =
    let left = h.opened in
    let some : HasAny (members h.list) = any_mapped label_tree (members h.list) (subst HasAny (sym h.same) any) in
    line_done all claim rule cites at (Some (record { left = left.place; labels = h.list; right = right })) rest (any_length (members h.list) some, h.each) h.same
    (subst (λ x. Ruled all claim rule at (sign kind.LeftParen left.place ∷ x)) (sym (append_assoc (listed kind.Comma one_label h.list) (sign kind.RightParen right
    ∷ []) rest)) left.opened)

-- Blocks of a proof.

-- what stands behind an assumption
pub record BehindIs (trees : StepTrees) (K : List Tok → Type 0) (rest : List Tok) : Type 0 where
  pub text : BehindText
  pub fits : AreBehind text
  pub same : behind_tree text ≡ trees
  pub opened : K (behind_tokens text ++ rest)

behind_none : (steps : List StepTree) (K : List Tok → Type 0) (rest : List Tok) → steps ≡ [] → K rest → BehindIs (steps_of steps) K rest
behind_none steps K rest none h = record { text = nothing_behind; fits = tt; same = ap steps_of (sym none); opened = h }

behind_some : (steps : List StepTree) (K : List Tok → Type 0) (rest : List Tok) → WholeOf kind.Comma step_tokens IsStep step_tree (Sign kind.Comma K) steps rest
    → BehindIs (steps_of steps) K rest
behind_some steps K rest h =
    let list = gather_steps (Sign kind.Comma K) steps rest h in
    record { text = behind list.opened.place list.text; fits = list.fits; same = list.same; opened = list.opened.opened }

regroup_block : (a b : List Tok) (r : Tok) (rest : List Tok) → a ++ (b ++ r ∷ rest) ≡ ((a ++ b) ++ r ∷ []) ++ rest
regroup_block a b r rest = simp append_assoc

block_done : (all : List Tok) (label assumed : Label) (supposed : ExprTree) (before : List StepTree) (around : Steps) (trees : StepTrees) (right : Place)
    (rest : List Tok) → BehindIs trees (AssumeIs assumed supposed (LabelIs label (OpenSteps all around before))) (sign kind.RightParen right ∷ rest)
    → EndOfStep all around (before ++ s.block label assumed supposed trees ∷ []) rest
block_done all label assumed supposed before around trees right rest h =
    let assume = h.opened in
    let l = assume.opened in
    inl (record {
      before = before;
      member = block l.text assume.text h.text right;
      fits = (l.fits, assume.fits, h.fits);
      same = ap (λ x. before ++ s.block x (label_tree assume.text.label) (expr_tree assume.text.claim) (behind_tree h.text) ∷ []) l.same
          ∙ ap (λ x. before ++ s.block label x (expr_tree assume.text.claim) (behind_tree h.text) ∷ []) assume.same_label
          ∙ ap (λ x. before ++ s.block label assumed x (behind_tree h.text) ∷ []) assume.same_claim
          ∙ ap (λ x. before ++ s.block label assumed supposed x ∷ []) h.same;
      opened = subst (λ x. OpenSteps all around before (label_token l.text ∷ x)) (regroup_block (assume_tokens assume.text) (behind_tokens h.text)
          (sign kind.RightParen right) rest) l.opened;
    })

let_done : (all : List Tok) (label : Label) (bound : Name) (assumed : Label) (supposed : ExprTree) (before : List StepTree) (around : Steps) (trees : StepTrees)
    (right : Place) (rest : List Tok)
    → BehindIs trees (AssumeIs assumed supposed (LetIs bound (LabelIs label (OpenSteps all around before)))) (sign kind.RightParen right ∷ rest)
    → LetDone all around (before ++ s.let_block label bound assumed supposed trees ∷ []) rest
let_done all label bound assumed supposed before around trees right rest h =
    let assume = h.opened in
    let let_text = assume.opened in
    let l = let_text.opened in
    record {
      before = before;
      label = l.text;
      bound = let_text.text;
      assume = assume.text;
      more = h.text;
      right = right;
      fits = (l.fits, let_text.plain, assume.fits, h.fits);
      same = ap (λ x. before ++ s.let_block x let_text.text.variable (label_tree assume.text.label) (expr_tree assume.text.claim) (behind_tree h.text) ∷ [])
          l.same
          ∙ ap (λ x. before ++ s.let_block label x (label_tree assume.text.label) (expr_tree assume.text.claim) (behind_tree h.text) ∷ []) let_text.same
          ∙ ap (λ x. before ++ s.let_block label bound x (expr_tree assume.text.claim) (behind_tree h.text) ∷ []) assume.same_label
          ∙ ap (λ x. before ++ s.let_block label bound assumed x (behind_tree h.text) ∷ []) assume.same_claim
          ∙ ap (λ x. before ++ s.let_block label bound assumed supposed x ∷ []) h.same;
      opened = subst (λ x. OpenSteps all around before (label_token l.text ∷ let_tokens let_text.text ++ x)) (sym (append_assoc (assume_tokens assume.text)
          (behind_tokens h.text) (sign kind.RightParen right ∷ rest))) l.opened;
    }

pub let_ends : (all : List Tok) (around : Steps) (steps : List StepTree) (outer : Place) (rest : List Tok)
    → LetDone all around steps (sign kind.RightParen outer ∷ rest) → EndOfStep all around steps rest
let_ends all around steps outer rest h = inl (record {
  before = h.before;
  member = let_block h.label h.bound h.assume h.more h.right outer;
  fits = h.fits;
  same = h.same;
  opened = subst (λ x. OpenSteps all around h.before (label_token h.label ∷ let_tokens h.bound ++ x)) (sym (append_assoc (assume_tokens h.assume
      ++ behind_tokens h.more) (sign kind.RightParen h.right ∷ sign kind.RightParen outer ∷ []) rest)) h.opened;
})

-- Steps at their end.

pub whole_steps : (all : List Tok) (around : Steps) (steps : List StepTree) (right : Place) (rest : List Tok) → MayEndSteps steps around
    → WholeOf kind.Comma step_tokens IsStep step_tree (StepsBegin all around) steps (sign kind.RightParen right ∷ rest)
    → Stands all (end_steps steps around) rest
whole_steps all (deduction_of place at) steps right rest any h =
    let list = gather_steps (Sign kind.LeftParen (At kind.Deduce place (In all at))) steps (sign kind.RightParen right ∷ rest) h in
    let begun = list.opened in
    stands_after all (with_stmt at (s.deduction place (steps_of steps))) rest
    (stmt_ends all at (deduction place begun.place list.text right) (s.deduction place (steps_of steps)) rest (list.any any, list.fits)
    (ap (s.deduction place) list.same)
    (subst (λ x. In all at (sign kind.Deduce place ∷ sign kind.LeftParen begun.place ∷ x)) (sym (append_assoc (steps_tokens list.text)
    (sign kind.RightParen right ∷ []) rest)) begun.opened))
whole_steps all (block_of label assumed supposed before around) steps right rest any h =
    block_done all label assumed supposed before around (steps_of steps) right rest
    (behind_some steps (AssumeIs assumed supposed (LabelIs label (OpenSteps all around before))) (sign kind.RightParen right ∷ rest) h)
whole_steps all (let_of label bound assumed supposed before around) steps right rest any h =
    let_done all label bound assumed supposed before around (steps_of steps) right rest
    (behind_some steps (AssumeIs assumed supposed (LetIs bound (LabelIs label (OpenSteps all around before)))) (sign kind.RightParen right ∷ rest) h)

no_steps_end : (all : List Tok) (around : Steps) (steps : List StepTree) (right : Place) (rest : List Tok)
    → NoSteps all around steps (sign kind.RightParen right ∷ rest) → Stands all (end_steps steps around) rest
no_steps_end all (deduction_of place at) steps right rest h = absurd h
no_steps_end all (block_of label assumed supposed before around) steps right rest h =
    block_done all label assumed supposed before around (steps_of steps) right rest
    (behind_none steps (AssumeIs assumed supposed (LabelIs label (OpenSteps all around before))) (sign kind.RightParen right ∷ rest) h.0 h.1)
no_steps_end all (let_of label bound assumed supposed before around) steps right rest h =
    let_done all label bound assumed supposed before around (steps_of steps) right rest
    (behind_none steps (AssumeIs assumed supposed (LetIs bound (LabelIs label (OpenSteps all around before)))) (sign kind.RightParen right ∷ rest) h.0 h.1)

no_steps_comma : (all : List Tok) (around : Steps) (steps : List StepTree) (comma : Place) (rest : List Tok) → NoSteps all around steps (sign kind.Comma comma ∷ rest)
    → MayEndSteps steps around × OpenSteps all around steps rest
no_steps_comma all (deduction_of place at) steps comma rest h = absurd h
no_steps_comma all (block_of label assumed supposed before around) steps comma rest h = (
  tt,
  subst (λ x. OpenSteps all (block_of label assumed supposed before around) x rest) (sym h.0)
      (none_yet kind.Comma step_tokens (every IsStep) (grow step_tree) [] (StepsBegin all (block_of label assumed supposed before around)) rest
      (record { place = comma; opened = h.1 })),
)
no_steps_comma all (let_of label bound assumed supposed before around) steps comma rest h = (
  tt,
  subst (λ x. OpenSteps all (let_of label bound assumed supposed before around) x rest) (sym h.0)
      (none_yet kind.Comma step_tokens (every IsStep) (grow step_tree) [] (StepsBegin all (let_of label bound assumed supposed before around)) rest
      (record { place = comma; opened = h.1 })),
)

may_end : (steps : List StepTree) (around : Steps) → HasAny steps → MayEndSteps steps around
may_end steps (deduction_of place at) h = h
may_end steps (block_of label assumed supposed before around) h = tt
may_end steps (let_of label bound assumed supposed before around) h = tt

at_comma : (all : List Tok) (around : Steps) (steps : List StepTree) (comma : Place) (rest : List Tok) → EndOfStep all around steps (sign kind.Comma comma ∷ rest)
    → Stands all (step_or_end steps around) rest
at_comma all around steps comma rest (inl h) = (
  may_end steps around (last_has_any kind.Comma step_tokens IsStep step_tree (StepsBegin all around) steps (sign kind.Comma comma ∷ rest) h),
  separator kind.Comma step_tokens (every IsStep) (grow step_tree) [] (StepsBegin all around) steps comma rest h,
)
at_comma all around steps comma rest (inr h) = no_steps_comma all around steps comma rest h

at_paren : (all : List Tok) (around : Steps) (steps : List StepTree) (right : Place) (rest : List Tok)
    → EndOfStep all around steps (sign kind.RightParen right ∷ rest) → Stands all (end_steps steps around) rest
at_paren all around steps right rest (inl h) =
    whole_steps all around steps right rest
    (may_end steps around (last_has_any kind.Comma step_tokens IsStep step_tree (StepsBegin all around) steps (sign kind.RightParen right ∷ rest) h))
    (last_is_whole kind.Comma step_tokens IsStep step_tree (StepsBegin all around) steps (sign kind.RightParen right ∷ rest) h)
at_paren all around steps right rest (inr h) = no_steps_end all around steps right rest h

pub step_end_stands : (all : List Tok) (steps : List StepTree) (around : Steps) (token : Tok) (rest : List Tok) → IsBare token
    → EndOfStep all around steps (token ∷ rest) → IfSome (next_step_end steps around token) (λ state. Stands all state rest)
step_end_stands all steps around token rest bare h =
    or_case (is kind.Comma token) (Some (step_or_end steps around)) _ (λ state. Stands all state rest)
    (λ b. at_comma all around steps token.place rest (at_step kind.Comma token rest (EndOfStep all around steps) refl refl bare b h))
    (λ b. on_case (is kind.RightParen token) (end_steps steps around) (λ state. Stands all state rest)
    (λ b. at_paren all around steps token.place rest (at_step kind.RightParen token rest (EndOfStep all around steps) refl refl bare b h)))

pub rule_case : (token : Tok) (rest : List Tok) (K : List Tok → Type 0) → IsBare token → K (token ∷ rest) → IfSome (rule_of token) (λ rule. RuleIs rule K rest)
rule_case token rest K bare h =
    or_case (is_name token) (Some (name_of token)) _ (λ rule. RuleIs rule K rest)
    (λ b. let n = name_step token rest K b h in record { text = rule_name (name_of token); fits = n.plain; same = refl; opened = n.opened })
    (λ b. or_case (is kind.SubstLess token) (Some (record { text = codes "Subst_<"; place = token.place })) _ (λ rule. RuleIs rule K rest)
    (λ b. record { text = subst_less token.place; fits = tt; same = refl; opened = at_step kind.SubstLess token rest K refl refl bare b h })
    (λ b. on_case (is kind.SubstGreater token) (record { text = codes "Subst_>"; place = token.place }) (λ rule. RuleIs rule K rest)
    (λ b. record { text = subst_greater token.place; fits = tt; same = refl; opened = at_step kind.SubstGreater token rest K refl refl bare b h })))
