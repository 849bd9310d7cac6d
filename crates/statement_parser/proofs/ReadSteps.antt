-- How the machine reads steps of proofs.
use Rattle.std.proofs.Common.{◌≡◌, Bool, true, false, cond, List, [], ◌∷◌, ◌++◌, Option, Some, None, refl, sym, ap, subst, ◌∙◌}
use Rattle.std.specs.Prelude.{IsTrue}
use Rattle.std.specs.Option.{option_map}
use Rattle.slang_lexer.specs.declared.token.TokenKind.TheVariants as kind
use Rattle.slang_tree.specs.declared.expression.Name.{Name}
use Rattle.slang_tree.specs.declared.statement.Label.{Label}
use Rattle.slang_tree.specs.StmtTree.{StepTree}
use Rattle.slang_tokens.specs.Tok.{Tok}
use Rattle.slang_machine.specs.Open.{Steps, Labelled, alone, step_claim, assumed_in}
use Rattle.slang_machine.specs.States.{State, want, step_due, step_or_end, step_end, labelled, by_due, sub_left, assumed_due, assume_due, let_left}
use Rattle.slang_machine.specs.Expressions.{is, on}
use Rattle.slang_machine.specs.Statements.{label_of, begin_step, end_steps, sub_steps}
use Rattle.token_cursor.specs.Outcome.{outcome}
use Rattle.token_cursor.specs.Gives.{Expects}
use Rattle.token_cursor.specs.Lists.{begins, behind, member_end}
use Rattle.token_cursor.proofs.Steps.{one_kind}
use Rattle.token_cursor.proofs.Turns.{or_end, end_by}
use Rattle.expression_parser.specs.Expects.{ClosesExpr}
use Rattle.statement_parser.specs.Expects.{ExpectsLabel, StepsGoOn}
use Rattle.statement_parser.proofs.Reading.{takes_it}

pub closes_claim : (at : Labelled) → ClosesExpr (alone (step_claim at)) (λ expr. by_due expr at)
closes_claim at = record { begins = record { apart = refl; no_range = refl }; behind = λ expr token. refl }

pub closes_assumed : (variable : Option Name) (assumed : Label) (at : Labelled)
    → ClosesExpr (alone (assumed_in variable assumed at)) (λ expr. step_end [] (sub_steps variable assumed expr at))
closes_assumed variable assumed at = record { begins = record { apart = refl; no_range = refl }; behind = λ expr token. refl }

pub assumed_expected : (variable : Option Name) (at : Labelled) (tokens : List Tok) → ExpectsLabel tokens (assumed_due variable at) (λ l. assume_due variable l at)
assumed_expected variable at tokens = record { at_end = refl; label = refl; step = λ token rest e. refl }

-- Behind a label.

pub claim_opens : (at : Labelled) (tokens : List Tok) → begins kind.LeftParen tokens ≡ true
    → outcome (labelled at) tokens ≡ outcome (want (alone (step_claim at))) (behind tokens)
claim_opens at tokens h =
    let claim : State = want (alone (step_claim at)) in
    takes_it kind.LeftParen (labelled at) claim tokens h
    (λ token g. ap (λ b. cond b (Some claim) (cond (is kind.SubProof token) (Some (sub_left None at)) (on (is kind.Let token) (let_left at)))) g)

pub sub_opens : (at : Labelled) (tokens : List Tok) → begins kind.SubProof tokens ≡ true → outcome (labelled at) tokens ≡ outcome (sub_left None at) (behind tokens)
sub_opens at tokens h =
    let claim : State = want (alone (step_claim at)) in
    takes_it kind.SubProof (labelled at) (sub_left None at) tokens h (λ token g.
    ap (λ b. cond b (Some claim) (cond (is kind.SubProof token) (Some (sub_left None at)) (on (is kind.Let token) (let_left at))))
    (one_kind kind.SubProof kind.LeftParen token refl g)
    ∙ ap (λ b. cond b (Some (sub_left None at)) (on (is kind.Let token) (let_left at))) g)

pub let_due : (at : Labelled) (tokens : List Tok) → begins kind.LeftParen tokens ≡ false → begins kind.SubProof tokens ≡ false
    → Expects kind.Let tokens (labelled at) (let_left at)
let_due at tokens p s = record {
  at_end = refl;
  no_other = refl;
  step = λ token rest e.
      let claim : State = want (alone (step_claim at)) in
      ap (λ b. cond b (Some claim) (cond (is kind.SubProof token) (Some (sub_left None at)) (on (is kind.Let token) (let_left at)))) (sym (ap (begins kind.LeftParen) e) ∙ p)
      ∙ ap (λ b. cond b (Some (sub_left None at)) (on (is kind.Let token) (let_left at))) (sym (ap (begins kind.SubProof) e) ∙ s);
}

-- Lists of steps.

pub step_turn : (steps : List StepTree) (around : Steps) (tokens : List Tok)
    → outcome (step_end steps around) tokens ≡ member_end kind.Comma kind.RightParen (step_or_end steps around) (end_steps steps around) tokens
step_turn steps around tokens =
    let either : State = step_or_end steps around in
    let over : State = end_steps steps around in
    end_by kind.Comma kind.RightParen (step_end steps around) either either over tokens refl refl refl
    (λ token rest e h. ap (λ b. cond b (Some either) (on (is kind.RightParen token) over)) h)
    (λ token rest e h. ap (λ b. cond b (Some either) (on (is kind.RightParen token) over)) h)
    (λ rest. or_end kind.RightParen either either over rest refl refl
    (λ token h. ap (λ b. cond b (Some over) (option_map (begin_step steps around) (label_of token))) h) (λ token h. refl))

pub steps_go_on : (more : Bool) (steps : List StepTree) (around : Steps) (tokens : List Tok) → (IsTrue more → begins kind.RightParen tokens ≡ false)
    → StepsGoOn more tokens (cond more (step_or_end steps around) (end_steps steps around)) steps around
steps_go_on true steps around tokens h = record {
  at_end = refl;
  label = refl;
  step = λ token rest e.
      ap (λ b. cond b (Some (end_steps steps around)) (option_map (begin_step steps around) (label_of token))) (sym (ap (begins kind.RightParen) e) ∙ h refl);
}
steps_go_on false steps around tokens h = refl

pub first_expected : (around : Steps) (tokens : List Tok) → ExpectsLabel tokens (step_due [] around) (begin_step [] around)
first_expected around tokens = record { at_end = refl; label = refl; step = λ token rest e. refl }

pub goes_on_as : (more : Bool) (tokens : List Tok) (from : State) (steps : List StepTree) (around : Steps) → StepsGoOn more tokens from steps around → more ≡ true
    → ExpectsLabel tokens from (begin_step steps around)
goes_on_as more tokens from steps around x e = subst (λ b. StepsGoOn b tokens from steps around) e x

pub is_over_as : (more : Bool) (tokens : List Tok) (from : State) (steps : List StepTree) (around : Steps) → StepsGoOn more tokens from steps around → more ≡ false
    → from ≡ end_steps steps around
is_over_as more tokens from steps around x e = subst (λ b. StepsGoOn b tokens from steps around) e x
