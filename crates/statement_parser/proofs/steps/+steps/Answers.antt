use Rattle.std.proofs.Common.{◌≡◌, ◌∷◌, ◌++◌, [], cond, Some, None, List, map, refl, ap, ◌∙◌, sym, arith}
use Rattle.std.proofs.lemmas.Result.{IfOk-weaker}
use Rattle.slang_lexer.specs.declared.token.TokenKind.TheVariants as kind
use Rattle.slang_tree.specs.declared.statement.Step.{Step}
use Rattle.slang_tree.specs.ExprTree.{expr_tree}
use Rattle.slang_tree.specs.StmtTree as s
use Rattle.slang_tree.specs.StmtTree.{step_tree, steps_of}
use Rattle.slang_tokens.specs.Tok.{tok}
use Rattle.slang_machine.specs.Open.{alone, step_claim, assumed_in}
use Rattle.slang_machine.specs.States.{want, step_or_end, step_end, labelled, sub_left, let_left, let_end}
use Rattle.slang_machine.specs.Statements.{begin_step, end_steps, sub_steps}
use Rattle.token_cursor.specs.Outcome.{outcome}
use Rattle.token_cursor.specs.Gives.{ahead}
use Rattle.token_cursor.specs.Lists.{begins, behind}
use Rattle.token_cursor.proofs.Steps.{goes, expects}
use Rattle.token_cursor.proofs.Exits.{passed_on, built, refused_by, refused_as, kept_with, kept_refused}
use Rattle.expression_parser.proofs.Turns.{map_push}
use Rattle.statement_parser.specs.declared.steps.SubProof.{SubProof}
use Rattle.statement_parser.specs.Expects.{labelled_in}
use Rattle.statement_parser.proofs.ReadSteps.{closes_assumed, claim_opens, sub_opens, let_due, step_turn, steps_go_on, goes_on_as, is_over_as}
use Rattle.statement_parser.proofs.steps.+steps.Goals as goal

pub step-returns-in_err-label-clause-refused : goal.step-returns-in_err-label-clause-refused
step-returns-in_err-label-clause-refused t c =
    passed_on c.from_residual.result _ _ _ c.from_residual.ensures.1 c.in_err-label.ensures.refused (λ due none from steps around x. none from (begin_step steps around) x)

pub step-returns-then-take-clause-reads : goal.step-returns-then-take-clause-reads
step-returns-then-take-clause-reads t c =
    IfOk-weaker c.line.result _ _ (λ made reads from steps around x.
    c.in_ok-label.ensures.reads from (begin_step steps around) x
    ∙ claim_opens (labelled_in c.in_ok-label.label steps around) (ahead c.label.new.tokens) (sym c.take.ensures.found ∙ c.if-take.true)
    ∙ ap (outcome (want (alone (step_claim (labelled_in c.in_ok-label.label steps around))))) (sym c.if-take.ensures.moved)
    ∙ reads steps around) c.line.ensures.reads

pub step-returns-then-take-clause-refused : goal.step-returns-then-take-clause-refused
step-returns-then-take-clause-refused t c =
    refused_as c.line.result _ _ (λ due none from steps around x.
    c.in_ok-label.ensures.reads from (begin_step steps around) x
    ∙ claim_opens (labelled_in c.in_ok-label.label steps around) (ahead c.label.new.tokens) (sym c.take.ensures.found ∙ c.if-take.true)
    ∙ ap (outcome (want (alone (step_claim (labelled_in c.in_ok-label.label steps around))))) (sym c.if-take.ensures.moved)
    ∙ none steps around) c.line.ensures.refused

pub step-returns-then-take-2-clause-reads : goal.step-returns-then-take-2-clause-reads
step-returns-then-take-2-clause-reads t c =
    built c.sub_of.result c.sub_proof.result (λ made read. step_tree made ≡ s.block c.in_ok-label.label read.assumed (expr_tree read.assumption) (steps_of (map step_tree read.steps))) _ _ c.sub_of.ensures.made c.sub_proof.ensures.reads (λ made read reads same from steps around x.
    c.in_ok-label.ensures.reads from (begin_step steps around) x
    ∙ ap (outcome (labelled (labelled_in c.in_ok-label.label steps around))) (sym c.if-take.ensures.moved)
    ∙ sub_opens (labelled_in c.in_ok-label.label steps around) (ahead c.take.new.self) (sym c.take-2.ensures.found ∙ c.if-take-2.true)
    ∙ ap (outcome (sub_left None (labelled_in c.in_ok-label.label steps around))) (sym c.if-take-2.ensures.moved)
    ∙ reads None (labelled_in c.in_ok-label.label steps around)
    ∙ ap (λ tree. outcome (step_end (steps ++ tree ∷ []) around) (ahead c.sub_proof.new.tokens)) (sym same))

pub step-returns-then-take-2-clause-refused : goal.step-returns-then-take-2-clause-refused
step-returns-then-take-2-clause-refused t c =
    refused_by c.sub_of.result c.sub_proof.result _ _ c.sub_of.ensures.refused c.sub_proof.ensures.refused (λ due none from steps around x.
    c.in_ok-label.ensures.reads from (begin_step steps around) x
    ∙ ap (outcome (labelled (labelled_in c.in_ok-label.label steps around))) (sym c.if-take.ensures.moved)
    ∙ sub_opens (labelled_in c.in_ok-label.label steps around) (ahead c.take.new.self) (sym c.take-2.ensures.found ∙ c.if-take-2.true)
    ∙ ap (outcome (sub_left None (labelled_in c.in_ok-label.label steps around))) (sym c.if-take-2.ensures.moved)
    ∙ none None (labelled_in c.in_ok-label.label steps around))

pub step-returns-in_err-expect-clause-refused : goal.step-returns-in_err-expect-clause-refused
step-returns-in_err-expect-clause-refused t c =
    passed_on c.from_residual-in_err-expect.result _ _ _ c.from_residual-in_err-expect.ensures.1 c.in_err-expect.ensures.refused (λ due none from steps around x.
    c.in_ok-label.ensures.reads from (begin_step steps around) x
    ∙ ap (outcome (labelled (labelled_in c.in_ok-label.label steps around))) (sym c.if-take.ensures.moved)
    ∙ ap (outcome (labelled (labelled_in c.in_ok-label.label steps around))) (sym c.if-take-2.ensures.moved)
    ∙ none (labelled (labelled_in c.in_ok-label.label steps around)) (let_left (labelled_in c.in_ok-label.label steps around)) (let_due (labelled_in c.in_ok-label.label steps around) _
    (ap (begins kind.LeftParen) (c.if-take-2.ensures.moved ∙ c.if-take.ensures.moved) ∙ sym c.take.ensures.found ∙ c.if-take.false)
    (ap (begins kind.SubProof) c.if-take-2.ensures.moved ∙ sym c.take-2.ensures.found ∙ c.if-take-2.false)))

pub step-returns-clause-reads : goal.step-returns-clause-reads
step-returns-clause-reads t c =
    IfOk-weaker c.let_step.result _ _ (λ made reads from steps around x.
    c.in_ok-label.ensures.reads from (begin_step steps around) x
    ∙ ap (outcome (labelled (labelled_in c.in_ok-label.label steps around))) (sym c.if-take.ensures.moved)
    ∙ ap (outcome (labelled (labelled_in c.in_ok-label.label steps around))) (sym c.if-take-2.ensures.moved)
    ∙ c.in_ok-expect.ensures.reads (labelled (labelled_in c.in_ok-label.label steps around)) (let_left (labelled_in c.in_ok-label.label steps around)) (let_due (labelled_in c.in_ok-label.label steps around) _
    (ap (begins kind.LeftParen) (c.if-take-2.ensures.moved ∙ c.if-take.ensures.moved) ∙ sym c.take.ensures.found ∙ c.if-take.false)
    (ap (begins kind.SubProof) c.if-take-2.ensures.moved ∙ sym c.take-2.ensures.found ∙ c.if-take-2.false))
    ∙ reads steps around) c.let_step.ensures.reads

pub step-returns-clause-refused : goal.step-returns-clause-refused
step-returns-clause-refused t c =
    refused_as c.let_step.result _ _ (λ due none from steps around x.
    c.in_ok-label.ensures.reads from (begin_step steps around) x
    ∙ ap (outcome (labelled (labelled_in c.in_ok-label.label steps around))) (sym c.if-take.ensures.moved)
    ∙ ap (outcome (labelled (labelled_in c.in_ok-label.label steps around))) (sym c.if-take-2.ensures.moved)
    ∙ c.in_ok-expect.ensures.reads (labelled (labelled_in c.in_ok-label.label steps around)) (let_left (labelled_in c.in_ok-label.label steps around)) (let_due (labelled_in c.in_ok-label.label steps around) _
    (ap (begins kind.LeftParen) (c.if-take-2.ensures.moved ∙ c.if-take.ensures.moved) ∙ sym c.take.ensures.found ∙ c.if-take.false)
    (ap (begins kind.SubProof) c.if-take-2.ensures.moved ∙ sym c.take-2.ensures.found ∙ c.if-take-2.false))
    ∙ none steps around) c.let_step.ensures.refused

pub let_step-returns-in_err-variable-clause-refused : goal.let_step-returns-in_err-variable-clause-refused
let_step-returns-in_err-variable-clause-refused t c =
    passed_on c.from_residual.result _ _ _ c.from_residual.ensures.1 c.in_err-variable.ensures.refused (λ due none steps around. none (labelled_in c.args.label steps around))

pub let_step-returns-clause-reads : goal.let_step-returns-clause-reads
let_step-returns-clause-reads t c =
    built c.let_of.result c.let_proof.result (λ made read. step_tree made ≡ s.let_block c.args.label c.in_ok-variable.variable read.assumed (expr_tree read.assumption) (steps_of (map step_tree read.steps))) _ _ c.let_of.ensures.made c.let_proof.ensures.reads (λ made read reads same steps around.
    c.in_ok-variable.ensures.reads (labelled_in c.args.label steps around) ∙ reads c.in_ok-variable.variable (labelled_in c.args.label steps around)
    ∙ ap (λ tree. outcome (step_end (steps ++ tree ∷ []) around) (ahead c.let_proof.new.tokens)) (sym same))

pub let_step-returns-clause-refused : goal.let_step-returns-clause-refused
let_step-returns-clause-refused t c =
    refused_by c.let_of.result c.let_proof.result _ _ c.let_of.ensures.refused c.let_proof.ensures.refused (λ due none steps around.
    c.in_ok-variable.ensures.reads (labelled_in c.args.label steps around) ∙ none c.in_ok-variable.variable (labelled_in c.args.label steps around))

pub let_proof-returns-in_err-inside-clause-refused : goal.let_proof-returns-in_err-inside-clause-refused
let_proof-returns-in_err-inside-clause-refused t c =
    passed_on c.from_residual.result _ _ _ c.from_residual.ensures.1 c.in_err-inside.ensures.refused (λ due none variable at. none (Some variable) at)

pub let_proof-returns-clause-reads : goal.let_proof-returns-clause-reads
let_proof-returns-clause-reads t c =
    kept_with c.kept.result c.in_ok-inside.inside c.expect.result _ _ c.kept.ensures c.expect.ensures.reads (λ reads variable at.
    c.in_ok-inside.ensures.reads (Some variable) at
    ∙ reads (let_end (at.steps ++ s.let_block at.label variable c.in_ok-inside.inside.assumed (expr_tree c.in_ok-inside.inside.assumption) (steps_of (map step_tree c.in_ok-inside.inside.steps)) ∷ []) at.around)
    (step_end (at.steps ++ s.let_block at.label variable c.in_ok-inside.inside.assumed (expr_tree c.in_ok-inside.inside.assumption) (steps_of (map step_tree c.in_ok-inside.inside.steps)) ∷ []) at.around) (expects kind.RightParen _ _ refl refl (λ token. refl)))

pub let_proof-returns-clause-refused : goal.let_proof-returns-clause-refused
let_proof-returns-clause-refused t c =
    kept_refused c.kept.result c.in_ok-inside.inside c.expect.result _ _ c.kept.ensures c.expect.ensures.refused (λ due none variable at.
    c.in_ok-inside.ensures.reads (Some variable) at
    ∙ none (let_end (at.steps ++ s.let_block at.label variable c.in_ok-inside.inside.assumed (expr_tree c.in_ok-inside.inside.assumption) (steps_of (map step_tree c.in_ok-inside.inside.steps)) ∷ []) at.around)
    (step_end (at.steps ++ s.let_block at.label variable c.in_ok-inside.inside.assumed (expr_tree c.in_ok-inside.inside.assumption) (steps_of (map step_tree c.in_ok-inside.inside.steps)) ∷ []) at.around) (expects kind.RightParen _ _ refl refl (λ token. refl)))

pub sub_proof-returns-in_err-assumed-clause-refused : goal.sub_proof-returns-in_err-assumed-clause-refused
sub_proof-returns-in_err-assumed-clause-refused t c =
    passed_on c.from_residual.result _ _ _ c.from_residual.ensures.1 c.in_err-assumed.ensures.refused (λ due none variable at. none variable at)

pub sub_proof-returns-in_err-assumption-clause-refused : goal.sub_proof-returns-in_err-assumption-clause-refused
sub_proof-returns-in_err-assumption-clause-refused t c =
    passed_on c.from_residual-in_err-assumption.result _ _ _ c.from_residual-in_err-assumption.ensures.1 c.in_err-assumption.ensures.refused (λ due none variable at.
    c.in_ok-assumed.ensures.reads variable at
    ∙ none (alone (assumed_in variable c.in_ok-assumed.assumed at)) (λ expr. step_end [] (sub_steps variable c.in_ok-assumed.assumed expr at)) (closes_assumed variable c.in_ok-assumed.assumed at))

pub sub_proof-returns-clause-reads : goal.sub_proof-returns-clause-reads
sub_proof-returns-clause-reads t c =
    built c.sub_proof_of.result c.steps_behind.result (λ made read. made ≡ record { assumed = c.in_ok-assumed.assumed; assumption = c.in_ok-assumption.assumption; steps = read }) _ _ c.sub_proof_of.ensures.made c.steps_behind.ensures.reads (λ made read reads same variable at.
    c.in_ok-assumed.ensures.reads variable at
    ∙ c.in_ok-assumption.ensures.reads (alone (assumed_in variable c.in_ok-assumed.assumed at)) (λ expr. step_end [] (sub_steps variable c.in_ok-assumed.assumed expr at)) (closes_assumed variable c.in_ok-assumed.assumed at)
    ∙ reads (sub_steps variable c.in_ok-assumed.assumed (expr_tree c.in_ok-assumption.assumption) at)
    ∙ ap (λ (p : SubProof). outcome (end_steps (map step_tree p.steps) (sub_steps variable p.assumed (expr_tree p.assumption) at)) (ahead c.steps_behind.new.tokens)) (sym same))

pub sub_proof-returns-clause-refused : goal.sub_proof-returns-clause-refused
sub_proof-returns-clause-refused t c =
    refused_by c.sub_proof_of.result c.steps_behind.result _ _ c.sub_proof_of.ensures.refused c.steps_behind.ensures.refused (λ due none variable at.
    c.in_ok-assumed.ensures.reads variable at
    ∙ c.in_ok-assumption.ensures.reads (alone (assumed_in variable c.in_ok-assumed.assumed at)) (λ expr. step_end [] (sub_steps variable c.in_ok-assumed.assumed expr at)) (closes_assumed variable c.in_ok-assumed.assumed at)
    ∙ none (sub_steps variable c.in_ok-assumed.assumed (expr_tree c.in_ok-assumption.assumption) at))

pub steps_behind-returns-in_err-more-clause-refused : goal.steps_behind-returns-in_err-more-clause-refused
steps_behind-returns-in_err-more-clause-refused t c =
    passed_on c.from_residual.result _ _ _ c.from_residual.ensures.1 c.in_err-more.ensures.refused (λ due none around. step_turn [] around (ahead c.args.tokens.now) ∙ none (step_or_end [] around) (end_steps [] around))

pub steps_behind-returns-clause-reads : goal.steps_behind-returns-clause-reads
steps_behind-returns-clause-reads t c =
    let more = c.in_ok-more.more in
    let list = c.new-list.result in
    kept_with c.kept.result c.add_steps-end.new.list c.add_steps-end.result _ _ c.kept.ensures c.add_steps-end.ensures.reads (λ reads around.
    step_turn [] around (ahead c.args.tokens.now)
    ∙ c.in_ok-more.ensures.reads (step_or_end [] around) (end_steps [] around)
    ∙ ap (λ (l : List Step). outcome (cond more (step_or_end (map step_tree l) around) (end_steps (map step_tree l) around)) (ahead c.goes_on.new.self)) (sym c.new-list.ensures)
    ∙ reads (cond more (step_or_end (map step_tree list) around) (end_steps (map step_tree list) around)) around
    (steps_go_on more (map step_tree list) around (ahead c.goes_on.new.self) c.in_ok-more.ensures.begins))

pub steps_behind-returns-clause-refused : goal.steps_behind-returns-clause-refused
steps_behind-returns-clause-refused t c =
    let more = c.in_ok-more.more in
    let list = c.new-list.result in
    kept_refused c.kept.result c.add_steps-end.new.list c.add_steps-end.result _ _ c.kept.ensures c.add_steps-end.ensures.refused (λ due none around.
    step_turn [] around (ahead c.args.tokens.now)
    ∙ c.in_ok-more.ensures.reads (step_or_end [] around) (end_steps [] around)
    ∙ ap (λ (l : List Step). outcome (cond more (step_or_end (map step_tree l) around) (end_steps (map step_tree l) around)) (ahead c.goes_on.new.self)) (sym c.new-list.ensures)
    ∙ none (cond more (step_or_end (map step_tree list) around) (end_steps (map step_tree list) around)) around
    (steps_go_on more (map step_tree list) around (ahead c.goes_on.new.self) c.in_ok-more.ensures.begins))

pub add_steps-members-init : goal.add_steps-members-init
add_steps-members-init t c = record { reads = λ from around x. (from, refl, x); no_longer = omega arith }

pub add_steps-members-preserved : goal.add_steps-members-preserved
add_steps-members-preserved t c =
    let tree = step_tree c.in_ok-member.member in
    let more = c.in_ok-more.more in
    let later = ahead c.goes_on.new.self in
    let grown = map_push step_tree c.members.list c.push.new.self c.in_ok-member.member c.in_ok-push.ensures.ok in
    record {
      reads = λ from around x.
          let before = c.members.invariant.reads from around x in
          let trees = map step_tree c.members.list in
          let due_there = goes_on_as _ (ahead c.members.tokens) before.0 trees around before.2 c.members-test.true in
          let next = trees ++ tree ∷ [] in
          let now_due = map step_tree c.push.new.self in (
            cond more (step_or_end now_due around) (end_steps now_due around),
            before.1
                ∙ c.in_ok-member.ensures.reads before.0 trees around due_there
                ∙ step_turn next around (ahead c.step.new.tokens)
                ∙ c.in_ok-more.ensures.reads (step_or_end next around) (end_steps next around)
                ∙ ap (λ ts. outcome (cond more (step_or_end ts around) (end_steps ts around)) later) (sym grown),
            steps_go_on more now_due around later c.in_ok-more.ensures.begins,
          );
      no_longer = omega (arith, c.members.invariant.no_longer, c.in_ok-member.ensures.shorter, c.in_ok-more.ensures.shorter);
    }

pub add_steps-returns-clause-reads : goal.add_steps-returns-clause-reads
add_steps-returns-clause-reads t c = λ from around x.
    let before = c.members.invariant.reads from around x in
    before.1 ∙ ap (λ s. outcome s (ahead c.members.tokens)) (is_over_as _ (ahead c.members.tokens) before.0 (map step_tree c.members.list) around before.2 c.members-test.false)

pub add_steps-returns-in_err-member-clause-refused : goal.add_steps-returns-in_err-member-clause-refused
add_steps-returns-in_err-member-clause-refused t c =
    passed_on c.from_residual.result _ _ _ c.from_residual.ensures.1 c.in_err-member.ensures.refused (λ due none from around x.
    let before = c.members.invariant.reads from around x in
    let trees = map step_tree c.members.list in
    let due_there = goes_on_as _ (ahead c.members.tokens) before.0 trees around before.2 c.members-test.true in
    before.1 ∙ none before.0 trees around due_there)

pub add_steps-returns-in_err-more-clause-refused : goal.add_steps-returns-in_err-more-clause-refused
add_steps-returns-in_err-more-clause-refused t c =
    passed_on c.from_residual-in_err-more.result _ _ _ c.from_residual-in_err-more.ensures.1 c.in_err-more.ensures.refused (λ due none from around x.
    let before = c.members.invariant.reads from around x in
    let trees = map step_tree c.members.list in
    let due_there = goes_on_as _ (ahead c.members.tokens) before.0 trees around before.2 c.members-test.true in
    let next = trees ++ step_tree c.in_ok-member.member ∷ [] in
    before.1
    ∙ c.in_ok-member.ensures.reads before.0 trees around due_there
    ∙ step_turn next around (ahead c.step.new.tokens)
    ∙ none (step_or_end next around) (end_steps next around))
