use Rattle.std.proofs.Common.{◌+◌, ap, ◌∙◌, sym}
use Rattle.std.proofs.lemmas.Result.{on_ok_weaker}
use Rattle.slang_machine.specs.States.{clause_end}
use Rattle.token_cursor.specs.Outcome.{outcome}
use Rattle.token_cursor.specs.Gives.{ahead}
use Rattle.token_cursor.proofs.Exits.{refused_as}
use Rattle.method_parser.specs.Bodies.{draft_of, behind_clause, clause_order}
use Rattle.method_parser.proofs.bodies.clause_behind.Goals as goal

pub returns-in-Requires-clause-reads : goal.returns-in-Requires-clause-reads
returns-in-Requires-clause-reads c =
    on_ok_weaker c.add_requires.result (λ reads done.
    ap (λ h. outcome (behind_clause (draft_of done c.args.method.now) h) (ahead c.args.tokens.now)) c.in-Requires.is
    ∙ reads done
    ∙ ap (λ h. outcome (clause_end (clause_order h + 1) (draft_of done c.add_requires.new.method)) (ahead c.add_requires.new.tokens)) (sym c.in-Requires.is)) c.add_requires.ensures.reads

pub returns-in-Requires-clause-refused : goal.returns-in-Requires-clause-refused
returns-in-Requires-clause-refused c =
    refused_as c.add_requires.result _ _ (λ due none done.
    ap (λ h. outcome (behind_clause (draft_of done c.args.method.now) h) (ahead c.args.tokens.now)) c.in-Requires.is
    ∙ none done) c.add_requires.ensures.refused

pub returns-in-Modifies-clause-reads : goal.returns-in-Modifies-clause-reads
returns-in-Modifies-clause-reads c =
    on_ok_weaker c.add_modifies.result (λ reads done.
    ap (λ h. outcome (behind_clause (draft_of done c.args.method.now) h) (ahead c.args.tokens.now)) c.in-Modifies.is
    ∙ reads done
    ∙ ap (λ h. outcome (clause_end (clause_order h + 1) (draft_of done c.add_modifies.new.method)) (ahead c.add_modifies.new.tokens)) (sym c.in-Modifies.is)) c.add_modifies.ensures.reads

pub returns-in-Modifies-clause-refused : goal.returns-in-Modifies-clause-refused
returns-in-Modifies-clause-refused c =
    refused_as c.add_modifies.result _ _ (λ due none done.
    ap (λ h. outcome (behind_clause (draft_of done c.args.method.now) h) (ahead c.args.tokens.now)) c.in-Modifies.is
    ∙ none done) c.add_modifies.ensures.refused

pub returns-in-Ensures-clause-reads : goal.returns-in-Ensures-clause-reads
returns-in-Ensures-clause-reads c =
    on_ok_weaker c.add_ensures.result (λ reads done.
    ap (λ h. outcome (behind_clause (draft_of done c.args.method.now) h) (ahead c.args.tokens.now)) c.in-Ensures.is
    ∙ reads done
    ∙ ap (λ h. outcome (clause_end (clause_order h + 1) (draft_of done c.add_ensures.new.method)) (ahead c.add_ensures.new.tokens)) (sym c.in-Ensures.is)) c.add_ensures.ensures.reads

pub returns-in-Ensures-clause-refused : goal.returns-in-Ensures-clause-refused
returns-in-Ensures-clause-refused c =
    refused_as c.add_ensures.result _ _ (λ due none done.
    ap (λ h. outcome (behind_clause (draft_of done c.args.method.now) h) (ahead c.args.tokens.now)) c.in-Ensures.is
    ∙ none done) c.add_ensures.ensures.refused
