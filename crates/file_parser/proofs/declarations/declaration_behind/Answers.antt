use Rattle.std.proofs.Common.{ap, ◌∙◌}
use Rattle.std.proofs.lemmas.Result.{IfOk-weaker}
use Rattle.slang_tokens.specs.Tok.{tok}
use Rattle.token_cursor.specs.Outcome.{outcome}
use Rattle.token_cursor.specs.Gives.{ahead}
use Rattle.token_cursor.proofs.Exits.{refused_as}
use Rattle.file_parser.specs.Heads.{behind_decl_head}
use Rattle.file_parser.proofs.declarations.declaration_behind.Goals as goal

pub returns-in-Import-clause-reads : goal.returns-in-Import-clause-reads
returns-in-Import-clause-reads c =
    IfOk-weaker c.import.result _ _ (λ made reads done.
    ap (λ h. outcome (behind_decl_head done (tok c.args.token.now) h) (ahead c.args.tokens.now)) c.in-Import.is
    ∙ reads done) c.import.ensures.reads

pub returns-in-Import-clause-refused : goal.returns-in-Import-clause-refused
returns-in-Import-clause-refused c =
    refused_as c.import.result _ _ (λ due none done.
    ap (λ h. outcome (behind_decl_head done (tok c.args.token.now) h) (ahead c.args.tokens.now)) c.in-Import.is
    ∙ none done) c.import.ensures.refused

pub returns-in-Value-clause-reads : goal.returns-in-Value-clause-reads
returns-in-Value-clause-reads c =
    IfOk-weaker c.global_decl.result _ _ (λ made reads done.
    ap (λ h. outcome (behind_decl_head done (tok c.args.token.now) h) (ahead c.args.tokens.now)) c.in-Value.is
    ∙ reads done) c.global_decl.ensures.reads

pub returns-in-Value-clause-refused : goal.returns-in-Value-clause-refused
returns-in-Value-clause-refused c =
    refused_as c.global_decl.result _ _ (λ due none done.
    ap (λ h. outcome (behind_decl_head done (tok c.args.token.now) h) (ahead c.args.tokens.now)) c.in-Value.is
    ∙ none done) c.global_decl.ensures.refused

pub returns-in-At-clause-reads : goal.returns-in-At-clause-reads
returns-in-At-clause-reads c =
    IfOk-weaker c.record_decl.result _ _ (λ made reads done.
    ap (λ h. outcome (behind_decl_head done (tok c.args.token.now) h) (ahead c.args.tokens.now)) c.in-At.is
    ∙ reads done) c.record_decl.ensures.reads

pub returns-in-At-clause-refused : goal.returns-in-At-clause-refused
returns-in-At-clause-refused c =
    refused_as c.record_decl.result _ _ (λ due none done.
    ap (λ h. outcome (behind_decl_head done (tok c.args.token.now) h) (ahead c.args.tokens.now)) c.in-At.is
    ∙ none done) c.record_decl.ensures.refused

pub returns-in-Def-clause-reads : goal.returns-in-Def-clause-reads
returns-in-Def-clause-reads c =
    IfOk-weaker c.method_decl.result _ _ (λ made reads done.
    ap (λ h. outcome (behind_decl_head done (tok c.args.token.now) h) (ahead c.args.tokens.now)) c.in-Def.is
    ∙ reads done) c.method_decl.ensures.reads

pub returns-in-Def-clause-refused : goal.returns-in-Def-clause-refused
returns-in-Def-clause-refused c =
    refused_as c.method_decl.result _ _ (λ due none done.
    ap (λ h. outcome (behind_decl_head done (tok c.args.token.now) h) (ahead c.args.tokens.now)) c.in-Def.is
    ∙ none done) c.method_decl.ensures.refused
