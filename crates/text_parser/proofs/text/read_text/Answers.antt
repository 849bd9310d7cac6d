use Rattle.std.proofs.Common.{map, sym, subst}
use Rattle.std.proofs.lemmas.Result.{IfOk-weaker}
use Rattle.slang_tree.specs.DeclTree.{decl_tree}
use Rattle.slang_tokens.specs.Tok.{toks}
use Rattle.slang_grammar.specs.Texts.{Reads}
use Rattle.text_parser.proofs.Whole.{passed_on, err_weaker, reads_of, fault_of}
use Rattle.text_parser.proofs.text.read_text.Goals as goal

pub returns-in_err-items-clause-fault : goal.returns-in_err-items-clause-fault
returns-in_err-items-clause-fault c =
    let tokens = c.in_ok-tokens.tokens in
    passed_on c.from_residual-in_err-items.result _ _ _ c.from_residual-in_err-items.ensures.1 c.in_err-items.ensures.fault (λ fault told.
    fault_of c.args.text.now (toks tokens.list.items) tokens.end fault c.utf8.text c.in_ok-tokens.ensures.found told)

pub returns-clause-read : goal.returns-clause-read
returns-clause-read c =
    let tokens = c.in_ok-tokens.tokens in
    let text = c.args.text.now in
    IfOk-weaker c.ended.result _ _ (λ file h.
    subst (Reads text) (sym h.0)
    (reads_of text (toks tokens.list.items) tokens.end (map decl_tree c.in_ok-items.items) c.utf8.text c.in_ok-tokens.ensures.found h.1 c.in_ok-items.ensures.read)) c.ended.ensures.read

pub returns-clause-fault : goal.returns-clause-fault
returns-clause-fault c =
    let tokens = c.in_ok-tokens.tokens in
    err_weaker c.ended.result _ _ (λ fault told.
    fault_of c.args.text.now (toks tokens.list.items) tokens.end fault c.utf8.text c.in_ok-tokens.ensures.found told) c.ended.ensures.fault
