use Rattle.std.proofs.Common.{map, subst}
use Rattle.std.specs.Prelude.{IfOk}
use Rattle.slang_tree.specs.DeclTree.{param_tree}
use Rattle.header_making.specs.Headers.{IsHeaderOf}
use Rattle.header_making.proofs.Params.{header_is}
use Rattle.header_making.proofs.headers.made_header.Goals as goal

pub returns-clause-header : goal.returns-clause-header
returns-clause-header c =
    header_is c.args.outline.now.names c.args.decl.now c.in_ok-founds.founds c.in_ok-founds.found c.header_of.result
    (λ names knows. c.in_ok-founds.ensures.judged names knows)
    (subst (λ fs. IfOk c.header_of.result (λ header. IsHeaderOf header (map param_tree c.args.decl.now.params) fs c.in_ok-founds.found)) c.as_slice-2.ensures
    (subst (λ ps. IfOk c.header_of.result (λ header. IsHeaderOf header (map param_tree ps) c.as_slice-2.result.now c.in_ok-founds.found))
    c.as_slice.ensures c.header_of.ensures))
