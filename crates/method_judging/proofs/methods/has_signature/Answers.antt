use Rattle.std.proofs.Common.{◌∙◌}
use Rattle.slang_tree.specs.DeclTree.{method_decl_tree}
use Rattle.type_rules.specs.Projects.{signature_of}
use Rattle.method_judging.proofs.Whole.{has_is}
use Rattle.method_judging.proofs.methods.has_signature.Goals as goal

pub returns-clause-signature : goal.returns-clause-signature
returns-clause-signature c = λ names knows.
    c.is_some.ensures ∙ has_is c.in_ok-known.known (signature_of names (method_decl_tree c.args.decl.now)) (c.in_ok-known.ensures.signature names knows)
