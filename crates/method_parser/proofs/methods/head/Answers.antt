use Rattle.std.proofs.Common.{◌≡◌, map, refl, ap, ◌∙◌, sym}
use Rattle.slang_tree.specs.TypeTree.{type_tree}
use Rattle.slang_tree.specs.DeclTree.{param_tree, method_decl_tree}
use Rattle.slang_grammar.specs.Declarations.{bare_method}
use Rattle.slang_machine.specs.States.{part_or_end, naming, params_due}
use Rattle.token_cursor.specs.Outcome.{outcome}
use Rattle.token_cursor.specs.Gives.{ahead}
use Rattle.token_cursor.proofs.Steps.{expects_name}
use Rattle.token_cursor.proofs.Exits.{passed_on, built, refused_by}
use Rattle.method_parser.proofs.methods.head.Goals as goal

pub returns-in_err-name-clause-refused : goal.returns-in_err-name-clause-refused
returns-in_err-name-clause-refused c =
    passed_on c.from_residual.result _ _ _ c.from_residual.ensures.1 c.in_err-name.ensures.refused (λ due none done. none (naming done) (λ n. params_due n done) (expects_name _ _ refl refl (λ token. refl)))

pub returns-clause-reads : goal.returns-clause-reads
returns-clause-reads c =
    built c.bare_method.result c.signature.result (λ made read. method_decl_tree made ≡ bare_method c.in_ok-name.name (map param_tree read.0) (type_tree read.1)) _ _ c.bare_method.ensures.made c.signature.ensures.reads (λ made read reads same done.
    c.in_ok-name.ensures.reads (naming done) (λ n. params_due n done) (expects_name _ _ refl refl (λ token. refl))
    ∙ reads c.in_ok-name.name done
    ∙ ap (λ m. outcome (part_or_end 0 (record { done = done; method = m })) (ahead c.signature.new.tokens)) (sym same))

pub returns-clause-refused : goal.returns-clause-refused
returns-clause-refused c =
    refused_by c.bare_method.result c.signature.result _ _ c.bare_method.ensures.refused c.signature.ensures.refused (λ due none done.
    c.in_ok-name.ensures.reads (naming done) (λ n. params_due n done) (expects_name _ _ refl refl (λ token. refl))
    ∙ none c.in_ok-name.name done)
