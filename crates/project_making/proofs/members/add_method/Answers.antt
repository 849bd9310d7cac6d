use Rattle.std.proofs.Common.{refl, subst, sym}
use Rattle.slang_tree.specs.DeclTree.{method_decl_tree}
use Rattle.type_rules.specs.Projects.{outline_names, outline_of, scope_of}
use Rattle.name_scopes.specs.Fits.{Fits}
use Rattle.project_making.proofs.Single.{method_added}
use Rattle.project_making.proofs.members.add_method.Goals as goal

pub returns-clause-added : goal.returns-clause-added
returns-clause-added c = λ decls project fields.
    method_added c.args.globals c.args.nodes.now c.made_method.new.nodes c.args.members.now _ decls (method_decl_tree c.args.decl.now)
    c.in_ok-method.method (c.in_ok-method.ensures.method (outline_names decls) (scope_of decls) project.outline.names project.scope fields)
    c.in_ok-push.ensures.items refl

pub returns-clause-known : goal.returns-clause-known
returns-clause-known c = λ decls project fields. record {
  outline = subst (λ s. Fits s (outline_of decls)) (sym c.in_ok-method.ensures.outline) project.outline;
  scope = c.in_ok-method.ensures.fits (outline_names decls) (scope_of decls) project.outline.names project.scope fields;
  allowed = project.allowed;
}
