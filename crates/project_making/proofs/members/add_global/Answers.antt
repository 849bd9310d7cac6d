use Rattle.std.proofs.Common.{refl}
use Rattle.std.proofs.lemmas.Result.{IfOk-weaker}
use Rattle.slang_tree.specs.DeclTree.{global_decl_tree}
use Rattle.type_rules.specs.Projects.{outline_of}
use Rattle.project_making.proofs.Single.{global_added}
use Rattle.project_making.proofs.members.add_global.Goals as goal

pub returns : goal.returns
returns c =
    IfOk-weaker c.push.result _ _
    (λ _ added decls fits.
    global_added c.args.globals c.args.nodes.now c.made_global.new.nodes c.args.members.now _ decls (global_decl_tree c.args.decl.now)
    c.in_ok-global.global (c.in_ok-global.ensures.global (outline_of decls) fits) c.in_ok-global.ensures.name added refl)
    c.push.ensures.ok
