use Rattle.global_making.proofs.Combined.{global_made, global_named}
use Rattle.global_making.proofs.globals.made_global.Goals as goal

pub returns-clause-global : goal.returns-clause-global
returns-clause-global c =
    global_made c.args.outline.now c.args.nodes.now c.constant_of-init.new.nodes c.args.decl.now c.copy-name.result c.global_ty-ty.result
    c.constant_of-init.result c.global_with.result c.global_ty-ty.ensures c.constant_of-init.ensures c.global_with.ensures

pub returns-clause-name : goal.returns-clause-name
returns-clause-name c =
    global_named c.args.decl.now.fixed c.args.decl.now.name.text c.copy-name.result c.global_ty-ty.result c.constant_of-init.result c.global_with.result
    c.copy-name.ensures c.global_with.ensures
