use Rattle.std.proofs.Common.{Some, None}
use Rattle.slang_tree.specs.TypeTree.{type_tree}
use Rattle.lk_claims.proofs.Types.{value_type-Unit}
use Rattle.typed_parts.proofs.Known.{front_known}
use Rattle.typed_parts.proofs.types.front_ty.Goals as goal

pub returns-in-None : goal.returns-in-None
returns-in-None c = λ at fits. front_known c.args.scope.now at None (type_tree c.args.ty.now) _ fits c.in-None.ensures value_type-Unit

pub returns-in-Some : goal.returns-in-Some
returns-in-Some c = λ at fits. front_known c.args.scope.now at (Some c.in-Some.element) (type_tree c.args.ty.now) _ fits c.in-Some.ensures c.element_ty.ensures
