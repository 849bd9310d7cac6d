use Rattle.std.proofs.Common.{◌∙◌, ap, sym}
use Rattle.std.specs.Option.{option_map}
use Rattle.slang_tree.specs.TypeTree.{type_tree}
use Rattle.type_rules.specs.Statements.{declared_type}
use Rattle.declared_meanings.proofs.globals.declared_type.Goals as goal

pub returns-in-Some : goal.returns-in-Some
returns-in-Some c = λ at value fits same.
    c.written_type.ensures at value fits ∙ ap (λ ty. declared_type at (option_map type_tree ty) value) (sym c.in-Some.is)
