use Rattle.std.proofs.Common.{◌∙◌, ap, sym}
use Rattle.right_sides.specs.Called.{is_method}
use Rattle.right_sides.proofs.called.names_method.Goals as goal

pub returns-in-Some : goal.returns-in-Some
returns-in-Some c = λ at fits. c.method_meant.ensures ∙ ap is_method (sym (c.in-Some.ensures at fits))
