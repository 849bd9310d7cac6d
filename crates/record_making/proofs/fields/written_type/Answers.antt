use Rattle.std.proofs.Common.{ap, cond, None, sym, ◌∙◌}
use Rattle.slang_tree.specs.TypeTree.{type_tree}
use Rattle.type_rules.specs.Judged.{known_type}
use Rattle.type_rules.specs.TypeNames.{judged_type}
use Rattle.typed_texts.specs.Code.{type_declared}
use Rattle.record_judging.proofs.Judging.{type_known}
use Rattle.record_making.proofs.fields.written_type.Goals as goal

pub returns-then-allowed : goal.returns-then-allowed
returns-then-allowed c = λ names knows.
    let t = type_tree c.args.field.now.ty in
    c.known.ensures
    ∙ ap known_type (type_known c.args.outline.now.names names knows t c.variable_type-found.ensures).is
    ∙ ap (λ b. type_declared (cond b (judged_type names t).type None)) (sym c.if-allowed.true)

pub returns-else-allowed : goal.returns-else-allowed
returns-else-allowed c = λ names knows.
    ap (λ b. type_declared (cond b (judged_type names (type_tree c.args.field.now.ty)).type None)) (sym c.if-allowed.false)
