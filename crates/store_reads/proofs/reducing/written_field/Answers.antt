use Rattle.std.proofs.Common.{sym, ◌∙◌, subst}
use Rattle.store_reads.specs.Reducing.{IsFieldOf}
use Rattle.store_reads.proofs.Listed.{field-of_record}
use Rattle.store_reads.proofs.reducing.written_field.Goals as goal

pub returns-in-Record : goal.returns-in-Record
returns-in-Record c =
    subst (λ s. IsFieldOf s c.args.k c.copied.result) (sym c.in-Record.is)
    (field-of_record c.in-Record.field-0 c.in-Record.parts c.args.k c.copied.result (sym (c.copied.ensures ∙ c.at.ensures)))
