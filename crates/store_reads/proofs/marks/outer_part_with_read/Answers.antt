use Rattle.std.proofs.Common.{[], sym, subst, ◌∙◌}
use Rattle.term_nodes.specs.Node.{tree_of}
use Rattle.store_reads.specs.Marks.{IsMarkedPart}
use Rattle.store_reads.proofs.Store.{outer-shape, outer-listed}
use Rattle.store_reads.proofs.marks.outer_part_with_read.Goals as goal

pub returns-in-Update : goal.returns-in-Update
returns-in-Update c = subst (λ ks. IsMarkedPart c.args.marks.now ks c.first_with_read-in-Update.result) (sym (outer-shape c.args.node.now _ c.in-Update.ensures)) c.first_with_read-in-Update.ensures

pub returns-in-Quantified : goal.returns-in-Quantified
returns-in-Quantified c = subst (λ ks. IsMarkedPart c.args.marks.now ks c.first_with_read-in-Quantified.result) (sym (outer-shape c.args.node.now _ c.in-Quantified.ensures)) c.first_with_read-in-Quantified.ensures

pub returns-in-Sequence : goal.returns-in-Sequence
returns-in-Sequence c =
    subst (λ ks. IsMarkedPart c.args.marks.now ks c.first_with_read-in-Sequence.result) (sym (outer-shape c.args.node.now _ c.in-Sequence.ensures ∙ outer-listed (tree_of []) c.in-Sequence.parts.now)) c.first_with_read-in-Sequence.ensures

pub returns-in-Record : goal.returns-in-Record
returns-in-Record c =
    subst (λ ks. IsMarkedPart c.args.marks.now ks c.first_with_read-in-Record.result) (sym (outer-shape c.args.node.now _ c.in-Record.ensures ∙ outer-listed (tree_of []) c.in-Record.parts.now)) c.first_with_read-in-Record.ensures
