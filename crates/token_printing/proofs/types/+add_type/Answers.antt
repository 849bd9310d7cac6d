use Rattle.std.proofs.Common.{◌++◌, ◌∙◌, ap, codes}
use Rattle.std.proofs.lemmas.Result.{on_ok_weaker}
use Rattle.slang_tree.specs.TypeTree.{type_tree, z_name, b_name, unit_name, record_name}
use Rattle.slang_tree.proofs.Lines.{type_tree-Z, type_tree-B, type_tree-Unit, type_tree-Seq, type_tree-Named}
use Rattle.print_expressions.specs.Bare.{nowhere, bare_name}
use Rattle.print_expressions.specs.Accounts.{type_account}
use Rattle.print_layout.specs.Pieces.{none, bytes_of}
use Rattle.print_layout.specs.Expressions.{type_pieces}
use Rattle.token_printing.specs.Gaps.{gap_seen}
use Rattle.token_printing.proofs.Bytes.{type_line-Z, type_line-B, type_line-Unit, type_line-Named, type_said, sequence_said}
use Rattle.token_printing.proofs.types.+add_type.Goals as goal

pub returns-in-Z : goal.returns-in-Z
returns-in-Z t c =
    on_ok_weaker c.add_word.result
    (λ h. type_said c.args.text.now.items c.add_word.new.text.items (codes "Z") (gap_seen c.args.gap) (type_tree c.args.ty.now) (z_name c.in-Z.field-0) h
    (ap type_tree c.in-Z.is ∙ type_tree-Z c.in-Z.field-0) (type_line-Z (gap_seen c.args.gap) nowhere)) c.add_word.ensures

pub returns-in-B : goal.returns-in-B
returns-in-B t c =
    on_ok_weaker c.add_word-in-B.result
    (λ h. type_said c.args.text.now.items c.add_word-in-B.new.text.items (codes "B") (gap_seen c.args.gap) (type_tree c.args.ty.now) (b_name c.in-B.field-0) h
    (ap type_tree c.in-B.is ∙ type_tree-B c.in-B.field-0) (type_line-B (gap_seen c.args.gap) nowhere)) c.add_word-in-B.ensures

pub returns-in-Unit : goal.returns-in-Unit
returns-in-Unit t c =
    on_ok_weaker c.add_word-in-Unit.result
    (λ h. type_said c.args.text.now.items c.add_word-in-Unit.new.text.items (codes "Unit") (gap_seen c.args.gap) (type_tree c.args.ty.now) (unit_name c.in-Unit.field-0) h
    (ap type_tree c.in-Unit.is ∙ type_tree-Unit c.in-Unit.field-0) (type_line-Unit (gap_seen c.args.gap) nowhere)) c.add_word-in-Unit.ensures

pub returns-in-Named : goal.returns-in-Named
returns-in-Named t c =
    on_ok_weaker c.add_name.result
    (λ h. type_said c.args.text.now.items c.add_name.new.text.items c.in-Named.name.text (gap_seen c.args.gap) (type_tree c.args.ty.now) (record_name c.in-Named.name) h
    (ap type_tree c.in-Named.is ∙ type_tree-Named c.in-Named.name) (type_line-Named (gap_seen c.args.gap) (bare_name c.in-Named.name))) c.add_name.ensures

pub returns-in_ok-add_type-in-Seq : goal.returns-in_ok-add_type-in-Seq
returns-in_ok-add_type-in-Seq t c =
    on_ok_weaker c.add_text.result
    (λ h. sequence_said c.args.text.now.items c.add_word-in-Seq.new.text.items c.add_type.new.text.items c.add_text.new.text.items (gap_seen c.args.gap) c.in-Seq.field-0
    (type_tree c.args.ty.now) (type_tree c.in-Seq.element) c.in_ok-add_word-in-Seq.ensures
    (c.in_ok-add_type-in-Seq.ensures ∙ ap (λ ty. c.add_word-in-Seq.new.text.items ++ bytes_of (type_pieces none (type_account (type_tree ty)))) c.get.ensures) h
    (ap type_tree c.in-Seq.is ∙ type_tree-Seq c.in-Seq.field-0 c.in-Seq.element)) c.add_text.ensures
