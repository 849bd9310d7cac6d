use Rattle.std.proofs.Common.{ℕ, List, ◌++◌, ap, ◌∙◌}
use Rattle.std.specs.Prelude.{codes}
use Rattle.run_texts.specs.Texts.{kind_text, node_text}
use Rattle.run_lines.specs.Lines.{names_in}
use Rattle.run_lines.proofs.Appends.{on_ok, five_added}
use Rattle.run_lines.proofs.lines.fails_line.Goals as goal

pub returns : goal.returns
returns c =
    let names = names_in c.args.typed.now in
    on_ok c.add_text-4.result _ _
    (five_added c.args.text.now.items (codes "fails ") (kind_text names c.args.kind) (codes " ") (node_text names c.args.node.0) (codes "\n")
    c.add_text.new.text.items c.add_text-2.new.text.items c.add_text-3.new.text.items c.add_node.new.text.items c.add_text-4.new.text.items
    c.in_ok-add_text.ensures
    (c.in_ok-add_text-2.ensures ∙ ap (λ (w : List ℕ). c.add_text.new.text.items ++ w) (c.kind_word.ensures names)) c.in_ok-add_text-3.ensures
    c.in_ok-add_node.ensures) c.add_text-4.ensures
