use Rattle.std.proofs.Common.{Some, ap, ◌∙◌}
use Rattle.key_rules.specs.Readers.{read_number}
use Rattle.key_cursor.specs.Reads.{itself, left}
use Rattle.key_cursor.proofs.Members.{list_read, all_themselves}
use Rattle.key_cursor.proofs.numbers.read_numbers.Goals as goal

pub returns : goal.returns
returns c =
    list_read itself read_number c.in_ok-count.count c.new-numbers.result c.add_numbers.new.numbers (left c.args.cursor.now) (left c.read_count.new.self)
    (left c.add_numbers.new.cursor) c.new-numbers.ensures c.in_ok-count.ensures.reads c.in_ok-add_numbers.ensures
    ∙ ap (λ l. Some (l, left c.add_numbers.new.cursor)) (all_themselves c.add_numbers.new.numbers)
