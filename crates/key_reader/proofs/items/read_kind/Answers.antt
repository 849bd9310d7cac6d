use Rattle.std.proofs.Common.{sym, ap, ◌∙◌}
use Rattle.key_rules.specs.Codes.{coded, kind_code, checked_kinds}
use Rattle.key_rules.specs.Readers.{and_then, found}
use Rattle.key_cursor.specs.Reads.{left}
use Rattle.key_reader.proofs.items.read_kind.Goals as goal

pub returns-in-Some : goal.returns-in-Some
returns-in-Some c =
    ap (and_then (λ n. found (coded kind_code checked_kinds n))) c.in_ok-byte.ensures.reads ∙ ap (λ o. found o (left c.read_byte.new.self)) (sym c.in-Some.ensures)

pub returns-in-None : goal.returns-in-None
returns-in-None c =
    ap (and_then (λ n. found (coded kind_code checked_kinds n))) c.in_ok-byte.ensures.reads ∙ ap (λ o. found o (left c.read_byte.new.self)) (sym c.in-None.ensures)
