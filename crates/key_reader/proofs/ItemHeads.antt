-- An item by its first byte.
use Rattle.std.proofs.Common.{◌≡◌, ℕ, List, Some, None, Result, Err, refl, sym, ap, ◌∙◌}
use Rattle.key_rules.specs.Codes.{ItemHead, item_code, item_heads}
use Rattle.key_rules.specs.Readers.{read_byte}
use Rattle.key_rules.specs.Reading.{read_claim, read_item, read_step, item_behind}
use Rattle.key_cursor.specs.declared.end.ReadEnd.{ReadEnd}
use Rattle.key_cursor.specs.Reads.{Reads}
use Rattle.key_cursor.proofs.Reading.{byte_ends, head_ends, head_known, head_unknown, reads_same}
use Rattle.lk_programs.specs.declared.leg.Item.{Item}
use Rattle.lk_programs.specs.LegData.{item_tree}
use Rattle.key_reader.specs.Heads.{item_head_coded}

pub item_ends : (depth : ℕ) (old middle new : List ℕ) (end : ReadEnd) → byte_ends old middle end → Reads item_tree (read_item depth) old new (Err end)
item_ends depth old middle new end h = head_ends item_tree item_code item_heads (item_behind (read_claim depth) (read_step depth)) old middle new end h

pub item_unknown : (depth : ℕ) (old middle : List ℕ) (byte : ℕ) → read_byte old ≡ Some (byte, middle) → None ≡ item_head_coded byte → read_item depth old ≡ None
item_unknown depth old middle byte h k = head_unknown item_code item_heads (item_behind (read_claim depth) (read_step depth)) old middle byte h (sym k)

pub item_known : (depth : ℕ) (old middle new : List ℕ) (byte : ℕ) (head : ItemHead) (result : Result Item ReadEnd) → read_byte old ≡ Some (byte, middle)
    → Some head ≡ item_head_coded byte → Reads item_tree (item_behind (read_claim depth) (read_step depth) head) middle new result
    → Reads item_tree (read_item depth) old new result
item_known depth old middle new byte head result h k r =
    reads_same item_tree (read_item depth) (item_behind (read_claim depth) (read_step depth) head) old middle new result
    (head_known item_code item_heads (item_behind (read_claim depth) (read_step depth)) old middle byte head h (sym k)) r
