-- Lines and columns, both from 1. Columns count characters.
use Rattle.std.specs.Prelude.{ℕ, ◌+◌, Bool, not, ◌&&◌, ◌==◌, nat_lt, nat_le, List, count_by, take}
use Rattle.std.specs.List.{after_last}
use Rattle.slang_tree.specs.declared.place.Place.{Place}

abbrev pub is_newline : ℕ → Bool
is_newline byte = byte == 10

-- a byte that begins a character: any but a continuation byte of UTF-8
abbrev pub begins_character : ℕ → Bool
begins_character byte = not (nat_le 128 byte && nat_lt byte 192)

-- where the character behind these bytes stands: a line below each newline, and in its line behind each character
abbrev pub place_behind : List ℕ → Place
place_behind bytes = record {
  line = count_by is_newline bytes + 1;
  col = count_by begins_character (after_last is_newline bytes) + 1;
}

-- where the character at this byte of a text stands
abbrev pub place_at : List ℕ → ℕ → Place
place_at text at = place_behind (take at text)
