-- Whether records are well formed, found by rounds: what ends within so many records, and how many parts it has there.
use Rattle.std.specs.Prelude.{◌≡◌, ℕ, ◌<◌, nat_le, ◌&&◌, min, List, length, get_or, Bool, true, false}
use Rattle.std.specs.List.{list_all}
use Rattle.slang_values.specs.Value.{Records, fields, is_known, ends_within, parts_within}

-- the answers for all records, to a depth of that many
pub record AreEnds (records : Records) (depth : ℕ) (answers : List Bool) : Type 0 where
  pub count : length answers ≡ length records
  pub at : (n : ℕ) → n < length records → get_or answers n false ≡ ends_within records depth n

-- the parts of all records, to that depth, each up to 1,001
pub record AreCounts (records : Records) (depth : ℕ) (counts : List ℕ) : Type 0 where
  pub count : length counts ≡ length records
  pub at : (n : ℕ) → n < length records → get_or counts n 0 ≡ min (parts_within records depth n) 1001

-- all records name records that are there
pub record AreKnown (records : Records) : Type 0 where
  pub at : (n : ℕ) → n < length records → list_all (is_known records) (fields records n) ≡ true
