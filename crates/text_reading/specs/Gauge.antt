-- What a gauge has counted of a text.
use Rattle.std.specs.Prelude.{◌≡◌, ◌==◌, ℕ, ◌≤◌, List, ◌++◌, length, count_by, Contains}
use Rattle.text_reading.specs.Limits.{newline, IsWithin}
use Rattle.text_reading.specs.declared.gauge.Gauge.{Gauge}

-- So many bytes stand after the last newline.
pub record Column (text : List ℕ) (column : ℕ) : Type 0 where
  pub before : List ℕ
  pub stretch : List ℕ
  pub whole : text ≡ before ++ stretch
  pub free : ¬ Contains stretch newline
  pub size : length stretch ≡ column
  pub most : (front end : List ℕ) → text ≡ front ++ end → ¬ Contains end newline → length end ≤ column

-- The gauge has counted this text, which is within the limits.
pub record HasCounted (gauge : Gauge) (text : List ℕ) : Type 0 where
  pub bytes : gauge.bytes ≡ length text
  pub newlines : gauge.newlines ≡ count_by (λ b. b == newline) text
  pub column : Column text gauge.column
  pub within : IsWithin gauge.limits text
