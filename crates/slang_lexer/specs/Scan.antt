-- What the scan of a token computes.
use Rattle.std.specs.Prelude.{◌≡◌, ℕ, ◌<◌, ◌≤◌, false, nat_eq, if◌then◌else◌, List, [], ◌∷◌, length, map, take, Option, Some, None}
use Rattle.std.specs.Borrow.{Bor}
use Rattle.std.specs.List.{starts_with}
use Rattle.slang_lexer.specs.declared.token.TokenKind.{TokenKind}
use Rattle.slang_lexer.specs.Spelling.{Table, kind_of, is_name, IsName}

-- a table as the code keeps it
abbrev pub table_of : List (Bor (List ℕ) × TokenKind) → Table
table_of rows = map (λ row. (row.0.now, row.1)) rows

-- the first row whose spelling the bytes begin with: its kind, and the length of the spelling
abbrev pub first_at : Table → List ℕ → Option (TokenKind × ℕ)
first_at [] bytes = None
first_at (row ∷ table) bytes = if starts_with nat_eq bytes row.0 then Some (row.1, length row.0) else first_at table bytes

-- no front of the bytes longer than n is a token
abbrev pub NoLongerFront : List ℕ → ℕ → Type 0
NoLongerFront bytes n = (m : ℕ) → n < m → m ≤ length bytes → kind_of (take m bytes) ≡ None

-- the longest token at the front of the bytes is of this kind and length
pub record IsLongestFront (bytes : List ℕ) (kind : TokenKind) (n : ℕ) : Type 0 where
  pub nonempty : 0 < n
  pub fits : n ≤ length bytes
  pub spells : kind_of (take n bytes) ≡ Some kind
  pub longest : NoLongerFront bytes n

-- the longest name at the front of the bytes is n bytes long; 0 where there is none
pub record IsLongestName (bytes : List ℕ) (n : ℕ) : Type 0 where
  pub fits : n ≤ length bytes
  pub name : 0 < n → IsName (take n bytes)
  pub longest : (m : ℕ) → n < m → m ≤ length bytes → is_name (take m bytes) ≡ false
