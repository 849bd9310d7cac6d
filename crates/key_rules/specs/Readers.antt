-- Readers: what takes a value from the front of bytes, and leaves the bytes behind it.
use Rattle.std.specs.Prelude.{ℕ, zero, suc, ◌+◌, ◌*◌, ◌^◌, ◌<◌, nat_le, ℤ, Bool, true, false, List, [], ◌∷◌, length, Option, Some, None}
use Rattle.std.specs.Int.{w128, cast_signed}
use Rattle.std.specs.List.{AllByRecursion}
use Rattle.key_rules.specs.Codes.{coded}

abbrev pub AreBytes : List ℕ → Type 0
AreBytes bytes = AllByRecursion (λ b. b < 256) bytes

abbrev pub Reader : Type 0 → Type 0
Reader A = List ℕ → Option (A × List ℕ)

abbrev pub given : {A : Type 0} → A → Reader A
given a bytes = Some (a, bytes)

abbrev pub none : {A : Type 0} → Reader A
none bytes = None

abbrev pub and_then : {A B : Type 0} → (A → Reader B) → Option (A × List ℕ) → Option (B × List ℕ)
and_then next None = None
and_then next (Some found) = next found.0 found.1

-- one reader, and then the next, which knows what was read
infixl 10 ◌>>=◌
abbrev pub ◌>>=◌ : {A B : Type 0} → Reader A → (A → Reader B) → Reader B
(read >>= next) bytes = and_then next (read bytes)

abbrev pub read_byte : Reader ℕ
read_byte [] = None
read_byte (b ∷ bytes) = Some (b, bytes)

abbrev pub read_bytes : ℕ → Reader (List ℕ)
read_bytes zero = given []
read_bytes (suc k) = read_byte >>= λ b. read_bytes k >>= λ bs. given (b ∷ bs)

-- the number of these bytes, the highest first
abbrev pub worth : List ℕ → ℕ
worth [] = 0
worth (b ∷ bs) = b * 256 ^ length bs + worth bs

abbrev pub read_number : Reader ℕ
read_number = read_bytes 4 >>= λ bs. given (worth bs)

abbrev pub read_literal : Reader ℤ
read_literal = read_bytes 16 >>= λ bs. given (cast_signed w128 (worth bs))

abbrev pub found : {A : Type 0} → Option A → Reader A
found None = none
found (Some a) = given a

-- one of those listed, by its code
abbrev pub read_coded : {A : Type 0} → (A → ℕ) → List A → Reader A
read_coded code xs = read_byte >>= λ n. found (coded code xs n)

abbrev pub read_members : {A : Type 0} → Reader A → ℕ → Reader (List A)
read_members read zero = given []
read_members read (suc n) = read >>= λ x. read_members read n >>= λ xs. given (x ∷ xs)

-- Each member takes a byte at least, so no list has more members than bytes are left.
abbrev pub members_within : {A : Type 0} → Bool → Reader A → ℕ → Reader (List A)
members_within true read n = read_members read n
members_within false read n = none

abbrev pub members : {A : Type 0} → Reader A → ℕ → Reader (List A)
members read n bytes = members_within (nat_le n (length bytes)) read n bytes

-- its length, and its members
abbrev pub read_list : {A : Type 0} → Reader A → Reader (List A)
read_list read = read_number >>= members read
