-- A type by its first byte.
use Rattle.std.proofs.Common.{◌≡◌, ℕ, suc, List, Some, None, Result, Err, refl, sym, ap, ◌∙◌, subst}
use Rattle.slang_values.specs.Value.{ValueType}
use Rattle.key_rules.specs.Codes.{TypeHead, type_code, type_heads}
use Rattle.key_rules.specs.Readers.{read_byte}
use Rattle.key_rules.specs.Reading.{read_type, type_behind}
use Rattle.key_cursor.specs.declared.end.ReadEnd.{ReadEnd}
use Rattle.key_cursor.specs.Reads.{Reads}
use Rattle.key_cursor.proofs.Reading.{byte_ends, head_ends, head_known, head_unknown, reads_same}
use Rattle.lk_claims.specs.declared.ty.Ty.{Ty}
use Rattle.lk_claims.specs.Claim.{value_type}
use Rattle.claim_reader.specs.Heads.{type_head_coded}

pub type_ends : (depth inner : ℕ) (old middle new : List ℕ) (end : ReadEnd) → depth ≡ suc inner → byte_ends old middle end
    → Reads value_type (read_type depth) old new (Err end)
type_ends depth inner old middle new end e h =
    subst (λ d. Reads value_type (read_type d) old new (Err end)) (sym e) (head_ends value_type type_code type_heads (type_behind (read_type inner)) old middle new end h)

pub type_unknown : (depth inner : ℕ) (old middle : List ℕ) (byte : ℕ) → depth ≡ suc inner → read_byte old ≡ Some (byte, middle)
    → None ≡ type_head_coded byte → read_type depth old ≡ None
unfolding type_head_coded
type_unknown depth inner old middle byte e h k =
    ap (λ d. read_type d old) e ∙ head_unknown type_code type_heads (type_behind (read_type inner)) old middle byte h (sym k)

pub type_known : (depth inner : ℕ) (old middle new : List ℕ) (byte : ℕ) (head : TypeHead) (result : Result Ty ReadEnd) → depth ≡ suc inner
    → read_byte old ≡ Some (byte, middle) → Some head ≡ type_head_coded byte → Reads value_type (type_behind (read_type inner) head) middle new result
    → Reads value_type (read_type depth) old new result
unfolding type_head_coded
type_known depth inner old middle new byte head result e h k r =
    reads_same value_type (read_type depth) (type_behind (read_type inner) head) old middle new result
    (ap (λ d. read_type d old) e ∙ head_known type_code type_heads (type_behind (read_type inner)) old middle byte head h (sym k)) r
