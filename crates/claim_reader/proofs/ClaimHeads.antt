-- A claim by its first byte, and its parts.
use Rattle.std.proofs.Common.{◌≡◌, ℕ, suc, List, [], ◌∷◌, map, Some, None, Result, Err, refl, sym, ap, ◌∙◌, subst}
use Rattle.slang_values.specs.Tree.{tree_then}
use Rattle.key_rules.specs.Codes.{ClaimHead, claim_code, claim_heads}
use Rattle.key_rules.specs.Readers.{read_byte}
use Rattle.key_rules.specs.Reading.{read_claim, read_type, claim_behind, trees_of}
use Rattle.program_trees.specs.Claims.{ClaimTree}
use Rattle.key_cursor.specs.declared.end.ReadEnd.{ReadEnd}
use Rattle.key_cursor.specs.Reads.{Reads}
use Rattle.key_cursor.proofs.Reading.{byte_ends, head_ends, head_known, head_unknown, reads_same}
use Rattle.lk_claims.specs.declared.claim.Claim.{Claim}
use Rattle.lk_claims.specs.Claim.{claim_tree, claim_trees}
use Rattle.lk_claims.specs.Claim.{trees_of as trees_of_claims}
use Rattle.claim_reader.specs.Heads.{claim_head_coded}

pub claim_ends : (depth inner : ℕ) (old middle new : List ℕ) (end : ReadEnd) → depth ≡ suc inner → byte_ends old middle end
    → Reads claim_tree (read_claim depth) old new (Err end)
claim_ends depth inner old middle new end e h =
    subst (λ d. Reads claim_tree (read_claim d) old new (Err end)) (sym e)
    (head_ends claim_tree claim_code claim_heads (claim_behind (read_type inner) (read_claim inner)) old middle new end h)

pub claim_unknown : (depth inner : ℕ) (old middle : List ℕ) (byte : ℕ) → depth ≡ suc inner → read_byte old ≡ Some (byte, middle)
    → None ≡ claim_head_coded byte → read_claim depth old ≡ None
unfolding claim_head_coded
claim_unknown depth inner old middle byte e h k =
    ap (λ d. read_claim d old) e ∙ head_unknown claim_code claim_heads (claim_behind (read_type inner) (read_claim inner)) old middle byte h (sym k)

pub claim_known : (depth inner : ℕ) (old middle new : List ℕ) (byte : ℕ) (head : ClaimHead) (result : Result Claim ReadEnd) → depth ≡ suc inner
    → read_byte old ≡ Some (byte, middle) → Some head ≡ claim_head_coded byte
    → Reads claim_tree (claim_behind (read_type inner) (read_claim inner) head) middle new result → Reads claim_tree (read_claim depth) old new result
unfolding claim_head_coded
claim_known depth inner old middle new byte head result e h k r =
    reads_same claim_tree (read_claim depth) (claim_behind (read_type inner) (read_claim inner) head) old middle new result
    (ap (λ d. read_claim d old) e ∙ head_known claim_code claim_heads (claim_behind (read_type inner) (read_claim inner)) old middle byte head h (sym k)) r

-- both ways to make a list of trees
pub same_trees : (ts : List (ClaimTree ℕ)) → trees_of_claims ts ≡ trees_of ts
same_trees [] = refl
same_trees (t ∷ ts) = ap (λ l. tree_then t l) (same_trees ts)
