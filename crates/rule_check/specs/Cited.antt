-- What is cited, as plain data, and the forms in which rules cite.
use Rattle.std.specs.Prelude.{◌≡◌, ℕ, List, [], ◌∷◌, Bool, true, false, ◌&&◌, Option, Some, None}
use Rattle.std.specs.Borrow.{Bor}
use Rattle.slang_values.specs.Tree.{Tree}
use Rattle.term_trees.specs.declared.term.Term.{Term}
use Rattle.term_trees.specs.Term.{tree}
use Rattle.deduction_rules.specs.Step as plain
use Rattle.rule_check.specs.declared.cited.Cited.{Cited}

abbrev pub shown_tree : Option (Bor Term) → Option (Tree ℕ)
shown_tree None = None
shown_tree (Some t) = Some (tree t.now)

abbrev pub cited_tree : Cited → plain.Cited
cited_tree (Cited.Claim t) = plain.claimed (tree t.now)
cited_tree (Cited.Block symbol given shown) = plain.concluded symbol (tree given.now) (shown_tree shown)

-- ---- one of what is cited

abbrev pub is_claim : plain.Cited → Bool
is_claim (plain.claimed t) = true
is_claim (plain.concluded symbol given shown) = false

-- a block without a Let that shows a claim
abbrev pub is_block : plain.Cited → Bool
is_block (plain.concluded None given (Some shown)) = true
is_block x = false

-- a block with a Let that shows a claim
abbrev pub is_let : plain.Cited → Bool
is_let (plain.concluded (Some k) given (Some shown)) = true
is_let x = false

-- ---- all of it

abbrev pub has_one : (plain.Cited → Bool) → List plain.Cited → Bool
has_one p (x ∷ []) = p x
has_one p xs = false

abbrev pub has_two : (plain.Cited → Bool) → (plain.Cited → Bool) → List plain.Cited → Bool
has_two p q (x ∷ y ∷ []) = p x && q y
has_two p q xs = false

abbrev pub has_three : (plain.Cited → Bool) → (plain.Cited → Bool) → (plain.Cited → Bool) → List plain.Cited → Bool
has_three p q r (x ∷ y ∷ z ∷ []) = p x && q y && r z
has_three p q r xs = false

-- ---- what the functions tell that take it apart

abbrev pub TellsClaim : plain.Cited → Option (Bor Term) → Type 0
TellsClaim x None = is_claim x ≡ false
TellsClaim x (Some t) = x ≡ plain.claimed (tree t.now)

abbrev pub TellsBlock : plain.Cited → Option (Bor Term × Bor Term) → Type 0
TellsBlock x None = is_block x ≡ false
TellsBlock x (Some p) = x ≡ plain.concluded None (tree p.0.now) (Some (tree p.1.now))

abbrev pub TellsLet : plain.Cited → Option (ℕ × Bor Term × Bor Term) → Type 0
TellsLet x None = is_let x ≡ false
TellsLet x (Some p) = x ≡ plain.concluded (Some p.0) (tree p.1.now) (Some (tree p.2.now))

abbrev pub TellsOneClaim : List plain.Cited → Option (Bor Term) → Type 0
TellsOneClaim xs None = has_one is_claim xs ≡ false
TellsOneClaim xs (Some t) = xs ≡ plain.claimed (tree t.now) ∷ []

abbrev pub TellsTwoClaims : List plain.Cited → Option (Bor Term × Bor Term) → Type 0
TellsTwoClaims xs None = has_two is_claim is_claim xs ≡ false
TellsTwoClaims xs (Some p) = xs ≡ plain.claimed (tree p.0.now) ∷ plain.claimed (tree p.1.now) ∷ []

abbrev pub TellsOneBlock : List plain.Cited → Option (Bor Term × Bor Term) → Type 0
TellsOneBlock xs None = has_one is_block xs ≡ false
TellsOneBlock xs (Some p) = xs ≡ plain.concluded None (tree p.0.now) (Some (tree p.1.now)) ∷ []

abbrev pub TellsOneLet : List plain.Cited → Option (ℕ × Bor Term × Bor Term) → Type 0
TellsOneLet xs None = has_one is_let xs ≡ false
TellsOneLet xs (Some p) = xs ≡ plain.concluded (Some p.0) (tree p.1.now) (Some (tree p.2.now)) ∷ []

abbrev pub TellsClaimAndLet : List plain.Cited → Option (Bor Term × ℕ × Bor Term × Bor Term) → Type 0
TellsClaimAndLet xs None = has_two is_claim is_let xs ≡ false
TellsClaimAndLet xs (Some p) = xs ≡ plain.claimed (tree p.0.now) ∷ plain.concluded (Some p.1) (tree p.2.now) (Some (tree p.3.now)) ∷ []

abbrev pub TellsClaimAndBlocks : List plain.Cited → Option (Bor Term × Bor Term × Bor Term × Bor Term × Bor Term) → Type 0
TellsClaimAndBlocks xs None = has_three is_claim is_block is_block xs ≡ false
TellsClaimAndBlocks xs (Some p) =
    xs ≡ plain.claimed (tree p.0.now) ∷ plain.concluded None (tree p.1.now) (Some (tree p.2.now)) ∷ plain.concluded None (tree p.3.now) (Some (tree p.4.now)) ∷ []
