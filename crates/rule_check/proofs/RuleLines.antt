-- Each rule, by what is cited.
use Rattle.std.proofs.Common.{◌≡◌, ℕ, List, [], ◌∷◌, Bool, false, Some, None, refl, sym, ap, ◌∙◌}
use Rattle.std.proofs.lemmas.Bool.{true≢false}
use Rattle.slang_values.specs.Tree.{Tree}
use Rattle.deduction_rules.specs.Step.{Cited, claimed, concluded}
use Rattle.deduction_rules.specs.Rules as rule
use Rattle.rule_check.specs.Cited.{is_claim, is_block, is_let, has_one, has_two, has_three}

pub and_i-cited : (xs : List Cited) (c : Tree ℕ) (x0 : Tree ℕ) (x1 : Tree ℕ) (r : Bool) → xs ≡ claimed x0 ∷ claimed x1 ∷ [] → r ≡ rule.and_i (claimed x0 ∷ claimed x1 ∷ []) c → r ≡ rule.and_i xs c
and_i-cited xs c x0 x1 r e h = h ∙ sym (ap (λ ys. rule.and_i ys c) e)

pub and_i-not_cited : (xs : List Cited) (c : Tree ℕ) → has_two is_claim is_claim xs ≡ false → false ≡ rule.and_i xs c
and_i-not_cited (claimed x0 ∷ claimed x1 ∷ []) c h = absurd (true≢false h)
and_i-not_cited _ c h = refl

pub ruleset and_i_lines = (and_i-cited, and_i-not_cited)

pub and_e1-cited : (xs : List Cited) (c : Tree ℕ) (x0 : Tree ℕ) (r : Bool) → xs ≡ claimed x0 ∷ [] → r ≡ rule.and_e1 (claimed x0 ∷ []) c → r ≡ rule.and_e1 xs c
and_e1-cited xs c x0 r e h = h ∙ sym (ap (λ ys. rule.and_e1 ys c) e)

pub and_e1-not_cited : (xs : List Cited) (c : Tree ℕ) → has_one is_claim xs ≡ false → false ≡ rule.and_e1 xs c
and_e1-not_cited (claimed x0 ∷ []) c h = absurd (true≢false h)
and_e1-not_cited _ c h = refl

pub ruleset and_e1_lines = (and_e1-cited, and_e1-not_cited)

pub and_e2-cited : (xs : List Cited) (c : Tree ℕ) (x0 : Tree ℕ) (r : Bool) → xs ≡ claimed x0 ∷ [] → r ≡ rule.and_e2 (claimed x0 ∷ []) c → r ≡ rule.and_e2 xs c
and_e2-cited xs c x0 r e h = h ∙ sym (ap (λ ys. rule.and_e2 ys c) e)

pub and_e2-not_cited : (xs : List Cited) (c : Tree ℕ) → has_one is_claim xs ≡ false → false ≡ rule.and_e2 xs c
and_e2-not_cited (claimed x0 ∷ []) c h = absurd (true≢false h)
and_e2-not_cited _ c h = refl

pub ruleset and_e2_lines = (and_e2-cited, and_e2-not_cited)

pub or_i1-cited : (xs : List Cited) (c : Tree ℕ) (x0 : Tree ℕ) (r : Bool) → xs ≡ claimed x0 ∷ [] → r ≡ rule.or_i1 (claimed x0 ∷ []) c → r ≡ rule.or_i1 xs c
or_i1-cited xs c x0 r e h = h ∙ sym (ap (λ ys. rule.or_i1 ys c) e)

pub or_i1-not_cited : (xs : List Cited) (c : Tree ℕ) → has_one is_claim xs ≡ false → false ≡ rule.or_i1 xs c
or_i1-not_cited (claimed x0 ∷ []) c h = absurd (true≢false h)
or_i1-not_cited _ c h = refl

pub ruleset or_i1_lines = (or_i1-cited, or_i1-not_cited)

pub or_i2-cited : (xs : List Cited) (c : Tree ℕ) (x0 : Tree ℕ) (r : Bool) → xs ≡ claimed x0 ∷ [] → r ≡ rule.or_i2 (claimed x0 ∷ []) c → r ≡ rule.or_i2 xs c
or_i2-cited xs c x0 r e h = h ∙ sym (ap (λ ys. rule.or_i2 ys c) e)

pub or_i2-not_cited : (xs : List Cited) (c : Tree ℕ) → has_one is_claim xs ≡ false → false ≡ rule.or_i2 xs c
or_i2-not_cited (claimed x0 ∷ []) c h = absurd (true≢false h)
or_i2-not_cited _ c h = refl

pub ruleset or_i2_lines = (or_i2-cited, or_i2-not_cited)

pub or_e-cited : (xs : List Cited) (c : Tree ℕ) (x0 : Tree ℕ) (x1 : Tree ℕ) (x2 : Tree ℕ) (x3 : Tree ℕ) (x4 : Tree ℕ) (r : Bool) → xs ≡ claimed x0 ∷ concluded None x1 (Some x2) ∷ concluded None x3 (Some x4) ∷ [] → r ≡ rule.or_e (claimed x0 ∷ concluded None x1 (Some x2) ∷ concluded None x3 (Some x4) ∷ []) c → r ≡ rule.or_e xs c
or_e-cited xs c x0 x1 x2 x3 x4 r e h = h ∙ sym (ap (λ ys. rule.or_e ys c) e)

pub or_e-not_cited : (xs : List Cited) (c : Tree ℕ) → has_three is_claim is_block is_block xs ≡ false → false ≡ rule.or_e xs c
or_e-not_cited (claimed x0 ∷ concluded None x1 (Some x2) ∷ concluded None x3 (Some x4) ∷ []) c h = absurd (true≢false h)
or_e-not_cited _ c h = refl

pub ruleset or_e_lines = (or_e-cited, or_e-not_cited)

pub imply_i-cited : (xs : List Cited) (c : Tree ℕ) (x0 : Tree ℕ) (x1 : Tree ℕ) (r : Bool) → xs ≡ concluded None x0 (Some x1) ∷ [] → r ≡ rule.imply_i (concluded None x0 (Some x1) ∷ []) c → r ≡ rule.imply_i xs c
imply_i-cited xs c x0 x1 r e h = h ∙ sym (ap (λ ys. rule.imply_i ys c) e)

pub imply_i-not_cited : (xs : List Cited) (c : Tree ℕ) → has_one is_block xs ≡ false → false ≡ rule.imply_i xs c
imply_i-not_cited (concluded None x0 (Some x1) ∷ []) c h = absurd (true≢false h)
imply_i-not_cited _ c h = refl

pub ruleset imply_i_lines = (imply_i-cited, imply_i-not_cited)

pub imply_e-cited : (xs : List Cited) (c : Tree ℕ) (x0 : Tree ℕ) (x1 : Tree ℕ) (r : Bool) → xs ≡ claimed x0 ∷ claimed x1 ∷ [] → r ≡ rule.imply_e (claimed x0 ∷ claimed x1 ∷ []) c → r ≡ rule.imply_e xs c
imply_e-cited xs c x0 x1 r e h = h ∙ sym (ap (λ ys. rule.imply_e ys c) e)

pub imply_e-not_cited : (xs : List Cited) (c : Tree ℕ) → has_two is_claim is_claim xs ≡ false → false ≡ rule.imply_e xs c
imply_e-not_cited (claimed x0 ∷ claimed x1 ∷ []) c h = absurd (true≢false h)
imply_e-not_cited _ c h = refl

pub ruleset imply_e_lines = (imply_e-cited, imply_e-not_cited)

pub neg_i-cited : (xs : List Cited) (c : Tree ℕ) (x0 : Tree ℕ) (x1 : Tree ℕ) (r : Bool) → xs ≡ concluded None x0 (Some x1) ∷ [] → r ≡ rule.neg_i (concluded None x0 (Some x1) ∷ []) c → r ≡ rule.neg_i xs c
neg_i-cited xs c x0 x1 r e h = h ∙ sym (ap (λ ys. rule.neg_i ys c) e)

pub neg_i-not_cited : (xs : List Cited) (c : Tree ℕ) → has_one is_block xs ≡ false → false ≡ rule.neg_i xs c
neg_i-not_cited (concluded None x0 (Some x1) ∷ []) c h = absurd (true≢false h)
neg_i-not_cited _ c h = refl

pub ruleset neg_i_lines = (neg_i-cited, neg_i-not_cited)

pub neg_e-cited : (xs : List Cited) (c : Tree ℕ) (x0 : Tree ℕ) (x1 : Tree ℕ) (r : Bool) → xs ≡ claimed x0 ∷ claimed x1 ∷ [] → r ≡ rule.neg_e (claimed x0 ∷ claimed x1 ∷ []) c → r ≡ rule.neg_e xs c
neg_e-cited xs c x0 x1 r e h = h ∙ sym (ap (λ ys. rule.neg_e ys c) e)

pub neg_e-not_cited : (xs : List Cited) (c : Tree ℕ) → has_two is_claim is_claim xs ≡ false → false ≡ rule.neg_e xs c
neg_e-not_cited (claimed x0 ∷ claimed x1 ∷ []) c h = absurd (true≢false h)
neg_e-not_cited _ c h = refl

pub ruleset neg_e_lines = (neg_e-cited, neg_e-not_cited)

pub bottom_e-cited : (xs : List Cited) (c : Tree ℕ) (x0 : Tree ℕ) (r : Bool) → xs ≡ claimed x0 ∷ [] → r ≡ rule.bottom_e (claimed x0 ∷ []) c → r ≡ rule.bottom_e xs c
bottom_e-cited xs c x0 r e h = h ∙ sym (ap (λ ys. rule.bottom_e ys c) e)

pub bottom_e-not_cited : (xs : List Cited) (c : Tree ℕ) → has_one is_claim xs ≡ false → false ≡ rule.bottom_e xs c
bottom_e-not_cited (claimed x0 ∷ []) c h = absurd (true≢false h)
bottom_e-not_cited _ c h = refl

pub ruleset bottom_e_lines = (bottom_e-cited, bottom_e-not_cited)

pub pbc-cited : (xs : List Cited) (c : Tree ℕ) (x0 : Tree ℕ) (x1 : Tree ℕ) (r : Bool) → xs ≡ concluded None x0 (Some x1) ∷ [] → r ≡ rule.pbc (concluded None x0 (Some x1) ∷ []) c → r ≡ rule.pbc xs c
pbc-cited xs c x0 x1 r e h = h ∙ sym (ap (λ ys. rule.pbc ys c) e)

pub pbc-not_cited : (xs : List Cited) (c : Tree ℕ) → has_one is_block xs ≡ false → false ≡ rule.pbc xs c
pbc-not_cited (concluded None x0 (Some x1) ∷ []) c h = absurd (true≢false h)
pbc-not_cited _ c h = refl

pub ruleset pbc_lines = (pbc-cited, pbc-not_cited)

pub all_i-cited : (xs : List Cited) (c : Tree ℕ) (x0 : ℕ) (x1 : Tree ℕ) (x2 : Tree ℕ) (r : Bool) → xs ≡ concluded (Some x0) x1 (Some x2) ∷ [] → r ≡ rule.all_i (concluded (Some x0) x1 (Some x2) ∷ []) c → r ≡ rule.all_i xs c
all_i-cited xs c x0 x1 x2 r e h = h ∙ sym (ap (λ ys. rule.all_i ys c) e)

pub all_i-not_cited : (xs : List Cited) (c : Tree ℕ) → has_one is_let xs ≡ false → false ≡ rule.all_i xs c
all_i-not_cited (concluded (Some x0) x1 (Some x2) ∷ []) c h = absurd (true≢false h)
all_i-not_cited _ c h = refl

pub ruleset all_i_lines = (all_i-cited, all_i-not_cited)

pub all_e-cited : (xs : List Cited) (c : Tree ℕ) (x0 : Tree ℕ) (x1 : Tree ℕ) (r : Bool) → xs ≡ claimed x0 ∷ claimed x1 ∷ [] → r ≡ rule.all_e (claimed x0 ∷ claimed x1 ∷ []) c → r ≡ rule.all_e xs c
all_e-cited xs c x0 x1 r e h = h ∙ sym (ap (λ ys. rule.all_e ys c) e)

pub all_e-not_cited : (xs : List Cited) (c : Tree ℕ) → has_two is_claim is_claim xs ≡ false → false ≡ rule.all_e xs c
all_e-not_cited (claimed x0 ∷ claimed x1 ∷ []) c h = absurd (true≢false h)
all_e-not_cited _ c h = refl

pub ruleset all_e_lines = (all_e-cited, all_e-not_cited)

pub exists_i-cited : (xs : List Cited) (c : Tree ℕ) (x0 : Tree ℕ) (x1 : Tree ℕ) (r : Bool) → xs ≡ claimed x0 ∷ claimed x1 ∷ [] → r ≡ rule.exists_i (claimed x0 ∷ claimed x1 ∷ []) c → r ≡ rule.exists_i xs c
exists_i-cited xs c x0 x1 r e h = h ∙ sym (ap (λ ys. rule.exists_i ys c) e)

pub exists_i-not_cited : (xs : List Cited) (c : Tree ℕ) → has_two is_claim is_claim xs ≡ false → false ≡ rule.exists_i xs c
exists_i-not_cited (claimed x0 ∷ claimed x1 ∷ []) c h = absurd (true≢false h)
exists_i-not_cited _ c h = refl

pub ruleset exists_i_lines = (exists_i-cited, exists_i-not_cited)

pub exists_e-cited : (xs : List Cited) (c : Tree ℕ) (x0 : Tree ℕ) (x1 : ℕ) (x2 : Tree ℕ) (x3 : Tree ℕ) (r : Bool) → xs ≡ claimed x0 ∷ concluded (Some x1) x2 (Some x3) ∷ [] → r ≡ rule.exists_e (claimed x0 ∷ concluded (Some x1) x2 (Some x3) ∷ []) c → r ≡ rule.exists_e xs c
exists_e-cited xs c x0 x1 x2 x3 r e h = h ∙ sym (ap (λ ys. rule.exists_e ys c) e)

pub exists_e-not_cited : (xs : List Cited) (c : Tree ℕ) → has_two is_claim is_let xs ≡ false → false ≡ rule.exists_e xs c
exists_e-not_cited (claimed x0 ∷ concluded (Some x1) x2 (Some x3) ∷ []) c h = absurd (true≢false h)
exists_e-not_cited _ c h = refl

pub ruleset exists_e_lines = (exists_e-cited, exists_e-not_cited)

pub subst_left-cited : (xs : List Cited) (c : Tree ℕ) (x0 : Tree ℕ) (x1 : Tree ℕ) (r : Bool) → xs ≡ claimed x0 ∷ claimed x1 ∷ [] → r ≡ rule.subst_left (claimed x0 ∷ claimed x1 ∷ []) c → r ≡ rule.subst_left xs c
subst_left-cited xs c x0 x1 r e h = h ∙ sym (ap (λ ys. rule.subst_left ys c) e)

pub subst_left-not_cited : (xs : List Cited) (c : Tree ℕ) → has_two is_claim is_claim xs ≡ false → false ≡ rule.subst_left xs c
subst_left-not_cited (claimed x0 ∷ claimed x1 ∷ []) c h = absurd (true≢false h)
subst_left-not_cited _ c h = refl

pub ruleset subst_left_lines = (subst_left-cited, subst_left-not_cited)

pub subst_right-cited : (xs : List Cited) (c : Tree ℕ) (x0 : Tree ℕ) (x1 : Tree ℕ) (r : Bool) → xs ≡ claimed x0 ∷ claimed x1 ∷ [] → r ≡ rule.subst_right (claimed x0 ∷ claimed x1 ∷ []) c → r ≡ rule.subst_right xs c
subst_right-cited xs c x0 x1 r e h = h ∙ sym (ap (λ ys. rule.subst_right ys c) e)

pub subst_right-not_cited : (xs : List Cited) (c : Tree ℕ) → has_two is_claim is_claim xs ≡ false → false ≡ rule.subst_right xs c
subst_right-not_cited (claimed x0 ∷ claimed x1 ∷ []) c h = absurd (true≢false h)
subst_right-not_cited _ c h = refl

pub ruleset subst_right_lines = (subst_right-cited, subst_right-not_cited)
