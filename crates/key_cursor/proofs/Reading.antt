-- One reader, and then the next.
use Rattle.std.proofs.Common.{◌≡◌, ◌⊎◌, ℕ, List, Some, None, Result, Ok, Err, IsOk, inl, inr, sym, ap, ◌∙◌, subst, true≢false}
use Rattle.key_rules.specs.Codes.{coded}
use Rattle.key_rules.specs.Readers.{Reader, and_then, ◌>>=◌, found, read_byte, read_coded}
use Rattle.key_cursor.specs.declared.end.ReadEnd.{ReadEnd}
use Rattle.key_cursor.specs.declared.end.ReadEnd.TheVariants.{NotKey, NoMemory}
use Rattle.key_cursor.specs.Reads.{Reads, itself}

-- what was read, and what the next reader answers
pub then_reads : {A B C D : Type 0} (plain : A → B) (more : C → D) (read : Reader B) (next : B → Reader D) (old middle new : List ℕ) (a : A) (result : Result C ReadEnd)
    → read old ≡ Some (plain a, middle) → Reads more (next (plain a)) middle new result → Reads more (read >>= next) old new result
then_reads plain more read next old middle new a (Ok c) e k = ap (and_then next) e ∙ k
then_reads plain more read next old middle new a (Err NotKey) e k = ap (and_then next) e ∙ k
then_reads plain more read next old middle new a (Err NoMemory) e k = tt

-- what the first reader refuses, both refuse
pub refuses : {A B C D : Type 0} (plain : A → B) (more : C → D) (read : Reader B) (next : B → Reader D) (old middle new : List ℕ) (end : ReadEnd)
    → Reads plain read old middle (Err end) → Reads more (read >>= next) old new (Err end)
refuses plain more read next old middle new NotKey e = ap (and_then next) e
refuses plain more read next old middle new NoMemory e = tt

-- ---- the first byte, which says what follows

abbrev pub byte_ends : List ℕ → List ℕ → ReadEnd → Type 0
byte_ends old middle end = Reads {A = ℕ} itself read_byte old middle (Err end)

pub head_ends : {A C D : Type 0} (more : C → D) (code : A → ℕ) (xs : List A) (next : A → Reader D) (old middle new : List ℕ) (end : ReadEnd)
    → byte_ends old middle end → Reads more (read_coded code xs >>= next) old new (Err end)
head_ends more code xs next old middle new NotKey e = ap (and_then next) (ap (and_then (λ n. found (coded code xs n))) e)
head_ends more code xs next old middle new NoMemory e = tt

pub head_unknown : {A D : Type 0} (code : A → ℕ) (xs : List A) (next : A → Reader D) (old middle : List ℕ) (byte : ℕ)
    → read_byte old ≡ Some (byte, middle) → coded code xs byte ≡ None → (read_coded code xs >>= next) old ≡ None
head_unknown code xs next old middle byte e h =
    ap (and_then next) (ap (and_then (λ n. found (coded code xs n))) e ∙ ap (λ o. found o middle) h)

pub head_known : {A D : Type 0} (code : A → ℕ) (xs : List A) (next : A → Reader D) (old middle : List ℕ) (byte : ℕ) (a : A)
    → read_byte old ≡ Some (byte, middle) → coded code xs byte ≡ Some a → (read_coded code xs >>= next) old ≡ next a middle
head_known code xs next old middle byte a e h =
    ap (and_then next) (ap (and_then (λ n. found (coded code xs n))) e ∙ ap (λ o. found o middle) h)

-- an answer of a reader is that of another, which gives the same
pub reads_same : {A B : Type 0} (plain : A → B) (read other : Reader B) (old middle new : List ℕ) (result : Result A ReadEnd)
    → read old ≡ other middle → Reads plain other middle new result → Reads plain read old new result
reads_same plain read other old middle new (Ok a) e k = e ∙ k
reads_same plain read other old middle new (Err NotKey) e k = e ∙ k
reads_same plain read other old middle new (Err NoMemory) e k = tt

-- ---- two and three readers, whose answers are taken together

pub both_read : {A B C D E : Type 0} (f : A → B) (g : C → D) (r : Reader B) (s : Reader D) (next : B → D → Reader E) (old middle new : List ℕ)
    (ra : Result A ReadEnd) (rb : Result C ReadEnd) (a : A) (b : C) → Reads f r old middle ra → Reads g s middle new rb → ra ≡ Ok a → rb ≡ Ok b
    → (r >>= λ x. s >>= λ y. next x y) old ≡ next (f a) (g b) new
both_read f g r s next old middle new ra rb a b h k p q =
    let first : r old ≡ Some (f a, middle) = subst (λ o. Reads f r old middle o) p h in
    let second : s middle ≡ Some (g b, new) = subst (λ o. Reads g s middle new o) q k in
    ap (and_then (λ x. s >>= λ y. next x y)) first ∙ ap (and_then (next (f a))) second

pub both_refuse : {A B C D E F : Type 0} (f : A → B) (g : C → D) (more : E → F) (r : Reader B) (s : Reader D) (next : B → D → Reader F)
    (old middle later new : List ℕ) (ra : Result A ReadEnd) (rb : Result C ReadEnd) (end : ReadEnd)
    → Reads f r old middle ra → Reads g s middle later rb → (ra ≡ Err end) ⊎ (IsOk ra × (rb ≡ Err end))
    → Reads more (r >>= λ x. s >>= λ y. next x y) old new (Err end)
both_refuse f g more r s next old middle later new ra rb end h k (inl p) =
    refuses f more r (λ x. s >>= λ y. next x y) old middle new end (subst (λ o. Reads f r old middle o) p h)
both_refuse f g more r s next old middle later new (Ok a) rb end h k (inr p) =
    then_reads f more r (λ x. s >>= λ y. next x y) old middle new a (Err end) h
    (refuses g more s (next (f a)) middle later new end (subst (λ o. Reads g s middle later o) p.1 k))
both_refuse f g more r s next old middle later new (Err e) rb end h k (inr p) = absurd (true≢false (sym p.0))

pub three_read : {A B C D E F G : Type 0} (f : A → B) (g : C → D) (i : E → F) (r : Reader B) (s : Reader D) (t : Reader F) (next : B → D → F → Reader G)
    (old middle later new : List ℕ) (ra : Result A ReadEnd) (rb : Result C ReadEnd) (rc : Result E ReadEnd) (a : A) (b : C) (c : E)
    → Reads f r old middle ra → Reads g s middle later rb → Reads i t later new rc → ra ≡ Ok a → rb ≡ Ok b → rc ≡ Ok c
    → (r >>= λ x. s >>= λ y. t >>= λ z. next x y z) old ≡ next (f a) (g b) (i c) new
three_read f g i r s t next old middle later new ra rb rc a b c h k l p q u =
    let first : r old ≡ Some (f a, middle) = subst (λ o. Reads f r old middle o) p h in
    ap (and_then (λ x. s >>= λ y. t >>= λ z. next x y z)) first ∙ both_read g i s t (next (f a)) middle later new rb rc b c k l q u

pub three_refuse : {A B C D E F G H : Type 0} (f : A → B) (g : C → D) (i : E → F) (more : G → H) (r : Reader B) (s : Reader D) (t : Reader F)
    (next : B → D → F → Reader H) (old middle later last new : List ℕ) (ra : Result A ReadEnd) (rb : Result C ReadEnd) (rc : Result E ReadEnd) (end : ReadEnd)
    → Reads f r old middle ra → Reads g s middle later rb → Reads i t later last rc
    → (ra ≡ Err end) ⊎ (IsOk ra × (rb ≡ Err end)) ⊎ (IsOk ra × IsOk rb × (rc ≡ Err end))
    → Reads more (r >>= λ x. s >>= λ y. t >>= λ z. next x y z) old new (Err end)
three_refuse f g i more r s t next old middle later last new ra rb rc end h k l (inl p) =
    refuses f more r (λ x. s >>= λ y. t >>= λ z. next x y z) old middle new end (subst (λ o. Reads f r old middle o) p h)
three_refuse f g i more r s t next old middle later last new (Ok a) rb rc end h k l (inr (inl p)) =
    then_reads f more r (λ x. s >>= λ y. t >>= λ z. next x y z) old middle new a (Err end) h
    (both_refuse g i more s t (next (f a)) middle later last new rb rc end k l (inl p.1))
three_refuse f g i more r s t next old middle later last new (Ok a) rb rc end h k l (inr (inr p)) =
    then_reads f more r (λ x. s >>= λ y. t >>= λ z. next x y z) old middle new a (Err end) h
    (both_refuse g i more s t (next (f a)) middle later last new rb rc end k l (inr (p.1, p.2)))
three_refuse f g i more r s t next old middle later last new (Err e) rb rc end h k l (inr (inl p)) = absurd (true≢false (sym p.0))
three_refuse f g i more r s t next old middle later last new (Err e) rb rc end h k l (inr (inr p)) = absurd (true≢false (sym p.0))
