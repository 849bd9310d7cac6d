-- A text and one more byte, within the limits or past them.
use Rattle.std.proofs.Common.{count_by, ◌≡◌, ◌≢◌, ◌==◌, ℕ, ◌+◌, ◌≤◌, ◌<◌, ◌⊎◌, inl, inr, List, [], ◌∷◌, ◌++◌, length, Contains, refl, sym, ap, ◌∙◌, subst}
use Rattle.std.proofs.Common.{arith, append_assoc, append-nil, length-append}
use Rattle.std.proofs.lemmas.List.{same_from_push, length_push}
use Rattle.std.proofs.lemmas.List.Elements.{Contains-append_left, Contains-push, Contains-push_cases}
use Rattle.text_reading.specs.declared.limits.Limits.{Limits}
use Rattle.text_reading.specs.Limits.{newline, IsWithin, PassesIn}
use Rattle.text_reading.specs.Gauge.{Column}

-- A list is empty or has a last element.
data HasLast : List ℕ → Type 0 where
  none : HasLast []
  last : (front : List ℕ) (x : ℕ) → HasLast (front ++ x ∷ [])

has_last : (xs : List ℕ) → HasLast xs
has_last [] = none
has_last (x ∷ xs) = has_last_onto x (has_last xs)
  where
    has_last_onto : {ys : List ℕ} (y : ℕ) → HasLast ys → HasLast (y ∷ ys)
    has_last_onto y none = last [] y
    has_last_onto y (last front z) = last (y ∷ front) z

-- The last byte of a stretch, where a text and one more byte end in it.
ends_in : (text front end : List ℕ) (b y : ℕ) → text ++ b ∷ [] ≡ front ++ (end ++ y ∷ []) → (text ≡ front ++ end) × (b ≡ y)
ends_in text front end b y e = same_from_push text (front ++ end) b y (e ∙ sym (append_assoc front end (y ∷ [])))

free_front : (front : List ℕ) (y : ℕ) → ¬ Contains (front ++ y ∷ []) newline → ¬ Contains front newline
free_front front y free h = free (Contains-append_left front (y ∷ []) newline h)

last_is_free : (front : List ℕ) (y : ℕ) → ¬ Contains (front ++ y ∷ []) newline → y ≡ newline → ⊥
last_is_free front y free e = free (subst (λ b. Contains (front ++ y ∷ []) b) e (Contains-push front y))

pub Column-none : Column [] 0
Column-none = record {
  before = [];
  stretch = [];
  whole = refl;
  free = λ h. absurd (omega (arith, h.1));
  size = refl;
  most = λ front end e free. let sizes : 0 ≡ length (front ++ end) = ap length e in omega (arith, length-append front end);
}

pub Column-newline : (text : List ℕ) → Column (text ++ newline ∷ []) 0
Column-newline text = record {
  before = text ++ newline ∷ [];
  stretch = [];
  whole = sym (append-nil (text ++ newline ∷ []));
  free = λ h. absurd (omega (arith, h.1));
  size = refl;
  most = λ front end. most front (has_last end);
}
  where
    most : (front : List ℕ) {end : List ℕ} → HasLast end → text ++ newline ∷ [] ≡ front ++ end → ¬ Contains end newline → length end ≤ 0
    most front none e free = omega arith
    most front (last end y) e free = absurd (last_is_free end y free (sym (ends_in text front end newline y e).1))

pub Column-push : (text : List ℕ) (column b : ℕ) → Column text column → b ≢ newline → Column (text ++ b ∷ []) (column + 1)
Column-push text column b c other = record {
  before = c.before;
  stretch = c.stretch ++ b ∷ [];
  whole = rw c.whole (append_assoc c.before c.stretch (b ∷ []));
  free = λ h. elim (Contains-push_cases c.stretch b newline h) [ inl earlier ↦ c.free earlier | inr e ↦ other e ];
  size = rw (length_push c.stretch b, c.size) refl;
  most = λ front end. most front (has_last end);
}
  where
    most : (front : List ℕ) {end : List ℕ} → HasLast end → text ++ b ∷ [] ≡ front ++ end → ¬ Contains end newline → length end ≤ column + 1
    most front none e free = omega arith
    most front (last end y) e free =
        let known : length end ≤ column = c.most front end (ends_in text front end b y e).0 (free_front end y free) in
        omega (arith, length_push end y)

pub IsWithin-none : (limits : Limits) → IsWithin limits []
IsWithin-none limits = record {
  bytes = omega arith;
  lines = λ before stretch after e free.
      let sizes : 0 ≡ length (before ++ stretch ++ after) = ap length e in
      omega (arith, length-append (before ++ stretch) after, length-append before stretch);
}

-- One more byte is within the limits: the text has room for it, and it is a newline or its line has room.
pub IsWithin-push : (limits : Limits) (text : List ℕ) (column b : ℕ)
    → IsWithin limits text → Column text column → length text < limits.bytes → (b ≡ newline) ⊎ (column < limits.line)
    → IsWithin limits (text ++ b ∷ [])
IsWithin-push limits text column b w c room line = record {
  bytes = omega (arith, length_push text b);
  lines = λ before stretch after. lines before stretch (has_last after);
}
  where
    reaches_end : (before : List ℕ) {stretch : List ℕ} → HasLast stretch → text ++ b ∷ [] ≡ before ++ stretch → ¬ Contains stretch newline
        → length stretch ≤ limits.line
    reaches_end before none e free = omega arith
    reaches_end before (last s y) e free =
        let ends = ends_in text before s b y e in
        let short : length s ≤ column = c.most before s ends.0 (free_front s y free) in
        elim line [
          | inl is_newline ↦ absurd (last_is_free s y free (sym ends.1 ∙ is_newline))
          | inr has_room ↦ omega (arith, length_push s y)
        ]

    lines : (before stretch : List ℕ) {after : List ℕ} → HasLast after → text ++ b ∷ [] ≡ before ++ stretch ++ after → ¬ Contains stretch newline
        → length stretch ≤ limits.line
    lines before stretch none e free = reaches_end before (has_last stretch) (e ∙ append-nil (before ++ stretch)) free
    lines before stretch (last a y) e free = w.lines before stretch a (ends_in text (before ++ stretch) a b y e).0 free

-- A byte is past the limit of bytes.
pub past_bytes : (limits : Limits) (text : List ℕ) (b : ℕ) → limits.bytes ≤ length text → ¬ IsWithin limits (text ++ b ∷ [])
past_bytes limits text b full w = absurd (omega (arith, w.bytes, length_push text b))

-- A byte is past the limit of its line.
pub past_line : (limits : Limits) (text : List ℕ) (column b : ℕ) → Column text column → limits.line ≤ column → b ≢ newline → ¬ IsWithin limits (text ++ b ∷ [])
past_line limits text column b c full other w =
    let more = Column-push text column b c other in
    let fits : length more.stretch ≤ limits.line =
    w.lines more.before more.stretch [] (more.whole ∙ sym (append-nil (more.before ++ more.stretch))) more.free in
    absurd (omega (arith, more.size))

-- What follows the first byte past a limit changes nothing.
pub PassesIn-append : (limits : Limits) (text more : List ℕ) (line : ℕ) → PassesIn limits text line → PassesIn limits (text ++ more) line
PassesIn-append limits text more line p = record {
  front = p.front;
  byte = p.byte;
  rest = p.rest ++ more;
  whole = rw p.whole (append_assoc p.front (p.byte ∷ p.rest) more);
  within = p.within;
  past = p.past;
  line_is = p.line_is;
}

-- A front of a text within the limits is within them.
pub IsWithin-front : {limits : Limits} (front rest : List ℕ) → IsWithin limits (front ++ rest) → IsWithin limits front
IsWithin-front front rest w = record {
  bytes = omega (arith, w.bytes, length-append front rest);
  lines = λ before stretch after e free.
      w.lines before stretch (after ++ rest) (ap (λ t. t ++ rest) e ∙ append_assoc (before ++ stretch) after rest) free;
}

-- A text that has a byte past a limit is not within the limits.
pub past_or_within : {limits : Limits} {text : List ℕ} {line : ℕ} → PassesIn limits text line → IsWithin limits text → ⊥
past_or_within {limits} {text} {line} p w =
    let split : text ≡ (p.front ++ p.byte ∷ []) ++ p.rest = p.whole ∙ sym (append_assoc p.front (p.byte ∷ []) p.rest) in
    p.past (IsWithin-front (p.front ++ p.byte ∷ []) p.rest (rw split at w))

-- Of two fronts of one text, each with its next byte, they are the same or one goes on with the other's byte.
data Fronts (xs : List ℕ) (x : ℕ) (ys : List ℕ) (y : ℕ) : Type 0 where
  same : xs ≡ ys → Fronts xs x ys y
  shorter : (more : List ℕ) → ys ≡ (xs ++ x ∷ []) ++ more → Fronts xs x ys y
  longer : (more : List ℕ) → xs ≡ (ys ++ y ∷ []) ++ more → Fronts xs x ys y

fronts : (xs ys : List ℕ) (x y : ℕ) (more_x more_y : List ℕ) → xs ++ x ∷ more_x ≡ ys ++ y ∷ more_y → Fronts xs x ys y
fronts [] [] x y more_x more_y e = same refl
fronts [] (b ∷ ys) x y more_x more_y e = shorter ys (cc)
fronts (a ∷ xs) [] x y more_x more_y e = longer xs (cc)
fronts (a ∷ xs) (b ∷ ys) x y more_x more_y e =
    let rest : xs ++ x ∷ more_x ≡ ys ++ y ∷ more_y = cc in
    let first : a ≡ b = cc in
    next (fronts xs ys x y more_x more_y rest) first
  where
    next : Fronts xs x ys y → a ≡ b → Fronts (a ∷ xs) x (b ∷ ys) y
    next (same f) h = same (cc)
    next (shorter more f) h = shorter more (cc)
    next (longer more f) h = longer more (cc)

-- The first byte past a limit stands in one line.
pub one_line : {limits : Limits} {text : List ℕ} {a b : ℕ} → PassesIn limits text a → PassesIn limits text b → a ≡ b
one_line {limits} {text} {a} {b} p q = elim (fronts p.front q.front p.byte q.byte p.rest q.rest (sym p.whole ∙ q.whole)) [
  | same e ↦ p.line_is ∙ ap (λ t. count_by (λ b'. b' == newline) t + 1) e ∙ sym q.line_is
  | shorter more e ↦ absurd (p.past (IsWithin-front (p.front ++ p.byte ∷ []) more (rw e at q.within)))
  | longer more e ↦ absurd (q.past (IsWithin-front (q.front ++ q.byte ∷ []) more (rw e at p.within)))
]
