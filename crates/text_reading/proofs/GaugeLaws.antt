-- A gauge and one more byte.
use Rattle.std.proofs.Common.{◌≡◌, ◌≢◌, ◌==◌, ℕ, ◌+◌, ◌≤◌, ◌<◌, inl, inr, false, List, [], ◌∷◌, ◌++◌, length, count_by, refl, sym, ap, ◌∙◌, cond, zero-add}
use Rattle.std.proofs.Common.{add-zero, ne_eqb, append_assoc, get_or, take, drop, arith}
use Rattle.std.proofs.lemmas.List.Sums.{sum_by-append}
use Rattle.std.proofs.lemmas.List.{length_push, take_more, take-append-drop}
use Rattle.text_reading.specs.Limits.{newline, IsWithin, PassesIn}
use Rattle.text_reading.specs.Gauge.{HasCounted}
use Rattle.text_reading.specs.declared.gauge.Gauge.{Gauge}
use Rattle.text_reading.proofs.LimitLaws.{Column-none, Column-newline, Column-push, IsWithin-none, IsWithin-push, past_bytes, past_line, PassesIn-append}
use Rattle.text_reading.specs.declared.limits.Limits.{Limits}

pub HasCounted-none : (g : Gauge) → g.bytes ≡ 0 → g.newlines ≡ 0 → g.column ≡ 0 → HasCounted g []
HasCounted-none g bytes newlines column = record {
  bytes = bytes;
  newlines = newlines;
  column = rw column Column-none;
  within = IsWithin-none g.limits;
}

newlines-push : (text : List ℕ) (b : ℕ) → count_by (λ x. x == newline) (text ++ b ∷ []) ≡ count_by (λ x. x == newline) text + cond (b == newline) 1 0
newlines-push text b = sum_by-append (λ x. cond (x == newline) 1 0) text (b ∷ [])
    ∙ ap (λ n. count_by (λ x. x == newline) text + n) (zero-add (cond (b == newline) 1 0))

pub HasCounted-newline : {g now : Gauge} {text : List ℕ} (b : ℕ) → HasCounted g text → g.bytes < g.limits.bytes → b ≡ newline
    → now.limits ≡ g.limits → now.bytes ≡ g.bytes + 1 → now.newlines ≡ g.newlines + 1 → now.column ≡ 0
    → HasCounted now (text ++ b ∷ [])
HasCounted-newline {g} {now} {text} b counted room is_newline limits bytes newlines column = record {
  bytes = bytes ∙ ap (λ n. n + 1) counted.bytes ∙ sym (length_push text b);
  newlines = newlines ∙ ap (λ n. n + 1) counted.newlines ∙ sym (rw is_newline (newlines-push text newline));
  column = rw (is_newline, column) (Column-newline text);
  within = rw limits (IsWithin-push g.limits text g.column b counted.within counted.column (omega (arith, counted.bytes)) (inl is_newline));
}

pub HasCounted-push : {g now : Gauge} {text : List ℕ} (b : ℕ) → HasCounted g text → g.bytes < g.limits.bytes → b ≢ newline → g.column < g.limits.line
    → now.limits ≡ g.limits → now.bytes ≡ g.bytes + 1 → now.newlines ≡ g.newlines → now.column ≡ g.column + 1
    → HasCounted now (text ++ b ∷ [])
HasCounted-push {g} {now} {text} b counted room other line_room limits bytes newlines column =
    let no : (b == newline) ≡ false = ne_eqb b newline other in
    record {
      bytes = bytes ∙ ap (λ n. n + 1) counted.bytes ∙ sym (length_push text b);
      newlines = newlines ∙ counted.newlines ∙ sym (newlines-push text b ∙ rw (no, add-zero) refl);
      column = rw column (Column-push text g.column b counted.column other);
      within = rw limits (IsWithin-push g.limits text g.column b counted.within counted.column (omega (arith, counted.bytes)) (inr line_room));
    }

passes_at_last : {g : Gauge} {text : List ℕ} {line : ℕ} (b : ℕ) → HasCounted g text → line ≡ g.newlines + 1 → ¬ IsWithin g.limits (text ++ b ∷ [])
    → PassesIn g.limits (text ++ b ∷ []) line
passes_at_last {g} {text} {line} b counted line_is past = record {
  front = text;
  byte = b;
  rest = [];
  whole = refl;
  within = counted.within;
  past = past;
  line_is = line_is ∙ ap (λ n. n + 1) counted.newlines;
}

pub PassesIn-bytes : {g : Gauge} {text : List ℕ} {line : ℕ} (b : ℕ) → HasCounted g text → line ≡ g.newlines + 1 → g.limits.bytes ≤ g.bytes
    → PassesIn g.limits (text ++ b ∷ []) line
PassesIn-bytes {g} {text} {line} b counted line_is full = passes_at_last b counted line_is (past_bytes g.limits text b (omega (arith, counted.bytes)))

pub PassesIn-line : {g : Gauge} {text : List ℕ} {line : ℕ} (b : ℕ) → HasCounted g text → line ≡ g.newlines + 1 → g.limits.line ≤ g.column → b ≢ newline
    → PassesIn g.limits (text ++ b ∷ []) line
PassesIn-line {g} {text} {line} b counted line_is full other = passes_at_last b counted line_is (past_line g.limits text g.column b counted.column full other)

-- A piece, up to the byte at i and with it.
front_push : (text piece : List ℕ) (i : ℕ) → i < length piece → (text ++ take i piece) ++ get_or piece i 0 ∷ [] ≡ text ++ take (i + 1) piece
front_push text piece i inside = append_assoc text (take i piece) (get_or piece i 0 ∷ []) ∙ ap (λ p. text ++ p) (sym (take_more piece i 0 inside))

pub HasCounted-more : {g : Gauge} (text piece : List ℕ) (i : ℕ) → i < length piece
    → HasCounted g ((text ++ take i piece) ++ get_or piece i 0 ∷ []) → HasCounted g (text ++ take (i + 1) piece)
HasCounted-more {g} text piece i inside counted = rw (← front_push text piece i inside) counted

pub PassesIn-more : {limits : Limits} {line : ℕ} (text piece : List ℕ) (i : ℕ) → i < length piece
    → PassesIn limits ((text ++ take i piece) ++ get_or piece i 0 ∷ []) line → PassesIn limits (text ++ piece) line
PassesIn-more {limits} {line} text piece i inside past =
    let more = PassesIn-append limits ((text ++ take i piece) ++ get_or piece i 0 ∷ []) (drop (i + 1) piece) line past in
    let e : ((text ++ take i piece) ++ get_or piece i 0 ∷ []) ++ drop (i + 1) piece ≡ text ++ piece =
    ap (λ p. p ++ drop (i + 1) piece) (front_push text piece i inside) ∙ append_assoc text (take (i + 1) piece) (drop (i + 1) piece)
    ∙ ap (λ p. text ++ p) (take-append-drop (i + 1) piece) in
    rw e at more
