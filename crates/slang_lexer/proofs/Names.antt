-- The longest name at the front of a text.
use Rattle.std.proofs.Common.{◌≡◌, ◌==◌, ℕ, ◌<◌, ◌≤◌, Bool, true, false, not, ◌||◌, List, [], ◌∷◌, ◌++◌, length, take, drop, refl, sym, ◌∙◌, ap, subst, ⊎_elim, arith, length-append, append_assoc, append-nil, length-take-le, take-append-drop}
use Rattle.std.specs.List.{list_all}
use Rattle.std.specs.Str.{IsUtf8, IsCharBoundary, chars, NonePass, NoCharPasses}
use Rattle.std.specs.Char.{encode_utf8, is_ascii_alphabetic, is_ascii_alphanumeric}
use Rattle.std.specs.Str.{encode_utf8_all}
use Rattle.std.proofs.lemmas.Bool.{both_ways, and_parts, and_from, cases_lt, cond-true, cond-false, false_from_ne_true, not-false, lt-ltb, le-ltb}
use Rattle.std.proofs.lemmas.Bool.Decides.{nat_tests}
use Rattle.std.proofs.lemmas.Str.{encode_same, IsUtf8-from_is_utf8, is_utf8-from_IsUtf8, encodes-chars, chars_from_encodes, IsUtf8-take}
use Rattle.std.proofs.lemmas.List.{take_all}
use Rattle.unicode_ident.proofs.IdentLemmas.{is_xid_start-is_xid_continue}
use Rattle.slang_lexer.specs.Spelling.{begins_name, continues_name, make_name, is_name}
use Rattle.slang_lexer.specs.Scan.{IsLongestName}

-- what a name is spelled of
pub is_name_parts : (bytes : List ℕ) → is_name bytes ≡ true → (cs : List ℕ) × (encode_utf8_all cs ≡ bytes) × (make_name cs ≡ true)
unfolding is_name
is_name_parts bytes h =
    let both = and_parts _ _ h in
    (chars bytes, encodes-chars bytes (IsUtf8-from_is_utf8 bytes both.0), both.1)

pub is_name_from : (bytes cs : List ℕ) → IsUtf8 bytes → encode_utf8_all cs ≡ bytes → make_name cs ≡ true → is_name bytes ≡ true
unfolding is_name
is_name_from bytes cs u e h =
    and_from _ _ (is_utf8-from_IsUtf8 bytes u) (subst (λ x. make_name x ≡ true) (chars_from_encodes cs bytes u e) h)

pub IsUtf8-name : (bytes : List ℕ) → is_name bytes ≡ true → IsUtf8 bytes
unfolding is_name
IsUtf8-name bytes h = IsUtf8-from_is_utf8 bytes (and_parts _ _ h).0

-- what begins a name may go on in one
ascii_begins : (c : ℕ) → (is_ascii_alphabetic c || (c == 95)) ≡ true → (is_ascii_alphanumeric c || (c == 95)) ≡ true
ascii_begins c h = grind (arith, nat_tests)

pub continues-begins : (c : ℕ) → begins_name c ≡ true → continues_name c ≡ true
continues-begins c h =
    ⊎_elim
    (λ l. cond-true _ _ _ (lt-ltb c 128 l) ∙ ascii_begins c (sym (cond-true _ _ _ (lt-ltb c 128 l)) ∙ h))
    (λ g. cond-false _ _ _ (le-ltb c 128 g) ∙ is_xid_start-is_xid_continue c (sym (cond-false _ _ _ (le-ltb c 128 g)) ∙ h))
    (cases_lt c 128)

pub all_continue : (cs : List ℕ) → make_name cs ≡ true → list_all continues_name cs ≡ true
all_continue [] h = refl
all_continue (c ∷ cs) h =
    let both = and_parts _ _ h in
    and_from _ _ (continues-begins c both.0) both.1

-- characters that go on in a name do not reach past one that does not
stops_before : (es cs : List ℕ) (c : ℕ) (x y : List ℕ) → list_all continues_name es ≡ true → continues_name c ≡ false
    → encode_utf8_all es ++ x ≡ encode_utf8_all cs ++ (encode_utf8 c ++ y) → length (encode_utf8_all es) ≤ length (encode_utf8_all cs)
stops_before [] cs c x y h stop e = omega arith
stops_before (d ∷ ds) [] c x y h stop e =
    let same = encode_same d c (encode_utf8_all ds ++ x) y (sym (append_assoc _ _ x) ∙ e) in
    absurd (both_ways _ stop (subst (λ k. continues_name k ≡ true) same.0 (and_parts _ _ h).0))
stops_before (d ∷ ds) (k ∷ ks) c x y h stop e =
    let same = encode_same d k (encode_utf8_all ds ++ x) (encode_utf8_all ks ++ (encode_utf8 c ++ y)) (sym (append_assoc _ _ x) ∙ (e ∙ append_assoc (encode_utf8 k) (encode_utf8_all ks) (encode_utf8 c ++ y))) in
    let rest : length (encode_utf8_all ds) ≤ length (encode_utf8_all ks) = stops_before ds ks c x y (and_parts (continues_name d) (list_all continues_name ds) h).1 stop same.1 in
    let widths : length (encode_utf8 d) ≡ length (encode_utf8 k) = ap (λ i. length (encode_utf8 i)) same.0 in
    omega (arith, length-append (encode_utf8 d) (encode_utf8_all ds), length-append (encode_utf8 k) (encode_utf8_all ks))

abbrev pub stops_name : ℕ → Bool
stops_name c = not (continues_name c)

-- characters none of which stops a name all go on in one
none_stop : (cs : List ℕ) → NonePass stops_name cs → list_all continues_name cs ≡ true
none_stop [] h = refl
none_stop (c ∷ cs) h = and_from _ _ (not-false _ h.0) (none_stop cs h.1)

-- a name begins with the text's first character
first_begins : (cs bytes rest after : List ℕ) (c : ℕ) → make_name cs ≡ true → encode_utf8_all cs ++ after ≡ bytes → bytes ≡ encode_utf8 c ++ rest → begins_name c ≡ true
first_begins (d ∷ ds) bytes rest after c h e f =
    let same = encode_same d c (encode_utf8_all ds ++ after) rest (sym (append_assoc _ _ after) ∙ (e ∙ f)) in
    subst (λ k. begins_name k ≡ true) same.0 (and_parts _ _ h).0
first_begins [] bytes rest after c h e f = cc

-- characters that go on in a name make one, where the first of the text begins it
make_name_from : (cs bytes rest after : List ℕ) (c : ℕ) → list_all continues_name cs ≡ true → 0 < length (encode_utf8_all cs) → encode_utf8_all cs ++ after ≡ bytes
    → bytes ≡ encode_utf8 c ++ rest → begins_name c ≡ true → make_name cs ≡ true
make_name_from [] bytes rest after c h some e f b = absurd (omega arith)
make_name_from (d ∷ ds) bytes rest after c h some e f b =
    let same = encode_same d c (encode_utf8_all ds ++ after) rest (sym (append_assoc _ _ after) ∙ (e ∙ f)) in
    and_from _ _ (subst (λ k. begins_name k ≡ true) (sym same.0) b) (and_parts _ _ h).1

module _ (bytes : List ℕ) (utf8 : IsUtf8 bytes) (c : ℕ) (rest : List ℕ) (first : bytes ≡ encode_utf8 c ++ rest) where
  -- where the first character begins no name, no front is one
  pub IsLongestName-none : begins_name c ≡ false → IsLongestName bytes 0
  IsLongestName-none stop = record {
    fits = omega arith;
    name = λ l. absurd (omega arith);
    longest = λ m l n. false_from_ne_true _ (λ h.
        let parts = is_name_parts (take m bytes) h in
        both_ways _ stop (first_begins parts.0 bytes rest (drop m bytes) c parts.2 (ap (λ z. z ++ drop m bytes) parts.1 ∙ take-append-drop m bytes) first));
  }

  -- where no character stops it, the whole text is a name
  pub IsLongestName-whole : begins_name c ≡ true → NoCharPasses stops_name bytes → IsLongestName bytes (length bytes)
  IsLongestName-whole begins none = record {
    fits = omega arith;
    name = λ l. subst (λ z. is_name z ≡ true) (sym (take_all (length bytes) bytes (omega arith)))
        (is_name_from bytes none.0 utf8 none.1
        (make_name_from none.0 bytes rest [] c (none_stop none.0 none.2) (omega (arith, ap length none.1)) (append-nil (encode_utf8_all none.0) ∙ none.1) first begins));
    longest = λ m l n. absurd (omega arith);
  }

  -- the name goes up to the first character that stops it
  pub IsLongestName-found : begins_name c ≡ true → (i stop : ℕ) (after : List ℕ) → IsCharBoundary bytes i → NoCharPasses stops_name (take i bytes)
      → continues_name stop ≡ false → drop i bytes ≡ encode_utf8 stop ++ after → IsLongestName bytes i
  IsLongestName-found begins i stop after cut none stops e =
      let whole : encode_utf8_all none.0 ++ drop i bytes ≡ bytes = ap (λ z. z ++ drop i bytes) none.1 ∙ take-append-drop i bytes in
      let width : length (encode_utf8_all none.0) ≡ i = ap length none.1 ∙ length-take-le i bytes cut.0 in
      record {
        fits = cut.0;
        name = λ l. is_name_from (take i bytes) none.0 (IsUtf8-take bytes i utf8 cut) none.1
            (make_name_from none.0 bytes rest (drop i bytes) c (none_stop none.0 none.2) (omega arith) whole first begins);
        longest = λ m l n. false_from_ne_true _ (λ h.
            let parts = is_name_parts (take m bytes) h in
            let long : length (encode_utf8_all parts.0) ≡ m = ap length parts.1 ∙ length-take-le m bytes n in
            omega (
              arith,
              stops_before parts.0 none.0 stop (drop m bytes) after (all_continue parts.0 parts.2) stops
                  ((ap (λ z. z ++ drop m bytes) parts.1 ∙ take-append-drop m bytes) ∙ (sym whole ∙ ap (λ z. encode_utf8_all none.0 ++ z) e)),
            ));
      }
