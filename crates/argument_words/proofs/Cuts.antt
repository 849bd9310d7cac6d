-- The words of an argument, one by one.
use Rattle.std.proofs.Common.{◌≡◌, ◌≢◌, ℕ, ◌<◌, ◌≤◌, true, false, List, [], ◌∷◌, ◌++◌, length, take, drop, get_or, refl, sym, ◌∙◌, ap, subst, arith}
use Rattle.std.specs.List.{list_all}
use Rattle.std.proofs.lemmas.Bool.{both_ways, and_parts}
use Rattle.std.proofs.lemmas.List.{append-nil, take-append-drop, length-take-le}
use Rattle.std.proofs.Math.Seq.{take-append_seam, drop-append_seam}
use Rattle.slang_lexer.specs.declared.token.TokenKind.{TokenKind}
use Rattle.slang_lexer.specs.declared.token.TokenKind.TheVariants as kind
use Rattle.slang_lexer.specs.Scan.{IsLongestFront, NoLongerFront}
use Rattle.slang_tokens.specs.Tok.{Tok, tok, toks}
use Rattle.slang_tokens.specs.declared.lexeme.Lexeme.{Lexeme}
use Rattle.slang_tokens.specs.Tokens.{token_of}
use Rattle.argument_rules.specs.Words.{Word, IsFront, is_blank, AreBlanks, AreWords, word_token, word_tokens, nowhere}
use Rattle.argument_words.specs.Words.{HaveNoSlash, AreTokensOf, IsWordAnd}
use Rattle.argument_words.proofs.FirstBytes.{front_no_blank, front_slash, front_no_slash, no_front, longest_one}

tail_of : List ℕ → List ℕ
tail_of [] = []
tail_of (b ∷ bytes) = bytes

tails_same : (a b : ℕ) (x y : List ℕ) → a ∷ x ≡ b ∷ y → x ≡ y
unfolding tail_of
tails_same a b x y h = ap tail_of h

heads_same : (a b : ℕ) (x y : List ℕ) → a ∷ x ≡ b ∷ y → a ≡ b
heads_same a b x y h = ap (λ (xs : List ℕ). get_or xs 0 0) h

-- blanks are parted from what begins with none in one way
cut_one : (a b x y : List ℕ) → AreBlanks a → AreBlanks b → is_blank (get_or x 0 0) ≡ false → is_blank (get_or y 0 0) ≡ false → a ++ x ≡ b ++ y
    → (a ≡ b) × (x ≡ y)
cut_one [] [] x y p q s t h = (refl, h)
cut_one [] (c ∷ b) x y p q s t h =
    absurd (both_ways _ s (subst (λ (xs : List ℕ). is_blank (get_or xs 0 0) ≡ true) (sym h) (and_parts (is_blank c) (list_all is_blank b) q).0))
cut_one (c ∷ a) [] x y p q s t h =
    absurd (both_ways _ t (subst (λ (xs : List ℕ). is_blank (get_or xs 0 0) ≡ true) h (and_parts (is_blank c) (list_all is_blank a) p).0))
cut_one (c ∷ a) (d ∷ b) x y p q s t h =
    let rest = cut_one a b x y (and_parts (is_blank c) (list_all is_blank a) p).1 (and_parts (is_blank d) (list_all is_blank b) q).1 s t
    (tails_same c d (a ++ x) (b ++ y) h) in
    let first = heads_same c d (a ++ x) (b ++ y) h in
    (ap (λ i. i ∷ a) first ∙ ap (λ (xs : List ℕ). d ∷ xs) rest.0, rest.1)

blanks_all : (a x : List ℕ) → AreBlanks (a ++ x) → AreBlanks x
blanks_all [] x h = h
blanks_all (b ∷ a) x h = blanks_all a x (and_parts (is_blank b) (list_all is_blank (a ++ x)) h).1

word_same : (blanks : List ℕ) (k : TokenKind) (bytes : List ℕ) (w : Word) → w.blanks ≡ blanks → w.kind ≡ k → w.bytes ≡ bytes
    → word_token w ≡ token_of k bytes nowhere
word_same blanks k bytes w b e s = λ i. token_of (e i) (s i) nowhere

-- a token more at the end is one more in front of the others
pub pushed : (tokens : List Lexeme) (token : Lexeme) (more : List Tok) → toks (tokens ++ token ∷ []) ++ more ≡ toks tokens ++ (tok token ∷ more)
pushed [] token more = refl
pushed (one ∷ tokens) token more = ap (λ (ts : List Tok). tok one ∷ ts) (pushed tokens token more)

module _ (left blanks text : List ℕ) (are_blanks : AreBlanks blanks) (spelled : left ≡ blanks ++ text) (stops : is_blank (get_or text 0 0) ≡ false) where
  behind : (w : Word) (r : List ℕ) → IsFront left w r → (w.blanks ≡ blanks) × (w.bytes ++ r ≡ text)
  behind w r h =
      cut_one w.blanks blanks (w.bytes ++ r) text h.blanks are_blanks (front_no_blank (w.bytes ++ r) w.kind (length w.bytes) h.longest) stops
      (sym h.spelled ∙ spelled)

  front_there : (w : Word) (r : List ℕ) → IsFront left w r → IsLongestFront text w.kind (length w.bytes)
  front_there w r h = subst (λ (xs : List ℕ). IsLongestFront xs w.kind (length w.bytes)) (behind w r h).1 h.longest

  -- ---- the text is over

  pub none_over : text ≡ [] → AreTokensOf left []
  none_over none = record {
    words = [];
    are_words = subst AreBlanks (sym (append-nil blanks) ∙ ap (λ (xs : List ℕ). blanks ++ xs) (sym none) ∙ sym spelled) are_blanks;
    no_slash = tt;
    are = refl;
  }

  pub only_over : text ≡ [] → (all : List Tok) → AreTokensOf left all → all ≡ []
  only_over none all h = at h.words h.are_words h.are
    where
      at : (words : List Word) → AreWords left words → all ≡ word_tokens words → all ≡ []
      at [] are is = is
      at (w ∷ ws) are is =
          let front = front_there w are.0 are.1 in
          let fits = subst (λ (xs : List ℕ). length w.bytes ≤ length xs) none front.fits in absurd (omega (arith, fits, front.nonempty))

  abbrev first_word : TokenKind → ℕ → Word
  first_word k n = record { blanks = blanks; kind = k; bytes = take n text }

  -- ---- a word is next

  module _ (some : 0 < length text) where
    not_over : AreWords left [] → ⊥
    not_over h = at text some stops (blanks_all blanks text (subst AreBlanks spelled h))
      where
        at : (xs : List ℕ) → 0 < length xs → is_blank (get_or xs 0 0) ≡ false → AreBlanks xs → ⊥
        at [] l s b = omega (arith, l)
        at (x ∷ xs) l s b = both_ways _ s (and_parts (is_blank x) (list_all is_blank xs) b).0

    -- no tokens are there where no word can be the first
    no_first : ((w : Word) (r : List ℕ) → IsFront left w r → w.kind ≢ kind.Slash → ⊥) → (all : List Tok) → AreTokensOf left all → ⊥
    no_first none all h = at h.words h.are_words h.no_slash
      where
        at : (words : List Word) → AreWords left words → HaveNoSlash words → ⊥
        at [] are slash = not_over are
        at (w ∷ ws) are slash = none w are.0 are.1 slash.0

    pub slash_here : get_or text 0 0 ≡ 47 → (all : List Tok) → AreTokensOf left all → ⊥
    slash_here is = no_first (λ w r h slash. slash (front_slash text w.kind (length w.bytes) (front_there w r h) is))

    pub none_here : NoLongerFront text 0 → (all : List Tok) → AreTokensOf left all → ⊥
    none_here none = no_first (λ w r h slash. no_front text w.kind (length w.bytes) (front_there w r h) none)

    pub newline_here : (n : ℕ) → IsLongestFront text kind.Newline n → (all : List Tok) → AreTokensOf left all → ⊥
    newline_here n front =
        no_first (λ w r h slash. h.no_newline (longest_one text w.kind (length w.bytes) (front_there w r h) kind.Newline n front).0)

    pub word_here : (k : TokenKind) (n : ℕ) → IsLongestFront text k n → k ≢ kind.Newline → get_or text 0 0 ≢ 47
        → IsWordAnd left (token_of k (take n text) nowhere) (drop n text)
    word_here k n front no_newline no_slash = record {
      joins = λ more h. record {
        words = first_word k n ∷ h.words;
        are_words = (drop n text, first_front, h.are_words);
        no_slash = (front_no_slash text k n front no_slash, h.no_slash);
        are = ap (λ (ts : List Tok). token_of k (take n text) nowhere ∷ ts) h.are;
      };
      splits = λ all h. at all h.words h.are_words h.no_slash h.are;
    }
      where
        width : length (take n text) ≡ n
        width = length-take-le n text front.fits

        first_front : IsFront left (first_word k n) (drop n text)
        first_front = record {
          spelled = spelled ∙ ap (λ (xs : List ℕ). blanks ++ xs) (sym (take-append-drop n text));
          blanks = are_blanks;
          longest = subst (λ (xs : List ℕ). IsLongestFront xs k (length (take n text))) (sym (take-append-drop n text))
              (subst (IsLongestFront text k) (sym width) front);
          no_newline = no_newline;
        }

        at : (all : List Tok) (words : List Word) → AreWords left words → HaveNoSlash words → all ≡ word_tokens words
            → (more : List Tok) × AreTokensOf (drop n text) more × (all ≡ token_of k (take n text) nowhere ∷ more)
        at all [] are slash is = absurd (not_over are)
        at all (w ∷ ws) are slash is =
            let b = behind w are.0 are.1 in
            let one = longest_one text w.kind (length w.bytes) (front_there w are.0 are.1) k n front in
            let bytes : w.bytes ≡ take n text = sym (take-append_seam w.bytes are.0) ∙ ap (λ (xs : List ℕ). take (length w.bytes) xs) b.1
            ∙ ap (λ i. take i text) one.1 in
            let rest : are.0 ≡ drop n text = sym (drop-append_seam w.bytes are.0) ∙ ap (λ (xs : List ℕ). drop (length w.bytes) xs) b.1
            ∙ ap (λ i. drop i text) one.1 in (
              word_tokens ws,
              record { words = ws; are_words = subst (λ (r : List ℕ). AreWords r ws) rest are.2; no_slash = slash.1; are = refl },
              is ∙ ap (λ (t : Tok). t ∷ word_tokens ws) (word_same blanks k (take n text) w b.0 one.0 bytes),
            )
