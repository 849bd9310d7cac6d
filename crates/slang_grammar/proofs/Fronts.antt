-- The first fault is one, and a text has none.
use Rattle.std.proofs.Common.{◌≡◌, inl, inr, ℕ, Bool, true, false, not, ◌&&◌, ◌||◌, List, [], ◌∷◌, ◌++◌, length, refl, sym, ap, ◌∙◌, subst, append_assoc, append-nil, arith}
use Rattle.std.specs.Prelude.{IsTrue}
use Rattle.std.specs.Str.{IsUtf8}
use Rattle.std.proofs.lemmas.Bool.Decides.{leb_tells}
use Rattle.std.proofs.Math.Seq.{take-length}
use Rattle.slang_lexer.specs.declared.token.TokenKind.TheVariants as kind
use Rattle.slang_tree.specs.declared.place.Place.{Place}
use Rattle.slang_tree.specs.declared.place.Fault.{Fault}
use Rattle.slang_tokens.specs.declared.read.TokensEnd.{TokensEnd}
use Rattle.slang_tokens.specs.declared.read.TokensEnd.TheVariants as tokens_end
use Rattle.slang_tokens.specs.Tok.{Tok, sign}
use Rattle.slang_tokens.specs.Places.{place_at}
use Rattle.slang_tokens.proofs.Cut.{tokens_one}
use Rattle.slang_grammar.specs.Faults.{IsText, IsViable, IsStuck, is_word, ends_with_at, HasCode, large_label, no_invariant, left_out, unexpected, IsToldAt, at_token, at_sign, told_bad, IsFirstFault, within, at_end, at_bad, IsUtf8Front, not_utf8, no_text}
use Rattle.slang_grammar.specs.Laws.{FaultIsOne, TextHasNoFault}

-- a front of what goes on goes on
pub viable_front : (front more : List Tok) → IsViable (front ++ more) → IsViable front
viable_front front more h = record { more = more ++ h.more; text = subst IsText (append_assoc front more h.more) h.text }

viable_to : (tokens front : List Tok) (token : Tok) (rest : List Tok) → tokens ≡ front ++ token ∷ rest → IsViable tokens → IsViable (front ++ token ∷ [])
viable_to tokens front token rest same h = viable_front (front ++ token ∷ []) rest (subst IsViable (same ∙ sym (append_assoc front (token ∷ []) rest)) h)

pub viable_text : (tokens : List Tok) → IsText tokens → IsViable tokens
viable_text tokens h = record { more = []; text = subst IsText (sym (append-nil tokens)) h }

-- two places in a list
data Compared (front : List Tok) (token : Tok) (front' : List Tok) (token' : Tok) : Type 0 where
  one : front ≡ front' → token ≡ token' → Compared front token front' token'
  before : (more : List Tok) → front' ≡ front ++ token ∷ more → Compared front token front' token'
  behind : (more : List Tok) → front ≡ front' ++ token' ∷ more → Compared front token front' token'

head_of : Tok → List Tok → Tok
head_of token [] = token
head_of token (first ∷ rest) = first

tail_of : List Tok → List Tok
tail_of [] = []
tail_of (first ∷ rest) = rest

compared : (front : List Tok) (token : Tok) (rest front' : List Tok) (token' : Tok) (rest' : List Tok)
    → front ++ token ∷ rest ≡ front' ++ token' ∷ rest' → Compared front token front' token'
compared [] token rest [] token' rest' e = one refl (cc)
compared [] token rest (first ∷ front') token' rest' e = before front' (let same : first ≡ token = cc (e) in ap (λ x. x ∷ front') same)
compared (first ∷ front) token rest [] token' rest' e = behind front (let same : first ≡ token' = cc (e) in ap (λ x. x ∷ front) same)
compared (first ∷ front) token rest (first' ∷ front') token' rest' e = by (compared front token rest front' token' rest' (cc (e))) where
  first_same : first ≡ first'
  first_same = cc (e)

  by : Compared front token front' token' → Compared (first ∷ front) token (first' ∷ front') token'
  by (one same same') = one (cc (first_same, same)) same'
  by (before more same) = before more (cc (first_same, same))
  by (behind more same) = behind more (cc (first_same, same))

-- one place where reading stops
stops_once : (tokens front : List Tok) (token : Tok) (rest front' : List Tok) (token' : Tok) (rest' : List Tok)
    → tokens ≡ front ++ token ∷ rest → IsViable front → IsStuck (front ++ token ∷ [])
    → tokens ≡ front' ++ token' ∷ rest' → IsViable front' → IsStuck (front' ++ token' ∷ []) → (front ≡ front') × (token ≡ token')
stops_once tokens front token rest front' token' rest' same goes stuck same' goes' stuck' =
    by (compared front token rest front' token' rest' (sym same ∙ same')) where
      by : Compared front token front' token' → (front ≡ front') × (token ≡ token')
      by (one e f) = (e, f)
      by (before more e) = absurd (stuck (viable_to front' front token more e goes'))
      by (behind more e) = absurd (stuck' (viable_to front front' token' more e goes))

-- one code
code_one : (front : List Tok) (token : Tok) (a b : ℕ) → HasCode front token a → HasCode front token b → a ≡ b
code_one front token a b (large_label e l) (large_label f m) = e ∙ sym f
code_one front token a b (large_label e l) (no_invariant f m i) = absurd (m l)
code_one front token a b (large_label e l) (left_out f m i o) = absurd (m l)
code_one front token a b (large_label e l) (unexpected f m i o) = absurd (m l)
code_one front token a b (no_invariant e l j) (large_label f m) = absurd (l m)
code_one front token a b (no_invariant e l j) (no_invariant f m i) = e ∙ sym f
code_one front token a b (no_invariant e l j) (left_out f m i o) = absurd (i j)
code_one front token a b (no_invariant e l j) (unexpected f m i o) = absurd (i j)
code_one front token a b (left_out e l j p) (large_label f m) = absurd (l m)
code_one front token a b (left_out e l j p) (no_invariant f m i) = absurd (j i)
code_one front token a b (left_out e l j p) (left_out f m i o) = e ∙ sym f
code_one front token a b (left_out e l j p) (unexpected f m i o) = absurd (o p)
code_one front token a b (unexpected e l j p) (large_label f m) = absurd (l m)
code_one front token a b (unexpected e l j p) (no_invariant f m i) = absurd (j i)
code_one front token a b (unexpected e l j p) (left_out f m i o) = absurd (p o)
code_one front token a b (unexpected e l j p) (unexpected f m i o) = e ∙ sym f

fault_same : (a b : Fault) → a.code ≡ b.code → a.place ≡ b.place → a ≡ b
fault_same a b e f =
    let with_code : a ≡ record { code = b.code; place = a.place } = ap (λ c. record { code = c; place = a.place }) e in
    let with_place : record { code = b.code; place = a.place } ≡ b = ap (λ p. record { code = b.code; place = p }) f in
    with_code ∙ with_place

not_both : (at word : Bool) → IsTrue (not at || word) → IsTrue (at && not word) → ⊥
not_both true true h k = cc (k)
not_both true false h k = cc (h)
not_both false word h k = cc (k)

told_one : (front : List Tok) (token : Tok) (a b : Fault) → IsToldAt front token a → IsToldAt front token b → a ≡ b
told_one front token a b (at_token w p c) (at_token v q d) = fault_same a b (code_one front token a.code b.code c d) (p ∙ sym q)
told_one front token a b (at_token w p c) (at_sign v q) = absurd (not_both (ends_with_at front) (is_word token.kind) w v)
told_one front token a b (at_sign w p) (at_token v q d) = absurd (not_both (ends_with_at front) (is_word token.kind) v w)
told_one front token a b (at_sign w p) (at_sign v q) = p ∙ sym q

end_bad : (place : Place) (bad : Fault) → tokens_end.End place ≡ tokens_end.Fault bad → ⊥
end_bad place bad e = cc (e)

-- one first fault of tokens
pub first_one : (tokens : List Tok) (end : TokensEnd) (a b : Fault) → IsFirstFault tokens end a → IsFirstFault tokens end b → a ≡ b
first_one tokens end a b (within front token rest same goes stuck told) (within front' token' rest' same' goes' stuck' told') =
    let p = stops_once tokens front token rest front' token' rest' same goes stuck same' goes' stuck' in
    told_one front' token' a b (subst (λ f. IsToldAt f token' a) p.0 (subst (λ t. IsToldAt front t a) p.1 told)) told'
first_one tokens end a b (within front token rest same goes stuck told) (at_end place e viable none told') =
    absurd (stuck (viable_to tokens front token rest same viable))
first_one tokens end a b (within front token rest same goes stuck told) (at_bad bad e viable told') =
    absurd (stuck (viable_to tokens front token rest same viable))
first_one tokens end a b (at_end place e viable none told') (within front token rest same goes stuck told) =
    absurd (stuck (viable_to tokens front token rest same viable))
first_one tokens end a b (at_end place e viable none told) (at_end place' e' viable' none' told') =
    let p : place ≡ place' = cc (e, e') in
    told_one tokens (sign kind.End place') a b (subst (λ p. IsToldAt tokens (sign kind.End p) a) p told) told'
first_one tokens end a b (at_end place e viable none told) (at_bad bad e' viable' told') = absurd (end_bad place bad (sym e ∙ e'))
first_one tokens end a b (at_bad bad e viable told') (within front token rest same goes stuck told) =
    absurd (stuck (viable_to tokens front token rest same viable))
first_one tokens end a b (at_bad bad e viable told) (at_end place e' viable' none told') = absurd (end_bad place bad (sym e' ∙ e))
first_one tokens end a b (at_bad bad e viable told) (at_bad bad' e' viable' told') =
    let p : bad ≡ bad' = cc (e, e') in
    told ∙ ap (told_bad tokens) p ∙ sym told'

-- bytes in UTF-8 have no longest front that is
no_front : (bytes : List ℕ) (len : ℕ) → IsUtf8 bytes → IsUtf8Front bytes len → ⊥
no_front bytes len utf8 h = h.longest (length bytes) h.shorter (omega arith) (subst IsUtf8 (sym (take-length bytes)) utf8)

front_one : (bytes : List ℕ) (a b : ℕ) → IsUtf8Front bytes a → IsUtf8Front bytes b → a ≡ b
front_one bytes a b h k =
    elim (leb_tells a b) [
      | inr above ↦ absurd (k.longest a above.1 (let s = h.shorter in omega (arith, s)) h.utf8)
      | inl below ↦ elim (leb_tells b a) [
        | inr above ↦ absurd (h.longest b above.1 (let s = k.shorter in omega (arith, s)) k.utf8)
        | inl above ↦ let p = below.1 in let q = above.1 in omega (arith, p, q)
      ]
    ]

pub one_fault : FaultIsOne
one_fault bytes a b (not_utf8 len h e) (not_utf8 len' h' e') =
    e ∙ ap (λ n. record { code = 1; place = place_at bytes n }) (front_one bytes len len' h h') ∙ sym e'
one_fault bytes a b (not_utf8 len h e) (no_text utf8 tokens end are first) = absurd (no_front bytes len utf8 h)
one_fault bytes a b (no_text utf8 tokens end are first) (not_utf8 len h e) = absurd (no_front bytes len utf8 h)
one_fault bytes a b (no_text utf8 tokens end are first) (no_text utf8' tokens' end' are' first') =
    let p = tokens_one bytes tokens tokens' end end' are are' in
    first_one tokens' end' a b (subst (λ t. IsFirstFault t end' a) p.0 (subst (λ e. IsFirstFault tokens e a) p.1 first)) first'

pub no_first : (tokens : List Tok) (place : Place) (fault : Fault) → IsText tokens → IsFirstFault tokens (tokens_end.End place) fault → ⊥
no_first tokens place fault text (within front token rest same goes stuck told) = stuck (viable_to tokens front token rest same (viable_text tokens text))
no_first tokens place fault text (at_end place' e viable none told) = none text
no_first tokens place fault text (at_bad bad e viable told) = end_bad place bad e

pub no_fault : TextHasNoFault
no_fault bytes file fault reads (not_utf8 len h e) = no_front bytes len reads.utf8 h
no_fault bytes file fault reads (no_text utf8 tokens end are first) =
    let p = tokens_one bytes tokens reads.tokens end (tokens_end.End reads.end) are reads.are_tokens in
    let text : IsText reads.tokens = record { file = file; in_grammar = reads.in_grammar } in
    no_first reads.tokens reads.end fault text (subst (λ t. IsFirstFault t (tokens_end.End reads.end) fault) p.0 (subst
    (λ e. IsFirstFault tokens e fault) p.1 first))
