-- Where the reading of tokens stands.
use Rattle.std.proofs.Common.{◌≡◌, ◌≢◌, ℕ, List, [], ◌∷◌, ◌++◌, map, refl, sym, ap, ◌∙◌, subst, append_assoc}
use Rattle.slang_lexer.specs.declared.token.Token.{Token}
use Rattle.slang_lexer.specs.declared.token.TokenKind.TheVariants as kind
use Rattle.slang_lexer.specs.declared.token.LexFault.{LexFault}
use Rattle.slang_lexer.specs.Next.{IsNext}
use Rattle.slang_lexer.proofs.Laws.{next_is_one, fault_is_one, next_is_no_fault}
use Rattle.slang_tokens.specs.declared.read.TokensEnd.{TokensEnd}
use Rattle.slang_tokens.specs.declared.read.TokensEnd.TheVariants.{End}
use Rattle.slang_tokens.specs.Tok.{Tok}
use Rattle.slang_tokens.specs.Places.{place_at}
use Rattle.slang_tokens.specs.Newlines.{standing}
use Rattle.slang_tokens.specs.Lines.{Front, beginning, lines, standing_with, after, newline}
use Rattle.slang_tokens.specs.Tokens.{IsEnd, over, faulty, fault, Follow, placed, AreStanding}
use Rattle.slang_tokens.proofs.Newlines.{lines_stand}

-- the tokens that stand from this byte on, behind such a front
abbrev pub StandFrom : List ℕ → ℕ → Front → List Tok → TokensEnd → Type 0
StandFrom text at front tokens end = (read : List Token) × Follow text at read end × (tokens ≡ lines front (map (placed text) read))

-- these tokens stand up to this byte, and what the front makes of the rest follows them
pub record IsScanned (text : List ℕ) (at : ℕ) (front : Front) (tokens : List Tok) : Type 0 where
  pub forward : (rest : List Tok) (end : TokensEnd) → StandFrom text at front rest end → AreStanding text (tokens ++ rest) end

pub begins_scanned : (text : List ℕ) → IsScanned text 0 beginning []
begins_scanned text = record { forward = λ rest end h. record { read = h.0; follow = h.1; stand = h.2 ∙ lines_stand (map (placed text) h.0) } }

-- with one more token
scanned_more : (text : List ℕ) (at : ℕ) (front : Front) (tokens : List Tok) (token : Token)
    → IsScanned text at front tokens → IsNext text at token → token.kind ≢ kind.End
    → IsScanned text token.end (after front (placed text token)) (tokens ++ standing_with front (placed text token))
scanned_more text at front tokens token h next more = record {
  forward = λ rest end r. subst (λ all. AreStanding text all end) (sym (append_assoc tokens _ rest))
      (h.forward (standing_with front (placed text token) ++ rest) end
      (token ∷ r.0, (next, more, r.1), ap (λ x. standing_with front (placed text token) ++ x) r.2));
}

-- the same, of what the code made
pub scanned_by : (text : List ℕ) (at : ℕ) (front front' : Front) (tokens tokens' : List Tok) (token : Token) (t : Tok)
    → IsScanned text at front tokens → IsNext text at token → token.kind ≢ kind.End
    → t ≡ placed text token → front' ≡ after front t → tokens' ≡ tokens ++ standing_with front t
    → IsScanned text token.end front' tokens'
scanned_by text at front front' tokens tokens' token t h next more same is_after stand =
    subst (λ f. IsScanned text token.end f tokens') (sym (is_after ∙ ap (after front) same))
    (subst (IsScanned text token.end (after front (placed text token))) (sym (stand ∙ ap (λ u. tokens ++ standing_with front u) same))
    (scanned_more text at front tokens token h next more))

-- where the tokens end
pub scanned_end : (text : List ℕ) (at : ℕ) (front : Front) (tokens tokens' : List Tok) (end : TokensEnd)
    → IsScanned text at front tokens → IsEnd text at end → tokens' ≡ tokens ++ newline front → AreStanding text tokens' end
scanned_end text at front tokens tokens' end h is_end same = subst (λ all. AreStanding text all end) (sym same) (h.forward (newline front) end ([], is_end, refl))

end_one : (text : List ℕ) (at : ℕ) (a b : TokensEnd) → IsEnd text at a → IsEnd text at b → a ≡ b
end_one text at a b (over t next ends same) (over u next' ends' same') =
    same ∙ ap (λ (t : Token). End (place_at text t.start)) (next_is_one text at t u next next') ∙ sym same'
end_one text at a b (over t next ends same) (faulty bad is_bad same') = absurd (next_is_no_fault text at t bad next is_bad)
end_one text at a b (faulty bad is_bad same) (over t next ends same') = absurd (next_is_no_fault text at t bad next is_bad)
end_one text at a b (faulty bad is_bad same) (faulty bad' is_bad' same') =
    same ∙ ap (λ (f : LexFault). fault f.code (place_at text f.at)) (fault_is_one text at bad bad' is_bad is_bad') ∙ sym same'

-- no token follows where the tokens end
never : (text : List ℕ) (at : ℕ) (end : TokensEnd) (token : Token) → IsEnd text at end → IsNext text at token → token.kind ≢ kind.End → ⊥
never text at end token (over t next ends same) is_next goes = goes (ap (λ (u : Token). u.kind) (next_is_one text at token t is_next next) ∙ ends)
never text at end token (faulty bad is_bad same) is_next goes = next_is_no_fault text at token bad is_next is_bad

follow_one : (text : List ℕ) (at : ℕ) (a b : List Token) (end end' : TokensEnd) → Follow text at a end → Follow text at b end' → (a ≡ b) × (end ≡ end')
follow_one text at [] [] end end' h k = (refl, end_one text at end end' h k)
follow_one text at [] (t ∷ ts) end end' h (is_next, goes, follow) = absurd (never text at end t h is_next goes)
follow_one text at (t ∷ ts) [] end end' (is_next, goes, follow) k = absurd (never text at end' t k is_next goes)
follow_one text at (t ∷ ts) (u ∷ us) end end' (is_t, goes_t, follow_t) (is_u, goes_u, follow_u) =
    let same = next_is_one text at t u is_t is_u in
    let P : Token → Type 0 = λ v. Follow text v.end ts end in
    let rest = follow_one text u.end ts us end end' (subst P same follow_t) follow_u in
    (ap (λ v. v ∷ ts) same ∙ ap (λ vs. u ∷ vs) rest.0, rest.1)

-- a text has one list of standing tokens
pub standing_one : (text : List ℕ) (a b : List Tok) (end end' : TokensEnd) → AreStanding text a end → AreStanding text b end' → (a ≡ b) × (end ≡ end')
standing_one text a b end end' h k =
    let same = follow_one text 0 h.read k.read end end' h.follow k.follow in
    (h.stand ∙ ap (λ read. standing [] (map (placed text) read)) same.0 ∙ sym k.stand, same.1)
