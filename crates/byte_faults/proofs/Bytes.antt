-- The tokens of bytes are one list, so what is known of tokens is known of bytes.
use Rattle.std.proofs.Common.{◌≡◌, ℕ, Bool, true, false, List, [], ◌∷◌, ◌++◌, length, Option, Some, None, refl, sym, ap, ◌∙◌, subst, cond, arith}
use Rattle.std.specs.Str.{IsUtf8}
use Rattle.std.proofs.Math.Seq.{take-length}
use Rattle.slang_tree.specs.DeclTree.{DeclTree}
use Rattle.slang_tree.specs.declared.place.Place.{Place}
use Rattle.slang_tree.specs.declared.place.Fault.{Fault}
use Rattle.slang_tokens.specs.declared.read.TokensEnd.{TokensEnd}
use Rattle.slang_tokens.specs.declared.read.TokensEnd.TheVariants as tokens_end
use Rattle.slang_tokens.specs.Tok.{Tok, sign}
use Rattle.slang_tokens.specs.Tokens.{AreTokens}
use Rattle.slang_tokens.proofs.Cut.{tokens_one}
use Rattle.slang_lexer.specs.declared.token.TokenKind.TheVariants as kind
use Rattle.slang_grammar.specs.Texts.{InGrammar, Reads}
use Rattle.slang_grammar.specs.Faults.{IsText, IsFirstFault, told_bad, IsUtf8Front, HasFault, not_utf8, no_text}
use Rattle.slang_machine.specs.States.{State, top}
use Rattle.slang_machine.specs.Machine.{next, finish, run}
use Rattle.machine_complete.proofs.Declarations.{complete}
use Rattle.machine_sound.proofs.Sound.{sound}
use Rattle.first_faults.specs.Stops.{has_some, fault_at, fault_at_end, step_or_stop, stop}
use Rattle.first_faults.proofs.First.{stops_at_fault, text_has_no_stop}
use Rattle.byte_faults.specs.Laws.{FaultsOfBytes, TreesOfBytes, IsReadable, FaultOrTree}

-- Bytes that are UTF-8 have no longest front that is.
no_front : (bytes : List ℕ) (len : ℕ) → IsUtf8 bytes → IsUtf8Front bytes len → ⊥
no_front bytes len utf8 h = h.longest (length bytes) h.shorter (omega arith) (subst IsUtf8 (sym (take-length bytes)) utf8)

pub faults_of_bytes : FaultsOfBytes
faults_of_bytes bytes tokens end fault utf8 are = (told, λ h. no_text utf8 tokens end are (stops.1 h)) where
  stops : (IsFirstFault tokens end fault → stop (top []) [] tokens end ≡ Some fault)
      × (stop (top []) [] tokens end ≡ Some fault → IsFirstFault tokens end fault)
  stops = stops_at_fault bytes tokens end fault are

  told : HasFault bytes fault → stop (top []) [] tokens end ≡ Some fault
  told (not_utf8 len h e) = absurd (no_front bytes len utf8 h)
  told (no_text utf8' tokens' end' are' first) =
      let p = tokens_one bytes tokens' tokens end' end are' are in
      stops.0 (subst (λ t. IsFirstFault t end fault) p.0 (subst (λ e. IsFirstFault tokens' e fault) p.1 first))

pub trees_of_bytes : TreesOfBytes
trees_of_bytes bytes tokens place file utf8 are = (
  λ reads. (let p = tokens_one bytes tokens reads.tokens (tokens_end.End place) (tokens_end.End reads.end) are reads.are_tokens in
      ap (run (top [])) p.0 ∙ complete reads.tokens file reads.in_grammar),
  λ h. record { utf8 = utf8; tokens = tokens; end = place; are_tokens = are; in_grammar = sound bytes tokens (tokens_end.End place) file are h },
)

-- Where the machine does not stop, the tokens end where the text does.

none_some : {A : Type 0} (a : A) → None ≡ Some a → ⊥
none_some a h = cc (h)

record IsOver (end : TokensEnd) : Type 0 where
  place : Place
  is_end : end ≡ tokens_end.End place

over : (state : State) (front rest : List Tok) (end : TokensEnd) → stop state front rest end ≡ None → IsOver end
over state front [] (tokens_end.End place) h = record { place = place; is_end = refl }
over state front [] (tokens_end.Fault bad) h = absurd (none_some (told_bad front bad) (sym h))
over state front (token ∷ rest) end h = by (next state token) h (λ s k. over s (front ++ token ∷ []) rest end k) where
  by : (o : Option State) → step_or_stop state front token (λ s. stop s (front ++ token ∷ []) rest end) o ≡ None
      → ((s : State) → stop s (front ++ token ∷ []) rest end ≡ None → IsOver end) → IsOver end
  by (Some s) k more = more s k
  by None k more = absurd (none_some (fault_at state front token) (sym k))

pub fault_or_tree : FaultOrTree
fault_or_tree bytes tokens end utf8 are h =
    let last = over (top []) [] tokens end h in
    let text = text_has_no_stop bytes tokens end are h in
    record {
      file = text.file;
      reads = record {
        utf8 = utf8;
        tokens = tokens;
        end = last.place;
        are_tokens = subst (AreTokens bytes tokens) last.is_end are;
        in_grammar = text.in_grammar;
      };
    }
