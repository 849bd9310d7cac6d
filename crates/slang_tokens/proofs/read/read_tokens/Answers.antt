use Rattle.std.proofs.Common.{◌≡◌, ◌<◌, false, List, length, ap, ◌∙◌, sym, subst}
use Rattle.std.specs.Prelude.{nat_lt, get_or}
use Rattle.slang_tokens.specs.declared.read.Tokens.{Tokens}
use Rattle.slang_tokens.specs.declared.lexeme.Lexeme.{Lexeme}
use Rattle.slang_tokens.specs.Tok.{toks}
use Rattle.slang_tokens.specs.Tokens.{AreTokens, fault}
use Rattle.slang_tokens.proofs.Cut.{len_of, kept_whole, kept_heavy, tokens_one}
use Rattle.slang_tokens.proofs.read.read_tokens.Goals as goal
use Rattle.slang_tokens.proofs.read.read_tokens.Goals.{in-Some, in_default}

are : (c : goal.Joined-get) → AreTokens c.args.text.now (toks c.match-get.tokens.list.items) c.match-get.tokens.end
are c =
    let text = c.args.text.now in
    let items = c.in_ok-tokens.tokens.list.items in
    let end = c.in_ok-tokens.tokens.end in
    let len = c.in_ok-len.len in
    let P : Tokens → Type 0 = λ t. AreTokens text (toks t.list.items) t.end in
    let same = c.in_ok-len.ensures ∙ ap (λ (xs : List Lexeme). len_of (toks xs)) c.deref.ensures.value in
    elim c.match-get.branch [
      | in-Some w ↦
          let look = w.in-Some.ensures.lookup in
          let below = subst (λ (xs : List Lexeme). len < length xs) c.deref-2.ensures.value look.3.0 in
          let one : w.in-Some.heavy.now ≡ get_or items len w.in-Some.heavy.now = look.1 ∙ ap (λ (xs : List Lexeme). get_or xs len w.in-Some.heavy.now) c.deref-2.ensures.value in
          subst P (sym w.tokens-is)
          (subst (λ xs. AreTokens text (toks xs) (fault 5 w.in-Some.heavy.now.place)) (sym w.truncate.ensures.items)
          (kept_heavy text items end len w.in-Some.heavy.now c.in_ok-tokens.ensures.found same below one))
      | in_default w ↦
          let past : nat_lt len (length items) ≡ false = sym (w.in_default.ensures.lookup.0 ∙ ap (λ (xs : List Lexeme). nat_lt len (length xs)) c.deref-2.ensures.value) in
          subst P (sym w.tokens-is) (kept_whole text items end len c.in_ok-tokens.ensures.found same past)
    ]

pub returns-clause-found : goal.returns-clause-found
returns-clause-found c = are c

pub returns-clause-only : goal.returns-clause-only
returns-clause-only c = λ all end h. tokens_one c.args.text.now _ all _ end (are c) h
