use Rattle.std.proofs.Common.{◌≡◌, ℕ, List, ◌++◌, take, refl, ap, ◌∙◌, sym, arith}
use Rattle.std.specs.List.{slice_range}
use Rattle.std.proofs.lemmas.Str.{IsCharBoundary-start}
use Rattle.slang_lexer.specs.contracts.token.TokenKind.{the_type}
use denote.Enum.Bare.{same_true, same_false}
use Rattle.slang_tokens.specs.declared.read.TokensEnd.TheVariants.{End}
use Rattle.slang_tokens.specs.Tok.{tok, toks}
use Rattle.slang_tokens.specs.Places.{place_at, place_behind}
use Rattle.slang_tokens.proofs.Ranges.{take_range}
use Rattle.slang_tokens.specs.Front.{front}
use Rattle.slang_tokens.specs.Tokens.{token_of, placed, over, faulty, fault}
use Rattle.slang_tokens.proofs.Scan.{begins_scanned, scanned_by, scanned_end}
use Rattle.slang_tokens.proofs.read.standing.Goals as goal
use Rattle.slang_tokens.proofs.read.standing.Goals.{in-Err+in_ok-place-in-Err, in-Ok+in_ok-begins+then-eq}

pub loop-token-init : goal.loop-token-init
loop-token-init c = record {
  scanned = rw (c.beginning-front.ensures, c.new-list.ensures.items) (begins_scanned _);
  place = refl;
  fits = omega arith;
  cut = IsCharBoundary-start _ c.utf8.text;
}

pub loop-token-preserved : goal.loop-token-preserved
loop-token-preserved c =
    let text = c.args.text.now in
    let token = c.in-Ok.token in
    let begins : c.in_ok-begins.begins ≡ place_at text token.start =
    c.in_ok-begins.ensures (take c.loop-token.at text) c.loop-token.invariant.place
    ∙ ap place_behind (ap (λ (xs : List ℕ). take c.loop-token.at text ++ slice_range xs c.loop-token.at token.start) c.as_bytes-in-loop-token.ensures.value ∙ take_range text c.loop-token.at token.start c.in-Ok.ensures.place.begins) in
    let same : tok c.placed.result ≡ placed text token =
    c.placed.ensures ∙ ap (λ bytes. token_of token.kind bytes c.in_ok-begins.begins) c.range-piece.ensures.value
    ∙ ap (token_of token.kind (slice_range text token.start token.end)) begins in
    record {
      scanned = scanned_by text c.loop-token.at (front c.loop-token.front) (front c.take.new.self) (toks c.loop-token.list.items) (toks c.take.new.tokens.items) token (tok c.placed.result)
          c.loop-token.invariant.scanned c.in-Ok.ensures.found (same_false the_type _ _ (sym c.eq.ensures ∙ c.if-eq.false))
          same c.in_ok-take.ensures.after c.in_ok-take.ensures.stand;
      place = c.in_ok-place.ensures (take token.start text) begins
          ∙ ap place_behind (ap (λ (xs : List ℕ). take token.start text ++ xs) (c.as_bytes-in-loop-token-2.ensures.value ∙ c.range-piece.ensures.value)
          ∙ take_range text token.start token.end c.in-Ok.ensures.place.ordered);
      fits = c.in-Ok.ensures.place.fits;
      cut = c.in-Ok.ensures.place.cuts_end;
    }

pub returns : goal.returns
returns c = record {
  found = scanned_end c.args.text.now c.loop-token.at (front c.loop-token.front) (toks c.loop-token.list.items) _ c.match-next_token.end c.loop-token.invariant.scanned
      (elim c.match-next_token.branch [
        | in-Err+in_ok-place-in-Err w ↦
            let text = c.args.text.now in
            let place : w.in_ok-place-in-Err.place ≡ place_at text w.in-Err.fault.at =
            w.in_ok-place-in-Err.ensures (take c.loop-token.at text) c.loop-token.invariant.place
            ∙ ap place_behind (ap (λ (xs : List ℕ). take c.loop-token.at text ++ slice_range xs c.loop-token.at w.in-Err.fault.at) w.as_bytes.ensures.value ∙ take_range text c.loop-token.at w.in-Err.fault.at w.in-Err.ensures.fault_place.begins) in
            faulty w.in-Err.fault w.in-Err.ensures.fault (w.end-is ∙ ap (fault w.in-Err.fault.code) place)
        | in-Ok+in_ok-begins+then-eq w ↦
            let text = c.args.text.now in
            let begins : w.in_ok-begins.begins ≡ place_at text w.in-Ok.token.start =
            w.in_ok-begins.ensures (take c.loop-token.at text) c.loop-token.invariant.place
            ∙ ap place_behind (ap (λ (xs : List ℕ). take c.loop-token.at text ++ slice_range xs c.loop-token.at w.in-Ok.token.start) w.as_bytes-in-loop-token.ensures.value ∙ take_range text c.loop-token.at w.in-Ok.token.start w.in-Ok.ensures.place.begins) in
            over w.in-Ok.token w.in-Ok.ensures.found (same_true the_type tt _ _ (sym w.eq.ensures ∙ w.if-eq.true)) (w.end-is ∙ ap End begins)
      ])
      c.in_ok-end_line.ensures;
}
