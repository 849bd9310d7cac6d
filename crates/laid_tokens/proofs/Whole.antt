-- The bytes of laid out pieces have their tokens.
use Rattle.std.proofs.Common.{◌≡◌, [], map, length, refl, sym, subst, arith}
use Rattle.std.specs.Str.{IsUtf8}
use Rattle.slang_tokens.specs.Places.{place_at}
use Rattle.slang_tokens.specs.Tokens.{placed}
use Rattle.slang_tokens.specs.Newlines.{standing}
use Rattle.slang_tokens.proofs.Newlines.{lines_stand}
use Rattle.print_layout.specs.Pieces.{tokens_of, bytes_of}
use Rattle.moved_texts.specs.Moved.{Alike}
use Rattle.laid_tokens.specs.Laws.{LaidPiecesHaveTheirTokens}
use Rattle.laid_tokens.proofs.Follow.{expanded, expanded_bytes, chain, read_from, follow, placed_alike, chain_utf8}
use Rattle.laid_tokens.proofs.Lines.{tokens_stand}

pub laid_pieces_have_their_tokens : LaidPiecesHaveTheirTokens
laid_pieces_have_their_tokens ps last h =
    let text = bytes_of ps in
    let links = chain h in
    let same : bytes_of ps ≡ bytes_of (expanded ps) = sym (expanded_bytes ps) in
    let raw = map (placed (bytes_of ps)) (read_from 0 (expanded ps)) in
    record {
      utf8 = subst IsUtf8 (expanded_bytes ps) (chain_utf8 (expanded ps) links);
      tokens = standing [] (map (placed (bytes_of ps)) (read_from 0 (expanded ps)));
      end = place_at (bytes_of ps) (length (bytes_of ps));
      standing = record { read = read_from 0 (expanded ps); follow = follow (bytes_of ps) (expanded ps) links 0 (omega arith) same; stand = refl };
      same = subst (Alike (tokens_of ps)) (lines_stand (map (placed (bytes_of ps)) (read_from 0 (expanded ps))))
          (tokens_stand h (map (placed (bytes_of ps)) (read_from 0 (expanded ps)))
          (placed_alike (bytes_of ps) (expanded ps) links 0 same));
    }
