-- The loop that gives pieces, one after the other.
use Rattle.std.proofs.Common.{◌≡◌, ℕ, ◌+◌, ◌<◌, List, [], ◌++◌, take, drop, length, get_or, sym, ap, ◌∙◌}
use Rattle.std.specs.List.{flat_map}
use Rattle.std.proofs.lemmas.List.{take_more, take-append-drop, flat_map_more}
use Rattle.std.proofs.lemmas.Grind.{flat_map-append}
use Rattle.lk_io.specs.Run.{run}
use Rattle.lk_io.specs.Sink.{SinkState}
use Rattle.lk_io.specs.GiveAll.{GivesWhole, GivesFront, end_alone}
use Rattle.lk_io.specs.declared.giving.GiveEnd.{GiveEnd}
use Rattle.lk_io.proofs.SinkLaws.{GivesPart-front, GivesPart-then, IsCounted-then}
use Rattle.lk_io.proofs.GiveAllLaws.{GivesPart-cut}
use Rattle.command_ends.specs.Writing.{WritesPart}

-- The piece at i was not given whole, and those before it were.
pub WritesPart-piece : {X : Type 0} (text : X → List ℕ) (pieces : List X) (i : ℕ) (d : X) {a b c : SinkState} {end : GiveEnd} → i < length pieces
    → GivesWhole (run a b) (flat_map text (take i pieces)) → GivesFront (run b c) (text (get_or pieces i d)) end
    → WritesPart (run a c) (flat_map text pieces) (end_alone end)
WritesPart-piece text pieces i d {a} {b} {c} {end} inside so_far cut =
    let rest = flat_map text (drop (i + 1) pieces) in
    let with_piece : flat_map text (take i pieces) ++ text (get_or pieces i d) ≡ flat_map text (take (i + 1) pieces) =
    flat_map_more text [] (take i pieces) (get_or pieces i d) ∙ ap (flat_map text) (sym (take_more pieces i d inside)) in
    let all : (flat_map text (take i pieces) ++ text (get_or pieces i d)) ++ rest ≡ flat_map text pieces =
    ap (λ t. t ++ rest) with_piece ∙ sym (flat_map-append text (take (i + 1) pieces) (drop (i + 1) pieces))
    ∙ ap (flat_map text) (take-append-drop (i + 1) pieces) in
    record {
      given = rw all at (GivesPart-front rest (GivesPart-then so_far.adds (GivesPart-cut cut)));
      cause = IsCounted-then c (end_alone end) so_far.quiet cut.cause;
    }
