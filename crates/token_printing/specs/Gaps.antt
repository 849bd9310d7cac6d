-- The gaps of the code, as those of the layout.
use Rattle.print_layout.specs.Pieces as pieces
use Rattle.token_printing.specs.declared.gaps.Gap.{Gap}
use Rattle.token_printing.specs.declared.gaps.Gap.TheVariants as gap

abbrev pub gap_seen : Gap → pieces.Gap
gap_seen gap.None = pieces.none
gap_seen gap.Blank = pieces.blank
gap_seen (gap.Indent depth) = pieces.indent depth
gap_seen (gap.Line depth) = pieces.line depth
