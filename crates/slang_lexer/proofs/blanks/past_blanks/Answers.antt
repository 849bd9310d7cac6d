use Rattle.std.proofs.Common.{arith, sym, subst}
use Rattle.slang_lexer.specs.Comment.{Skips, nothing, blank, line, block}
use Rattle.slang_lexer.proofs.Places.{Skips-join, pair_fits, IsCharBoundary-Skips}
use Rattle.slang_lexer.proofs.blanks.past_blanks.Goals as goal

pub loop-next-init : goal.loop-next-init
loop-next-init c = record { skips = nothing; begins = omega arith; fits = omega (arith, c.requires.0) }

pub loop-next-preserved-then-is_blank : goal.loop-next-preserved-then-is_blank
loop-next-preserved-then-is_blank c = record {
  skips = Skips-join c.loop-next.invariant.skips (blank (sym c.if-is_blank.ensures) nothing);
  begins = omega arith;
  fits = omega arith;
}

pub loop-next-preserved-then-has_pair : goal.loop-next-preserved-then-has_pair
loop-next-preserved-then-has_pair c = record {
  skips = Skips-join c.loop-next.invariant.skips (line c.line_end-next.ensures nothing);
  begins = omega arith;
  fits = c.line_end-next.ensures.fits;
}

pub loop-next-preserved : goal.loop-next-preserved
loop-next-preserved c = record {
  skips = Skips-join c.loop-next.invariant.skips (block c.in-Some.ensures nothing);
  begins = omega (arith, c.in-Some.ensures.behind);
  fits = pair_fits c.as_bytes-bytes.result.now c.in-Some.close 42 47 c.in-Some.ensures.closes (omega arith);
}

pub returns-else-has_pair-2-clause-place : goal.returns-else-has_pair-2-clause-place
returns-else-has_pair-2-clause-place c = (
  c.loop-next.invariant.begins,
  IsCharBoundary-Skips c.utf8.text c.requires
      (subst (λ bytes. Skips bytes c.args.at c.loop-next.next) c.as_bytes-bytes.ensures.value c.loop-next.invariant.skips),
)
