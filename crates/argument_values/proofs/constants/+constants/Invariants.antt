use Rattle.std.proofs.Common.{◌≡◌, ◌+◌, ◌*◌, ◌≤◌, length}
use Rattle.slang_tokens.specs.Tok.{toks}
use Rattle.lk_programs.specs.Program.{record_types}
use Rattle.argument_fronts.specs.Types.{names_of}
use Rattle.argument_lists.specs.Parts.{parts_of}
use Rattle.argument_values.specs.Consts.{ValuesFront, ArePartsFront}
use Rattle.argument_values.proofs.Lists.{joined}
use Rattle.argument_values.proofs.constants.+constants.Given as goal

abbrev pub decreases-const_at : goal.decreases-const_at
decreases-const_at l = 3 * length l.tokens.now

abbrev pub decreases-parts_at : goal.decreases-parts_at
decreases-parts_at l = 3 * length l.tokens.now + 2

abbrev pub decreases-member_at : goal.decreases-member_at
decreases-member_at l = 3 * length l.place.now.rest.now + 1

-- what is left of the list gives what the whole list gives, behind the values so far, and the other way round
abbrev pub invariant-parts_at-members : goal.invariant-parts_at-members
invariant-parts_at-members l = record {
  sound : (a : ValuesFront) → ArePartsFront (names_of l.records) (record_types l.records) (parts_of l.place.parts) (toks l.place.rest.now) a
      → ArePartsFront (names_of l.records) (record_types l.records) (parts_of l.parts) (toks l.tokens)
      (record { values = joined l.values a.values; rest = a.rest });
  complete : (b : ValuesFront) → ArePartsFront (names_of l.records) (record_types l.records) (parts_of l.parts) (toks l.tokens) b
      → (a : ValuesFront) × ArePartsFront (names_of l.records) (record_types l.records) (parts_of l.place.parts) (toks l.place.rest.now) a
      × (b ≡ record { values = joined l.values a.values; rest = a.rest });
  no_longer : length l.place.rest.now ≤ length l.tokens;
}

abbrev pub decreases-parts_at-members : goal.decreases-parts_at-members
decreases-parts_at-members l = length l.place.rest.now
