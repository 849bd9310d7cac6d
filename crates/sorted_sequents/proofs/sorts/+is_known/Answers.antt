use Rattle.std.proofs.Common.{map, sym, ap, ◌∙◌}
use Rattle.std.specs.Prelude.{nat_lt}
use Rattle.std.proofs.lemmas.List.{length-map}
use Rattle.slang_values.specs.Value.{is_known}
use Rattle.term_trees.specs.Term.{sort_type}
use Rattle.term_trees.proofs.Sorts.{sort_type-Rec}
use Rattle.term_sorts.specs.Types.{record_types}
use Rattle.sorted_sequents.proofs.sorts.+is_known.Goals as goal

pub returns-in-Rec : goal.returns-in-Rec
returns-in-Rec t c =
    sym (ap (is_known (record_types c.args.records.now)) (ap sort_type c.in-Rec.is ∙ sort_type-Rec c.in-Rec.number)
    ∙ ap (nat_lt c.in-Rec.number) (length-map c.args.records.now (map sort_type)))
