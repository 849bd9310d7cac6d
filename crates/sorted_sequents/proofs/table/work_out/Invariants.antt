use Rattle.std.proofs.Common.{◌≡◌, length}
use Rattle.term_sorts.specs.Types.{types_of, record_types}
use Rattle.sorted_sequents.specs.Answers.{AreFitAnswers}
use Rattle.sorted_sequents.proofs.table.work_out.Given as goal

abbrev pub invariant-terms : goal.invariant-terms
invariant-terms l = record {
  answers : AreFitAnswers (record_types l.records) (types_of l.symbols) l.store l.answers.items;
  next : length l.answers.items ≡ l.id;
}
