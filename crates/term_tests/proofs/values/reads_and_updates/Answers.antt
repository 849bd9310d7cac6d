use Rattle.std.proofs.Common.{refl}
use Rattle.term_tests.proofs.values.reads_and_updates.Goals as goal

pub returns : goal.returns
returns c = record {
  first = refl;
  last = refl;
  past_the_end = refl;
  before_the_start = refl;
  record_past_the_end = refl;
  updated_last = refl;
  updated_past_the_end = refl;
  updated_before_the_start = refl;
  read_updated = refl;
  read_appended = refl;
  size_appended = refl;
  equal_of_one_type = refl;
  empty_of_two_types = refl;
}
