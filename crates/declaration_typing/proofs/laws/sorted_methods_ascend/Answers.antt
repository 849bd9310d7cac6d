use Rattle.declaration_typing.proofs.Sorted.{are_sorted}
use Rattle.declaration_typing.proofs.laws.sorted_methods_ascend.Goals as goal

pub returns : goal.returns
returns c = are_sorted
