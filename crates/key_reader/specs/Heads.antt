-- What steps and items of a key begin with.
use Rattle.std.specs.Prelude.{ℕ, Bool, Option}
use Rattle.program_trees.specs.declared.answer.Kind.{Kind}
use Rattle.key_rules.specs.Codes
use Rattle.key_reader.specs.declared.codes.StepHead.{StepHead}
use Rattle.key_reader.specs.declared.codes.StepHead.TheVariants as steps
use Rattle.key_reader.specs.declared.codes.ItemHead.{ItemHead}
use Rattle.key_reader.specs.declared.codes.ItemHead.TheVariants as items

abbrev pub step_head_data : StepHead → Codes.StepHead
step_head_data steps.Line = Codes.of_line
step_head_data steps.Block = Codes.of_block

abbrev pub item_head_data : ItemHead → Codes.ItemHead
item_head_data items.Assume = Codes.of_assume
item_head_data items.Check = Codes.of_check
item_head_data items.Set = Codes.of_set
item_head_data items.Fresh = Codes.of_fresh
item_head_data items.Proof = Codes.of_proof

-- what has that byte
abbrev pub step_head_coded : ℕ → Option Codes.StepHead
step_head_coded byte = Codes.coded Codes.step_code Codes.step_heads byte

abbrev pub flag_coded : ℕ → Option Bool
flag_coded byte = Codes.coded Codes.flag_code Codes.flags byte

abbrev pub item_head_coded : ℕ → Option Codes.ItemHead
item_head_coded byte = Codes.coded Codes.item_code Codes.item_heads byte

abbrev pub kind_coded : ℕ → Option Kind
kind_coded byte = Codes.coded Codes.kind_code Codes.checked_kinds byte
