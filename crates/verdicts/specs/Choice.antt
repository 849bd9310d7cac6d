-- The verdict on a method, from the answers for its legs.
use Rattle.std.specs.Prelude.{Bool, true, false, List, [], ◌∷◌, slice_index_or}
use Rattle.program_trees.specs.declared.answer.Answer.{Answer}
use Rattle.program_trees.specs.declared.answer.Answer.TheVariants as answers
use Rattle.lk_programs.specs.declared.expression.NodeNo.{NodeNo}
use Rattle.leg_rules.specs.Answers as plain
use Rattle.verdicts.specs.declared.verdict.Verdict.{Verdict}
use Rattle.verdicts.specs.declared.verdict.Verdict.TheVariants as verdicts

-- the verdict as plain data
abbrev pub plain_verdict : Verdict → plain.Verdict
plain_verdict verdicts.Verified = plain.verified
plain_verdict (verdicts.Unproved node kind reason) = plain.unproved node.0 kind reason
plain_verdict verdicts.ManyLegs = plain.many_legs

abbrev pub is_verified : Verdict → Bool
is_verified verdicts.Verified = true
is_verified (verdicts.Unproved node kind reason) = false
is_verified verdicts.ManyLegs = false

-- the node of an item beyond the list, which no answer names
abbrev pub no_node : NodeNo
no_node = record { 0 = 0 }

-- An answer is told of at the node beside its item.
abbrev pub at_node : List NodeNo → Answer → plain.Verdict → plain.Verdict
at_node nodes answers.Proved later = later
at_node nodes (answers.Unproved item kind reason) later = plain.unproved (slice_index_or nodes item no_node).0 kind reason

-- the first answer that is not Proved, where these are the nodes of the legs
abbrev pub chosen : List (List NodeNo) → List Answer → plain.Verdict
chosen [] told = plain.verified
chosen (nodes ∷ later) [] = plain.verified
chosen (nodes ∷ later) (answer ∷ told) = at_node nodes answer (chosen later told)
