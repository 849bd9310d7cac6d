use Rattle.std.proofs.Common.{sym, ◌∙◌, add-one}
use Rattle.slang_values.proofs.Sequences as lemma
use Rattle.slang_values.proofs.laws.sequences.Goals as goal

pub returns : goal.returns
returns c = λ records t vs. record {
  read_outside = lemma.read_outside records t vs;
  updated_outside = lemma.updated_outside records t vs;
  read-updated_same = lemma.read-updated_same records t vs;
  read-updated_other = lemma.read-updated_other records t vs;
  size-updated = lemma.size-updated records t vs;
  read-appended_last = lemma.read-appended_last records t vs;
  read-appended_other = lemma.read-appended_other records t vs;
  size-appended = λ x. lemma.size-appended records t vs x ∙ sym (add-one _);
}
