-- The equations of `sort_type`, one for each variant.
use Rattle.std.proofs.Common.{◌≡◌, ℕ, sym, ap, ◌∙◌}
use Rattle.slang_values.specs.Value.{ValueType, number_type, truth_type, sequence_type, record_type}
use Rattle.term_trees.specs.declared.term.Sort.{Sort, Sort-F, fold-roll-Sort}
use Rattle.term_trees.specs.declared.term.Sort.TheVariants.{Z, B, Seq, Rec, rolls-Z, rolls-B, rolls-Seq, rolls-Rec}
use Rattle.term_trees.specs.Term.{sort_level, sort_type}

pub sort_type-Z : sort_type Z ≡ number_type
unfolding sort_type
sort_type-Z = ap sort_type (sym rolls-Z) ∙ fold-roll-Sort ValueType sort_level Sort-F.Z

pub sort_type-B : sort_type B ≡ truth_type
unfolding sort_type
sort_type-B = ap sort_type (sym rolls-B) ∙ fold-roll-Sort ValueType sort_level Sort-F.B

pub sort_type-Seq : (s : Sort) → sort_type (Seq s) ≡ sequence_type (sort_type s)
unfolding sort_type
sort_type-Seq s = ap sort_type (sym (rolls-Seq s)) ∙ fold-roll-Sort ValueType sort_level (Sort-F.Seq s)

pub sort_type-Rec : (n : ℕ) → sort_type (Rec n) ≡ record_type n
unfolding sort_type
sort_type-Rec n = ap sort_type (sym (rolls-Rec n)) ∙ fold-roll-Sort ValueType sort_level (Sort-F.Rec n)

pub ruleset sort_lines = (sort_type-Z, sort_type-B, sort_type-Seq, sort_type-Rec)
