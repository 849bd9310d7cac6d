-- The small programs on which the verdict and the law are tried.
use Rattle.std.proofs.Common.{◌≡◌, ℕ, zero, suc, [], ◌∷◌, refl}
use Rattle.program_trees.specs.declared.answer.Kind.TheVariants as kinds
use Rattle.program_trees.specs.declared.answer.Reason.TheVariants as reasons
use Rattle.run_rules.specs.Reach.{Reaches}
use Rattle.run_rules.specs.Runs.{no_method, method_at}
use Rattle.leg_rules.specs.Answers.{verified, unproved}
use Rattle.tree_forms.specs.Form.{is_narrow}
use Rattle.whole_numbers.specs.Gcd.{gcd}
use Rattle.typed_soundness.specs.Examples.{alone, careful, careless}
use Rattle.typed_soundness.proofs.Examples.{soundness_examples}
use Rattle.verdict_laws.specs.Rules.{verdict_by_rules}
use Rattle.verified_programs.specs.Examples.{VerdictExamples}
use Rattle.verified_programs.proofs.Verified.{verified_safe}

careful_is_verified : verdict_by_rules (alone careful) careful ≡ verified
unfolding is_narrow gcd
careful_is_verified = refl

nothing_is_verified : verdict_by_rules (alone careful) no_method ≡ verified
unfolding is_narrow gcd
nothing_is_verified = refl

careless_is_unproved : verdict_by_rules (alone careless) careless ≡ unproved 0 kinds.Requires reasons.Open
unfolding is_narrow gcd
careless_is_unproved = refl

reached : (number : ℕ) → Reaches (alone careful) 0 number → verdict_by_rules (alone careful) (method_at (alone careful) number) ≡ verified
reached zero leads = careful_is_verified
reached (suc n) leads = nothing_is_verified

pub verdict_examples : VerdictExamples
verdict_examples = record {
  careful_verified = careful_is_verified;
  careful_safe = verified_safe (alone careful) (0 ∷ []) 1 0 soundness_examples.careful_typed reached;
  careless_unproved = careless_is_unproved;
}
