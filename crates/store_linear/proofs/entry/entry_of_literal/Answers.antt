use Rattle.std.proofs.Common.{ℤ, subst}
use Rattle.std.specs.Int.{w128}
use Rattle.std.proofs.lemmas.Int.{to_z-of_z}
use Rattle.tree_forms.specs.Form.{constant_form}
use Rattle.store_forms.specs.Form.{IsForm}
use Rattle.store_linear.proofs.Kept.{narrowed_literal}
use Rattle.store_linear.proofs.entry.entry_of_literal.Goals as goal

pub returns : goal.returns
returns c = λ store.
    narrowed_literal store c.args.z c.of_constant.result c.narrowed.result
    (subst (λ (k : ℤ). IsForm store c.of_constant.result (constant_form k)) (to_z-of_z w128 c.args.z c.ranges.z) (c.of_constant.ensures store))
    c.narrowed.ensures
