use Rattle.std.proofs.Common.{◌∙◌, ap, sym, subst, take}
use Rattle.key_store.specs.Keys.{AreDistinct}
use Rattle.key_store.specs.Inside.{bytes_of_all}
use Rattle.key_store.proofs.Numbers.{distinct_take, take_bytes}
use Rattle.key_store.proofs.key_store.KeyStore.cut.Goals as goal

pub invariant_of-self : goal.invariant_of-self
invariant_of-self c =
    let keys = c.self.inside.keys.keys in
    subst AreDistinct (sym (ap bytes_of_all c.truncate.ensures.keys ∙ take_bytes c.args.count keys)) (distinct_take c.args.count (bytes_of_all keys) c.self.invariant)

pub returns : goal.returns
returns c = ap bytes_of_all c.truncate.ensures.keys ∙ take_bytes c.args.count c.self.inside.keys.keys ∙ ap (take c.args.count) c.self.view_is
