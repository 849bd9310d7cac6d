use Rattle.std.proofs.Common.{sym, subst}
use Rattle.key_store.specs.Keys.{AreDistinct}
use Rattle.key_store.specs.Inside.{bytes_of_all}
use Rattle.key_store.proofs.Numbers.{distinct_none}
use Rattle.key_store.proofs.key_store.KeyStore.new.Goals as goal

pub invariant_of-result : goal.invariant_of-result
invariant_of-result c = subst (λ keys. AreDistinct (bytes_of_all keys)) (sym c.new.ensures.empty) distinct_none
