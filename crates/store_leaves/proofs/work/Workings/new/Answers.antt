use Rattle.store_leaves.proofs.work.Workings.new.Goals as goal

pub returns : goal.returns
returns c = λ records types store. record {
  forms = c.new.ensures store;
  canonical = c.new-2.ensures records types store;
  outside =
      c.new-3.ensures records types store;
}
