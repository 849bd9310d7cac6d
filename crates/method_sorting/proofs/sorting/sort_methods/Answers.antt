use Rattle.std.proofs.Common.{rules}
use Rattle.std.proofs.lemmas.List.Sorted.{answers_always}
use Rattle.std.proofs.lemmas.Result.{IfOk-weaker}
use Rattle.method_sorting.specs.Ordered.{method_name}
use Rattle.method_sorting.proofs.Rising.{comes, order, sorted_is}
use Rattle.method_sorting.proofs.sorting.sort_methods.Goals as goal

pub returns : goal.returns
returns c =
    IfOk-weaker c.sort_by.result _ _
    (λ _ up.
    sorted_is method_name c.args.methods.now.items c.sort_by.new.self.items
    (up (comes method_name) (order method_name) (answers_always _ _ _ (λ f a r f' k. search rules)))
    (c.sort_by.ensures.stable (comes method_name) (order method_name) (answers_always _ _ _ (λ f a r f' k. search rules))))
    c.sort_by.ensures.sorted
