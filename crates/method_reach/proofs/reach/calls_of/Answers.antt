use Rattle.std.proofs.Common.{◌≡◌, ◌<◌, ℕ, true, length, nat_eq, ◌∙◌}
use Rattle.std.specs.Set.{is_member}
use Rattle.std.proofs.lemmas.Result.{IfOk-weaker}
use Rattle.program_trees.specs.Variables.{with_kinds}
use Rattle.run_rules.specs.Reach.{calls_of_all}
use Rattle.lk_programs.specs.Program.{method_tree}
use Rattle.lk_programs.specs.Typed.{program_tree}
use Rattle.method_reach.specs.Search.{called_by}
use Rattle.method_reach.proofs.Calls.{called_is, all_there_of}
use Rattle.method_reach.proofs.reach.calls_of.Goals as goal

pub returns-clause-called : goal.returns-clause-called
returns-clause-called c =
    let same =
    called_is c.args.typed.now c.args.method c.index-as_slice-method.result c.as_slice.result.now c.requires c.as_slice.ensures
    c.index-as_slice-method.is in
    IfOk-weaker c.method_calls.result (λ called. called ≡ calls_of_all (method_tree c.index-as_slice-method.result).body)
    (λ called. called ≡ called_by (with_kinds (program_tree c.args.typed.now)) c.args.method) (λ called is. is ∙ same) c.method_calls.ensures

pub returns-clause-there : goal.returns-clause-there
returns-clause-there c =
    let same =
    called_is c.args.typed.now c.args.method c.index-as_slice-method.result c.as_slice.result.now c.requires c.as_slice.ensures
    c.index-as_slice-method.is in
    IfOk-weaker c.method_calls.result (λ called. called ≡ calls_of_all (method_tree c.index-as_slice-method.result).body)
    (λ called. (n : ℕ) → is_member nat_eq called n ≡ true → n < length c.args.typed.now.methods)
    (λ called is n there. all_there_of c.args.typed.now c.args.method n called c.requires (is ∙ same) there) c.method_calls.ensures
