use Rattle.std.proofs.Common.{◌≡◌, ℕ, ◌<◌, ◌≤◌, List, length, get_or, refl, sym, subst}
use Rattle.std.proofs.lemmas.Bool.{both_ways}
use Rattle.program_trees.specs.Programs.{MethodTree, renamed_method}
use Rattle.program_trees.specs.Variables.{Variable, variable_of, with_kinds}
use Rattle.lk_programs.specs.Typed.{program_tree}
use Rattle.lk_programs.specs.declared.program.Method.{Method}
use Rattle.lk_programs.specs.declared.typed.Typed.{Typed}
use Rattle.run_starts.specs.Methods.{HasName}
use Rattle.run_starts.proofs.Constants.{named, none_more, none_at_all}
use Rattle.run_starts.proofs.methods.method_named.Goals as goal

abbrev kinds : Typed → MethodTree ℕ → MethodTree Variable
kinds typed method = renamed_method (variable_of (length method.locals) (length (program_tree typed).globals)) method

pub returns-in-Ok : goal.returns-in-Ok
returns-in-Ok c =
    let typed = c.args.typed.now in
    let m = c.index-methods-place.result in
    let all = c.as_slice-methods.ensures in
    let here = named (kinds typed) (λ m. refl) typed.methods c.args.name.now c.methods.place m
    (subst (λ (ms : List Method). c.methods.place < length ms) all c.methods-test.true)
    (subst (λ (ms : List Method). m ≡ get_or ms c.methods.place m) all c.index-methods-place.is) (c.has_name.ensures.0 c.if-has_name.true) in
    subst (λ n. HasName (with_kinds (program_tree typed)) n c.args.name.now) (sym c.in-Ok.ensures.1) here

pub methods-preserved : goal.methods-preserved
methods-preserved c =
    let typed = c.args.typed.now in
    let m = c.index-methods-place.result in
    let all = c.as_slice-methods.ensures in
    none_more (kinds typed) (λ m. refl) typed.methods c.args.name.now c.methods.place m
    (subst (λ (ms : List Method). c.methods.place < length ms) all c.methods-test.true)
    (subst (λ (ms : List Method). m ≡ get_or ms c.methods.place m) all c.index-methods-place.is)
    (λ same. both_ways c.has_name.result c.if-has_name.false (c.has_name.ensures.1 same)) c.methods.invariant

pub returns : goal.returns
returns c =
    let typed = c.args.typed.now in
    none_at_all (kinds typed) (λ m. refl) typed.methods c.args.name.now c.methods.place
    (subst (λ (ms : List Method). length ms ≤ c.methods.place) c.as_slice-methods.ensures c.methods-test.false) c.methods.invariant
