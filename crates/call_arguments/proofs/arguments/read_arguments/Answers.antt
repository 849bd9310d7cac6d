use Rattle.std.proofs.Common.{◌≡◌, ◌++◌, ◌∷◌, List, [], map, ap, sym, subst, ◌∙◌}
use Rattle.std.specs.Prelude.{string_bytes}
use Rattle.std.proofs.lemmas.List.{append-nil}
use Rattle.slang_values.specs.Value.{Value}
use Rattle.lk_programs.specs.Program.{record_types, field_types}
use Rattle.run_values.specs.declared.value.Value.{Value as RunValue}
use Rattle.run_values.specs.Value.{plain_value}
use Rattle.argument_fronts.specs.Types.{names_of}
use Rattle.call_arguments.specs.Arguments.{AreArgumentsOf}
use Rattle.call_arguments.specs.Next.{plain_items, IsNext}
use Rattle.call_arguments.proofs.Steps.{pushed}
use Rattle.call_arguments.proofs.arguments.read_arguments.Goals as goal

pub returns-in-Ok-Nothing : goal.returns-in-Ok-Nothing
returns-in-Ok-Nothing c = λ a h.
    let s = c.arguments.invariant.complete a h in
    (subst (IsNext (names_of c.args.records.now) (record_types c.args.records.now) c.arguments.place) c.in-Ok-Nothing.field-0-is c.in-Ok-Nothing.ensures.next)
    s.0 s.1

pub returns-in-Ok-Over : goal.returns-in-Ok-Over
returns-in-Ok-Over c =
    let names = names_of c.args.records.now in
    let records = record_types c.args.records.now in
    let so_far = plain_items c.arguments.values in
    let found = subst (IsNext names records c.arguments.place) c.in-Ok-Over.field-0-is c.in-Ok-Over.ensures.next in (
      subst (AreArgumentsOf names records (map string_bytes c.args.words.now) (field_types c.args.params.now)) (append-nil so_far)
          (c.arguments.invariant.sound [] found.0),
      λ a h. let s = c.arguments.invariant.complete a h in s.2 ∙ ap (λ (vs : List Value). so_far ++ vs) (found.1 s.0 s.1) ∙ append-nil so_far,
    )

pub arguments-preserved : goal.arguments-preserved
arguments-preserved c =
    let names = names_of c.args.records.now in
    let records = record_types c.args.records.now in
    let old = c.arguments.values in
    let value = c.in-Ok-Argument.value in
    let next = subst (IsNext names records c.arguments.place) c.in-Ok-Argument.field-0-is c.in-Ok-Argument.ensures.next in
    let more_is : (more : List Value) → plain_items old ++ (plain_value value ∷ more) ≡ plain_items c.push.new.self ++ more =
    λ more. sym (pushed old value more) ∙ ap (λ (vs : List RunValue). plain_items vs ++ more) (sym c.in-Ok.ensures.ok) in
    record {
      sound = λ more h. subst (AreArgumentsOf names records (map string_bytes c.args.words.now) (field_types c.args.params.now)) (more_is more)
          (c.arguments.invariant.sound (plain_value value ∷ more) (next.joins more h));
      complete = λ all h.
          let s = c.arguments.invariant.complete all h in
          let w = next.splits s.0 s.1 in (w.0, w.1, s.2 ∙ ap (λ (vs : List Value). plain_items old ++ vs) w.2 ∙ more_is w.0);
    }
