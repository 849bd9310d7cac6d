use Rattle.std.proofs.Common.{[], ◌∷◌, ◌++◌, ◌+◌, ◌≡◌, ◌∙◌, ap, arith, sym, take, take_all}
use Rattle.std.proofs.lemmas.List.{take_more}
use Rattle.slang_tree.specs.declared.expression.Name.{Name}
use Rattle.type_rules.specs.Statements.{modifies_faults}
use Rattle.type_faults.specs.FirstFault.{with_first}
use Rattle.name_maps.specs.Names.{is_named, with_name}
use Rattle.target_judging.specs.MayBeNamed.{may_be_named}
use Rattle.target_judging.proofs.Modified.{modifies_more, texts_more}
use Rattle.target_judging.proofs.modifying.modifies.Goals as goal

pub loop-name-preserved : goal.loop-name-preserved
loop-name-preserved c =
    let i = c.loop-name.name-index in
    let names = c.args.names.now in
    let name = c.name-item.result in
    let table = c.loop-name.before in
    let more : take (i + 1) names ≡ take i names ++ name ∷ [] =
    take_more names i name c.loop-name-test.true ∙ ap (λ (w : Name). take i names ++ w ∷ []) (sym c.name-item.is) in
    record {
      told = λ at fits.
          modifies_more (may_be_named c.args.may) at c.args.told.now.found c.loop-name.told.found c.modified.new.told.found c.tell_unless.new.self.found
          table (take i names) (take (i + 1) names) name c.contains-known.result more (c.loop-name.invariant.told at fits) c.loop-name.invariant.has
          (c.modified.ensures at fits) (c.contains-known.ensures ∙ ap (is_named table) c.as_str.ensures) c.tell_unless.ensures;
      has = texts_more table c.add.new.self (take i names) (take (i + 1) names) name tt more c.loop-name.invariant.has
          (c.in_ok-add.ensures ∙ ap (λ text. with_name table text tt) c.as_str-in-loop-name.ensures);
    }

pub returns : goal.returns
returns c = λ at fits.
    c.loop-name.invariant.told at fits
    ∙ ap (λ names. with_first c.args.told.now.found (modifies_faults (may_be_named c.args.may) at [] names))
    (take_all c.loop-name.name-index c.args.names.now (omega arith))
