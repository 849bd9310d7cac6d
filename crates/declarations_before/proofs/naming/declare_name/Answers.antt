use Rattle.std.proofs.Common.{[], ◌∷◌, ◌++◌, ◌∙◌, ap, not, subst, sym}
use Rattle.std.proofs.lemmas.Result.{on_ok_weaker}
use Rattle.name_maps.specs.Names.{is_named, with_name}
use Rattle.type_rules.specs.Faults.{duplicate_name, unless}
use Rattle.type_faults.specs.FirstFault.{with_first}
use Rattle.declarations_before.specs.Before.{HasNames}
use Rattle.declarations_before.proofs.Standing.{names_with}
use Rattle.declarations_before.proofs.naming.declare_name.Goals as goal

pub returns-clause-told : goal.returns-clause-told
returns-clause-told c =
    on_ok_weaker c.add.result
    (λ added front has.
    c.tell_unless.ensures
    ∙ ap (λ b. with_first c.args.told.now.found (unless (not b) (duplicate_name c.args.name.now.place)))
    (c.contains-known.ensures ∙ ap (is_named c.args.names.now) c.as_str.ensures ∙ has c.args.name.now.text))
    c.add.ensures

pub returns-clause-names : goal.returns-clause-names
returns-clause-names c =
    on_ok_weaker c.add.result
    (λ added front decl has is.
    subst (λ table. HasNames table (front ++ decl ∷ [])) (sym (added ∙ ap (λ text. with_name c.args.names.now text tt) c.as_str-2.ensures))
    (names_with c.args.names.now tt front decl c.args.name.now has is))
    c.add.ensures
