use Rattle.std.proofs.Common.{List, map, sym, ap, ◌∙◌, subst}
use Rattle.lin_rows.specs.Inequality.{IsCanonical}
use Rattle.closing.specs.Rows as row_specs
use Rattle.store_forms.specs.declared.form.IdPart.{IdPart}
use Rattle.store_forms.specs.Form.{part_at}
use Rattle.store_atoms.specs.Atoms.{atom_trees}
use Rattle.store_atoms.proofs.numbering.numbered.Goals as goal

pub new-requires : goal.new-requires
new-requires c =
    let store = c.args.store.now in
    let ts = atom_trees store c.args.atoms.now in
    let e = c.in_ok-parts.ensures.parts ∙ ap (λ (ps : List IdPart). row_specs.numbered_parts ts (map (part_at store) ps)) c.as_slice.ensures.value in
    subst IsCanonical (sym e) c.requires.can.canonical
