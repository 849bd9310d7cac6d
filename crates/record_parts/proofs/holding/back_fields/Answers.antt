use Rattle.std.proofs.Common.{◌∙◌, ap, length, map, sym}
use Rattle.std.proofs.lemmas.List.{length-map}
use Rattle.record_parts.specs.Chains.{fields_seen, leads_by, types_seen}
use Rattle.record_parts.proofs.Reaching.{backs_are}
use Rattle.record_parts.proofs.holding.back_fields.Goals as goal

pub returns : goal.returns
returns c =
    let n = c.args.n in
    let types = c.args.types.now in
    let fields = fields_seen c.args.fields.now in
    c.in_ok-backs.ensures
    ∙ ap (λ table. map (leads_by table n) fields) (c.as_slice.ensures ∙ c.in_ok-table.ensures)
    ∙ backs_are (types_seen types) n (length types) fields (sym (length-map types fields_seen))
