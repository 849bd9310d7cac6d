-- The types of a record's fields.
use Rattle.std.proofs.Common.{◌≡◌, ℕ, List, [], map, get_or, slice_get, Option, Some, None, sym, ap, ◌∙◌}
use Rattle.std.specs.Option.{unwrap_or}
use Rattle.std.proofs.lemmas.Option.{unwrap_or-slice_get}
use Rattle.std.proofs.Math.ListN.{get_or-map}
use Rattle.slang_values.specs.Value.{unit_type, record_type, fields, field_type}
use Rattle.term_trees.specs.declared.term.Sort.{Sort}
use Rattle.term_trees.specs.Term.{sort_type}
use Rattle.term_sorts.specs.Types.{symbol_type, record_types}

fields-found : (records : List (List Sort)) (n : ℕ) (found : Option (List Sort)) → slice_get records n ≡ found → fields (record_types records) n ≡ map sort_type (unwrap_or found [])
fields-found records n found is =
    get_or-map (map sort_type) records n [] ∙ ap (map sort_type) (sym (unwrap_or-slice_get records n []) ∙ ap (λ o. unwrap_or o []) is)

pub field-there : (records : List (List Sort)) (n k : ℕ) (sorts : List Sort) → slice_get records n ≡ Some sorts → symbol_type sorts k ≡ field_type (record_types records) k (record_type n)
field-there records n k sorts is =
    unwrap_or-slice_get (map sort_type sorts) k unit_type ∙ ap (λ ts. get_or ts k unit_type) (sym (fields-found records n (Some sorts) is))

pub field-absent : (records : List (List Sort)) (n k : ℕ) → slice_get records n ≡ None → unit_type ≡ field_type (record_types records) k (record_type n)
field-absent records n k is = ap (λ ts. get_or ts k unit_type) (sym (fields-found records n None is))
