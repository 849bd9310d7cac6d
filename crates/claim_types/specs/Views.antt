-- Types, records and the names in scope, as the code holds them.
use Rattle.std.specs.Prelude.{ℕ, nat_eq, List, map, Option, Some, None}
use Rattle.std.specs.Option.{option_map}
use Rattle.std.specs.Set.{is_member}
use Rattle.slang_values.specs.Value.{ValueType, unit_type, number_type, truth_type, sequence_type, record_type, Records}
use Rattle.slang_values.specs.Typing.{NameTypes}
use Rattle.program_trees.specs.Claims.{ClaimName}
use Rattle.leg_rules.specs.Typed.{item_names, step_names}
use Rattle.lk_claims.specs.declared.ty.Ty.{Ty}
use Rattle.lk_claims.specs.Claim.{value_type}
use Rattle.claim_types.specs.declared.view.TypeView.{TypeView}
use Rattle.claim_types.specs.declared.view.TypeView.TheVariants as views
use Rattle.claim_types.specs.declared.scope.Scope.{Scope}

abbrev pub view_type : TypeView → ValueType
view_type views.Unit = unit_type
view_type views.Number = number_type
view_type views.Truth = truth_type
view_type (views.Sequence t) = sequence_type (value_type t.now)
view_type (views.Record n) = record_type n

-- the type that is told, if any
abbrev pub told : Option TypeView → Option ValueType
told view = option_map view_type view

abbrev pub records_of : List (List Ty) → Records
records_of records = map (map value_type) records

-- Outside proofs there are variables alone. In a proof there are old values too, and the symbols of the blocks around.
abbrev pub names_in : List Ty → Option (List ℕ) → NameTypes (ClaimName ℕ)
names_in variables None = item_names (map value_type variables)
names_in variables (Some labels) = step_names (map value_type variables) (is_member nat_eq labels)

abbrev pub scope_names : Scope → NameTypes (ClaimName ℕ)
scope_names scope = names_in scope.vars.now (option_map (λ labels. labels.now) scope.labels)
