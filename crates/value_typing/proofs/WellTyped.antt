-- The claims and the values of a text are well typed in the program.
use Rattle.std.proofs.Common.{◌≡◌, true, sym, subst}
use Rattle.std.specs.List.{list_all}
use Rattle.slang_values.specs.Value.{is_element_type}
use Rattle.slang_values.specs.Typing.{IsTyped, IsClosed}
use Rattle.typed_programs.specs.Parts.{element_types}
use Rattle.typed_programs.specs.Scopes.{claim_names}
use Rattle.type_rules.specs.Meanings.{meaning_of}
use Rattle.type_rules.specs.Expressions.{in_program}
use Rattle.typed_texts.specs.Claims.{claim_of_tree}
use Rattle.value_typing.specs.Kept.{IsInside}
use Rattle.value_typing.specs.WellTyped.{ClaimsAreWellTyped, ValuesAreWellTyped}
use Rattle.claim_typing.proofs.ClaimTypes.{good}
use Rattle.value_typing.proofs.Closed.{claims_closed}
use Rattle.value_typing.proofs.Kept.{values_keep_claims}
use Rattle.value_typing.proofs.Nodes.{values_below}

pub claims_well_typed : ClaimsAreWellTyped
claims_well_typed place names context scope fits inside zero tree h low =
    let g = good place.program.records names context scope fits tree _ h in
    record {
      typed = g.typed;
      closed = subst (λ n. IsClosed n (claim_of_tree scope context tree)) zero
          (claims_closed context scope (λ text. subst (λ n. IsInside n (meaning_of scope text)) (sym zero) (inside text)) tree);
      elements = g.elements;
      low = low;
    }

pub values_well_typed : ValuesAreWellTyped
values_well_typed place scope fits own tree t node h room low =
    let g = good place.program.records (claim_names place) in_program scope fits tree t h in
    let same = values_keep_claims scope own tree t h node in
    record {
      typed = subst (λ claim. IsTyped place.program.records (claim_names place) claim t) (sym same) g.typed;
      elements = subst (λ claim. list_all is_element_type (element_types claim) ≡ true) (sym same) g.elements;
      low = low;
      nodes = values_below scope tree node place.nodes room;
    }
