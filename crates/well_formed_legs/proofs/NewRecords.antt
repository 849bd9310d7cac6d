-- The records that a type brings, over the numbers of records.
use Rattle.std.proofs.Common.{◌≡◌, ℕ, zero, suc, true, List, [], ◌∷◌, ◌++◌, map, None, refl, sym, ap, ap₂, ◌∙◌, subst}
use Rattle.std.specs.Option.{option_map_or}
use Rattle.std.specs.List.{AllByRecursion, flat_map, list_all}
use Rattle.std.proofs.lemmas.Bool.{false≢true, and_parts}
use Rattle.std.proofs.lemmas.List.{map-append}
use Rattle.slang_values.specs.Value.{ValueType, unit_type, number_type, truth_type, sequence_type, record_type, Records, fields, named_record, ends_within}
use Rattle.program_trees.specs.Programs.{MethodTree, ProgramTree}
use Rattle.program_trees.specs.Variables.{Variable}
use Rattle.leg_rules.specs.Numbering.{records_within, renumbered_type}
use Rattle.leg_forms.specs.WellFormed.{records_within as records_of_leg}
use Rattle.numbering_laws.proofs.Values.{TypeIn, AreRenumbered}
use Rattle.numbering_laws.proofs.RecordOrder.{TypeEnds}

module _ (records : Records) where
  no_record : (depth : ℕ) (t : ValueType) → named_record t ≡ None → records_of_leg records depth t ≡ []
  no_record zero t e = refl
  no_record (suc depth) t e = ap (λ o. option_map_or (λ n. flat_map (records_of_leg records depth) (fields records n) ++ n ∷ []) o []) e

  of_elements : (depth : ℕ) (t : ValueType) → records_of_leg records depth (sequence_type t) ≡ records_of_leg records depth t
  of_elements zero t = refl
  of_elements (suc depth) t = refl

module _ (program : ProgramTree Variable) (method : MethodTree Variable) where
  old_no_record : (depth : ℕ) (t : ValueType) → named_record t ≡ None → records_within program method depth t ≡ []
  old_no_record zero t e = refl
  old_no_record (suc depth) t e =
      ap (λ o. option_map_or (λ n. flat_map (records_within program method depth) (fields program.records n) ++ n ∷ []) o []) e

  old_of_elements : (depth : ℕ) (t : ValueType) → records_within program method depth (sequence_type t) ≡ records_within program method depth t
  old_of_elements zero t = refl
  old_of_elements (suc depth) t = refl

  module _ (new_records : Records) (S : ℕ → Type 0) (f back : ℕ → ℕ) (are : AreRenumbered program.records new_records S f back) where
    abbrev Same : ℕ → ℕ → Type 0
    Same old new = (t : ValueType) → TypeEnds program.records old t → TypeEnds new_records new (renumbered_type f t) → TypeIn S t →
        records_of_leg new_records new (renumbered_type f t) ≡ map f (records_within program method old t)

    of_fields : (old new : ℕ) → Same old new → (ts : List ValueType) →
        list_all (λ t. option_map_or (ends_within program.records old) (named_record t) true) ts ≡ true →
        list_all (λ t. option_map_or (ends_within new_records new) (named_record t) true) (map (renumbered_type f) ts) ≡ true → AllByRecursion (TypeIn S) ts →
        flat_map (records_of_leg new_records new) (map (renumbered_type f) ts) ≡ map f (flat_map (records_within program method old) ts)
    of_fields old new each [] a b h = refl
    of_fields old new each (t ∷ ts) a b h =
        let p = and_parts _ _ a in
        let q = and_parts _ _ b in
        ap₂ (λ x y. x ++ y) (each t p.0 q.0 h.0) (of_fields old new each ts p.1 q.1 h.1)
        ∙ sym (map-append f (records_within program method old t) (flat_map (records_within program method old) ts))

    pub same_records : (old new : ℕ) → Same old new
    same_records old new unit_type a b h = no_record new_records new unit_type refl ∙ sym (ap (map f) (old_no_record old unit_type refl))
    same_records old new number_type a b h = no_record new_records new number_type refl ∙ sym (ap (map f) (old_no_record old number_type refl))
    same_records old new truth_type a b h = no_record new_records new truth_type refl ∙ sym (ap (map f) (old_no_record old truth_type refl))
    same_records old new (sequence_type t) a b h =
        of_elements new_records new (renumbered_type f t) ∙ same_records old new t a b h ∙ sym (ap (map f) (old_of_elements old t))
    same_records zero new (record_type n) a b h = absurd (false≢true a)
    same_records (suc old) zero (record_type n) a b h = absurd (false≢true b)
    same_records (suc old) (suc new) (record_type n) a b h =
        let is = are.fields_are n h in
        let ends = subst (λ ts. list_all (λ t. option_map_or (ends_within new_records new) (named_record t) true) ts ≡ true) is b in
        ap (λ ts. flat_map (records_of_leg new_records new) ts ++ f n ∷ []) is
        ∙ ap (λ l. l ++ f n ∷ []) (of_fields old new (same_records old new) (fields program.records n) a ends (are.members n h))
        ∙ sym (map-append f (flat_map (records_within program method old) (fields program.records n)) (n ∷ []))
