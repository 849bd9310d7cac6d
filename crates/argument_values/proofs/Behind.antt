-- Sequences and records, by what is read of them.
use Rattle.std.proofs.Common.{◌≡◌, ℕ, List, Option, Some, subst}
use Rattle.std.specs.Prelude.{Result, Ok, Err, IfOk}
use Rattle.std.specs.Borrow.{Bor}
use Rattle.slang_values.specs.Value.{ValueType, unit_type, sequence_type, record_type, Records, fields}
use Rattle.slang_tokens.specs.Tok.{Tok, toks}
use Rattle.slang_tokens.specs.declared.lexeme.Lexeme.{Lexeme}
use Rattle.slang_grammar.specs.Declarations.{ConstText, const_number, const_minus, const_truth, const_falsity, const_sequence, const_record}
use Rattle.run_values.specs.declared.value.Value.{Value}
use Rattle.run_values.specs.Value.{plain_values}
use Rattle.argument_rules.specs.Values.{const_value}
use Rattle.argument_fronts.specs.Only.{IsOnly}
use Rattle.argument_fronts.specs.Cursor.{tokens_in}
use Rattle.argument_fronts.specs.Heads.{IsHeadOfRecord}
use Rattle.argument_fronts.proofs.Only.{only_then}
use Rattle.argument_lists.specs.declared.heads.Head.{Head}
use Rattle.argument_lists.specs.Heads.{head_front, IsHeadOf}
use Rattle.argument_lists.specs.Parts.{same, each}
use Rattle.argument_scalars.specs.declared.scalars.Read.{Read}
use Rattle.argument_values.specs.Consts.{ValuesFront, values_front, ArePartsFront, IsSequenceEnd, IsRecordEnd}
use Rattle.argument_scalars.specs.Fronts.{ValueFront, value_front, IsValueFront}
use Rattle.argument_values.proofs.Sequences.{sequence_split, sequence_join, BehindHead, record_split, record_join, BehindName}

pub if_ok_map : {X E : Type 0} (r : Result X E) (P Q : X → Type 0) → ((x : X) → P x → Q x) → IfOk r P → IfOk r Q
if_ok_map (Ok x) P Q f h = f x h
if_ok_map (Err e) P Q f h = tt

-- no constant has the type of nothing
pub no_unit : (names : List (List ℕ)) (records : Records) (before : List Tok) (a : ValueFront) → IsValueFront names records unit_type before a → ⊥
no_unit names records before a h = at h.const h.has_value
  where
    at : (c : ConstText) → const_value names records c unit_type ≡ Some a.value → ⊥
    at (const_number digits place) value = cc
    at (const_minus minus digits place) value = cc
    at (const_truth place) value = cc
    at (const_falsity place) value = cc
    at (const_sequence word ty left elements right) value = cc
    at (const_record name left parts right) value = cc

module _ (names : List (List ℕ)) (records : Records) (before : List Tok) where
  module _ (t : ValueType) (head : Head) (found : IsOnly head_front (IsHeadOf names records t before) (Some head)) where
    pub no_elements_read : ((vs : ValuesFront) → ArePartsFront names records (same t) (toks head.rest.now) vs → ⊥) → (a : ValueFront)
        → IsValueFront names records (sequence_type t) before a → ⊥
    no_elements_read none a h =
        let s = sequence_split names records t before a h in
        let k = subst (λ f. BehindHead names records t f a) (found.1 s.0 s.1) s.2 in none k.0 k.1

    pub elements_read : (values : List Value) (rest : Bor (List Lexeme))
        → IsOnly (values_front values) (ArePartsFront names records (same t) (toks head.rest.now)) (Some rest) → (r : Option Read)
        → IsOnly value_front (IsSequenceEnd head.written t (plain_values values) (toks rest.now)) r
        → IsOnly value_front (IsValueFront names records (sequence_type t) before) r
    elements_read values rest parts r end =
        only_then value_front head_front (IsValueFront names records (sequence_type t) before) (IsHeadOf names records t before)
        (BehindHead names records t) head found (sequence_split names records t before) (sequence_join names records t before) r
        (only_then value_front (values_front values) (BehindHead names records t (head_front head)) (ArePartsFront names records (same t) (toks head.rest.now))
        (λ (vs : ValuesFront) (a : ValueFront). IsSequenceEnd head.written t vs.values vs.rest a) rest parts (λ a h. h) (λ vs a h k. (vs, h, k)) r end)

  module _ (number : ℕ) (behind : Bor (List Lexeme)) (found : IsOnly tokens_in (IsHeadOfRecord names records number before) (Some behind)) where
    pub no_fields_read : ((vs : ValuesFront) → ArePartsFront names records (each (fields records number)) (toks behind.now) vs → ⊥) → (a : ValueFront)
        → IsValueFront names records (record_type number) before a → ⊥
    no_fields_read none a h =
        let s = record_split names records number before a h in
        let k = subst (λ ts. BehindName names records number ts a) (found.1 s.0 s.1) s.2 in none k.0 k.1

    pub fields_read : (values : List Value) (rest : Bor (List Lexeme))
        → IsOnly (values_front values) (ArePartsFront names records (each (fields records number)) (toks behind.now)) (Some rest) → (r : Option Read)
        → IsOnly value_front (IsRecordEnd number (plain_values values) (toks rest.now)) r
        → IsOnly value_front (IsValueFront names records (record_type number) before) r
    fields_read values rest parts r end =
        only_then value_front tokens_in (IsValueFront names records (record_type number) before) (IsHeadOfRecord names records number before)
        (BehindName names records number) behind found (record_split names records number before) (record_join names records number before) r
        (only_then value_front (values_front values) (BehindName names records number (toks behind.now))
        (ArePartsFront names records (each (fields records number)) (toks behind.now))
        (λ (vs : ValuesFront) (a : ValueFront). IsRecordEnd number vs.values vs.rest a) rest parts (λ a h. h) (λ vs a h k. (vs, h, k)) r end)
