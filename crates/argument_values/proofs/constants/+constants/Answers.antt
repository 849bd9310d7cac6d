use Rattle.std.proofs.Common.{◌≡◌, List, Some, None, refl, ap, sym, subst, ◌∙◌, arith}
use Rattle.std.specs.Prelude.{IfOk}
use Rattle.slang_values.specs.Value.{ValueType, sequence_type, Values}
use Rattle.run_values.specs.declared.value.Value.{Value}
use Rattle.run_values.specs.Value.{plain_values}
use Rattle.slang_tokens.specs.Tok.{toks}
use Rattle.lk_claims.specs.Claim.{value_type}
use Rattle.lk_claims.specs.declared.ty.Ty.{Ty}
use Rattle.lk_claims.proofs.Types.{value_type-Z, value_type-B, value_type-Seq, value_type-Rec}
use Rattle.lk_programs.specs.Program.{record_types, field_types}
use Rattle.argument_fronts.specs.Only.{IsOnly}
use Rattle.argument_fronts.specs.Types.{names_of}
use Rattle.argument_fronts.specs.Heads.{end_front, IsEndOfMember}
use Rattle.argument_lists.specs.Parts.{same, each, parts_of, can_end, NextTypes}
use Rattle.argument_values.specs.Consts.{ValuesFront, values_front, ArePartsFront, IsSequenceEnd}
use Rattle.argument_scalars.specs.Fronts.{value_front, IsValueFront}
use Rattle.argument_values.specs.Members.{IsMember, IsShorter}
use Rattle.argument_values.specs.declared.constants.ListPlace.{ListPlace}
use Rattle.argument_values.proofs.Sequences.{sequence_split, record_split}
use Rattle.argument_values.proofs.Behind.{if_ok_map, no_elements_read, elements_read, no_fields_read, fields_read}
use Rattle.argument_values.proofs.Lists.{joined, joined_none, no_member}
use Rattle.argument_values.proofs.Found.{no_bracket, bracket_found, no_value_found, no_end_found, member_found, over_all, sound_on, complete_on}
use Rattle.argument_values.proofs.constants.+constants.Goals as goal

pub const_at-returns-in-Z-clause-only : goal.const_at-returns-in-Z-clause-only
const_at-returns-in-Z-clause-only t c =
    let names = names_of c.args.records.now in
    let records = record_types c.args.records.now in
    subst (λ (ty : ValueType). IsOnly value_front (IsValueFront names records ty (toks c.args.tokens.now)) c.number_read.result)
    (sym (ap value_type c.in-Z.is ∙ value_type-Z)) (c.number_read.ensures.only names records)

pub const_at-returns-in-B-clause-only : goal.const_at-returns-in-B-clause-only
const_at-returns-in-B-clause-only t c =
    let names = names_of c.args.records.now in
    let records = record_types c.args.records.now in
    subst (λ (ty : ValueType). IsOnly value_front (IsValueFront names records ty (toks c.args.tokens.now)) c.truth_read.result)
    (sym (ap value_type c.in-B.is ∙ value_type-B)) (c.truth_read.ensures.only names records)

pub const_at-returns-in-None-clause-only : goal.const_at-returns-in-None-clause-only
const_at-returns-in-None-clause-only t c = λ a h.
    let names = names_of c.args.records.now in
    let records = record_types c.args.records.now in
    let before = toks c.args.tokens.now in
    let s = sequence_split names records (value_type c.get-inner.result.now) before a
    (subst (λ (ty : ValueType). IsValueFront names records ty before a)
    (ap value_type c.in-Seq.is ∙ value_type-Seq c.in-Seq.element ∙ ap (λ (x : Ty). sequence_type (value_type x)) (sym c.get-inner.ensures)) h) in
    c.in-None.ensures.only s.0 s.1

pub const_at-returns-in-Ok-None-clause-only : goal.const_at-returns-in-Ok-None-clause-only
const_at-returns-in-Ok-None-clause-only t c = λ a h.
    let names = names_of c.args.records.now in
    let records = record_types c.args.records.now in
    let before = toks c.args.tokens.now in
    let element = value_type c.get-inner.result.now in
    no_elements_read names records before element c.in-Some.head c.in-Some.ensures.only
    (subst (IsOnly (values_front c.parts_at.new.values) (ArePartsFront names records (same element) (toks c.in-Some.head.rest.now))) c.in-Ok-None.field-0-is
    c.in-Ok-None.ensures.only) a
    (subst (λ (ty : ValueType). IsValueFront names records ty before a)
    (ap value_type c.in-Seq.is ∙ value_type-Seq c.in-Seq.element ∙ ap (λ (x : Ty). sequence_type (value_type x)) (sym c.get-inner.ensures)) h)

pub const_at-returns-in-Seq-clause-only : goal.const_at-returns-in-Seq-clause-only
const_at-returns-in-Seq-clause-only t c =
    let names = names_of c.args.records.now in
    let records = record_types c.args.records.now in
    let before = toks c.args.tokens.now in
    let element = value_type c.get-inner.result.now in
    let values = c.parts_at.new.values in
    subst (λ (ty : ValueType). IfOk c.sequence_read.result (IsOnly value_front (IsValueFront names records ty before)))
    (sym (ap value_type c.in-Seq.is ∙ value_type-Seq c.in-Seq.element ∙ ap (λ (x : Ty). sequence_type (value_type x)) (sym c.get-inner.ensures)))
    (if_ok_map c.sequence_read.result (IsOnly value_front (IsSequenceEnd c.in-Some.head.written element (plain_values values) (toks c.in-Ok-Some.rest.now)))
    (IsOnly value_front (IsValueFront names records (sequence_type element) before))
    (elements_read names records before element c.in-Some.head c.in-Some.ensures.only values c.in-Ok-Some.rest
    (subst (IsOnly (values_front values) (ArePartsFront names records (same element) (toks c.in-Some.head.rest.now))) c.in-Ok-Some.field-0-is
    c.in-Ok-Some.ensures.only))
    c.sequence_read.ensures.only)

pub const_at-returns-in-None-record_head-clause-only :
    goal.const_at-returns-in-None-record_head-clause-only
const_at-returns-in-None-record_head-clause-only t c = λ a h.
    let names = names_of c.args.records.now in
    let records = record_types c.args.records.now in
    let before = toks c.args.tokens.now in
    let s = record_split names records c.in-Rec.number before a
    (subst (λ (ty : ValueType). IsValueFront names records ty before a) (ap value_type c.in-Rec.is ∙ value_type-Rec c.in-Rec.number) h) in
    c.in-None-record_head.ensures.only s.0 s.1

pub const_at-returns-in-Ok-None-parts_at-clause-only :
    goal.const_at-returns-in-Ok-None-parts_at-clause-only
const_at-returns-in-Ok-None-parts_at-clause-only t c = λ a h.
    let names = names_of c.args.records.now in
    let records = record_types c.args.records.now in
    let before = toks c.args.tokens.now in
    let number = c.in-Rec.number in
    let behind = c.in-Some-record_head.rest in
    let values = c.parts_at-in-Some-record_head.new.values in
    no_fields_read names records before number behind c.in-Some-record_head.ensures.only
    (subst (λ (types : List ValueType). IsOnly (values_front values) (ArePartsFront names records (each types) (toks behind.now)) None) c.fields_of.ensures
    (subst (IsOnly (values_front values) (ArePartsFront names records (each (field_types c.fields_of.result.now)) (toks behind.now)))
    c.in-Ok-None-parts_at.field-0-is c.in-Ok-None-parts_at.ensures.only)) a
    (subst (λ (ty : ValueType). IsValueFront names records ty before a) (ap value_type c.in-Rec.is ∙ value_type-Rec number) h)

pub const_at-returns-clause-only : goal.const_at-returns-clause-only
const_at-returns-clause-only t c =
    let names = names_of c.args.records.now in
    let records = record_types c.args.records.now in
    let before = toks c.args.tokens.now in
    let number = c.in-Rec.number in
    let behind = c.in-Some-record_head.rest in
    let values = c.parts_at-in-Some-record_head.new.values in
    let rest = c.in-Ok-Some-parts_at.rest in
    subst (λ (ty : ValueType). IsOnly value_front (IsValueFront names records ty before) c.record_read.result)
    (sym (ap value_type c.in-Rec.is ∙ value_type-Rec number))
    (fields_read names records before number behind c.in-Some-record_head.ensures.only values rest
    (subst (λ (types : List ValueType). IsOnly (values_front values) (ArePartsFront names records (each types) (toks behind.now)) (Some rest))
    c.fields_of.ensures
    (subst (IsOnly (values_front values) (ArePartsFront names records (each (field_types c.fields_of.result.now)) (toks behind.now)))
    c.in-Ok-Some-parts_at.field-0-is c.in-Ok-Some-parts_at.ensures.only))
    c.record_read.result c.record_read.ensures.only)

pub member_at-returns-in-Some-clause-member : goal.member_at-returns-in-Some-clause-member
member_at-returns-in-Some-clause-member t c =
    let names = names_of c.args.records.now in
    let records = record_types c.args.records.now in
    let place = c.args.place.now in
    let behind : ListPlace = record { rest = c.in-Some.behind; parts = place.parts } in
    subst (IsMember names records place c.args.values.now behind c.args.values.now) (sym c.over_where.ensures)
    (bracket_found names records place behind c.args.values.now c.can_end.result (sym c.can_end.ensures) c.in-Some.ensures.only.0)

pub member_at-returns-in-None-next-clause-member :
    goal.member_at-returns-in-None-next-clause-member
member_at-returns-in-None-next-clause-member t c = λ a h.
    let before = toks c.args.place.now.rest.now in
    no_member (names_of c.args.records.now) (record_types c.args.records.now) (parts_of c.args.place.now.parts) before a c.in-None-next.ensures
    (no_bracket before c.in-None.ensures.only) h

pub member_at-returns-in-Ok-None-clause-member : goal.member_at-returns-in-Ok-None-clause-member
member_at-returns-in-Ok-None-clause-member t c =
    let names = names_of c.args.records.now in
    let records = record_types c.args.records.now in
    let place = c.args.place.now in
    let before = toks place.rest.now in
    let next = c.in-Some-next.next in
    let types : NextTypes = record { type = value_type next.ty.now; others = parts_of next.others } in
    no_value_found names records (parts_of place.parts) types before c.in-Some-next.ensures c.in-None.ensures.only
    (subst (IsOnly value_front (IsValueFront names records types.type before)) c.in-Ok-None.field-0-is c.in-Ok-None.ensures.only)

pub member_at-returns-in-Ok-None-member_of-clause-member :
    goal.member_at-returns-in-Ok-None-member_of-clause-member
member_at-returns-in-Ok-None-member_of-clause-member t c =
    let names = names_of c.args.records.now in
    let records = record_types c.args.records.now in
    let place = c.args.place.now in
    let before = toks place.rest.now in
    let next = c.in-Some-next.next in
    let read = c.in-Ok-Some.read in
    let types : NextTypes = record { type = value_type next.ty.now; others = parts_of next.others } in
    no_end_found names records (parts_of place.parts) types before c.in-Some-next.ensures c.in-None.ensures.only read.value (toks read.rest.now)
    (subst (IsOnly value_front (IsValueFront names records types.type before)) c.in-Ok-Some.field-0-is c.in-Ok-Some.ensures.only)
    (subst (IsOnly end_front (IsEndOfMember (toks read.rest.now))) c.in-Ok-None-member_of.field-0-is c.in-Ok-None-member_of.ensures.only)

pub member_at-returns-in-Ok-Some-member_of-clause-member :
    goal.member_at-returns-in-Ok-Some-member_of-clause-member
member_at-returns-in-Ok-Some-member_of-clause-member t c =
    let names = names_of c.args.records.now in
    let records = record_types c.args.records.now in
    let place = c.args.place.now in
    let before = toks place.rest.now in
    let next = c.in-Some-next.next in
    let read = c.in-Ok-Some.read in
    let end = c.in-Ok-Some-member_of.end in
    let types : NextTypes = record { type = value_type next.ty.now; others = parts_of next.others } in
    let behind : ListPlace = record { rest = end.rest; parts = next.others } in
    subst (IsMember names records place c.args.values.now behind c.member_of.new.values) (sym c.found_with.ensures)
    (member_found names records place behind types read.value (toks read.rest.now) c.args.values.now c.member_of.new.values end.over
    (can_end (parts_of next.others)) c.in-Some-next.ensures refl refl c.in-None.ensures.only
    (subst (IsOnly value_front (IsValueFront names records types.type before)) c.in-Ok-Some.field-0-is c.in-Ok-Some.ensures.only)
    (subst (IsOnly end_front (IsEndOfMember (toks read.rest.now))) c.in-Ok-Some-member_of.field-0-is c.in-Ok-Some-member_of.ensures.only).0
    c.in-Ok-Some-member_of.ensures.added)

pub parts_at-members-init : goal.parts_at-members-init
parts_at-members-init t c =
    let none : (a : ValuesFront) → record { values = joined c.args.values.now a.values; rest = a.rest } ≡ a =
    λ a. ap (λ (vs : Values). record { values = vs; rest = a.rest }) (ap (λ (xs : List Value). joined xs a.values) c.requires ∙ joined_none a.values) in
    record {
      sound = λ a h. subst (ArePartsFront (names_of c.args.records.now) (record_types c.args.records.now) (parts_of c.args.parts) (toks c.args.tokens.now))
          (sym (none a)) h;
      complete = λ b h. (b, h, sym (none b));
      no_longer = omega arith;
    }

pub parts_at-returns-in-Ok-Nothing-clause-only : goal.parts_at-returns-in-Ok-Nothing-clause-only
parts_at-returns-in-Ok-Nothing-clause-only t c = λ a h. let s = c.members.invariant.complete a h in
    (subst (IsMember (names_of c.args.records.now) (record_types c.args.records.now) c.members.place c.members.values c.member_at.new.place
    c.member_at.new.values) c.in-Ok-Nothing.field-0-is c.in-Ok-Nothing.ensures.member) s.0 s.1

pub parts_at-returns-in-Ok-Over-clause-only : goal.parts_at-returns-in-Ok-Over-clause-only
parts_at-returns-in-Ok-Over-clause-only t c =
    let names = names_of c.args.records.now in
    let records = record_types c.args.records.now in
    let place = c.members.place in
    over_all names records (parts_of c.args.parts) (toks c.args.tokens.now) c.members.values (parts_of place.parts) (toks place.rest.now)
    c.members.invariant.sound c.members.invariant.complete c.member_at.new.values (toks c.member_at.new.place.rest.now)
    (subst (IsMember names records place c.members.values c.member_at.new.place c.member_at.new.values) c.in-Ok-Over.field-0-is c.in-Ok-Over.ensures.member)

pub parts_at-members-preserved : goal.parts_at-members-preserved
parts_at-members-preserved t c =
    let names = names_of c.args.records.now in
    let records = record_types c.args.records.now in
    let parts = parts_of c.args.parts in
    let before = toks c.args.tokens.now in
    let place = c.members.place in
    let new = c.member_at.new.place in
    let values = c.member_at.new.values in
    let more = subst (IsMember names records place c.members.values new values) c.in-Ok-More.field-0-is c.in-Ok-More.ensures.member in
    let shorter = subst (IsShorter place new) c.in-Ok-More.field-0-is c.in-Ok-More.ensures.shorter in
    record {
      sound = sound_on names records parts before c.members.values (parts_of place.parts) (toks place.rest.now) c.members.invariant.sound
          c.members.invariant.complete values (parts_of new.parts) (toks new.rest.now) more;
      complete = complete_on names records parts before c.members.values (parts_of place.parts) (toks place.rest.now) c.members.invariant.sound
          c.members.invariant.complete values (parts_of new.parts) (toks new.rest.now) more;
      no_longer = omega (arith, shorter);
    }
