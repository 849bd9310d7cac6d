use Rattle.std.proofs.Common.{◌≡◌, List, ap, sym, subst, ◌∙◌}
use Rattle.slang_values.specs.Value.{ValueType, sequence_type}
use Rattle.lk_claims.specs.Claim.{value_type}
use Rattle.lk_claims.specs.declared.ty.Ty.{Ty}
use Rattle.lk_claims.proofs.Types.{value_type-Unit, value_type-Z, value_type-B, value_type-Seq, value_type-Rec}
use Rattle.lk_programs.specs.Program.{record_types}
use Rattle.slang_lexer.specs.declared.token.TokenKind.TheVariants as kind
use Rattle.slang_tokens.specs.Tok.{toks}
use Rattle.argument_fronts.specs.Only.{IsOnly}
use Rattle.argument_fronts.specs.Cursor.{StandBehindSign, tokens_in, front_of}
use Rattle.argument_fronts.specs.Types.{names_of, StandBehindType}
use Rattle.std.specs.Prelude.{Option, Some, None}
use Rattle.argument_fronts.proofs.Only.{only_as, only_then}
use Rattle.argument_fronts.proofs.Fronts.{unit_to, unit_back, z_to, z_back, b_to, b_back, BehindIsz, InBrackets}
use Rattle.argument_fronts.proofs.Fronts.{isz_split, isz_join, left_split, left_join, inner_split, inner_join}
use Rattle.argument_fronts.proofs.HeadFronts.{record_there, no_record_there, no_record_named}
use Rattle.argument_fronts.proofs.types.+behind_type.Goals as goal

pub returns-in-Unit-clause-only : goal.returns-in-Unit-clause-only
returns-in-Unit-clause-only t c =
    let names = names_of c.args.records.now in
    let records = record_types c.args.records.now in
    let before = toks c.args.tokens.now in
    subst (λ (ty : ValueType). IsOnly tokens_in (StandBehindType names records ty before) c.behind_sign.result) (sym (ap value_type c.in-Unit.is
    ∙ value_type-Unit))
    (only_as tokens_in _ _ (unit_to names records before) (unit_back names records before) c.behind_sign.result c.behind_sign.ensures.only)

pub returns-in-Z-clause-only : goal.returns-in-Z-clause-only
returns-in-Z-clause-only t c =
    let names = names_of c.args.records.now in
    let records = record_types c.args.records.now in
    let before = toks c.args.tokens.now in
    subst (λ (ty : ValueType). IsOnly tokens_in (StandBehindType names records ty before) c.behind_sign-in-Z.result) (sym (ap value_type c.in-Z.is
    ∙ value_type-Z))
    (only_as tokens_in _ _ (z_to names records before) (z_back names records before) c.behind_sign-in-Z.result c.behind_sign-in-Z.ensures.only)

pub returns-in-B-clause-only : goal.returns-in-B-clause-only
returns-in-B-clause-only t c =
    let names = names_of c.args.records.now in
    let records = record_types c.args.records.now in
    let before = toks c.args.tokens.now in
    subst (λ (ty : ValueType). IsOnly tokens_in (StandBehindType names records ty before) c.behind_sign-in-B.result) (sym (ap value_type c.in-B.is
    ∙ value_type-B))
    (only_as tokens_in _ _ (b_to names records before) (b_back names records before) c.behind_sign-in-B.result c.behind_sign-in-B.ensures.only)

pub returns-in-None-clause-only : goal.returns-in-None-clause-only
returns-in-None-clause-only t c = λ a h.
    let names = names_of c.args.records.now in
    let records = record_types c.args.records.now in
    let before = toks c.args.tokens.now in
    let s = isz_split names records (value_type c.in-Seq.element) before a
    (subst (λ (ty : ValueType). StandBehindType names records ty before a) (ap value_type c.in-Seq.is ∙ value_type-Seq c.in-Seq.element) h) in
    c.in-None.ensures.only s.0 s.1

pub returns-in-None-behind_sign-clause-only : goal.returns-in-None-behind_sign-clause-only
returns-in-None-behind_sign-clause-only t c =
    let names = names_of c.args.records.now in
    let records = record_types c.args.records.now in
    let before = toks c.args.tokens.now in
    let element = value_type c.in-Seq.element in
    subst (λ (ty : ValueType). IsOnly tokens_in (StandBehindType names records ty before) None) (sym (ap value_type c.in-Seq.is
    ∙ value_type-Seq c.in-Seq.element))
    (only_then tokens_in tokens_in (StandBehindType names records (sequence_type element) before) (StandBehindSign kind.TypeIsz before)
    (BehindIsz names records element) c.in-Some.rest c.in-Some.ensures.only (isz_split names records element before)
    (isz_join names records element before) None
    (λ a h. let s = left_split names records element (toks c.in-Some.rest.now) a h in c.in-None-behind_sign.ensures.only s.0 s.1))

pub returns-in-None-behind_type-clause-only : goal.returns-in-None-behind_type-clause-only
returns-in-None-behind_type-clause-only t c =
    let names = names_of c.args.records.now in
    let records = record_types c.args.records.now in
    let before = toks c.args.tokens.now in
    let element = value_type c.get.result.now in
    subst (λ (ty : ValueType). IsOnly tokens_in (StandBehindType names records ty before) None)
    (sym (ap value_type c.in-Seq.is ∙ value_type-Seq c.in-Seq.element ∙ ap (λ (x : Ty). sequence_type (value_type x)) (sym c.get.ensures)))
    (only_then tokens_in tokens_in (StandBehindType names records (sequence_type element) before) (StandBehindSign kind.TypeIsz before)
    (BehindIsz names records element) c.in-Some.rest c.in-Some.ensures.only (isz_split names records element before)
    (isz_join names records element before) None
    (only_then tokens_in tokens_in (BehindIsz names records element (toks c.in-Some.rest.now)) (StandBehindSign kind.LeftBracket (toks c.in-Some.rest.now))
    (InBrackets names records element) c.in-Some-behind_sign.inner c.in-Some-behind_sign.ensures.only
    (left_split names records element (toks c.in-Some.rest.now)) (left_join names records element (toks c.in-Some.rest.now)) None
    (λ a h. let s = inner_split names records element (toks c.in-Some-behind_sign.inner.now) a h in c.in-None-behind_type.ensures.only s.0 s.1)))

pub returns-in-Some-behind_type-clause-only : goal.returns-in-Some-behind_type-clause-only
returns-in-Some-behind_type-clause-only t c =
    let names = names_of c.args.records.now in
    let records = record_types c.args.records.now in
    let before = toks c.args.tokens.now in
    let element = value_type c.get.result.now in
    let last = c.behind_sign-in-Some-behind_type.result in
    subst (λ (ty : ValueType). IsOnly tokens_in (StandBehindType names records ty before) last)
    (sym (ap value_type c.in-Seq.is ∙ value_type-Seq c.in-Seq.element ∙ ap (λ (x : Ty). sequence_type (value_type x)) (sym c.get.ensures)))
    (only_then tokens_in tokens_in (StandBehindType names records (sequence_type element) before) (StandBehindSign kind.TypeIsz before)
    (BehindIsz names records element) c.in-Some.rest c.in-Some.ensures.only (isz_split names records element before)
    (isz_join names records element before) last
    (only_then tokens_in tokens_in (BehindIsz names records element (toks c.in-Some.rest.now)) (StandBehindSign kind.LeftBracket (toks c.in-Some.rest.now))
    (InBrackets names records element) c.in-Some-behind_sign.inner c.in-Some-behind_sign.ensures.only
    (left_split names records element (toks c.in-Some.rest.now)) (left_join names records element (toks c.in-Some.rest.now)) last
    (only_then tokens_in tokens_in (InBrackets names records element (toks c.in-Some-behind_sign.inner.now))
    (StandBehindType names records element (toks c.in-Some-behind_sign.inner.now)) (StandBehindSign kind.RightBracket) c.in-Some-behind_type.rest
    c.in-Some-behind_type.ensures.only (inner_split names records element (toks c.in-Some-behind_sign.inner.now))
    (inner_join names records element (toks c.in-Some-behind_sign.inner.now)) last c.behind_sign-in-Some-behind_type.ensures.only)))

pub returns-in-None-behind_text-clause-only : goal.returns-in-None-behind_text-clause-only
returns-in-None-behind_text-clause-only t c = λ a h.
    let names = names_of c.args.records.now in
    let records = record_types c.args.records.now in
    let before = toks c.args.tokens.now in
    no_record_named names records c.in-Rec.number before c.in-None-behind_text.ensures.only a
    (subst (λ (ty : ValueType). StandBehindType names records ty before a) (ap value_type c.in-Rec.is ∙ value_type-Rec c.in-Rec.number) h)

pub returns-then-names_record-clause-only : goal.returns-then-names_record-clause-only
returns-then-names_record-clause-only t c =
    let names = names_of c.args.records.now in
    let records = record_types c.args.records.now in
    let before = toks c.args.tokens.now in
    subst (λ (ty : ValueType). IsOnly tokens_in (StandBehindType names records ty before) (Some c.in-Some-behind_text.name.rest))
    (sym (ap value_type c.in-Rec.is ∙ value_type-Rec c.in-Rec.number))
    (record_there names records c.in-Rec.number before (front_of c.in-Some-behind_text.name) c.in-Some-behind_text.ensures.only
    (sym c.names_record.ensures ∙ c.if-names_record.true))

pub returns-else-names_record-clause-only : goal.returns-else-names_record-clause-only
returns-else-names_record-clause-only t c = λ a h.
    let names = names_of c.args.records.now in
    let records = record_types c.args.records.now in
    let before = toks c.args.tokens.now in
    no_record_there names records c.in-Rec.number before (front_of c.in-Some-behind_text.name) c.in-Some-behind_text.ensures.only
    (sym c.names_record.ensures ∙ c.if-names_record.false) a
    (subst (λ (ty : ValueType). StandBehindType names records ty before a) (ap value_type c.in-Rec.is ∙ value_type-Rec c.in-Rec.number) h)
