use Rattle.std.proofs.Common.{◌∙◌, ℤ, List, take, drop, suc, ◌≡◌, ◌-◌, ◌≤◌, pos, ◌+ℤ◌, Ok, Err, SFits, to_z, of_z, rules, arith, subst, sym, ap, ap₂, refl}
use Rattle.std.specs.Int.{w128}
use Rattle.std.proofs.lemmas.Int.{to_z-of_z, ints}
use Rattle.std.proofs.lemmas.List.{take_all}
use Rattle.slang_values.specs.Value.{unit, number, truth, with_value_last}
use Rattle.slang_values.specs.Tree.{literal, truth_literal, bound, name, unary, binary, update, quantified, listed, sequence_of, record_of}
use Rattle.program_trees.specs.Claims.{variable, old_variable, let_symbol}
use Rattle.lk_claims.specs.Claim.{claim_tree, claim_trees, value_type}
use Rattle.lk_programs.specs.Program.{record_types}
use Rattle.lk_claims.specs.declared.claim.Claim.{Claim, size-Claim}
use Rattle.lk_claims.specs.Shape.{deepest}
use Rattle.run_stops.specs.ClaimStops.{decides}
use Rattle.run_values.specs.Value.{plain_values}
use Rattle.run_values.proofs.Values.{with_value_last-push}
use Rattle.expression_values.proofs.Dispatch.{at_place, take_next}
use Rattle.claim_values.specs.Answers.{Tells, visits_of, claim_value, holds_at, visits_at}
use Rattle.claim_values.proofs.Steps.{leaf, leaf_same, tells_same}
use Rattle.claim_values.proofs.Bodies.{going, holding, less_is, same_body, pushed_body, stopped, decided, goes_on, holds_on, holds_there}
use Rattle.claim_values.proofs.Dispatch.{over, among, all_visits, all_values, goes_more, stops_there, one_value_more, ends_stop, bodies_come, deepest_at}
use Rattle.claim_values.proofs.visiting.+visiting.Goals as goal

pub held-returns-in-Literal-clause-answer : goal.held-returns-in-Literal-clause-answer
held-returns-in-Literal-clause-answer t c =
    let z = c.in-Literal.z in
    let fits : SFits w128 z = search rules in
    over (record_types c.args.records.now) c.args.env.now c.args.bound.now c.args.claim.now (literal z) _ _ c.number.result c.in-Literal.ensures
    (leaf_same (number z) _ _ c.number.result (ap number (to_z-of_z w128 z fits)) c.number.ensures)

pub held-returns-in-Truth-clause-answer : goal.held-returns-in-Truth-clause-answer
held-returns-in-Truth-clause-answer t c =
    over (record_types c.args.records.now) c.args.env.now c.args.bound.now c.args.claim.now (truth_literal c.in-Truth.b) _ _ c.truth.result c.in-Truth.ensures
    (leaf (truth c.in-Truth.b) _ c.truth.result c.truth.ensures)

pub held-returns-in-Variable-clause-answer : goal.held-returns-in-Variable-clause-answer
held-returns-in-Variable-clause-answer t c =
    over (record_types c.args.records.now) c.args.env.now c.args.bound.now c.args.claim.now (name (variable c.in-Variable.n)) _ _ c.fitting.result c.in-Variable.ensures
    (leaf_same _ _ _ c.fitting.result c.variable.ensures c.fitting.ensures)

pub held-returns-in-Bound-clause-answer : goal.held-returns-in-Bound-clause-answer
held-returns-in-Bound-clause-answer t c =
    let z = c.bound_at.result in
    let fits : SFits w128 z = search rules in
    over (record_types c.args.records.now) c.args.env.now c.args.bound.now c.args.claim.now (bound c.in-Bound.n) _ _ c.number-in-Bound.result c.in-Bound.ensures
    (leaf_same _ _ _ c.number-in-Bound.result (ap number (to_z-of_z w128 z fits ∙ c.bound_at.ensures)) c.number-in-Bound.ensures)

pub held-returns-in-OldVariable-clause-answer : goal.held-returns-in-OldVariable-clause-answer
held-returns-in-OldVariable-clause-answer t c =
    over (record_types c.args.records.now) c.args.env.now c.args.bound.now c.args.claim.now _ _ _ c.nothing.result c.in-OldVariable.ensures
    (leaf unit _ c.nothing.result c.nothing.ensures)

pub held-returns-in-LetSymbol-clause-answer : goal.held-returns-in-LetSymbol-clause-answer
held-returns-in-LetSymbol-clause-answer t c =
    over (record_types c.args.records.now) c.args.env.now c.args.bound.now c.args.claim.now _ _ _ c.nothing-in-LetSymbol.result c.in-LetSymbol.ensures
    (leaf unit _ c.nothing-in-LetSymbol.result c.nothing-in-LetSymbol.ensures)

pub held-returns-in-Unary-clause-answer : goal.held-returns-in-Unary-clause-answer
held-returns-in-Unary-clause-answer t c =
    let records = record_types c.args.records.now in
    let env = c.args.env.now in
    let bound = c.args.bound.now in
    over records env bound c.args.claim.now _ _ _ c.unary.result c.in-Unary.ensures.0
    (c.unary.ensures (visits_of records env bound c.in-Unary.a.now c.args.visits.now) c.held.new.visits (claim_value records env bound c.in-Unary.a.now) c.held.ensures.answer)

pub held-returns-in-Binary-clause-answer : goal.held-returns-in-Binary-clause-answer
held-returns-in-Binary-clause-answer t c =
    let records = record_types c.args.records.now in
    let env = c.args.env.now in
    let bound = c.args.bound.now in
    over records env bound c.args.claim.now _ _ _ c.binary.result c.in-Binary.ensures.0
    (c.binary.ensures (visits_of records env bound c.in-Binary.a.now c.args.visits.now) (visits_of records env bound c.in-Binary.b.now) c.held-in-Binary.new.visits
    c.held-in-Binary-2.new.visits (claim_value records env bound c.in-Binary.a.now) (claim_value records env bound c.in-Binary.b.now) c.held-in-Binary.ensures.answer
    (among records env bound c.held-in-Binary.new.bound c.in-Binary.b.now _ _ c.held-in-Binary-2.result c.held-in-Binary.ensures.kept c.held-in-Binary-2.ensures.answer))

pub held-returns-in-Update-clause-answer : goal.held-returns-in-Update-clause-answer
held-returns-in-Update-clause-answer t c =
    let records = record_types c.args.records.now in
    let env = c.args.env.now in
    let bound = c.args.bound.now in
    over records env bound c.args.claim.now _ _ _ c.update.result c.in-Update.ensures.0
    (c.update.ensures (visits_of records env bound c.in-Update.a.now c.args.visits.now) (visits_of records env bound c.in-Update.i.now)
    (visits_of records env bound c.in-Update.x.now) c.held-in-Update.new.visits c.held-in-Update-2.new.visits c.held-in-Update-3.new.visits
    (claim_value records env bound c.in-Update.a.now) (claim_value records env bound c.in-Update.i.now) (claim_value records env bound c.in-Update.x.now)
    c.held-in-Update.ensures.answer
    (among records env bound c.held-in-Update.new.bound c.in-Update.i.now _ _ c.held-in-Update-2.result c.held-in-Update.ensures.kept c.held-in-Update-2.ensures.answer)
    (among records env bound c.held-in-Update-2.new.bound c.in-Update.x.now _ _ c.held-in-Update-3.result
    (c.held-in-Update-2.ensures.kept ∙ c.held-in-Update.ensures.kept) c.held-in-Update-3.ensures.answer))

pub held-returns-in-Sequence-clause-answer : goal.held-returns-in-Sequence-clause-answer
held-returns-in-Sequence-clause-answer t c =
    let records = record_types c.args.records.now in
    let env = c.args.env.now in
    let bound = c.args.bound.now in
    over records env bound c.args.claim.now _ _ _ c.sequence.result c.in-Sequence.ensures.0
    (c.sequence.ensures (all_visits records env bound c.in-Sequence.elements.now c.args.visits.now) c.all_held.new.visits (all_values records env bound c.in-Sequence.elements.now)
    c.all_held.ensures.answer)

pub held-returns-in-Record-clause-answer : goal.held-returns-in-Record-clause-answer
held-returns-in-Record-clause-answer t c =
    let records = record_types c.args.records.now in
    let env = c.args.env.now in
    let bound = c.args.bound.now in
    over records env bound c.args.claim.now _ _ _ c.record_by_fields.result c.in-Record.ensures.0
    (c.record_by_fields.ensures (all_visits records env bound c.in-Record.fields.now c.args.visits.now) c.all_held-in-Record.new.visits
    (all_values records env bound c.in-Record.fields.now) c.all_held-in-Record.ensures.answer)

-- an end of the range stops
pub held-returns-in-Err-clause-answer : goal.held-returns-in-Err-clause-answer
held-returns-in-Err-clause-answer t c =
    let records = record_types c.args.records.now in
    let env = c.args.env.now in
    let bound = c.args.bound.now in
    let low = c.in-Quantified.low.now in
    let high = c.in-Quantified.high.now in
    over records env bound c.args.claim.now _ _ c.held-high.new.visits (Err c.in-Err.end) c.in-Quantified.ensures.0
    (ends_stop records env bound c.in-Quantified.quantifier low high c.in-Quantified.body.now c.in-Err.end c.args.visits.now
    (c.in-Err.ensures (visits_of records env bound low c.args.visits.now) (visits_of records env bound high) c.held-low.new.visits c.held-high.new.visits
    (claim_value records env bound low) (claim_value records env bound high) c.held-low.ensures.answer
    (among records env bound c.held-low.new.bound high _ _ c.held-high.result c.held-low.ensures.kept c.held-high.ensures.answer)))

pub held-returns-in-Ok-clause-answer : goal.held-returns-in-Ok-clause-answer
held-returns-in-Ok-clause-answer t c =
    let records = record_types c.args.records.now in
    let env = c.args.env.now in
    let bound = c.args.bound.now in
    let low = c.in-Quantified.low.now in
    let high = c.in-Quantified.high.now in
    let from = c.in-Ok.ends.0 in
    let to = c.in-Ok.ends.1 in
    let from_fits : SFits w128 from = search rules in
    let to_fits : SFits w128 to = search rules in
    let ends = c.in-Ok.ensures (visits_of records env bound low c.args.visits.now) (visits_of records env bound high) c.held-low.new.visits
    c.held-high.new.visits (claim_value records env bound low) (claim_value records env bound high) c.held-low.ensures.answer
    (among records env bound c.held-low.new.bound high _ _ c.held-high.result c.held-low.ensures.kept c.held-high.ensures.answer) in
    over records env bound c.args.claim.now _ _ _ c.quantified.result c.in-Quantified.ensures.0
    (bodies_come records env bound c.in-Quantified.quantifier low high c.in-Quantified.body.now c.held-high.new.bound (to_z w128 (of_z w128 from))
    (to_z w128 (of_z w128 to)) c.args.visits.now c.held-high.new.visits c.bodies.new.visits c.quantified.result
    (c.held-high.ensures.kept ∙ c.held-low.ensures.kept) (to_z-of_z w128 from from_fits ∙ ends.1.0) (to_z-of_z w128 to to_fits ∙ ends.1.1) ends.0
    (c.quantified.ensures _ _ _ c.bodies.ensures.answer))

-- ---- several claims

pub all_held-returns-in-Err-clause-answer : goal.all_held-returns-in-Err-clause-answer
all_held-returns-in-Err-clause-answer t c =
    let records = record_types c.args.records.now in
    let env = c.args.env.now in
    let bound = c.args.bound.now in
    let claims = c.args.claims.now in
    let place = c.each.claim-index in
    let claim = c.claim-item.result in
    let here = among records env bound c.each.bound claim _ _ c.held.result c.each.invariant.kept c.held.ensures.answer in
    let told = c.in-Err.ensures (visits_of records env bound claim c.each.visits) c.held.new.visits (claim_value records env bound claim) here in
    subst (λ (all : List Claim). Tells c.in-Err.end (all_visits records env bound all c.args.visits.now)) (at_place claims place claim c.each-test.true c.claim-item.is)
    (stops_there records env bound c.in-Err.end (take place claims) claim (drop (suc place) claims) c.args.visits.now c.each.visits c.each.invariant.goes told)

pub all_held-each-preserved : goal.all_held-each-preserved
all_held-each-preserved t c =
    let records = record_types c.args.records.now in
    let env = c.args.env.now in
    let bound = c.args.bound.now in
    let claims = c.args.claims.now in
    let place = c.each.claim-index in
    let claim = c.claim-item.result in
    let here = among records env bound c.each.bound claim _ _ c.held.result c.each.invariant.kept c.held.ensures.answer in
    let found = c.in-Ok.ensures (visits_of records env bound claim c.each.visits) c.held.new.visits (claim_value records env bound claim) here in
    let next = take_next claims place claim c.each-test.true c.claim-item.is in
    record {
      kept = c.held.ensures.kept ∙ c.each.invariant.kept;
      goes = ap (λ (some : List Claim). all_visits records env bound some c.args.visits.now) next
          ∙ goes_more records env bound (take place claims) claim c.args.visits.now c.each.visits c.held.new.visits c.each.invariant.goes found.0;
      values = ap plain_values c.in_ok-push-in-Ok.ensures.ok
          ∙ sym (with_value_last-push c.each.values c.in-Ok.value)
          ∙ ap₂ with_value_last c.each.invariant.values found.1
          ∙ sym (one_value_more records env bound (take place claims) claim)
          ∙ sym (ap (all_values records env bound) next);
    }

pub all_held-returns-clause-answer : goal.all_held-returns-clause-answer
all_held-returns-clause-answer t c =
    let records = record_types c.args.records.now in
    let env = c.args.env.now in
    let bound = c.args.bound.now in
    let whole = take_all c.each.claim-index c.args.claims.now c.each-test.false in (
      ap (λ (some : List Claim). all_visits records env bound some c.args.visits.now) (sym whole) ∙ c.each.invariant.goes,
      c.each.invariant.values ∙ ap (all_values records env bound) whole,
    )

-- ---- the bodies of a quantifier

pub bodies-returns-in-Err-clause-answer : goal.bodies-returns-in-Err-clause-answer
bodies-returns-in-Err-clause-answer t c =
    let records = record_types c.args.records.now in
    let env = c.args.env.now in
    let bound = c.args.bound.now in
    let body = c.args.body.now in
    let test = holds_at records env bound body in
    let visits = visits_at records env bound body in
    let k = to_z w128 c.range.k-bits in
    let high = to_z w128 (of_z w128 c.args.high) in
    let told = same_body records env bound c.range.bound body k k c.range.visits c.one_body.new.visits (Err c.in-Err.end) c.range.invariant.kept refl c.in-Err.ensures.answer in
    tells_same c.in-Err.end _ _
    (ap₂ (λ (a b : ℤ). going c.args.quantifier test visits a b c.args.visits.now) (sym (to_z-of_z w128 c.args.low c.ranges.low)) (sym (to_z-of_z w128 c.args.high c.ranges.high))
    ∙ c.range.invariant.goes)
    (stopped c.args.quantifier test visits c.in-Err.end k high c.range.visits (less_is k high c.range-test.true) told)

pub bodies-returns-then-decides-clause-answer : goal.bodies-returns-then-decides-clause-answer
bodies-returns-then-decides-clause-answer t c =
    let records = record_types c.args.records.now in
    let env = c.args.env.now in
    let bound = c.args.bound.now in
    let body = c.args.body.now in
    let q = c.args.quantifier in
    let test = holds_at records env bound body in
    let visits = visits_at records env bound body in
    let k = to_z w128 c.range.k-bits in
    let high = to_z w128 (of_z w128 c.args.high) in
    let less = less_is k high c.range-test.true in
    let low_is = to_z-of_z w128 c.args.low c.ranges.low in
    let high_is = to_z-of_z w128 c.args.high c.ranges.high in
    let found = same_body records env bound c.range.bound body k k c.range.visits c.one_body.new.visits (Ok c.in-Ok.holds) c.range.invariant.kept refl c.in-Ok.ensures.answer in
    let is = ap (decides q) (sym found.1) ∙ sym c.decides.ensures ∙ c.if-decides.true in (
      ap₂ (λ (a b : ℤ). going q test visits a b c.args.visits.now) (sym low_is) (sym high_is)
          ∙ c.range.invariant.goes
          ∙ decided q test visits k high c.range.visits c.one_body.new.visits less found.0 is,
      found.1 ∙ sym (holds_there q test k high less is) ∙ sym c.range.invariant.holds ∙ ap₂ (λ (a b : ℤ). holding q test visits a b) low_is high_is,
    )

pub bodies-range-preserved : goal.bodies-range-preserved
bodies-range-preserved t c =
    let records = record_types c.args.records.now in
    let env = c.args.env.now in
    let bound = c.args.bound.now in
    let body = c.args.body.now in
    let q = c.args.quantifier in
    let test = holds_at records env bound body in
    let visits = visits_at records env bound body in
    let k = to_z w128 c.range.k-bits in
    let high = to_z w128 (of_z w128 c.args.high) in
    let less = less_is k high c.range-test.true in
    let found = same_body records env bound c.range.bound body k k c.range.visits c.one_body.new.visits (Ok c.in-Ok.holds) c.range.invariant.kept refl c.in-Ok.ensures.answer in
    let is = ap (decides q) (sym found.1) ∙ sym c.decides.ensures ∙ c.if-decides.false in
    let next : to_z w128 (of_z w128 (k +ℤ pos 1)) ≡ k +ℤ pos 1 = first_of (omega (arith, ints), search rules, grind (arith, ints)) in
    record {
      kept = c.one_body.ensures.kept ∙ c.range.invariant.kept;
      goes = c.range.invariant.goes ∙ goes_on q test visits k high c.range.visits c.one_body.new.visits less found.0 is
          ∙ ap (λ (z : ℤ). going q test visits z high c.one_body.new.visits) (sym next);
      holds = c.range.invariant.holds ∙ holds_on q test k high less is ∙ ap (λ (z : ℤ). holding q test visits z high) (sym next);
    }

pub all_held-held-requires : goal.all_held-held-requires
all_held-held-requires t c =
    let small : size-Claim c.claim-item.result ≤ deepest c.args.claims.now = deepest_at c.args.claims.now c.each.claim-index c.claim-item.result c.each-test.true c.claim-item.is in
    (omega (arith, small), tt)

pub one_body-returns-in-Ok-clause-answer : goal.one_body-returns-in-Ok-clause-answer
one_body-returns-in-Ok-clause-answer t c =
    let records = record_types c.args.records.now in
    let env = c.args.env.now in
    let body = c.args.body.now in
    let fewer = c.args.visits.now - 1 in
    pushed_body records env c.args.bound.now c.push.new.self body c.args.k (to_z w128 (of_z w128 c.args.k)) c.args.visits.now fewer c.held.new.visits c.truth_found-found.result
    c.in-Ok.ensures.ok (to_z-of_z w128 c.args.k c.ranges.k) c.if-visits-eq0.false refl
    (c.truth_found-found.ensures (visits_of records env c.push.new.self body fewer) c.held.new.visits (claim_value records env c.push.new.self body) c.held.ensures.answer)
