use Rattle.std.proofs.Common.{◌≡◌, ℕ, ◌<◌, List, length, get_or, sym, subst, arith}
use Rattle.closing.specs.Literals.{is_narrow_outside}
use Rattle.term_sorts.specs.Types.{record_types, types_of}
use Rattle.term_store.specs.Store.{tree_at}
use Rattle.term_store.proofs.Stores.{Grows-Grows, Grows-length}
use Rattle.store_proving.proofs.Narrow.{narrow_more, narrow_stops, narrow_fails, narrow_goal, fact_within}
use Rattle.store_proving.proofs.proving.has_narrow_hypotheses.Goals as goal

pub is_narrow_hypothesis-requires-clause-within : goal.is_narrow_hypothesis-requires-clause-within
is_narrow_hypothesis-requires-clause-within c =
    let s = c.args.sequent.now in
    let here : c.facts.place < length s.facts = omega arith in
    let there : get_or s.facts c.facts.place 0 < length c.args.store.now = fact_within c.args.store.now s.facts c.facts.place c.requires.within.facts here in
    subst (λ (ks : List ℕ). get_or ks c.facts.place 0 < length c.facts.store) (sym c.as_slice.ensures)
    (omega (arith, there, Grows-length c.args.store.now c.facts.store c.facts.invariant.grows))

pub returns-then-not-is_narrow-clause-narrow : goal.returns-then-not-is_narrow-clause-narrow
returns-then-not-is_narrow-clause-narrow c =
    let s = c.args.sequent.now in
    let test = is_narrow_outside (record_types s.records) (types_of s.sorts) in
    let here : c.facts.place < length s.facts = omega arith in
    narrow_fails c.args.store.now s
    (narrow_stops test c.args.store.now c.facts.store s.facts c.facts.place c.in_ok-is_narrow.is_narrow c.facts.invariant.grows c.requires.within.facts here
    (subst (λ (ks : List ℕ). c.in_ok-is_narrow.is_narrow ≡ test (tree_at c.facts.store (get_or ks c.facts.place 0))) c.as_slice.ensures
    c.in_ok-is_narrow.ensures.narrow)
    c.if-not-is_narrow.true)

pub facts-preserved : goal.facts-preserved
facts-preserved c =
    let s = c.args.sequent.now in
    let test = is_narrow_outside (record_types s.records) (types_of s.sorts) in
    let here : c.facts.place < length s.facts = omega arith in
    record {
      narrow =
          narrow_more test c.args.store.now c.facts.store s.facts c.facts.place c.in_ok-is_narrow.is_narrow c.facts.invariant.grows c.requires.within.facts
          here c.facts.invariant.narrow
          (subst (λ (ks : List ℕ). c.in_ok-is_narrow.is_narrow ≡ test (tree_at c.facts.store (get_or ks c.facts.place 0))) c.as_slice.ensures
          c.in_ok-is_narrow.ensures.narrow)
          c.if-not-is_narrow.false;
      grows = Grows-Grows c.args.store.now c.facts.store c.is_narrow_hypothesis.new.store c.facts.invariant.grows c.in_ok-is_narrow.ensures.grows;
      work = c.in_ok-is_narrow.ensures.work;
    }

pub is_narrow_hypothesis-requires-2-clause-within : goal.is_narrow_hypothesis-requires-2-clause-within
is_narrow_hypothesis-requires-2-clause-within c =
    omega (arith, c.requires.within.goal, Grows-length c.args.store.now c.facts.store c.facts.invariant.grows)

pub returns-clause-narrow : goal.returns-clause-narrow
returns-clause-narrow c =
    let s = c.args.sequent.now in
    narrow_goal c.args.store.now s c.is_narrow_hypothesis-2.result c.facts.store c.facts.place c.facts.invariant.grows c.requires.within
    (omega arith) c.facts.invariant.narrow c.is_narrow_hypothesis-2.ensures.narrow
