use Rattle.std.proofs.Common.{◌≡◌, ℕ, ◌+◌, ◌-◌, ◌*◌, ◌^◌, List, vec_len, subst₂, sym, ◌∙◌, arith, map}
use Rattle.term_forms.specs.Form.{part_of, TimesWithin}
use Rattle.tree_forms.specs.Form.{FormPart}
use Rattle.term_forms.proofs.Joining.{TimesWithin-inserted}
use Rattle.term_forms.proofs.SumLemmas.{before_last, same_with_last}
use Rattle.term_forms.proofs.sums.with_all.Goals as goal

pub insert_part-requires-clause-small : goal.insert_part-requires-clause-small
insert_part-requires-clause-small c = (before_last _ c.loop-part.rest.items c.pop.new.self.items c.in-Some.part c.in-Some.ensures.items c.loop-part.invariant.small).1

pub loop-part-preserved : goal.loop-part-preserved
loop-part-preserved c =
    let all = vec_len c.args.others in
    let left = vec_len c.loop-part.rest in
    let now = vec_len c.pop.new.self in
    let one : now + 1 ≡ left = omega (arith, c.in-Some.ensures.len) in
    let bound : 2 ^ 60 * (1 + (all - left)) + 2 ^ 60 ≡ 2 ^ 60 * (1 + (all - now)) = omega (arith, c.loop-part.invariant.shorter) in
    let part = before_last (2 ^ 60) c.loop-part.rest.items c.pop.new.self.items c.in-Some.part c.in-Some.ensures.items c.loop-part.invariant.small in
    record {
      within =
          subst₂ (λ (n : ℕ) (ps : List FormPart). TimesWithin n ps) bound (sym c.in_ok-insert_part.ensures)
          (TimesWithin-inserted (2 ^ 60 * (1 + (all - left))) (2 ^ 60) (part_of c.in-Some.part) (map part_of c.loop-part.all.items) c.loop-part.invariant.within part.1);
      small = (before_last _ c.loop-part.rest.items c.pop.new.self.items c.in-Some.part c.in-Some.ensures.items c.loop-part.invariant.small).0;
      shorter = omega (arith, one, c.loop-part.invariant.shorter);
      same = same_with_last c.loop-part.rest.items c.pop.new.self.items c.in-Some.part (map part_of c.loop-part.all.items) (map part_of c.insert_part.new.parts.items) c.in-Some.ensures.items c.in_ok-insert_part.ensures ∙ c.loop-part.invariant.same;
    }
