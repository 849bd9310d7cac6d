use Rattle.std.proofs.Common.{◌<◌, length, sym, ◌∙◌, ap, subst, arith, length-append}
use Rattle.program_trees.specs.Variables.{with_kinds}
use Rattle.lk_programs.specs.Typed.{program_tree}
use Rattle.method_reach.specs.Search.{called_by}
use Rattle.method_reach.proofs.Searching.{found_there, found_length, search_on, any_default}
use Rattle.method_reach.proofs.reach.search.Goals as goal

pub calls_of-requires : goal.calls_of-requires
calls_of-requires c =
    let test = c.found-test.true in
    let len = c.len.ensures in
    let own = c.found.found.ok.0 in
    let within : c.found.next < length c.found.found.items = omega (arith, test, len, own) in
    subst (λ m. m < length c.args.typed.now.methods) (sym (c.index.ensures ∙ any_default c.found.found.items c.found.next c.index.result.now within))
    (found_there c.args.typed.now c.args.method c.found.marks c.found.found.items c.found.next c.found.invariant.0 within)

pub found-smaller : goal.found-smaller
found-smaller c =
    let test = c.found-test.true in
    let len = c.len.ensures in
    let own = c.found.found.ok.0 in
    let same = c.in_ok-mark_all.ensures.same_length in
    let most = found_length c.found.marks c.found.found.items c.found.invariant.0.is_found in
    omega (arith, test, len, own, same, most)

pub found-preserved : goal.found-preserved
found-preserved c =
    let test = c.found-test.true in
    let len = c.len.ensures in
    let own = c.found.found.ok.0 in
    let within : c.found.next < length c.found.found.items = omega (arith, test, len, own) in
    let is = c.index.ensures ∙ any_default c.found.found.items c.found.next c.index.result.now within in
    let program = with_kinds (program_tree c.args.typed.now) in
    let longer = ap length c.in_ok-mark_all.ensures.longer ∙ length-append c.found.found.items c.in_ok-mark_all.ensures.more in (
      search_on program c.args.method c.found.marks c.mark_all.new.marks c.found.found.items c.mark_all.new.found.items c.as_slice.result.now c.found.next
          c.found.invariant.0 within (c.as_slice.ensures ∙ c.in_ok-called.ensures.called ∙ ap (called_by program) is) c.in_ok-mark_all.ensures,
      omega (arith, longer, within),
    )
