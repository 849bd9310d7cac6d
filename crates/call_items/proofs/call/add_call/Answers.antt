use Rattle.std.proofs.Common.{map}
use Rattle.std.specs.Option.{option_map}
use Rattle.std.proofs.lemmas.Result.{on_ok_weaker}
use Rattle.lk_programs.specs.Expr.{typed_expr}
use Rattle.program_trees.specs.Programs.{renamed_expr}
use Rattle.leg_items.specs.Drafts.{items_of}
use Rattle.leg_items.specs.Names.{kind_of, leg_name}
use Rattle.call_items.proofs.CallLines.{call_is}
use Rattle.call_items.proofs.call.add_call.Goals as goal

pub returns : goal.returns
returns c =
    let call = c.args.call in
    on_ok_weaker c.add_target.result
    (λ h. call_is call.node call.method c.args.name.0 call.callee (option_map (kind_of call.caller) c.args.target)
    (map (λ expr. renamed_expr (kind_of call.caller) (typed_expr expr)) c.args.arguments.now) c.args.callee.now c.as_slice.result.now c.as_slice-2.result.now c.as_slice-3.result.now
    (items_of c.args.out.now) (items_of c.add_all_demanded.new.out) (items_of c.add_parameters.new.out) (items_of c.add_required.new.out) (items_of c.add_entries.new.out)
    (items_of c.add_fresh.new.out) (items_of c.add_assumed.new.out) (items_of c.add_target.new.out) (map leg_name c.in_ok-changed.field-0)
    c.as_slice.ensures c.as_slice-2.ensures c.as_slice-3.ensures c.in_ok-add_all_demanded.ensures c.in_ok-add_parameters.ensures c.in_ok-add_required.ensures c.in_ok-add_entries.ensures
    c.in_ok-add_fresh.ensures c.in_ok-changed.ensures c.in_ok-add_assumed.ensures h)
    c.add_target.ensures
