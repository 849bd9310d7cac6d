use Rattle.std.proofs.Common.{map}
use Rattle.std.proofs.lemmas.Result.{on_ok_weaker}
use Rattle.lk_programs.specs.Expr.{typed_expr}
use Rattle.program_trees.specs.Programs.{renamed_expr}
use Rattle.leg_items.specs.Drafts.{items_of}
use Rattle.leg_items.specs.Names.{kind_of, leg_name}
use Rattle.call_items.specs.Frames.{claims_in}
use Rattle.leg_paths.proofs.Forms.{loop_is}
use Rattle.leg_paths.proofs.statements.add_loop_start.Goals as goal

pub returns : goal.returns
returns c =
    let kind = kind_of c.args.scope in
    on_ok_weaker c.add_demanded.result
    (loop_is c.args.node.0 (renamed_expr kind (typed_expr c.args.test.now)) (map kind c.args.modifies.now) (claims_in c.args.scope c.args.invariants.now) (map leg_name c.in_ok-own_names.field-0)
    (items_of c.args.out.now) (items_of c.add_own_checked.new.out) (items_of c.add_fresh.new.out) (items_of c.add_own_assumed.new.out) (items_of c.add_demanded.new.out)
    c.in_ok-add_own_checked.ensures c.in_ok-own_names.ensures c.in_ok-add_fresh.ensures c.in_ok-add_own_assumed.ensures)
    c.add_demanded.ensures
