use Rattle.std.proofs.Common.{◌≡◌, ◌<◌, length, arith}
use Rattle.slang_values.specs.Tree.{name}
use Rattle.slang_values.specs.declared.operators.Quantifier.{Quantifier}
use Rattle.instance_rules.specs.Instances.{open_quantified}
use Rattle.term_store.specs.Sequent.{sequent_at, IsSequentWithin}
use Rattle.term_store.specs.Store.{tree_at}
use Rattle.term_store.proofs.Stores.{Grows-Grows, Grows-length, Holds-within}
use Rattle.store_openings.specs.Opened.{IsOpenedBy, IsLeftBy}
use Rattle.store_openings.proofs.WorkedOut.{AreTables-grows}
use Rattle.store_openings.proofs.OpenedOnce.{sequent_grows, opened_is, opened_within, left_within, on_weaker, either_way}
use Rattle.store_openings.proofs.opening.open_once.Goals as goal

pub returns-in_err-symbol-clause-tables : goal.returns-in_err-symbol-clause-tables
returns-in_err-symbol-clause-tables c = AreTables-grows c.args.store.now c.add.new.store c.args.tables.now c.add.ensures.grows c.requires.tables

pub add_binary-requires-clause-right : goal.add_binary-requires-clause-right
add_binary-requires-clause-right c = Holds-within c.add.new.store c.in_ok-symbol.symbol _ c.in_ok-symbol.ensures.number

pub returns-in_err-above-clause-within : goal.returns-in_err-above-clause-within
returns-in_err-above-clause-within c = sequent_grows c.args.store.now c.add_binary.new.store c.args.sequent.now (Grows-Grows c.args.store.now c.add.new.store c.add_binary.new.store c.add.ensures.grows c.add_binary.ensures.grows) c.requires.within

pub returns-in_err-above-clause-tables : goal.returns-in_err-above-clause-tables
returns-in_err-above-clause-tables c = AreTables-grows c.args.store.now c.add_binary.new.store c.args.tables.now (Grows-Grows c.args.store.now c.add.new.store c.add_binary.new.store c.add.ensures.grows c.add_binary.ensures.grows) c.requires.tables

pub returns-in_err-below-clause-within : goal.returns-in_err-below-clause-within
returns-in_err-below-clause-within c = sequent_grows c.args.store.now c.add_binary-2.new.store c.args.sequent.now (Grows-Grows c.args.store.now c.add_binary.new.store c.add_binary-2.new.store (Grows-Grows c.args.store.now c.add.new.store c.add_binary.new.store c.add.ensures.grows c.add_binary.ensures.grows) c.add_binary-2.ensures.grows) c.requires.within

pub returns-in_err-below-clause-tables : goal.returns-in_err-below-clause-tables
returns-in_err-below-clause-tables c = AreTables-grows c.args.store.now c.add_binary-2.new.store c.args.tables.now (Grows-Grows c.args.store.now c.add_binary.new.store c.add_binary-2.new.store (Grows-Grows c.args.store.now c.add.new.store c.add_binary.new.store c.add.ensures.grows c.add_binary.ensures.grows) c.add_binary-2.ensures.grows) c.requires.tables

pub returns-in_err-goal-clause-within : goal.returns-in_err-goal-clause-within
returns-in_err-goal-clause-within c = sequent_grows c.args.store.now c.substitute_first.new.store c.args.sequent.now (Grows-Grows c.args.store.now c.add_binary-2.new.store c.substitute_first.new.store (Grows-Grows c.args.store.now c.add_binary.new.store c.add_binary-2.new.store (Grows-Grows c.args.store.now c.add.new.store c.add_binary.new.store c.add.ensures.grows c.add_binary.ensures.grows) c.add_binary-2.ensures.grows) c.substitute_first.ensures.grows) c.requires.within

pub add_binary-requires-2-clause-left : goal.add_binary-requires-2-clause-left
add_binary-requires-2-clause-left c = let held : c.in_ok-symbol.symbol < length c.add.new.store = Holds-within c.add.new.store c.in_ok-symbol.symbol _ c.in_ok-symbol.ensures.number in omega (arith, held, Grows-length c.add.new.store c.add_binary.new.store c.add_binary.ensures.grows)

pub substitute_first-requires-clause-by : goal.substitute_first-requires-clause-by
substitute_first-requires-clause-by c = let held : c.in_ok-symbol.symbol < length c.add.new.store = Holds-within c.add.new.store c.in_ok-symbol.symbol _ c.in_ok-symbol.ensures.number in omega (arith, held, Grows-length c.add.new.store c.add_binary.new.store c.add_binary.ensures.grows, Grows-length c.add_binary.new.store c.add_binary-2.new.store c.add_binary-2.ensures.grows)

pub substitute_first-requires-clause-tables : goal.substitute_first-requires-clause-tables
substitute_first-requires-clause-tables c = AreTables-grows c.args.store.now c.add_binary-2.new.store c.args.tables.now (Grows-Grows c.args.store.now c.add_binary.new.store c.add_binary-2.new.store (Grows-Grows c.args.store.now c.add.new.store c.add_binary.new.store c.add.ensures.grows c.add_binary.ensures.grows) c.add_binary-2.ensures.grows) c.requires.tables

pub returns-clause-opened : goal.returns-clause-opened
returns-clause-opened c =
    on_weaker c.set_opened.result (IsOpenedBy c.in_ok-above.above c.in_ok-below.below c.in_ok-goal.goal c.args.sequent.now c.set_opened.new.sequent) (sequent_at c.substitute_first.new.store c.set_opened.new.sequent ≡ open_quantified Quantifier.All (tree_at c.args.store.now c.args.range.low) (tree_at c.args.store.now c.args.range.high) (tree_at c.args.store.now c.args.range.body) (sequent_at c.args.store.now c.args.sequent.now))
    (λ h. opened_is c.args.store.now c.add.new.store c.add_binary.new.store c.add_binary-2.new.store c.substitute_first.new.store c.add.ensures.grows c.add_binary.ensures.grows c.add_binary-2.ensures.grows c.substitute_first.ensures.grows c.args.sequent.now c.args.range c.in_ok-symbol.symbol c.in_ok-above.above c.in_ok-below.below c.in_ok-goal.goal c.len.result c.requires.within c.requires.low c.requires.high c.requires.body c.in_ok-symbol.ensures.number c.in_ok-above.ensures.number c.in_ok-below.ensures.number c.in_ok-goal.ensures.number c.set_opened.new.sequent h c.len.ensures) c.set_opened.ensures.opened

pub returns-clause-within : goal.returns-clause-within
returns-clause-within c =
    either_way c.set_opened.result (IsOpenedBy c.in_ok-above.above c.in_ok-below.below c.in_ok-goal.goal c.args.sequent.now c.set_opened.new.sequent) (IsLeftBy c.in_ok-above.above c.args.sequent.now c.set_opened.new.sequent) (IsSequentWithin c.substitute_first.new.store c.set_opened.new.sequent)
    (λ h. opened_within c.args.store.now c.add.new.store c.add_binary.new.store c.add_binary-2.new.store c.substitute_first.new.store c.add.ensures.grows c.add_binary.ensures.grows c.add_binary-2.ensures.grows c.substitute_first.ensures.grows c.args.sequent.now c.args.range c.in_ok-symbol.symbol c.in_ok-above.above c.in_ok-below.below c.in_ok-goal.goal c.len.result c.requires.within c.requires.low c.requires.high c.requires.body c.in_ok-symbol.ensures.number c.in_ok-above.ensures.number c.in_ok-below.ensures.number c.in_ok-goal.ensures.number c.set_opened.new.sequent h)
    (λ h. left_within c.substitute_first.new.store c.args.sequent.now c.set_opened.new.sequent c.in_ok-above.above (sequent_grows c.args.store.now c.substitute_first.new.store c.args.sequent.now (Grows-Grows c.args.store.now c.add_binary-2.new.store c.substitute_first.new.store (Grows-Grows c.args.store.now c.add_binary.new.store c.add_binary-2.new.store (Grows-Grows c.args.store.now c.add.new.store c.add_binary.new.store c.add.ensures.grows c.add_binary.ensures.grows) c.add_binary-2.ensures.grows) c.substitute_first.ensures.grows) c.requires.within) (omega (arith, Holds-within c.add_binary.new.store c.in_ok-above.above _ c.in_ok-above.ensures.number, Grows-length c.add_binary.new.store c.add_binary-2.new.store c.add_binary-2.ensures.grows, Grows-length c.add_binary-2.new.store c.substitute_first.new.store c.substitute_first.ensures.grows)) h)
    c.set_opened.ensures.opened c.set_opened.ensures.err
