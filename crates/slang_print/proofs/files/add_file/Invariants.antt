use Rattle.std.proofs.Common.{take}
use Rattle.slang_print.proofs.Order.{AreAdded}
use Rattle.slang_print.proofs.files.add_file.Given as goal

abbrev pub invariant-loop-decl : goal.invariant-loop-decl
invariant-loop-decl l = AreAdded l.light l.fn.text.items l.text.items (take l.decl-index l.decls) l.before
