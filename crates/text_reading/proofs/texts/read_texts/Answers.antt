use Rattle.std.proofs.Common.{◌≡◌, ◌==◌, ℕ, true, List, [], map, length, sym, ap, ◌∙◌, subst, arith}
use Rattle.std.specs.String.{string_bytes}
use Rattle.std.proofs.lemmas.List.{nil_from_length}
use Rattle.std.proofs.lemmas.Bool.Decides.{nat_tests}
use Rattle.lk_io.specs.Run.{run}
use Rattle.text_reading.specs.Ends.{TextsAreRead}
use Rattle.text_reading.proofs.texts.read_texts.Goals as goal

is_none : (n : ℕ) → (n == 0) ≡ true → n ≡ 0
is_none n h = grind (arith, nat_tests, h)

pub returns-then-is_empty-clause-reads : goal.returns-then-is_empty-clause-reads
returns-then-is_empty-clause-reads g c =
    let none = nil_from_length c.args.names.now (is_none (length c.args.names.now) (sym c.is_empty.ensures ∙ c.if-is_empty.true)) in
    subst (λ names. TextsAreRead c.args.limits (map string_bytes names)
    (record {
      source = run (g.S.Source.state c.args.source.now) (g.S.Source.state c.source_texts.new.source);
      folder = run (g.F.Folder.state c.args.folder.now) (g.F.Folder.state c.args.folder.now);
    }) c.source_texts.result) (sym none) (c.source_texts.ensures.reads (g.F.Folder.state c.args.folder.now))

pub returns-else-is_empty-clause-reads : goal.returns-else-is_empty-clause-reads
returns-else-is_empty-clause-reads g c = c.folder_texts.ensures.reads (g.S.Source.state c.args.source.now)
