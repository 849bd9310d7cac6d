use Rattle.std.proofs.Common.{◌≡◌, ◌≢◌, ℕ, List, [], ◌∷◌, map, length, sym, ap, ◌∙◌, subst, refl}
use Rattle.std.specs.String.{string_bytes}
use Rattle.lk_io.specs.Run.{run}
use Rattle.text_reading.specs.Ends.{TextsEndAs, placed}
use Rattle.text_reading.proofs.TextLaws.{TextsAreRead-files, TextsEndAs-files}
use Rattle.text_reading.proofs.texts.folder_texts.Goals as goal

some_names : {X : Type 0} (f : X → List ℕ) (names : List X) → names ≢ [] → map f names ≢ []
some_names f [] some e = some refl
some_names f (name ∷ names) some e = cc

pub returns-in-Ok-clause-reads : goal.returns-in-Ok-clause-reads
returns-in-Ok-clause-reads g c =
    let folder = run (g.F.Folder.state c.args.folder.now) (g.F.Folder.state c.read_files.new.folder) in
    λ source. TextsAreRead-files c.args.limits source folder (map string_bytes c.args.names.now) (some_names string_bytes c.args.names.now c.requires.some)
    c.read_files.new.texts c.requires.distinct c.in-Ok.ensures

pub returns-in-Err-clause-reads : goal.returns-in-Err-clause-reads
returns-in-Err-clause-reads g c =
    let names = map string_bytes c.args.names.now in
    let folder = run (g.F.Folder.state c.args.folder.now) (g.F.Folder.state c.read_files.new.folder) in
    λ source. rw (c.placed.ensures, c.len.ensures)
    (TextsEndAs-files c.args.limits source folder names (some_names string_bytes c.args.names.now c.requires.some)
    (Unit {0}) c.read_files.new.texts c.in-Err.end c.requires.distinct c.in-Err.ensures)
