use Rattle.std.proofs.Common.{◌≡◌, ◌+◌, drop, map}
use Rattle.project_files.specs.Files.{file_of, file_seen, place_behind}
use Rattle.project_files.proofs.files.place_behind.Given as goal

abbrev pub invariant-loop-at : goal.invariant-loop-at
invariant-loop-at l =
    place_behind (file_seen l.file) (map file_of l.files) ≡ l.at + place_behind (file_seen l.file) (map file_of (drop l.at l.files))
