use Rattle.std.proofs.Common.{◌≡◌, ℕ, List, [], drop, map}
use Rattle.std.specs.Borrow.{Bor}
use Rattle.project_files.specs.Files.{numbers_with}
use Rattle.project_files.proofs.numbers.numbered.Given as goal

abbrev pub invariant-loop-name : goal.invariant-loop-name
invariant-loop-name l =
    numbers_with l.numbers l.count (map (λ (name : Bor (List ℕ)). name.now) (drop l.name-index l.names))
    ≡ numbers_with [] 0 (map (λ (name : Bor (List ℕ)). name.now) l.names)
