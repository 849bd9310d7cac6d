-- Runs of a source, one after the other.
use Rattle.std.proofs.Common.{◌≡◌, ℕ, List, [], ◌++◌, Option, Some, None, IfSome, ◌↔◌, Ok, refl}
use Rattle.std.specs.Io.KnownBytes.{Keeps, IsAtEnd, Consumes as loses_front}
use Rattle.std.proofs.KnownBytes.{Consumes-nil, Consumes-trans, Consumes-kept, Consumes-whole}
use Rattle.lk_io.specs.Run.{run}
use Rattle.lk_io.specs.Source.{SourceState, Consumes, Takes, Tells}

pub Consumes-none : (a : SourceState) → Consumes (run a a) []
Consumes-none a = record { left = Consumes-nil a.left }

pub Consumes-then : {a b c : SourceState} {xs ys : List ℕ} → Consumes (run a b) xs → Consumes (run b c) ys → Consumes (run a c) (xs ++ ys)
Consumes-then {a} {b} {c} {xs} {ys} first second = record { left = Consumes-trans a.left b.left c.left xs ys first.left second.left }

pub Consumes-then_kept : {a b c : SourceState} {xs : List ℕ} → Consumes (run a b) xs → Keeps b.left c.left → Consumes (run a c) xs
Consumes-then_kept {a} {b} {c} {xs} first kept = record { left = Consumes-kept a.left b.left c.left xs first.left kept }

-- What was taken is a front of what was told.
pub Tells-front : {a b : SourceState} {xs : List ℕ} → Consumes (run a b) xs → (rest : List ℕ) × Tells a.left (xs ++ rest)
Tells-front {a} {b} {xs} taken = front a.left b.left taken.left
  where
    front : (before now : Option (List ℕ)) → loses_front before now xs → (rest : List ℕ) × Tells before (xs ++ rest)
    front None now h = ([], tt)
    front (Some told) None h = absurd h
    front (Some told) (Some rest) h = (rest, h)

-- What was taken before the end is all that was told.
pub Tells-whole : {E : Type 0} {a b c : SourceState} {xs buffer : List ℕ} {n : ℕ} → Consumes (run a b) xs → Takes {E = E} (run b c) buffer (Ok n) → n ≡ 0 → Tells a.left xs
Tells-whole {E} {a} {b} {c} {xs} {buffer} {n} taken last none = Consumes-whole a.left b.left xs (λ told. told ≡ xs) taken.left (at_end b.left last.end) refl
  where
    at_end : (left : Option (List ℕ)) → IfSome left (λ told. (n ≡ 0) ↔ (told ≡ [])) → IsAtEnd left
    at_end None h = tt
    at_end (Some told) h = h.0 none
