-- The words of a run.
use Rattle.std.proofs.Common.{ℕ, List}
use Rattle.run_words.specs.Run.{Run, IsRun, Front, IsRunFront}

-- without the front of a run there is none
pub no_front : (words : List (List ℕ)) → ((a : Front) → IsRunFront words a → ⊥) → (run : Run) → IsRun words run → ⊥
no_front words none run h = none (record { method = run.method; count = h.count; arguments = run.arguments }) h.words_are
