-- The front of a text up to one place, and from there up to another.
use Rattle.std.proofs.Common.{◌≡◌, ℕ, ◌+◌, ◌-◌, ◌≤◌, List, ◌++◌, take, sym, ap, ◌∙◌, arith}
use Rattle.std.specs.List.{slice_range}
use Rattle.std.proofs.Math.Seq.{take-add}

pub take_range : (text : List ℕ) (i j : ℕ) → i ≤ j → take i text ++ slice_range text i j ≡ take j text
take_range text i j h =
    let e : i + (j - i) ≡ j = omega arith in
    sym (take-add i (j - i) text) ∙ ap (λ n. take n text) e
