-- The variable of a number, by where the number lies.
use Rattle.std.proofs.Common.{◌≡◌, ℕ, ◌+◌, ◌-◌, ◌<◌, ◌≤◌, refl, ap, arith}
use Rattle.std.proofs.lemmas.Bool.{lt-ltb, le-ltb}
use Rattle.program_trees.specs.Variables.{Variable, local, global, entry, result, variable_of}

pub number-local : (locals globals n : ℕ) → n < locals → variable_of locals globals n ≡ local n
number-local locals globals n h = rw (lt-ltb n locals h) refl

pub number-global : (locals globals n : ℕ) → locals ≤ n → n - locals < globals → variable_of locals globals n ≡ global (n - locals)
number-global locals globals n h k = rw (le-ltb n locals h, lt-ltb n (locals + globals) (omega arith)) refl

pub number-entry : (locals globals n m : ℕ) → locals ≤ n → globals ≤ n - locals → m ≡ n - locals - globals → m < globals →
    variable_of locals globals n ≡ entry m
number-entry locals globals n m h k e l =
    let same : n - (locals + globals) ≡ m = omega arith in
    rw (le-ltb n locals h, le-ltb n (locals + globals) (omega arith), lt-ltb n (locals + globals + globals) (omega arith)) (ap entry same)

pub number-result : (locals globals n : ℕ) → locals ≤ n → globals ≤ n - locals → globals ≤ n - locals - globals →
    variable_of locals globals n ≡ result
number-result locals globals n h k l =
    rw (le-ltb n locals h, le-ltb n (locals + globals) (omega arith), le-ltb n (locals + globals + globals) (omega arith)) refl

pub ruleset number_lines = (number-local, number-global, number-entry, number-result)
