-- The words of the command `run`, without the program's name.
use Rattle.std.specs.Prelude.{◌≡◌, ℕ, List, ◌∷◌, codes, map}
use Rattle.std.specs.List.{AllByRecursion}
use Rattle.std.specs.String.{string_bytes}
use Rattle.run_words.specs.Arguments.{IsArgumentWord}
use Rattle.run_words.specs.Counts.{IsCountOf}
use Rattle.run_words.specs.declared.run.RunWords.{RunWords}
use Rattle.run_words.specs.declared.run.RunFront.{RunFront}

-- a run that words ask for: of a method of that name, of so many turns, from these words as its arguments
pub record Run : Type 0 where
  pub method : List ℕ
  pub turns : ℕ
  pub arguments : List (List ℕ)

abbrev pub run_of : RunWords → Run
run_of words = record { method = words.method.now; turns = words.turns; arguments = map string_bytes words.arguments.now }

-- The words are `run`, any word as the method, the number of turns, and arguments of some types.
pub record IsRun (words : List (List ℕ)) (run : Run) : Type 0 where
  pub count : List ℕ
  pub words_are : words ≡ codes "run" ∷ run.method ∷ count ∷ run.arguments
  pub turns : IsCountOf count run.turns
  pub arguments : AllByRecursion IsArgumentWord run.arguments

-- The same with any word as the number of turns, and any arguments.
pub record Front : Type 0 where
  pub method : List ℕ
  pub count : List ℕ
  pub arguments : List (List ℕ)

abbrev pub front_of : RunFront → Front
front_of front = record { method = front.method.now; count = front.count.now; arguments = map string_bytes front.arguments.now }

abbrev pub IsRunFront : List (List ℕ) → Front → Type 0
IsRunFront words front = words ≡ codes "run" ∷ front.method ∷ front.count ∷ front.arguments

-- the same behind `run`, and behind the method
abbrev pub IsBehindRun : List (List ℕ) → Front → Type 0
IsBehindRun words front = words ≡ front.method ∷ front.count ∷ front.arguments

abbrev pub IsBehindMethod : List ℕ → List (List ℕ) → Front → Type 0
IsBehindMethod method words front = (front.method ≡ method) × (words ≡ front.count ∷ front.arguments)
