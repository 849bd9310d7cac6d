-- A search through the methods that calls lead to: marks, and the numbers that were found.
use Rattle.std.specs.Prelude.{◌≡◌, ℕ, ◌<◌, List, ◌++◌, Bool, true, false, ◌||◌, length, get_or, nat_eq}
use Rattle.std.specs.List.{IsDistinct}
use Rattle.std.specs.Set.{is_member}
use Rattle.program_trees.specs.Programs.{ProgramTree}
use Rattle.program_trees.specs.Variables.{Variable}
use Rattle.run_rules.specs.Runs.{method_at}
use Rattle.run_rules.specs.Reach.{calls_of_all, Reaches}

abbrev pub is_marked : List Bool → ℕ → Bool
is_marked marks n = get_or marks n false

-- The numbers that are marked are those found, each once.
pub record IsFound (marks : List Bool) (found : List ℕ) : Type 0 where
  pub same : (n : ℕ) → is_marked marks n ≡ is_member nat_eq found n
  pub distinct : IsDistinct nat_eq found

-- These numbers are marked beside the others, and stand behind the others that were found.
pub record Marks (numbers : List ℕ) (before : List Bool) (found : List ℕ) (after : List Bool) (now : List ℕ) : Type 0 where
  pub same_length : length after ≡ length before
  pub marked : (n : ℕ) → is_marked after n ≡ (is_marked before n || is_member nat_eq numbers n)
  pub is_found : IsFound after now
  pub more : List ℕ
  pub longer : now ≡ found ++ more

module _ (program : ProgramTree Variable) where
  -- what the method of that number calls
  abbrev pub called_by : ℕ → List ℕ
  called_by n = calls_of_all (method_at program n).body

  -- What was found is reached from the one method. The first so many of the numbers found were gone through: what they call is marked.
  pub record IsSearch (from : ℕ) (marks : List Bool) (found : List ℕ) (next : ℕ) : Type 0 where
    pub all_methods : length marks ≡ length program.methods
    pub is_found : IsFound marks found
    pub begun : is_marked marks from ≡ true
    pub reached : (n : ℕ) → is_marked marks n ≡ true → Reaches program from n
    pub gone_through : (k : ℕ) → k < next → k < length found → (n : ℕ) → is_member nat_eq (called_by (get_or found k 0)) n ≡ true → is_marked marks n ≡ true
