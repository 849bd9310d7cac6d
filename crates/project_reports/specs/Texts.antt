-- The texts of verdicts. Each line ends with LF.
use Rattle.std.specs.Prelude.{ℕ, ◌==◌, true, false, Bool, List, ◌++◌, length, count_by, codes, if◌then◌else◌}
use Rattle.std.specs.List.{flat_map}
use Rattle.std.specs.Fmt.{decimal}
use Rattle.leg_rules.specs.Answers.{Verdict, verified, unproved, many_legs}
use Rattle.run_texts.specs.Texts.{Names, kind_text, node_text}
use Rattle.verdicts.specs.Texts.{reason_words, revision_text}

-- the verdict on a method
pub record Line : Type 0 where
  pub method : List ℕ
  pub verdict : Verdict

abbrev pub verdict_text : Names → Verdict → List ℕ
verdict_text names verified = codes "verified"
verdict_text names (unproved node kind reason) =
    codes "unproved " ++ (node_text names node ++ (codes " " ++ (kind_text names kind ++ (codes " " ++ reason_words reason))))
verdict_text names many_legs = codes "legs many"

abbrev pub line_text : Names → Line → List ℕ
line_text names line = line.method ++ (codes " " ++ (verdict_text names line.verdict ++ codes "\n"))

abbrev pub is_verified : Verdict → Bool
is_verified verified = true
is_verified (unproved node kind reason) = false
is_verified many_legs = false

-- how many methods are verified
abbrev pub verified_count : List Line → ℕ
verified_count lines = count_by (λ line. is_verified line.verdict) lines

abbrev pub count_text : List Line → List ℕ
count_text lines = codes "methods " ++ (decimal (length lines) ++ (codes " verified " ++ (decimal (verified_count lines) ++ codes "\n")))

-- One line for each method, and then how many there are and how many are verified.
abbrev pub verdicts_text : ℕ → Names → List Line → List ℕ
verdicts_text revision names lines = revision_text revision ++ (flat_map (line_text names) lines ++ count_text lines)

-- 0 where all methods are verified, and else 1
abbrev pub verdicts_code : List Line → ℕ
verdicts_code lines = if verified_count lines == length lines then 0 else 1
