-- The texts of verdicts are those of the verdicts as plain data.
use Rattle.std.proofs.Common.{arith, ◌≡◌, ℕ, zero, suc, ◌+◌, ◌<◌, Bool, true, false, cond, List, [], ◌∷◌, ◌++◌, map, length, get_or, refl, sym, ap, ap₂, ◌∙◌}
use Rattle.std.specs.Prelude.{◌≢◌, ◌==◌, codes}
use Rattle.std.proofs.lemmas.Bool.Decides.{nat_tests}
use Rattle.std.specs.List.{fold, flat_map}
use Rattle.std.specs.Fmt.{decimal}
use Rattle.std.proofs.lemmas.List.{length-map}
use Rattle.program_trees.specs.declared.answer.Kind.{Kind}
use Rattle.program_trees.specs.declared.answer.Kind.TheVariants as kinds
use Rattle.program_trees.specs.declared.answer.Reason.{Reason}
use Rattle.lk_programs.specs.declared.expression.NodeNo.{NodeNo}
use Rattle.lk_programs.specs.declared.program.NodePlace.{NodePlace}
use Rattle.lk_programs.specs.declared.typed.Typed.{Typed}
use Rattle.run_texts.specs.Texts.{Names, kind_text, node_text, at_text, no_place}
use Rattle.run_texts.specs.Texts as run
use Rattle.verdicts.specs.declared.verdict.Verdict.{Verdict}
use Rattle.verdicts.specs.declared.verdict.Verdict.TheVariants as verdicts
use Rattle.verdicts.specs.declared.report.Line.{Line}
use Rattle.verdicts.specs.Choice.{plain_verdict, is_verified}
use Rattle.verdicts.specs.Texts.{kind_words, reason_words, node_words, node_place, verdict_words, line_text, verdicts_text, count_text, revision_text}
use Rattle.project_reports.specs.Texts as plain
use Rattle.program_answers.specs.Lines.{names_in, plain_line}

abbrev plain_place : NodePlace → run.NodePlace
plain_place node = record { file = node.file; place = node.place }

kind_same : (names : Names) (kind : Kind) → kind_words kind ≡ kind_text names kind
kind_same names kinds.Assert = refl
kind_same names kinds.Requires = refl
kind_same names kinds.Ensures = refl
kind_same names kinds.InvStart = refl
kind_same names kinds.InvKept = refl
kind_same names kinds.Index = refl
kind_same names kinds.Division = refl
kind_same names kinds.Deduce = refl
kind_same names kinds.Term = refl

place_same : (names : Names) (nodes : List NodePlace) (node : ℕ)
    → plain_place (get_or nodes node (record { file = 0; place = record { line = 1; col = 1 } })) ≡ get_or (map plain_place nodes) node (no_place names)
place_same names [] node = refl
place_same names (n ∷ nodes) zero = refl
place_same names (n ∷ nodes) (suc node) = place_same names nodes node

module _ (typed : Typed) where
  node_same : (node : NodeNo) → node_words typed.files typed.nodes node ≡ node_text (names_in typed) node.0
  node_same node = ap (at_text (names_in typed)) (place_same (names_in typed) typed.nodes node.0)

  verdict_same : (verdict : Verdict) → verdict_words typed.files typed.nodes verdict ≡ plain.verdict_text (names_in typed) (plain_verdict verdict)
  verdict_same verdicts.Verified = refl
  verdict_same (verdicts.Unproved node kind reason) =
      ap₂ (λ at k. codes "unproved " ++ (at ++ (codes " " ++ (k ++ (codes " " ++ reason_words reason))))) (node_same node) (kind_same (names_in typed) kind)
  verdict_same verdicts.ManyLegs = refl

  line_same : (line : Line) → line_text typed.files typed.nodes line ≡ plain.line_text (names_in typed) (plain_line line)
  line_same line = ap (λ v. line.method ++ (codes " " ++ (v ++ codes "\n"))) (verdict_same line.verdict)

  lines_same : (lines : List Line) → flat_map (line_text typed.files typed.nodes) lines ≡ flat_map (plain.line_text (names_in typed)) (map plain_line lines)
  lines_same [] = refl
  lines_same (line ∷ lines) = ap₂ ◌++◌ (line_same line) (lines_same lines)

verified_same : (verdict : Verdict) → is_verified verdict ≡ plain.is_verified (plain_verdict verdict)
verified_same verdicts.Verified = refl
verified_same (verdicts.Unproved node kind reason) = refl
verified_same verdicts.ManyLegs = refl

abbrev counted : ℕ → List Line → ℕ
counted n lines = fold (λ a line. a + cond (is_verified line.verdict) 1 0) n lines

count_same : (n : ℕ) (lines : List Line)
    → counted n lines ≡ fold (λ a line. a + cond (plain.is_verified line.verdict) 1 0) n (map plain_line lines)
count_same n [] = refl
count_same n (line ∷ lines) =
    ap (λ b. counted (n + cond b 1 0) lines) (verified_same line.verdict) ∙ count_same (n + cond (plain.is_verified (plain_verdict line.verdict)) 1 0) lines

counts_same : (lines : List Line) → count_text lines ≡ plain.count_text (map plain_line lines)
counts_same lines =
    ap₂ (λ n k. codes "methods " ++ (decimal n ++ (codes " verified " ++ (decimal k ++ codes "\n")))) (sym (length-map lines plain_line)) (count_same 0 lines)

pub texts_same : (revision : ℕ) (typed : Typed) (lines : List Line)
    → verdicts_text revision typed.files typed.nodes lines ≡ plain.verdicts_text revision (names_in typed) (map plain_line lines)
texts_same revision typed lines = ap₂ (λ ls k. revision_text revision ++ (ls ++ k)) (lines_same typed lines) (counts_same lines)

-- ---- the exit code

equal : (m n : ℕ) → m ≡ n → (m == n) ≡ true
equal m n h = grind (arith, h)

unequal : (m n : ℕ) → m ≢ n → (m == n) ≡ false
unequal m n h = grind (arith, nat_tests, h)

code_by : (verified many : ℕ) (b : Bool) → (verified == many) ≡ b → (lines : List Line) → verified ≡ counted 0 lines → many ≡ length lines
    → plain.verdicts_code (map plain_line lines) ≡ cond b 0 1
code_by verified many b e lines v m =
    ap₂ (λ k n. cond (k == n) 0 1) (sym (v ∙ count_same 0 lines)) (length-map lines plain_line ∙ sym m) ∙ ap (λ c. cond c 0 1) e

pub code_all : (verified many : ℕ) (lines : List Line) → verified ≡ counted 0 lines → many ≡ length lines → verified ≡ many
    → 0 ≡ plain.verdicts_code (map plain_line lines)
code_all verified many lines v m same = sym (code_by verified many true (equal verified many same) lines v m)

pub code_some : (verified many : ℕ) (lines : List Line) → verified ≡ counted 0 lines → many ≡ length lines → verified ≢ many
    → 1 ≡ plain.verdicts_code (map plain_line lines)
code_some verified many lines v m other = sym (code_by verified many false (unequal verified many other) lines v m)
