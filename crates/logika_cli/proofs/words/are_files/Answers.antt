use Rattle.std.proofs.Common.{map, refl, sym, ap, subst}
use Rattle.std.specs.String.{string_bytes}
use Rattle.std.proofs.lemmas.List.{nil_from_length}
use Rattle.logika_cli.specs.Words.{AreFiles}
use Rattle.logika_cli.proofs.WordsLaws.{AreFiles-none, ends_false, goes_on}
use Rattle.logika_cli.proofs.words.are_files.Goals as goal

pub returns-then-not-is_new_file : goal.returns-then-not-is_new_file
returns-then-not-is_new_file c =
    ends_false (ap (map string_bytes) c.in-Some.ensures.cases.0) c.as_str.ensures.value c.words.invariant.back c.if-not-is_new_file.true
    c.is_new_file.ensures.1

pub words-preserved : goal.words-preserved
words-preserved c =
    let both =
    goes_on (ap (map string_bytes) c.in-Some.ensures.cases.0) c.as_str.ensures.value c.words.invariant.on c.words.invariant.back c.if-not-is_new_file.false
    c.is_new_file.ensures.0 in
    record { on = both.0; back = both.1 }

pub returns : goal.returns
returns c =
    let none = ap (map string_bytes) (nil_from_length _ c.in_default.ensures.cases) in
    (λ _. c.words.invariant.on (subst (λ names. AreFiles names) (sym none) AreFiles-none), λ _. refl)
