use Rattle.std.proofs.Common.{rules, sym, ◌∙◌}
use Rattle.std.proofs.lemmas.Bool.{not-true}
use Rattle.std.proofs.lemmas.List.Sorted.{answers_always}
use Rattle.slang_lexer.proofs.Names.{stops_name, IsLongestName-none, IsLongestName-whole, IsLongestName-found}
use Rattle.slang_lexer.proofs.scan.name_len.Goals as goal

pub returns-in-Some-find : goal.returns-in-Some-find
returns-in-Some-find c =
    let found = c.in-Some-find.ensures.cases.1 stops_name (answers_always _ _ _ (λ f a r g h. search rules)) in
    IsLongestName-found c.args.text.now c.utf8.text _ _ (sym c.chars.ensures.rest ∙ c.in-Some.ensures.steps.0) (sym c.begins_name.ensures ∙ c.if-begins_name.true)
    c.in-Some-find.len found.1.0 _ c.in-Some-find.ensures.cases.3 found.0 (not-true _ found.1.1) found.1.2.split

pub returns-in-None : goal.returns-in-None
returns-in-None c =
    IsLongestName-whole c.args.text.now c.utf8.text _ _ (sym c.chars.ensures.rest ∙ c.in-Some.ensures.steps.0) (sym c.begins_name.ensures ∙ c.if-begins_name.true)
    (c.in-None.ensures.cases stops_name (answers_always _ _ _ (λ f a r g h. search rules)))

pub returns-in_default : goal.returns-in_default
returns-in_default c =
    IsLongestName-none c.args.text.now c.utf8.text _ _ (sym c.chars.ensures.rest ∙ c.in-Some.ensures.steps.0) (sym c.begins_name.ensures ∙ c.if-begins_name.false)
