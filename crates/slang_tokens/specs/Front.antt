-- The front of the code as that of the rule.
use Rattle.slang_tokens.specs.declared.lines.Front.{Front as Kept}
use Rattle.slang_tokens.specs.Lines.{Front}

abbrev pub front : Kept → Front
front kept = record { levels = kept.levels.items; last = kept.last; annotated = kept.annotated; tested = kept.tested; waiting = kept.waiting }
