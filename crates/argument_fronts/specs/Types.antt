-- A type at the front of tokens.
use Rattle.std.specs.Prelude.{◌≡◌, ℕ, true, List, ◌++◌, map}
use Rattle.slang_values.specs.Value.{ValueType, Records}
use Rattle.slang_grammar.specs.Parts.{TypeText, type_tokens, IsType}
use Rattle.slang_tokens.specs.Tok.{Tok}
use Rattle.lk_programs.specs.declared.program.RecordTy.{RecordTy}
use Rattle.argument_rules.specs.Values.{is_written}

-- the names of the records
abbrev pub names_of : List RecordTy → List (List ℕ)
names_of records = map (λ named. named.name) records

-- behind the type, as it is written, stand these tokens
abbrev pub StandBehindType : List (List ℕ) → Records → ValueType → List Tok → List Tok → Type 0
StandBehindType names records t before after =
    (written : TypeText) × (is_written names records written t ≡ true) × IsType written × (before ≡ type_tokens written ++ after)
