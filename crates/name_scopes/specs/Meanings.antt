-- Meanings of the code, as the rules see them.
use Rattle.std.specs.Prelude.{ℕ, List, map, Option, Some, None}
use Rattle.std.specs.Option.{option_map}
use Rattle.program_trees.specs.Variables.{local, global}
use Rattle.text_types.specs.TextType.{text_value}
use Rattle.name_scopes.specs.declared.meaning.Meaning.{Meaning as CodeMeaning}
use Rattle.name_scopes.specs.declared.meaning.Meaning.TheVariants as m
use Rattle.name_scopes.specs.declared.meaning.Signature.{Signature as CodeSignature}
use Rattle.type_rules.specs.Meanings.{Signature, Declared, declared, Meaning, variable, bound_variable, block_variable, record_class, method}

abbrev pub signed : CodeSignature → Signature
signed signature = record { params = map text_value signature.params; result = text_value signature.result }

abbrev pub meant : CodeMeaning → Meaning
meant (m.Local number changes ty) = variable (local number) changes (option_map text_value ty)
meant (m.Global number changes ty) = variable (global number) changes (option_map text_value ty)
meant (m.Bound depth) = bound_variable depth
meant (m.Block label) = block_variable label
meant (m.Record number) = record_class number
meant (m.Method known) = method known.number (option_map signed known.signature) known.modifies

-- the names of a table, with what they mean
abbrev pub declared_in : List (List ℕ × CodeMeaning) → List Declared
declared_in names = map (λ (entry : List ℕ × CodeMeaning). declared entry.0 (meant entry.1)) names
