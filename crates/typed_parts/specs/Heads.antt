-- What the head of an application names.
use Rattle.std.specs.Prelude.{◌≡◌, ℕ, Option, Some, None}
use Rattle.slang_tree.specs.ExprTree.{ExprTree}
use Rattle.slang_tree.specs.ExprTree as e
use Rattle.type_rules.specs.Meanings.{Meaning, method, Scope, meaning_of}
use Rattle.type_rules.specs.Expressions.{a_value, a_record, callee_meant}
use Rattle.typed_parts.specs.declared.heads.Head.{Head}
use Rattle.typed_parts.specs.declared.heads.Head.TheVariants as h

-- what a head means that is a name
abbrev pub head_meaning : Scope → ExprTree → Option Meaning
head_meaning scope (e.name text place) = meaning_of scope text
head_meaning scope other = None

-- the method that is meant, by its number
abbrev pub method_in : Option Meaning → Option ℕ
method_in (Some (method number signature modifies)) = Some number
method_in other = None

-- The head that has this meaning is of that kind.
abbrev pub IsHead : Head → Option Meaning → Type 0
IsHead h.Value meaning = callee_meant meaning ≡ a_value
IsHead (h.Record number) meaning = callee_meant meaning ≡ a_record number
IsHead (h.Method number) meaning = method_in meaning ≡ Some number
