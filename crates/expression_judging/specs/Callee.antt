-- What the head of an application names.
use Rattle.std.specs.Prelude.{◌≡◌, Bool, true, false}
use Rattle.type_rules.specs.Expressions.{Callee, a_value, a_record, a_method}
use Rattle.expression_judging.specs.declared.callee.Kind.{Kind}
use Rattle.expression_judging.specs.declared.callee.Kind.TheVariants as k

abbrev pub is_method : Callee → Bool
is_method (a_method signature modifies) = true
is_method other = false

-- The head names a thing of that kind.
abbrev pub IsKind : Kind → Callee → Type 0
IsKind k.Value callee = callee ≡ a_value
IsKind (k.Record number) callee = callee ≡ a_record number
IsKind k.Method callee = is_method callee ≡ true
