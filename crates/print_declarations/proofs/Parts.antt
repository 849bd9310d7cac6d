-- What is printed of constants, parameters and fields is in the grammar, and has the same tree without places.
use Rattle.std.proofs.Common.{◌≡◌, ℕ, ◌^◌, ◌<◌, nat_lt, pos, List, [], ◌∷◌, map, Option, Some, None, IsTrue, refl, ap, ap₂, ltb-true}
use Rattle.std.specs.List.{AllByRecursion}
use Rattle.std.specs.Option.{option_map}
use Rattle.std.proofs.lemmas.Bool.{and_parts}
use Rattle.slang_lexer.specs.Spelling.{is_number}
use Rattle.slang_lexer.specs.Next.{value_of as number_value}
use Rattle.slang_tree.specs.TypeTree.{TypeTree}
use Rattle.slang_tree.specs.DeclTree as t
use Rattle.slang_tree.specs.DeclTree.{ConstTree, ConstTrees, TypedName}
use Rattle.slang_grammar.specs.Parts.{IsPlain, is_numeral, ElementText, element_tree, IsType, type_tree}
use Rattle.slang_grammar.specs.Declarations.{ConstText, const_number, const_minus, const_truth, const_falsity, const_sequence, const_record, ConstsText, no_consts, last_const, const_then, HasConst, HasElements, IsConst, AreConsts, const_tree, consts_tree, ParamText, IsParam, param_tree, FieldText, IsField, field_tree}
use Rattle.print_expressions.specs.Bare.{nowhere, bare_name, bare_type}
use Rattle.print_expressions.specs.Accounts.{type_account, element_account}
use Rattle.print_expressions.proofs.Numerals.{numerals_read_back}
use Rattle.print_expressions.proofs.Back.{type_back}
use Rattle.print_declarations.specs.Bare.{bare_const, bare_consts, bare_typed}
use Rattle.print_declarations.specs.Accounts.{const_account, consts_account, param_account, field_account}

-- ---- constants

small : (digits : List ℕ) → IsTrue (is_numeral digits) → number_value digits < 2 ^ 127
small digits h = ltb-true (number_value digits) (2 ^ 127) (and_parts (is_number digits) (nat_lt (number_value digits) (2 ^ 127)) h).1

abbrev IsBack : ConstTree → Type 0
IsBack tree = IsConst (const_account tree) × (const_tree (const_account tree) ≡ bare_const tree)

abbrev AreBack : ConstTrees → Type 0
AreBack trees = AreConsts (consts_account trees) × (consts_tree (consts_account trees) ≡ bare_consts trees)

more_back : (tree : ConstTree) (trees : ConstTrees) → IsBack tree → AreBack trees → AreBack (t.const_then tree trees)
more_back tree t.no_consts h k = (h.0, ap (λ c. t.const_then c t.no_consts) h.1)
more_back tree (t.const_then next trees) h k = ((h.0, k.0), ap₂ t.const_then h.1 k.1)

some_const : (tree : ConstTree) (trees : ConstTrees) → HasConst (consts_account (t.const_then tree trees))
some_const tree t.no_consts = tt
some_const tree (t.const_then next trees) = tt

has_const : (texts : ConstsText) → HasConst texts → HasConst (consts_account (consts_tree texts))
has_const no_consts h = absurd h
has_const (last_const text) h = tt
has_const (const_then text comma more) h = some_const (const_tree text) (consts_tree more)

has_elements : (ty : Option ElementText) (texts : ConstsText) → HasElements ty texts →
    HasElements (option_map element_account (option_map element_tree ty)) (consts_account (consts_tree texts))
has_elements None texts h = has_const texts h
has_elements (Some ty) texts h = (type_back ty.ty h).0

element_same : (ty : Option ElementText) (texts : ConstsText) → HasElements ty texts →
    option_map element_tree (option_map element_account (option_map element_tree ty)) ≡ option_map bare_type (option_map element_tree ty)
element_same None texts h = refl
element_same (Some ty) texts h = ap Some (type_back ty.ty h).1

mutual
  pub const_back : (text : ConstText) → IsConst text → IsConst (const_account (const_tree text)) × (const_tree (const_account (const_tree text)) ≡ bare_const (const_tree text))
  const_back (const_number digits place) h =
      let p = numerals_read_back (number_value digits) (small digits h) in (p.0, ap (λ n. t.const_number nowhere (pos n)) p.1)
  const_back (const_minus minus digits place) h =
      let p = numerals_read_back (number_value digits) (small digits h) in (p.0, ap (λ n. t.const_minus nowhere nowhere (pos n)) p.1)
  const_back (const_truth place) h = (tt, refl)
  const_back (const_falsity place) h = (tt, refl)
  const_back (const_sequence word ty left elements right) h =
      let p = consts_back elements h.1 in
      ((has_elements ty elements h.0, p.0), ap₂ (t.const_sequence nowhere) (element_same ty elements h.0) p.1)
  const_back (const_record n left fields right) h =
      let p = consts_back fields h.2 in ((h.0, has_const fields h.1, p.0), ap (t.const_record (bare_name n)) p.1)

  consts_back : (texts : ConstsText) → AreConsts texts → AreBack (consts_tree texts)
  consts_back no_consts h = (tt, refl)
  consts_back (last_const text) h = more_back (const_tree text) t.no_consts (const_back text h) (tt, refl)
  consts_back (const_then text comma more) h = more_back (const_tree text) (consts_tree more) (const_back text h.0) (consts_back more h.1)

-- ---- parameters and fields

abbrev pub IsTypeBack : TypeTree → Type 0
IsTypeBack ty = IsType (type_account ty) × (type_tree (type_account ty) ≡ bare_type ty)

abbrev pub IsTypedBack : TypedName → Type 0
IsTypedBack named = IsPlain named.written × IsTypeBack named.ty

pub param_back : (text : ParamText) → IsParam text → IsTypedBack (param_tree text)
param_back text h = (h.0, type_back text.ty.ty h.1)

pub params_back : (texts : List ParamText) → AllByRecursion IsParam texts → AllByRecursion IsTypedBack (map param_tree texts)
params_back [] h = tt
params_back (text ∷ texts) h = (param_back text h.0, params_back texts h.1)

pub fields_back : (texts : List FieldText) → AllByRecursion IsField texts → AllByRecursion IsTypedBack (map field_tree texts)
fields_back [] h = tt
fields_back (text ∷ texts) h = (param_back text.param h.0, fields_back texts h.1)

pub params_are : (named : List TypedName) → AllByRecursion IsTypedBack named → AllByRecursion IsParam (map param_account named)
params_are [] h = tt
params_are (name ∷ named) h = ((h.0.0, h.0.1.0), params_are named h.1)

pub fields_are : (named : List TypedName) → AllByRecursion IsTypedBack named → AllByRecursion IsField (map field_account named)
fields_are [] h = tt
fields_are (name ∷ named) h = ((h.0.0, h.0.1.0), fields_are named h.1)

typed_same : (named : TypedName) → IsTypedBack named → param_tree (param_account named) ≡ bare_typed named
typed_same named h = ap (λ ty. record { written = bare_name named.written; ty = ty }) h.1.1

pub params_same : (named : List TypedName) → AllByRecursion IsTypedBack named → map param_tree (map param_account named) ≡ map bare_typed named
params_same [] h = refl
params_same (name ∷ named) h = ap₂ (λ x xs. x ∷ xs) (typed_same name h.0) (params_same named h.1)

pub fields_same : (named : List TypedName) → AllByRecursion IsTypedBack named → map field_tree (map field_account named) ≡ map bare_typed named
fields_same [] h = refl
fields_same (name ∷ named) h = ap₂ (λ x xs. x ∷ xs) (typed_same name h.0) (fields_same named h.1)
