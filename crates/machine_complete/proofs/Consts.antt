-- Constants are read.
use Rattle.machine_expressions.proofs.Behind.{read_type}
use Rattle.slang_grammar.specs.Parts.{type_tokens, ElementText, element_tokens, IsElement, element_tree}
use Rattle.slang_grammar.specs.Declarations.{ConstText, const_number, const_minus, const_truth, const_falsity, const_sequence, const_record, ConstsText, no_consts, last_const, const_then, const_tokens, consts_tokens, HasConst, IsConst, AreConsts, const_tree, consts_tree}
use Rattle.slang_machine.specs.Open.{Consts, constants_in, fields_in, of_constants, whole_type, close}
use Rattle.slang_machine.specs.States.{State, want_const, consts_type, consts_left, const_or_end, fields_left, have_const, want_type}
use Rattle.slang_machine.specs.Expressions.{on}
use Rattle.slang_machine.specs.Declarations.{end_const, with_const, close_consts}
use Rattle.slang_machine.specs.Machine.{run}
use Rattle.slang_tree.specs.TypeTree.{TypeTree}
use Rattle.slang_tree.specs.DeclTree.{ConstTree, consts_of}
use Rattle.slang_tree.specs.declared.place.Place.{Place}
use Rattle.slang_tree.specs.declared.expression.Name.{Name}
use Rattle.slang_tokens.specs.Tok.{Tok, sign}
use Rattle.std.proofs.Common.{◌≡◌, List, [], ◌∷◌, ◌++◌, Option, Some, None, pos, refl, sym, ap, ◌∙◌, append_assoc, append-nil, cond}
use Rattle.slang_lexer.specs.Next.{value_of as number_value}
use Rattle.std.specs.Prelude.{option_and_then}
use Rattle.slang_tree.specs.DeclTree as d
use Rattle.slang_lexer.specs.declared.token.TokenKind.TheVariants as kind

-- `[type]`, for the constants of a sequence
read_element : (word : Place) (around : Consts) (ty : ElementText) (rest : List Tok) → IsElement ty
    → run (consts_type word around) (element_tokens ty ++ rest) ≡ run (consts_left word (Some (element_tree ty)) around) rest
read_element word around ty rest g =
    ap (run (want_type (whole_type (of_constants word around)))) (append_assoc (type_tokens ty.ty) (sign kind.RightBracket ty.right ∷ []) rest)
    ∙ read_type ty.ty (whole_type (of_constants word around)) (sign kind.RightBracket ty.right ∷ rest) g

-- Constants in round brackets: what is open around a member, and what stands behind the end.
record IsConsts (around : List ConstTree → Consts) (over : List ConstTree → State) : Type 0 where
  member : (trees : List ConstTree) (tree : ConstTree) → end_const tree (around trees) ≡ have_const tree (around trees)
  grows : (trees : List ConstTree) (tree : ConstTree) → with_const tree (around trees) ≡ around (trees ++ tree ∷ [])
  closes : (trees : List ConstTree) → close_consts (around trees) ≡ Some (over trees)

elements_consts : (word : Place) (ty : Option TypeTree) (outer : Consts)
    → IsConsts (λ trees. constants_in word ty trees outer) (λ trees. end_const (d.const_sequence word ty (consts_of trees)) outer)
elements_consts word ty outer = record { member = λ trees tree. refl; grows = λ trees tree. refl; closes = λ trees. refl }

fields_consts : (written : Name) (outer : Consts)
    → IsConsts (λ trees. fields_in written trees outer) (λ trees. end_const (d.const_record written (consts_of trees)) outer)
fields_consts written outer = record { member = λ trees tree. refl; grows = λ trees tree. refl; closes = λ trees. refl }

-- the trees of the constants of a list
abbrev const_trees : ConstsText → List ConstTree
const_trees no_consts = []
const_trees (last_const c) = const_tree c ∷ []
const_trees (const_then c comma more) = const_tree c ∷ const_trees more

consts_trees : (texts : ConstsText) → consts_of (const_trees texts) ≡ consts_tree texts
consts_trees no_consts = refl
consts_trees (last_const c) = refl
consts_trees (const_then c comma more) = ap (d.const_then (const_tree c)) (consts_trees more)

-- a constant does not begin with a `)`
starts_const : (text : ConstText) (around : Consts) (rest : List Tok) → run (const_or_end around) (const_tokens text ++ rest)
    ≡ run (want_const around) (const_tokens text ++ rest)
starts_const (const_number digits place) around rest = refl
starts_const (const_minus dash digits place) around rest = refl
starts_const (const_truth place) around rest = refl
starts_const (const_falsity place) around rest = refl
starts_const (const_sequence word ty left elements right) around rest = refl
starts_const (const_record n left fields right) around rest = refl

ends_const : (around : List ConstTree → Consts) (over : List ConstTree → State) → IsConsts around over → (trees : List ConstTree) (tree : ConstTree)
    (right : Place) (rest : List Tok)
    → run (end_const tree (around trees)) (sign kind.RightParen right ∷ rest) ≡ run (over (trees ++ tree ∷ [])) rest
ends_const around over list trees tree right rest =
    ap (λ state. run state (sign kind.RightParen right ∷ rest)) (list.member trees tree)
    ∙ ap (λ a. option_and_then (λ s. run s rest) (close_consts a)) (list.grows trees tree)
    ∙ ap (λ o. option_and_then (λ s. run s rest) o) (list.closes (trees ++ tree ∷ []))

goes_on_const : (around : List ConstTree → Consts) (over : List ConstTree → State) → IsConsts around over → (trees : List ConstTree) (tree : ConstTree)
    (comma : Place) (rest : List Tok)
    → run (end_const tree (around trees)) (sign kind.Comma comma ∷ rest) ≡ run (const_or_end (around (trees ++ tree ∷ []))) rest
goes_on_const around over list trees tree comma rest =
    ap (λ state. run state (sign kind.Comma comma ∷ rest)) (list.member trees tree) ∙ ap (λ a. run (const_or_end a) rest) (list.grows trees tree)

mutual
  pub read_const : (text : ConstText) (around : Consts) (rest : List Tok) → IsConst text → run (want_const around) (const_tokens text ++ rest)
      ≡ run (end_const (const_tree text) around) rest
  read_const (const_number digits place) around rest g =
      ap (λ b. option_and_then (λ s. run s rest) (cond b (Some (end_const (d.const_number place (pos (number_value digits))) around)) None)) g
  read_const (const_minus dash digits place) around rest g =
      ap (λ b. option_and_then (λ s. run s rest) (on b (end_const (d.const_minus dash place (pos (number_value digits))) around))) g
  read_const (const_truth place) around rest g = refl
  read_const (const_falsity place) around rest g = refl
  read_const (const_sequence word None left elements right) around rest g =
      ap (run (want_const (constants_in word None [] around))) (append_assoc (consts_tokens elements) (sign kind.RightParen right ∷ []) rest)
      ∙ from_first _ _ (elements_consts word None around) elements [] (sign kind.RightParen right ∷ rest) g.0
      ∙ read_consts _ _ (elements_consts word None around) elements [] right rest g.1
      ∙ ap (λ trees. run (end_const (d.const_sequence word None trees) around) rest) (consts_trees elements)
  read_const (const_sequence word (Some ty) left elements right) around rest g =
      let close : List Tok = sign kind.RightParen right ∷ rest in
      let list : List Tok = sign kind.LeftParen left ∷ consts_tokens elements in
      ap (run (consts_type word around))
      (append_assoc (element_tokens ty ++ list) (sign kind.RightParen right ∷ []) rest ∙ append_assoc (element_tokens ty) list close)
      ∙ read_element word around ty (list ++ close) g.0
      ∙ read_consts _ _ (elements_consts word (Some (element_tree ty)) around) elements [] right rest g.1
      ∙ ap (λ trees. run (end_const (d.const_sequence word (Some (element_tree ty)) trees) around) rest) (consts_trees elements)
  read_const (const_record n left fields right) around rest g =
      let close : List Tok = sign kind.RightParen right ∷ rest in
      ap (λ b. option_and_then (λ s. run s (sign kind.LeftParen left ∷ (consts_tokens fields ++ sign kind.RightParen right ∷ []) ++ rest))
      (on b (fields_left n around))) g.0
      ∙ ap (run (want_const (fields_in n [] around))) (append_assoc (consts_tokens fields) (sign kind.RightParen right ∷ []) rest)
      ∙ from_first _ _ (fields_consts n around) fields [] close g.1
      ∙ read_consts _ _ (fields_consts n around) fields [] right rest g.2
      ∙ ap (λ trees. run (end_const (d.const_record n trees) around) rest) (consts_trees fields)

  from_first : (around : List ConstTree → Consts) (over : List ConstTree → State) → IsConsts around over → (texts : ConstsText) (trees : List ConstTree)
      (rest : List Tok) → HasConst texts
      → run (want_const (around trees)) (consts_tokens texts ++ rest) ≡ run (const_or_end (around trees)) (consts_tokens texts ++ rest)
  from_first around over list no_consts trees rest h = absurd h
  from_first around over list (last_const c) trees rest h = sym (starts_const c (around trees) rest)
  from_first around over list (const_then c comma more) trees rest h =
      let same = append_assoc (const_tokens c) (sign kind.Comma comma ∷ consts_tokens more) rest in
      ap (run (want_const (around trees))) same
      ∙ sym (starts_const c (around trees) (sign kind.Comma comma ∷ consts_tokens more ++ rest))
      ∙ sym (ap (run (const_or_end (around trees))) same)

  read_consts : (around : List ConstTree → Consts) (over : List ConstTree → State) → IsConsts around over → (texts : ConstsText) (trees : List ConstTree)
      (right : Place) (rest : List Tok) → AreConsts texts
      → run (const_or_end (around trees)) (consts_tokens texts ++ sign kind.RightParen right ∷ rest) ≡ run (over (trees ++ const_trees texts)) rest
  read_consts around over list no_consts trees right rest g =
      ap (λ o. option_and_then (λ s. run s rest) o) (list.closes trees) ∙ ap (λ t. run (over t) rest) (sym (append-nil trees))
  read_consts around over list (last_const c) trees right rest g =
      starts_const c (around trees) (sign kind.RightParen right ∷ rest)
      ∙ read_const c (around trees) (sign kind.RightParen right ∷ rest) g
      ∙ ends_const around over list trees (const_tree c) right rest
  read_consts around over list (const_then c comma more) trees right rest g =
      let close : List Tok = sign kind.RightParen right ∷ rest in
      ap (run (const_or_end (around trees))) (append_assoc (const_tokens c) (sign kind.Comma comma ∷ consts_tokens more) close)
      ∙ starts_const c (around trees) (sign kind.Comma comma ∷ consts_tokens more ++ close)
      ∙ read_const c (around trees) (sign kind.Comma comma ∷ consts_tokens more ++ close) g.0
      ∙ goes_on_const around over list trees (const_tree c) comma (consts_tokens more ++ close)
      ∙ read_consts around over list more (trees ++ const_tree c ∷ []) right rest g.1
      ∙ ap (λ t. run (over t) rest) (append_assoc trees (const_tree c ∷ []) (const_trees more))
