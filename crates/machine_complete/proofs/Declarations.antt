-- Declarations and whole texts are read.
use Rattle.machine_expressions.proofs.Behind.{read_type}
use Rattle.machine_complete.proofs.Lists.{IsListOf, read_listed, read_from_first}
use Rattle.machine_complete.proofs.Consts.{read_const}
use Rattle.machine_complete.proofs.Statements.{Goes}
use Rattle.machine_complete.proofs.Bodies.{read_parts}
use Rattle.slang_grammar.specs.Parts.{members, separated, optional, listed, name_token, type_tokens, IfWritten, TypedText, typed_tokens, IsTyped, typed_tree}
use Rattle.slang_grammar.specs.Declarations.{ConstText, const_tokens, IsConst, const_tree, ParamText, param_tokens, IsParam, param_tree, FieldText, val_word, field_tokens, IsField, field_tree, part_tokens, PathText, path_tokens, path_name, MethodText, DeclText, import_text, global_text, record_text, method_text, decl_tokens, IsMethod, IsDecl, bare_method, method_tree, decl_tree}
use Rattle.slang_machine.specs.Open.{Draft, constant_of, of_global, of_field, of_param, of_method, whole_type, close}
use Rattle.slang_machine.specs.States.{top, ended, path_due, path_end, global_type, fields_due, field_due, field_name, field_colon_due, field_colon, field_end, naming, params_due, param_or_end, param_colon, param_end, result_colon, want_type}
use Rattle.slang_machine.specs.Expressions.{is, on}
use Rattle.slang_machine.specs.Declarations.{end_const, import_decl, next_ended_decl, end_record}
use Rattle.slang_machine.specs.Machine.{run}
use Rattle.slang_tree.specs.DeclTree.{TypedName, DeclTree}
use Rattle.slang_tree.specs.declared.place.Place.{Place}
use Rattle.slang_tree.specs.declared.expression.Name.{Name}
use Rattle.slang_tokens.specs.Tok.{Tok, sign}
use Rattle.slang_tokens.proofs.Cut.{tokens_one}
use Rattle.std.proofs.Common.{◌≡◌, Bool, true, false, not, List, [], ◌∷◌, ◌++◌, Option, Some, None, refl, sym, ap, ◌∙◌, append_assoc, append-nil, cond, map}
use Rattle.std.specs.Prelude.{option_to_list}
use Rattle.std.specs.List.{AllByRecursion}
use Rattle.std.specs.Option.{option_map}
use Rattle.std.proofs.lemmas.Bool.{not-true}
use Rattle.slang_tree.specs.DeclTree as d
use Rattle.slang_lexer.specs.declared.token.TokenKind.TheVariants as kind
use Rattle.slang_tokens.specs.declared.read.TokensEnd.TheVariants as tokens_end
use Rattle.machine_complete.specs.Laws.{TextsAreRead, TextHasOneTree}

-- Parameters and fields.

params_list : (written : Name) (done : List DeclTree)
    → IsListOf param_tokens param_tree IsParam (λ params. param_or_end written params done) (λ params. param_end written params done)
    (λ params. result_colon written params done)
params_list written done = record {
  reads = λ params p rest g.
      ap (λ b. Goes (on b (param_colon written params p.written done)) (typed_tokens p.ty ++ rest)) g.0
      ∙ read_type p.ty.ty (whole_type (of_param written params p.written done)) rest g.1;
  comma = λ params place. refl;
  ends = λ params place. refl;
  ends_due = λ params place. refl;
}

-- a field behind its `val`, if it has one
read_field : (place : Place) (written : Name) (fields : List TypedName) (done : List DeclTree) (p : ParamText) (rest : List Tok) → IsParam p
    → run (field_colon_due place written fields done) (param_tokens p ++ rest) ≡ run (field_end place written (fields ++ param_tree p ∷ []) done) rest
read_field place written fields done p rest g =
    ap (λ b. Goes (on b (field_colon place written fields p.written done)) (typed_tokens p.ty ++ rest)) g.0
    ∙ read_type p.ty.ty (whole_type (of_field place written fields p.written done)) rest g.1

read_field_due : (place : Place) (written : Name) (fields : List TypedName) (done : List DeclTree) (f : FieldText) (rest : List Tok) → IsField f
    → run (field_due place written fields done) (field_tokens f ++ rest) ≡ run (field_end place written (fields ++ field_tree f ∷ []) done) rest
read_field_due place written fields done f rest g = by f.fixed where
  by : (fixed : Option Place) → run (field_due place written fields done) ((optional val_word fixed ++ param_tokens f.param) ++ rest)
      ≡ run (field_end place written (fields ++ field_tree f ∷ []) done) rest
  by None = read_field place written fields done f.param rest g
  by (Some word) = read_field place written fields done f.param rest g

read_field_name : (place : Place) (written : Name) (fields : List TypedName) (done : List DeclTree) (f : FieldText) (rest : List Tok) → IsField f
    → run (field_name place written fields done) (field_tokens f ++ rest) ≡ run (field_end place written (fields ++ field_tree f ∷ []) done) rest
read_field_name place written fields done f rest g = by f.fixed where
  by : (fixed : Option Place) → run (field_name place written fields done) ((optional val_word fixed ++ param_tokens f.param) ++ rest)
      ≡ run (field_end place written (fields ++ field_tree f ∷ []) done) rest
  by None = read_field place written fields done f.param rest g
  by (Some word) = read_field place written fields done f.param rest g

fields_list : (place : Place) (written : Name) (done : List DeclTree)
    → IsListOf field_tokens field_tree IsField (λ fields. field_due place written fields done) (λ fields. field_end place written fields done)
    (λ fields. end_record place written fields done)
fields_list place written done = record {
  reads = λ fields f rest g. read_field_due place written fields done f rest g;
  comma = λ fields here. refl;
  ends = λ fields here. refl;
  ends_due = λ fields here. refl;
}

-- Declarations.

-- What stands behind a declaration: nothing, or no `.`
abbrev no_dot : List Tok → Bool
no_dot [] = true
no_dot (token ∷ rest) = not (is kind.Dot token)

path_ends : (place : Place) (names : List Name) (done : List DeclTree) (rest : List Tok) → no_dot rest ≡ true
    → run (path_end place names done) rest ≡ run (ended (import_decl place names done)) rest
path_ends place names done [] h = refl
path_ends place names done (token ∷ rest) h =
    ap (λ b. Goes (cond b (Some (path_due place names done)) (next_ended_decl (import_decl place names done) token)) rest) (not-true _ h)

read_path : (path : List PathText) (place : Place) (names : List Name) (done : List DeclTree) (rest : List Tok) → no_dot rest ≡ true
    → run (path_end place names done) (path_tokens path ++ rest) ≡ run (ended (import_decl place (names ++ map path_name path) done)) rest
read_path [] place names done rest h =
    path_ends place names done rest h ∙ ap (λ x. run (ended (import_decl place x done)) rest) (sym (append-nil names))
read_path (part ∷ path) place names done rest h =
    read_path path place (names ++ part.written ∷ []) done rest h
    ∙ ap (λ x. run (ended (import_decl place x done)) rest) (append_assoc names (part.written ∷ []) (map path_name path))

read_method : (m : MethodText) (done : List DeclTree) (rest : List Tok) → IsMethod m
    → run (naming done) (name_token m.written ∷ sign kind.LeftParen m.left ∷ (listed kind.Comma param_tokens m.params
    ++ sign kind.RightParen m.right ∷ typed_tokens m.result ++ sign kind.Equals m.equals
    ∷ sign kind.LeftBrace m.begin ∷ listed kind.Newline part_tokens m.body ++ sign kind.RightBrace m.end ∷ []) ++ rest)
    ≡ run (ended (done ++ d.method_decl (method_tree m) ∷ [])) rest
read_method m done rest g =
    let draft : Draft = record { done = done; method = bare_method m.written (map param_tree (members m.params)) (typed_tree m.result) } in
    let params : List Tok = listed kind.Comma param_tokens m.params in
    let typed : List Tok = sign kind.RightParen m.right ∷ typed_tokens m.result in
    let parts : List Tok = sign kind.Equals m.equals ∷ sign kind.LeftBrace m.begin ∷ listed kind.Newline part_tokens m.body in
    let close : List Tok = sign kind.RightBrace m.end ∷ [] in
    ap (λ b. Goes (on b (params_due m.written done)) (sign kind.LeftParen m.left ∷ (((params ++ typed) ++ parts) ++ close) ++ rest)) g.0
    ∙ ap (run (param_or_end m.written [] done)) (append_assoc ((params ++ typed) ++ parts) close rest
    ∙ append_assoc (params ++ typed) parts (close ++ rest) ∙ append_assoc params typed (parts ++ (close ++ rest)))
    ∙ read_listed param_tokens param_tree IsParam _ _ _ (params_list m.written done) m.params.front m.params.last [] m.right (typed_tokens m.result ++ (parts
    ++ (close ++ rest))) g.1
    ∙ read_type m.result.ty (whole_type (of_method m.written (map param_tree (members m.params)) done)) (parts ++ (close ++ rest)) g.2
    ∙ read_parts m.body.front m.body.last 0 draft m.end rest g.3 g.4

-- a constant of a global behind the name
read_global_behind : (fixed : Bool) (place : Place) (n : Name) (ty : Option TypedText) (equals : Place) (init : ConstText) (done : List DeclTree)
    (rest : List Tok) → IfWritten IsTyped ty → IsConst init
    → run (global_type fixed place n done) ((optional typed_tokens ty ++ sign kind.Equals equals ∷ const_tokens init) ++ rest)
    ≡ run (end_const (const_tree init) (constant_of fixed place n (option_map typed_tree ty) done)) rest
read_global_behind fixed place n None equals init done rest t g = read_const init (constant_of fixed place n None done) rest g
read_global_behind fixed place n (Some ty) equals init done rest t g =
    ap (run (want_type (whole_type (of_global fixed place n done)))) (append_assoc (type_tokens ty.ty) (sign kind.Equals equals ∷ const_tokens init) rest)
    ∙ read_type ty.ty (whole_type (of_global fixed place n done)) (sign kind.Equals equals ∷ const_tokens init ++ rest) t
    ∙ read_const init (constant_of fixed place n (Some (typed_tree ty)) done) rest g

read_decl : (decl : DeclText) (done : List DeclTree) (rest : List Tok) → IsDecl decl → no_dot rest ≡ true
    → run (top done) (decl_tokens decl ++ rest) ≡ run (ended (done ++ decl_tree decl ∷ [])) rest
read_decl (import_text word first path) done rest g h = read_path path word (first ∷ []) done rest h
read_decl (global_text true word n ty equals init) done rest g h =
    ap (λ b. Goes (on b (global_type true word n done)) ((optional typed_tokens ty ++ sign kind.Equals equals ∷ const_tokens init) ++ rest)) g.0
    ∙ read_global_behind true word n ty equals init done rest g.1 g.2
read_decl (global_text false word n ty equals init) done rest g h =
    ap (λ b. Goes (on b (global_type false word n done)) ((optional typed_tokens ty ++ sign kind.Equals equals ∷ const_tokens init) ++ rest)) g.0
    ∙ read_global_behind false word n ty equals init done rest g.1 g.2
read_decl (record_text at datatype word n left fields right) done rest g h =
    ap (λ b. Goes (on b (fields_due at n done)) (sign kind.LeftParen left ∷ (listed kind.Comma field_tokens fields ++ sign kind.RightParen right ∷ []) ++ rest))
    g.0
    ∙ ap (run (field_name at n [] done)) (append_assoc (listed kind.Comma field_tokens fields) (sign kind.RightParen right ∷ []) rest)
    ∙ read_from_first field_tokens field_tree IsField (field_name at n [] done) _ _ _ (fields_list at n done)
    (λ f tokens g. read_field_name at n [] done f tokens g) fields right rest g.1 g.2
read_decl (method_text m) done rest g h = read_method m done rest g

-- Whole texts.

read_decls : (front : List (DeclText × Place)) (last : Option DeclText) (done : List DeclTree) → AllByRecursion IsDecl (map (λ m. m.0) front ++ option_to_list last)
    → run (top done) (separated kind.Newline decl_tokens front ++ optional decl_tokens last)
    ≡ Some (done ++ map decl_tree (map (λ m. m.0) front ++ option_to_list last))
read_decls [] None done g = ap Some (sym (append-nil done))
read_decls [] (Some decl) done g = ap (run (top done)) (sym (append-nil (decl_tokens decl))) ∙ read_decl decl done [] g.0 refl
read_decls (first ∷ front) last done g =
    let others : List Tok = separated kind.Newline decl_tokens front in
    ap (run (top done)) (append_assoc (decl_tokens first.0) (sign kind.Newline first.1 ∷ others) (optional decl_tokens last))
    ∙ read_decl first.0 done (sign kind.Newline first.1 ∷ others ++ optional decl_tokens last) g.0 refl
    ∙ read_decls front last (done ++ decl_tree first.0 ∷ []) g.1
    ∙ ap Some (append_assoc done (decl_tree first.0 ∷ []) (map decl_tree (map (λ m. m.0) front ++ option_to_list last)))

-- what the grammar reads the machine reads, with the same tree
pub complete : TextsAreRead
complete tokens file h = sym (ap (run (top [])) h.spelled) ∙ read_decls h.text.front h.text.last [] h.well_formed ∙ ap Some h.shaped

some_same : {A : Type 0} {x y : A} → Some x ≡ Some y → x ≡ y
some_same h = cc

-- so a text has one tree
pub one_tree : TextHasOneTree
one_tree bytes a b reads_a reads_b =
    let same = tokens_one bytes reads_a.tokens reads_b.tokens (tokens_end.End reads_a.end) (tokens_end.End reads_b.end) reads_a.are_tokens reads_b.are_tokens in
    some_same (sym (complete reads_a.tokens a reads_a.in_grammar) ∙ ap (run (top [])) same.0 ∙ complete reads_b.tokens b reads_b.in_grammar)
