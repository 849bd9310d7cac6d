-- Declarations and whole texts whose names are read have sound trees.
use Rattle.std.proofs.Common.{List, [], ◌∷◌, ◌++◌, map, refl, arith}
use Rattle.std.specs.List.{AllByRecursion}
use Rattle.slang_lexer.specs.declared.token.TokenKind.TheVariants as kind
use Rattle.slang_tree.specs.DeclTree.{MethodDeclTree}
use Rattle.slang_tokens.specs.Tok.{sign}
use Rattle.slang_grammar.specs.Parts.{members, listed, optional, element_tokens, typed_tokens, typed_tree}
use Rattle.slang_grammar.specs.Statements.{stmt_tree}
use Rattle.slang_grammar.specs.Declarations.{ConstText, const_number, const_minus, const_truth, const_falsity, const_sequence, const_record, ConstsText, no_consts, last_const, const_then, const_tokens, consts_tokens, IsConst, AreConsts, const_tree, consts_tree, ParamText, param_tokens, param_tree, FieldText, val_word, field_tokens, field_tree, ClauseText, requires_clause, modifies_clause, ensures_clause, clause_tokens, IsClause, ContractText, contract_tokens, IsContract, PartText, contract_part, stmt_part, return_part, part_tokens, IsPart, PathText, path_tokens, path_name, MethodText, method_tokens, IsMethod, DeclText, import_text, global_text, record_text, method_text, decl_tokens, IsDecl, with_clause, with_clauses, with_part, with_parts, method_tree, decl_tree}
use Rattle.slang_grammar.specs.Declarations as grammar
use Rattle.sound_trees.specs.Sound.{IsNamed, SoundStmt, SoundConst, SoundConsts, SoundTyped, SoundMethod, SoundDecl}
use Rattle.sound_trees.specs.Laws.{AreRead, ReadTreesAreSound}
use Rattle.sound_trees.proofs.Expressions.{halves, sound_listed, sound_names, sound_typed, if_typed, if_element, small, sound_expr, sound_claims}
use Rattle.sound_trees.proofs.Statements.{sound_stmt}

-- ---- constants

mutual
  sound_const : (c : ConstText) → IsConst c → AreRead (const_tokens c) → SoundConst (const_tree c)
  sound_const (const_number digits place) g h = small digits g
  sound_const (const_minus minus digits place) g h = small digits g
  sound_const (const_truth place) g h = tt
  sound_const (const_falsity place) g h = tt
  sound_const (const_sequence word ty left elements right) g h =
      let o = halves (optional element_tokens ty ++ sign kind.LeftParen left ∷ consts_tokens elements) (sign kind.RightParen right ∷ []) h.1 in
      let s = halves (optional element_tokens ty) (sign kind.LeftParen left ∷ consts_tokens elements) o.0 in
      (if_element ty s.0, sound_consts elements g.1 s.1.1)
  sound_const (const_record n left fields right) g h =
      (h.0 refl, sound_consts fields g.2 (halves (consts_tokens fields) (sign kind.RightParen right ∷ []) h.1.1).0)

  sound_consts : (c : ConstsText) → AreConsts c → AreRead (consts_tokens c) → SoundConsts (consts_tree c)
  sound_consts no_consts g h = tt
  sound_consts (last_const c) g h = (sound_const c g h, tt)
  sound_consts (const_then c comma more) g h =
      let s = halves (const_tokens c) (sign kind.Comma comma ∷ consts_tokens more) h in
      (sound_const c g.0 s.0, sound_consts more g.1 s.1.1)

-- ---- parameters and fields

mapped : {A B : Type 0} (P : B → Type 0) (f : A → B) (xs : List A) → AllByRecursion (λ x. P (f x)) xs → AllByRecursion P (map f xs)
mapped P f [] h = tt
mapped P f (x ∷ xs) h = (h.0, mapped P f xs h.1)

sound_param : (p : ParamText) → AreRead (param_tokens p) → SoundTyped (param_tree p)
sound_param p h = (h.0 refl, sound_typed p.ty h.1)

sound_field : (f : FieldText) → AreRead (field_tokens f) → SoundTyped (field_tree f)
sound_field f h = sound_param f.param (halves (optional val_word f.fixed) (param_tokens f.param) h).1

-- ---- methods

sound_clause : (m : MethodDeclTree) (c : ClauseText) → SoundMethod m → IsClause c → AreRead (clause_tokens c) → SoundMethod (with_clause m c)
sound_clause m (requires_clause word claims) s g h = record {
  written = s.written;
  params = s.params;
  result = s.result;
  requires_ = sound_claims claims g h.1;
  modifies = s.modifies;
  ensures_ = s.ensures_;
  body = s.body;
  returned = s.returned;
}
sound_clause m (modifies_clause word names) s g h = record {
  written = s.written;
  params = s.params;
  result = s.result;
  requires_ = s.requires_;
  modifies = sound_names names h.1;
  ensures_ = s.ensures_;
  body = s.body;
  returned = s.returned;
}
sound_clause m (ensures_clause word claims) s g h = record {
  written = s.written;
  params = s.params;
  result = s.result;
  requires_ = s.requires_;
  modifies = s.modifies;
  ensures_ = sound_claims claims g h.1;
  body = s.body;
  returned = s.returned;
}

-- what is said of each clause, with its tokens
abbrev ClauseRead : ClauseText → Type 0
ClauseRead c = AreRead (clause_tokens c)

read_as : (c : ClauseText) → AreRead (clause_tokens c) → ClauseRead c
read_as c h = h

sound_clauses : (m : MethodDeclTree) (cs : List ClauseText) → SoundMethod m → AllByRecursion IsClause cs → AllByRecursion ClauseRead cs
    → SoundMethod (with_clauses m cs)
sound_clauses m [] s g h = s
sound_clauses m (c ∷ cs) s g h = sound_clauses (with_clause m c) cs (sound_clause m c s g.0 h.0) g.1 h.1

sound_contract : (m : MethodDeclTree) (c : ContractText) → SoundMethod m → IsContract c → AreRead (contract_tokens c)
    → SoundMethod (with_clauses m (members c.clauses))
sound_contract m c s g h =
    sound_clauses m (members c.clauses) s g.1
    (sound_listed kind.Comma clause_tokens ClauseRead read_as c.clauses
    (halves (listed kind.Comma clause_tokens c.clauses) (sign kind.RightParen c.right ∷ []) h.1.1).0)

pushed : {A : Type 0} (P : A → Type 0) (xs : List A) (x : A) → AllByRecursion P xs → P x → AllByRecursion P (xs ++ x ∷ [])
pushed P [] x h p = (p, tt)
pushed P (y ∷ xs) x h p = (h.0, pushed P xs x h.1 p)

sound_part : (m : MethodDeclTree) (p : PartText) → SoundMethod m → IsPart p → AreRead (part_tokens p) → SoundMethod (with_part m p)
sound_part m (contract_part contract) s g h = sound_contract m contract s g h
sound_part m (stmt_part stmt) s g h = record {
  written = s.written;
  params = s.params;
  result = s.result;
  requires_ = s.requires_;
  modifies = s.modifies;
  ensures_ = s.ensures_;
  body = pushed SoundStmt m.body (stmt_tree stmt) s.body (sound_stmt stmt g h);
  returned = s.returned;
}
sound_part m (return_part word e) s g h = record {
  written = s.written;
  params = s.params;
  result = s.result;
  requires_ = s.requires_;
  modifies = s.modifies;
  ensures_ = s.ensures_;
  body = s.body;
  returned = sound_expr e g h.1;
}

abbrev PartRead : PartText → Type 0
PartRead p = AreRead (part_tokens p)

part_read : (p : PartText) → AreRead (part_tokens p) → PartRead p
part_read p h = h

sound_parts : (m : MethodDeclTree) (ps : List PartText) → SoundMethod m → AllByRecursion IsPart ps → AllByRecursion PartRead ps → SoundMethod (with_parts m ps)
sound_parts m [] s g h = s
sound_parts m (p ∷ ps) s g h = sound_parts (with_part m p) ps (sound_part m p s g.0 h.0) g.1 h.1

sound_method : (m : MethodText) → IsMethod m → AreRead (method_tokens m) → SoundMethod (method_tree m)
sound_method m g h =
    let params = listed kind.Comma param_tokens m.params in
    let body = listed kind.Newline part_tokens m.body in
    let o = halves (params ++ sign kind.RightParen m.right ∷ typed_tokens m.result ++ sign kind.Equals m.equals ∷ sign kind.LeftBrace m.begin ∷ body)
    (sign kind.RightBrace m.end ∷ []) h.1.1.1 in
    let q = halves (params ++ sign kind.RightParen m.right ∷ typed_tokens m.result) (sign kind.Equals m.equals ∷ sign kind.LeftBrace m.begin ∷ body) o.0 in
    let s = halves params (sign kind.RightParen m.right ∷ typed_tokens m.result) q.0 in
    sound_parts (grammar.bare_method m.written (map param_tree (members m.params)) (typed_tree m.result)) (members m.body) (record {
      written = h.1.0 refl;
      params = mapped SoundTyped param_tree (members m.params) (sound_listed kind.Comma param_tokens (λ p. SoundTyped (param_tree p)) sound_param m.params s.0);
      result = sound_typed m.result s.1.1;
      requires_ = tt;
      modifies = tt;
      ensures_ = tt;
      body = tt;
      returned = tt;
    }) g.4 (sound_listed kind.Newline part_tokens PartRead part_read m.body q.1.1.1)

-- ---- declarations

sound_path : (path : List PathText) → AreRead (path_tokens path) → AllByRecursion IsNamed (map path_name path)
sound_path [] h = tt
sound_path (part ∷ more) h = (h.1.0 refl, sound_path more h.1.1)

sound_decl : (decl : DeclText) → IsDecl decl → AreRead (decl_tokens decl) → SoundDecl (decl_tree decl)
sound_decl (import_text word first path) g h = (omega arith, (h.1.0 refl, sound_path path h.1.1))
sound_decl (global_text fixed word n ty equals init) g h =
    let s = halves (optional typed_tokens ty) (sign kind.Equals equals ∷ const_tokens init) h.1.1 in
    (h.1.0 refl, if_typed ty s.0, sound_const init g.2 s.1.1)
sound_decl (record_text at datatype word n left fields right) g h =
    let s = halves (listed kind.Comma field_tokens fields) (sign kind.RightParen right ∷ []) h.1.1.1.1.1 in (
      h.1.1.1.0 refl,
      mapped SoundTyped field_tree (members fields) (sound_listed kind.Comma field_tokens (λ f. SoundTyped (field_tree f)) sound_field fields s.0),
    )
sound_decl (method_text m) g h = sound_method m g h

abbrev DeclRead : DeclText → Type 0
DeclRead d = AreRead (decl_tokens d)

decl_read : (d : DeclText) → AreRead (decl_tokens d) → DeclRead d
decl_read d h = h

sound_decls : (decls : List DeclText) → AllByRecursion IsDecl decls → AllByRecursion DeclRead decls → AllByRecursion SoundDecl (map decl_tree decls)
sound_decls [] g h = tt
sound_decls (d ∷ decls) g h = (sound_decl d g.0 h.0, sound_decls decls g.1 h.1)

pub read_trees_are_sound : ReadTreesAreSound
read_trees_are_sound file g h = sound_decls (members file) g (sound_listed kind.Newline decl_tokens DeclRead decl_read file h)
