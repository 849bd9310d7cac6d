-- Declarations, contracts and statements where they begin.
use Rattle.machine_stands.proofs.Tokens.{is_of_name, both_true, on_case, or_case}
use Rattle.machine_stands.proofs.Fronts.{separator, whole_front, whole_last, grow, every, WholeOf, HasAny, any_length, any_mapped}
use Rattle.machine_stands.proofs.Opened.{At, Sign, Typed, Element, Decls, LastDecl, Path, PathDue, first_due, behind_dot, FieldsBegin, Fields, PartFits, part_step, BodyBegin, Parts, ClauseFits, clause_step, ContractBegin, Clauses, LastClause}
use Rattle.machine_stands.proofs.Inside.{In, OpenNames, NamesIs}
use Rattle.machine_stands.proofs.Stands.{Stands}
use Rattle.machine_stands.proofs.Ends.{at_step, sign_step, name_step, method_ends, contract_ends}
use Rattle.slang_grammar.specs.Parts.{members, listed, name_token, IsPlain, one_name}
use Rattle.slang_grammar.specs.Proofs.{block}
use Rattle.slang_grammar.specs.Declarations.{field_tokens, IsField, field_tree, modifies_clause, clause_tokens, part_tokens, PathText, path_tokens, path_name, import_text, record_text, datatype_token, decl_tokens, IsDecl, decl_tree}
use Rattle.slang_machine.specs.Open.{Draft, body_of, in_block, Within, put, requiring, ensuring, returned, alone}
use Rattle.slang_machine.specs.States.{NamesOf, contract_names, loop_names, top, path_due, path_end, global_name, at_due, class_due, field_colon_due, field_colon, naming, part_end, clauses_due, clause_or_end, claims_due, names_due, value_name, name_seen, if_left, loop_left, assert_left, steps_left, want}
use Rattle.slang_machine.specs.Expressions.{is, is_name, name_of, on}
use Rattle.slang_machine.specs.Statements.{with_method, end_method, begin_stmt, next_part, next_clause, end_names}
use Rattle.slang_machine.specs.Declarations.{import_decl, next_ended_decl, begin_decl, end_record, is_datatype}
use Rattle.slang_tree.specs.DeclTree.{TypedName, DeclTree}
use Rattle.slang_tree.specs.declared.place.Place.{Place}
use Rattle.slang_tree.specs.declared.expression.Name.{Name}
use Rattle.slang_tokens.specs.Tok.{Tok, sign}
use Rattle.slang_tokens.proofs.Bare.{IsBare}
use Rattle.std.proofs.Common.{◌≡◌, ℕ, true, false, List, [], ◌∷◌, ◌++◌, Some, None, refl, sym, ap, ◌∙◌, subst, append_assoc, cond, leb}
use Rattle.std.specs.Prelude.{codes}
use Rattle.std.specs.Option.{IfSome}
use Rattle.std.proofs.lemmas.Slice.Eq.{bytes_eq-Decides}
use Rattle.std.specs.Str.{bytes_eq}
use Rattle.std.proofs.lemmas.Bool.{leb-true}
use Rattle.std.proofs.lemmas.List.{map-id, map-append}
use Rattle.slang_tree.specs.DeclTree as d
use Rattle.slang_lexer.specs.declared.token.TokenKind.TheVariants as kind

-- Imports.

path_more : (more : List PathText) (part : PathText) (rest : List Tok)
    → path_tokens more ++ (sign kind.Dot part.dot ∷ name_token part.written ∷ rest) ≡ path_tokens (more ++ part ∷ []) ++ rest
path_more [] part rest = refl
path_more (first ∷ more) part rest = ap (λ x. sign kind.Dot first.dot ∷ name_token first.written ∷ x) (path_more more part rest)

path_named : (all : List Tok) (place : Place) (path : List Name) (done : List DeclTree) (token : Tok) (rest : List Tok) → is kind.Name token ≡ true
    → PathDue all place path done (token ∷ rest) → Path all place (path ++ name_of token ∷ []) done rest
path_named all place path done token rest b (first_due none h) = record {
  first = name_of token;
  more = [];
  same = ap (λ p. p ++ name_of token ∷ []) (sym none);
  opened = subst (λ t. Decls all done (sign kind.Import place ∷ t ∷ rest)) (is_of_name token b) h;
}
path_named all place path done token rest b (behind_dot h) =
    let p = h.opened in
    let part : PathText = record { dot = h.place; written = name_of token } in
    record {
      first = p.first;
      more = p.more ++ part ∷ [];
      same = ap (λ x. p.first ∷ x) (map-append path_name p.more (part ∷ [])) ∙ ap (λ x. x ++ name_of token ∷ []) p.same;
      opened = subst (λ x. Decls all done (sign kind.Import place ∷ name_token p.first ∷ x)) (path_more p.more part rest)
          (subst (λ t. Decls all done (sign kind.Import place ∷ name_token p.first ∷ path_tokens p.more ++ (sign kind.Dot h.place ∷ t ∷ rest)))
          (is_of_name token b) p.opened);
    }

pub path_due_stands : (all : List Tok) (place : Place) (path : List Name) (done : List DeclTree) (token : Tok) (rest : List Tok)
    → PathDue all place path done (token ∷ rest)
    → IfSome (on (is kind.Name token) (path_end place (path ++ name_of token ∷ []) done)) (λ state. Stands all state rest)
path_due_stands all place path done token rest h =
    on_case (is kind.Name token) (path_end place (path ++ name_of token ∷ []) done) (λ state. Stands all state rest)
    (λ b. path_named all place path done token rest b h)

pub path_ends : (all : List Tok) (place : Place) (path : List Name) (done : List DeclTree) (rest : List Tok) → Path all place path done rest
    → LastDecl all (import_decl place path done) rest
path_ends all place path done rest h = record {
  before = done;
  member = import_text place h.first h.more;
  fits = tt;
  same = ap (λ p. done ++ d.import_decl place p ∷ []) h.same;
  opened = h.opened;
}

pub ended_stands : (all : List Tok) (done : List DeclTree) (token : Tok) (rest : List Tok) → IsBare token → LastDecl all done (token ∷ rest)
    → IfSome (next_ended_decl done token) (λ state. Stands all state rest)
ended_stands all done token rest bare h =
    on_case (is kind.Newline token) (top done) (λ state. Stands all state rest)
    (λ b. separator kind.Newline decl_tokens (every IsDecl) (grow decl_tree) [] (λ r. all ≡ r) done token.place rest
    (at_step kind.Newline token rest (LastDecl all done) refl refl bare b h))

pub begin_decl_stands : (all : List Tok) (done : List DeclTree) (token : Tok) (rest : List Tok) → IsBare token → Decls all done (token ∷ rest)
    → IfSome (begin_decl done token) (λ state. Stands all state rest)
begin_decl_stands all done token rest bare h =
    or_case (is kind.Import token) (Some (path_due token.place [] done)) _ (λ state. Stands all state rest)
    (λ b. first_due refl (at_step kind.Import token rest (Decls all done) refl refl bare b h))
    (λ b. or_case (is kind.Val token) (Some (global_name true token.place done)) _ (λ state. Stands all state rest)
    (λ b. at_step kind.Val token rest (Decls all done) refl refl bare b h)
    (λ b. or_case (is kind.Var token) (Some (global_name false token.place done)) _ (λ state. Stands all state rest)
    (λ b. at_step kind.Var token rest (Decls all done) refl refl bare b h)
    (λ b. or_case (is kind.At token) (Some (at_due token.place done)) _ (λ state. Stands all state rest)
    (λ b. at_step kind.At token rest (Decls all done) refl refl bare b h)
    (λ b. on_case (is kind.Def token) (naming done) (λ state. Stands all state rest)
    (λ b. sign_step kind.Def token rest (Decls all done) refl refl bare b h)))))

-- a type, or none, that a sign ends
pub no_type : (K : List Tok → Type 0) (rest : List Tok) → K rest → Typed None K rest
no_type K rest h = record { text = None; fits = tt; same = refl; opened = h }

pub no_element : (K : List Tok → Type 0) (rest : List Tok) → K rest → Element None K rest
no_element K rest h = record { text = None; fits = tt; same = refl; opened = h }

pub datatype_stands : (all : List Tok) (place : Place) (done : List DeclTree) (token : Tok) (rest : List Tok) → At kind.At place (Decls all done) (token ∷ rest)
    → IfSome (on (is_datatype token) (class_due place done)) (λ state. Stands all state rest)
datatype_stands all place done token rest h =
    on_case (is_datatype token) (class_due place done) (λ state. Stands all state rest) (λ b.
    let both = both_true (is kind.Name token) (bytes_eq token.text (codes "datatype")) b in
    let put : List ℕ → Tok = λ text. record { kind = kind.Name; text = text; place = token.place } in
    let same : token ≡ datatype_token token.place =
    is_of_name token both.0 ∙ ap put ((bytes_eq-Decides token.text (codes "datatype")).0 both.1) in
    record { place = token.place; opened = subst (λ t. Decls all done (sign kind.At place ∷ t ∷ rest)) same h })

-- Records.

pub record_ends_stands : (all : List Tok) (place : Place) (written : Name) (fields : List TypedName) (done : List DeclTree) (right : Place) (rest : List Tok)
    → HasAny fields
    → WholeOf kind.Comma field_tokens IsField field_tree (FieldsBegin all place written done) fields (sign kind.RightParen right ∷ rest)
    → Stands all (end_record place written fields done) rest
record_ends_stands all place written fields done right rest any h =
    let left = h.opened in
    let n = left.opened in
    let class = n.opened in
    let datatype = class.opened in
    let some : HasAny (members h.list) = any_mapped field_tree (members h.list) (subst HasAny (sym h.same) any) in
    record {
      before = done;
      member = record_text place datatype.place class.place written left.place h.list right;
      fits = (n.plain, any_length (members h.list) some, h.each);
      same = ap (λ f. done ++ d.record_decl (record { place = place; written = written; fields = f }) ∷ []) h.same;
      opened = subst (λ x. Decls all done (sign kind.At place ∷ datatype_token datatype.place ∷ sign kind.Class class.place ∷ name_token written
          ∷ sign kind.LeftParen left.place ∷ x)) (sym (append_assoc (listed kind.Comma field_tokens h.list) (sign kind.RightParen right ∷ []) rest))
          datatype.opened;
    }

-- a field behind its `val`, or without one
pub field_named : (all : List Tok) (place : Place) (written : Name) (fields : List TypedName) (done : List DeclTree) (token : Tok) (rest : List Tok)
    → Fields all place written fields done (token ∷ rest)
    → IfSome (on (is_name token) (field_colon place written fields (name_of token) done)) (λ state. Stands all state rest)
field_named all place written fields done token rest h =
    on_case (is_name token) (field_colon place written fields (name_of token) done) (λ state. Stands all state rest) (λ b.
    let n = name_step token rest (Fields all place written fields done) b h in
    record { fixed = None; plain = n.plain; opened = n.opened })

pub field_behind_val : (all : List Tok) (place : Place) (written : Name) (fields : List TypedName) (done : List DeclTree) (token : Tok) (rest : List Tok)
    → Sign kind.Val (Fields all place written fields done) (token ∷ rest)
    → IfSome (on (is_name token) (field_colon place written fields (name_of token) done)) (λ state. Stands all state rest)
field_behind_val all place written fields done token rest h =
    on_case (is_name token) (field_colon place written fields (name_of token) done) (λ state. Stands all state rest) (λ b.
    let n = name_step token rest (λ r. Fields all place written fields done (sign kind.Val h.place ∷ r)) b h.opened in
    record { fixed = Some h.place; plain = n.plain; opened = n.opened })

pub field_begins : (all : List Tok) (place : Place) (written : Name) (fields : List TypedName) (done : List DeclTree) (token : Tok) (rest : List Tok)
    → IsBare token → Fields all place written fields done (token ∷ rest)
    → IfSome (cond (is kind.Val token) (Some (field_colon_due place written fields done)) (on (is_name token) (field_colon place written fields
    (name_of token) done))) (λ state. Stands all state rest)
field_begins all place written fields done token rest bare h =
    or_case (is kind.Val token) (Some (field_colon_due place written fields done)) _ (λ state. Stands all state rest)
    (λ b. sign_step kind.Val token rest (Fields all place written fields done) refl refl bare b h)
    (λ b. field_named all place written fields done token rest h)

-- Contracts.

pub clause_stands : (all : List Tok) (least : ℕ) (draft : Draft) (token : Tok) (rest : List Tok) → IsBare token → Clauses all least draft (token ∷ rest)
    → IfSome (next_clause least draft token) (λ state. Stands all state rest)
clause_stands all least draft token rest bare h =
    or_case (is kind.RightParen token) (Some (part_end 1 draft)) _ (λ state. Stands all state rest)
    (λ b. let h' = at_step kind.RightParen token rest (Clauses all least draft) refl refl bare b h in
    contract_ends all least draft h'.bare token.place rest (whole_front kind.Comma clause_tokens ClauseFits clause_step (0, h'.bare) (Sign kind.LeftParen
    (ContractBegin all (with_method draft h'.bare))) (least, draft.method) (sign kind.RightParen token.place ∷ rest) h'.clauses))
    (λ b. or_case (is kind.Requires token) (on (leb least 0) (claims_due requiring draft)) _ (λ state. Stands all state rest)
    (λ b. on_case (leb least 0) (claims_due requiring draft) (λ state. Stands all state rest) (λ o. record {
      least = least;
      fits = leb-true least 0 o;
      opened = sign_step kind.Requires token rest (Clauses all least draft) refl refl bare b h;
    }))
    (λ b. or_case (is kind.Modifies token) (on (leb least 1) (names_due (contract_names draft))) _ (λ state. Stands all state rest)
    (λ b. on_case (leb least 1) (names_due (contract_names draft)) (λ state. Stands all state rest) (λ o. record {
      least = least;
      fits = leb-true least 1 o;
      opened = sign_step kind.Modifies token rest (Clauses all least draft) refl refl bare b h;
    }))
    (λ b. or_case (is kind.Ensures token) (on (leb least 2) (claims_due ensuring draft)) None (λ state. Stands all state rest)
    (λ b. on_case (leb least 2) (claims_due ensuring draft) (λ state. Stands all state rest) (λ o. record {
      least = least;
      fits = leb-true least 2 o;
      opened = sign_step kind.Ensures token rest (Clauses all least draft) refl refl bare b h;
    }))
    (λ b. tt))))

pub clause_end_stands : (all : List Tok) (least : ℕ) (draft : Draft) (token : Tok) (rest : List Tok) → IsBare token → LastClause all least draft (token ∷ rest)
    → IfSome (cond (is kind.Comma token) (Some (clause_or_end least draft)) (on (is kind.RightParen token) (part_end 1 draft))) (λ state. Stands all state rest)
clause_end_stands all least draft token rest bare h =
    or_case (is kind.Comma token) (Some (clause_or_end least draft)) _ (λ state. Stands all state rest)
    (λ b. let h' = at_step kind.Comma token rest (LastClause all least draft) refl refl bare b h in record {
      bare = h'.bare;
      clauses = separator kind.Comma clause_tokens ClauseFits clause_step (0, h'.bare) (Sign kind.LeftParen (ContractBegin all (with_method draft h'.bare)))
          (least, draft.method) token.place rest h'.clauses;
    })
    (λ b. on_case (is kind.RightParen token) (part_end 1 draft) (λ state. Stands all state rest)
    (λ b. let h' = at_step kind.RightParen token rest (LastClause all least draft) refl refl bare b h in
    contract_ends all least draft h'.bare token.place rest (whole_last kind.Comma clause_tokens ClauseFits clause_step (0, h'.bare) (Sign kind.LeftParen
    (ContractBegin all (with_method draft h'.bare))) (least, draft.method) (sign kind.RightParen token.place ∷ rest) h'.clauses)))

pub names_end : (all : List Tok) (names : List Name) (of : NamesOf) (right : Place) (rest : List Tok) → HasAny names
    → WholeOf kind.Comma one_name IsPlain (λ (n : Name). n) (Sign kind.LeftParen (OpenNames all of)) names (sign kind.RightParen right ∷ rest)
    → Stands all (end_names names of) rest
names_end all names of right rest any h = by of (record {
  text = record { left = h.opened.place; names = h.list; right = right };
  fits = (any_length (members h.list) (subst HasAny (sym same) any), h.each);
  same = same;
  opened = subst (λ x. OpenNames all of (sign kind.LeftParen h.opened.place ∷ x)) (sym (append_assoc (listed kind.Comma one_name h.list)
      (sign kind.RightParen right ∷ []) rest)) h.opened.opened;
}) where
  same : members h.list ≡ names
  same = sym (map-id (members h.list)) ∙ h.same

  by : (of : NamesOf) → NamesIs names (OpenNames all of) rest → Stands all (end_names names of) rest
  by (contract_names draft) n =
      let word = n.opened in
      let before_it = word.opened.opened in
      record {
        bare = before_it.bare;
        clauses = record {
          before = (word.least, draft.method);
          member = modifies_clause word.opened.place n.text;
          fits = (word.fits, n.fits);
          same = ap (λ (x : List Name). (2, record draft.method { modifies = x })) n.same;
          opened = before_it.clauses;
        };
      }
  by (loop_names place test at) n = (refl, n)

-- Statements and parts where they begin.

pub begin_stmt_stands : (all : List Tok) (at : Within) (token : Tok) (rest : List Tok) → IsBare token → In all at (token ∷ rest)
    → IfSome (begin_stmt at token) (λ state. Stands all state rest)
begin_stmt_stands all at token rest bare h =
    or_case (is kind.Val token) (Some (value_name true token.place at)) _ (λ state. Stands all state rest)
    (λ b. at_step kind.Val token rest (In all at) refl refl bare b h)
    (λ b. or_case (is kind.Var token) (Some (value_name false token.place at)) _ (λ state. Stands all state rest)
    (λ b. at_step kind.Var token rest (In all at) refl refl bare b h)
    (λ b. or_case (is_name token) (Some (name_seen (name_of token) at)) _ (λ state. Stands all state rest)
    (λ b. name_step token rest (In all at) b h)
    (λ b. or_case (is kind.If token) (Some (if_left token.place (in_block at.stmts at.block))) _ (λ state. Stands all state rest)
    (λ b. at_step kind.If token rest (In all at) refl refl bare b h)
    (λ b. or_case (is kind.While token) (Some (loop_left token.place at)) _ (λ state. Stands all state rest)
    (λ b. at_step kind.While token rest (In all at) refl refl bare b h)
    (λ b. or_case (is kind.Assert token) (Some (assert_left token.place at)) _ (λ state. Stands all state rest)
    (λ b. at_step kind.Assert token rest (In all at) refl refl bare b h)
    (λ b. on_case (is kind.Deduce token) (steps_left token.place at) (λ state. Stands all state rest)
    (λ b. at_step kind.Deduce token rest (In all at) refl refl bare b h)))))))

pub part_stands : (all : List Tok) (least : ℕ) (draft : Draft) (token : Tok) (rest : List Tok) → IsBare token → Parts all least draft (token ∷ rest)
    → IfSome (next_part least draft token) (λ state. Stands all state rest)
part_stands all least draft token rest bare h =
    or_case (is kind.RightBrace token) (Some (end_method draft)) _ (λ state. Stands all state rest)
    (λ b. let h' = at_step kind.RightBrace token rest (Parts all least draft) refl refl bare b h in
    method_ends all least draft h'.bare token.place rest (whole_front kind.Newline part_tokens PartFits part_step (0, h'.bare)
    (BodyBegin all draft.done h'.bare) (least, draft.method) (sign kind.RightBrace token.place ∷ rest) h'.parts))
    (λ b. or_case (is kind.Contract token) (on (leb least 0) (clauses_due draft)) _ (λ state. Stands all state rest)
    (λ b. on_case (leb least 0) (clauses_due draft) (λ state. Stands all state rest) (λ o. record {
      least = least;
      is_first = leb-true least 0 o;
      opened = sign_step kind.Contract token rest (Parts all least draft) refl refl bare b h;
    }))
    (λ b. or_case (is kind.Return token) (on (leb least 2) (want (alone (returned token.place draft)))) _ (λ state. Stands all state rest)
    (λ b. on_case (leb least 2) (want (alone (returned token.place draft))) (λ state. Stands all state rest) (λ o. record {
      least = least;
      fits = leb-true least 2 o;
      opened = at_step kind.Return token rest (Parts all least draft) refl refl bare b h;
    }))
    (λ b. or_case (leb least 1) (begin_stmt (record { stmts = draft.method.body; block = body_of draft }) token) None (λ state. Stands all state rest)
    (λ o. begin_stmt_stands all (record { stmts = draft.method.body; block = body_of draft }) token rest bare
    (record { least = least; no_return = leb-true least 1 o; opened = h }))
    (λ o. tt))))
