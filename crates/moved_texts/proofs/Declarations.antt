-- Declarations and whole texts whose tokens stand at other places.
use Rattle.std.proofs.Common.{◌≡◌, ℕ, suc, ◌≤◌, List, [], ◌∷◌, ◌++◌, map, Some, None, refl, sym, ap, ◌∙◌, subst}
use Rattle.std.specs.List.{AllByRecursion}
use Rattle.slang_lexer.specs.declared.token.TokenKind.TheVariants as kind
use Rattle.slang_tree.specs.declared.place.Place.{Place}
use Rattle.slang_tree.specs.declared.expression.Name.{Name}
use Rattle.slang_tree.specs.StmtTree.{StmtTree}
use Rattle.slang_tree.specs.DeclTree as t
use Rattle.slang_tree.specs.DeclTree.{TypedName, MethodDeclTree, DeclTree}
use Rattle.slang_tokens.specs.Tok.{sign}
use Rattle.slang_grammar.specs.Parts.{members, listed, optional, IsTyped, typed_tokens, typed_tree}
use Rattle.slang_tree.specs.TypeTree.{TypeTree}
use Rattle.slang_grammar.specs.Declarations.{const_tokens, ParamText, FieldText, IsParam, param_tokens, param_tree, IsField, field_tokens, field_tree, ClauseText, requires_clause, modifies_clause, ensures_clause, clause_tokens, IsClause, clause_order, ContractText, contract_tokens, Ascends, IsContract, PartText, contract_part, stmt_part, return_part, part_tokens, IsPart, part_order, order_behind, InOrder, PathText, path_tokens, path_name, MethodText, method_tokens, IsMethod, DeclText, import_text, global_text, record_text, method_text, decl_tokens, IsDecl, with_clause, with_clauses, with_part, with_parts, method_tree, decl_tree}
use Rattle.slang_grammar.specs.Declarations as grammar
use Rattle.slang_grammar.specs.Texts.{file_tree}
use Rattle.print_expressions.specs.Bare.{nowhere, bare_name, bare_type}
use Rattle.print_statements.specs.Bare.{bare_stmt}
use Rattle.print_declarations.specs.Bare.{bare_typed, bare_method, bare_decl}
use Rattle.moved_texts.specs.Moved.{Alike, PlacesMayMove}
use Rattle.moved_texts.proofs.Lists.{named_at, first, split, joined, consed, only, nothing, Moves, Same, move_optional, if_fine, AllAlike, move_listed, all_fine, all_same, some_alike}
use Rattle.moved_texts.proofs.Expressions.{move_names, TypedAlike, move_typed, if_typed, move_expr, move_claims}
use Rattle.moved_texts.proofs.Steps.{map-map}
use Rattle.moved_texts.proofs.Statements.{move_stmt}
use Rattle.moved_texts.proofs.Constants.{move_const, ParamAlike, move_param, FieldAlike, move_field}

-- ---- contracts

record ClauseAlike (a b : ClauseText) : Type 0 where
  order : clause_order b ≡ clause_order a
  fine : IsClause a → IsClause b
  tree : (m m' : MethodDeclTree) → bare_method m' ≡ bare_method m → bare_method (with_clause m' b) ≡ bare_method (with_clause m a)

move_clause : (c : ClauseText) → Moves ClauseText clause_tokens ClauseAlike c
move_clause (requires_clause word claims) tokens h =
    let a = first h in
    let m = move_claims claims a.rest a.behind in
    record {
      it = requires_clause a.place m.it;
      spelled = consed a.is m.spelled;
      alike = record { order = refl; fine = m.alike.fine; tree = λ x y e i. record (e i) { requires_ = m.alike.tree i } };
    }
move_clause (modifies_clause word names) tokens h =
    let a = first h in
    let m = move_names names a.rest a.behind in
    record {
      it = modifies_clause a.place m.it;
      spelled = consed a.is m.spelled;
      alike = record { order = refl; fine = m.alike.fine; tree = λ x y e i. record (e i) { modifies = m.alike.tree i } };
    }
move_clause (ensures_clause word claims) tokens h =
    let a = first h in
    let m = move_claims claims a.rest a.behind in
    record {
      it = ensures_clause a.place m.it;
      spelled = consed a.is m.spelled;
      alike = record { order = refl; fine = m.alike.fine; tree = λ x y e i. record (e i) { ensures_ = m.alike.tree i } };
    }

ascends_alike : (least : ℕ) (xs ys : List ClauseText) → AllAlike ClauseAlike xs ys → Ascends least xs → Ascends least ys
ascends_alike least [] [] h f = tt
ascends_alike least [] (y ∷ ys) h f = absurd h
ascends_alike least (x ∷ xs) [] h f = absurd h
ascends_alike least (x ∷ xs) (y ∷ ys) h f =
    (subst (λ n. least ≤ n) (sym h.0.order) f.0, subst (λ n. Ascends (suc n) ys) (sym h.0.order) (ascends_alike (suc (clause_order x)) xs ys h.1 f.1))

clauses_fine : (xs ys : List ClauseText) → AllAlike ClauseAlike xs ys → AllByRecursion IsClause xs → AllByRecursion IsClause ys
clauses_fine [] [] h f = tt
clauses_fine [] (y ∷ ys) h f = absurd h
clauses_fine (x ∷ xs) [] h f = absurd h
clauses_fine (x ∷ xs) (y ∷ ys) h f = (h.0.fine f.0, clauses_fine xs ys h.1 f.1)

clauses_tree : (xs ys : List ClauseText) → AllAlike ClauseAlike xs ys → (m m' : MethodDeclTree) → bare_method m' ≡ bare_method m
    → bare_method (with_clauses m' ys) ≡ bare_method (with_clauses m xs)
clauses_tree [] [] h m m' e = e
clauses_tree [] (y ∷ ys) h m m' e = absurd h
clauses_tree (x ∷ xs) [] h m m' e = absurd h
clauses_tree (x ∷ xs) (y ∷ ys) h m m' e = clauses_tree xs ys h.1 (with_clause m x) (with_clause m' y) (h.0.tree m m' e)

record ContractAlike (a b : ContractText) : Type 0 where
  fine : IsContract a → IsContract b
  tree : (m m' : MethodDeclTree) → bare_method m' ≡ bare_method m →
      bare_method (with_clauses m' (members b.clauses)) ≡ bare_method (with_clauses m (members a.clauses))

move_contract : (c : ContractText) → Moves ContractText contract_tokens ContractAlike c
move_contract c tokens h =
    let a = first h in
    let b = first a.behind in
    let s = split (listed kind.Comma clause_tokens c.clauses) (sign kind.RightParen c.right ∷ []) b.behind in
    let l = move_listed kind.Comma clause_tokens ClauseAlike move_clause c.clauses s.left s.first in
    let z = only s.second in
    record {
      it = record { word = a.place; left = b.place; clauses = l.it; right = z.place };
      spelled = consed a.is (consed b.is (joined s.is l.spelled z.is));
      alike = record {
        fine = λ f. (ascends_alike 0 (members c.clauses) (members l.it) l.alike f.0, clauses_fine (members c.clauses) (members l.it) l.alike f.1);
        tree = clauses_tree (members c.clauses) (members l.it) l.alike;
      };
    }

-- ---- bodies

record PartAlike (a b : PartText) : Type 0 where
  order : part_order b ≡ part_order a
  behind : order_behind b ≡ order_behind a
  fine : IsPart a → IsPart b
  tree : (m m' : MethodDeclTree) → bare_method m' ≡ bare_method m → bare_method (with_part m' b) ≡ bare_method (with_part m a)

map-push : {A B : Type 0} (f : A → B) (xs : List A) (x : A) → map f (xs ++ x ∷ []) ≡ map f xs ++ f x ∷ []
map-push f [] x = refl
map-push f (y ∷ xs) x = ap (λ ys. f y ∷ ys) (map-push f xs x)

abbrev with_body : MethodDeclTree → List StmtTree → MethodDeclTree
with_body m stmts = record m { body = stmts }

stmt_behind : (s s' : StmtTree) → bare_stmt s' ≡ bare_stmt s → (m m' : MethodDeclTree) → bare_method m' ≡ bare_method m
    → bare_method (with_body m' (m'.body ++ s' ∷ [])) ≡ bare_method (with_body m (m.body ++ s ∷ []))
stmt_behind s s' k m m' e =
    ap (with_body (bare_method m')) (map-push bare_stmt m'.body s') ∙ (λ i. with_body (e i) ((e i).body ++ k i ∷ []))
    ∙ ap (with_body (bare_method m)) (sym (map-push bare_stmt m.body s))

move_part : (p : PartText) → Moves PartText part_tokens PartAlike p
move_part (contract_part contract) tokens h =
    let m = move_contract contract tokens h in
    record {
      it = contract_part m.it;
      spelled = m.spelled;
      alike = record { order = refl; behind = refl; fine = m.alike.fine; tree = m.alike.tree };
    }
move_part (stmt_part stmt) tokens h =
    let m = move_stmt stmt tokens h in
    record {
      it = stmt_part m.it;
      spelled = m.spelled;
      alike = record { order = refl; behind = refl; fine = m.alike.fine; tree = stmt_behind _ _ m.alike.tree };
    }
move_part (return_part word e) tokens h =
    let a = first h in
    let m = move_expr e a.rest a.behind in
    record {
      it = return_part a.place m.it;
      spelled = consed a.is m.spelled;
      alike = record {
        order = refl;
        behind = refl;
        fine = m.alike.fine;
        tree = λ x y e i. record (e i) { returned = Some (record { place = nowhere; value = m.alike.tree i }) };
      };
    }

order_alike : (least : ℕ) (xs ys : List PartText) → AllAlike PartAlike xs ys → InOrder least xs → InOrder least ys
order_alike least [] [] h f = tt
order_alike least [] (y ∷ ys) h f = absurd h
order_alike least (x ∷ xs) [] h f = absurd h
order_alike least (x ∷ xs) (y ∷ ys) h f =
    (subst (λ n. least ≤ n) (sym h.0.order) f.0, subst (λ n. InOrder n ys) (sym h.0.behind) (order_alike (order_behind x) xs ys h.1 f.1))

parts_fine : (xs ys : List PartText) → AllAlike PartAlike xs ys → AllByRecursion IsPart xs → AllByRecursion IsPart ys
parts_fine [] [] h f = tt
parts_fine [] (y ∷ ys) h f = absurd h
parts_fine (x ∷ xs) [] h f = absurd h
parts_fine (x ∷ xs) (y ∷ ys) h f = (h.0.fine f.0, parts_fine xs ys h.1 f.1)

parts_tree : (xs ys : List PartText) → AllAlike PartAlike xs ys → (m m' : MethodDeclTree) → bare_method m' ≡ bare_method m
    → bare_method (with_parts m' ys) ≡ bare_method (with_parts m xs)
parts_tree [] [] h m m' e = e
parts_tree [] (y ∷ ys) h m m' e = absurd h
parts_tree (x ∷ xs) [] h m m' e = absurd h
parts_tree (x ∷ xs) (y ∷ ys) h m m' e = parts_tree xs ys h.1 (with_part m x) (with_part m' y) (h.0.tree m m' e)

-- ---- methods

abbrev MethodAlike : MethodText → MethodText → Type 0
MethodAlike = Same MethodText MethodDeclTree IsMethod (λ m. bare_method (method_tree m))

params_alike : (xs ys : List ParamText) → AllAlike ParamAlike xs ys → map bare_typed (map param_tree ys) ≡ map bare_typed (map param_tree xs)
params_alike xs ys h = map-map bare_typed param_tree ys ∙ all_same IsParam (λ x. bare_typed (param_tree x)) xs ys h ∙ sym (map-map bare_typed param_tree xs)

fields_alike : (xs ys : List FieldText) → AllAlike FieldAlike xs ys → map bare_typed (map field_tree ys) ≡ map bare_typed (map field_tree xs)
fields_alike xs ys h = map-map bare_typed field_tree ys ∙ all_same IsField (λ x. bare_typed (field_tree x)) xs ys h ∙ sym (map-map bare_typed field_tree xs)

-- methods with nothing in their bodies
begun_alike : (n : Name) (place : Place) (xs ys : List TypedName) (a b : TypeTree) → map bare_typed ys ≡ map bare_typed xs → bare_type b ≡ bare_type a
    → bare_method (grammar.bare_method (named_at n place) ys b) ≡ bare_method (grammar.bare_method n xs a)
begun_alike n place xs ys a b h k = λ i. record {
  written = bare_name n;
  params = h i;
  result = k i;
  requires_ = [];
  modifies = [];
  ensures_ = [];
  body = [];
  returned = None;
}

move_method : (m : MethodText) → Moves MethodText method_tokens MethodAlike m
move_method m tokens h =
    let params = listed kind.Comma param_tokens m.params in
    let body = listed kind.Newline part_tokens m.body in
    let a = first h in
    let b = first a.behind in
    let c = first b.behind in
    let o = split (params ++ sign kind.RightParen m.right ∷ typed_tokens m.result ++ sign kind.Equals m.equals ∷ sign kind.LeftBrace m.begin ∷ body)
    (sign kind.RightBrace m.end ∷ []) c.behind in
    let q = split (params ++ sign kind.RightParen m.right ∷ typed_tokens m.result) (sign kind.Equals m.equals ∷ sign kind.LeftBrace m.begin ∷ body) o.first in
    let s = split params (sign kind.RightParen m.right ∷ typed_tokens m.result) q.first in
    let l = move_listed kind.Comma param_tokens ParamAlike move_param m.params s.left s.first in
    let d = first s.second in
    let y = move_typed m.result d.rest d.behind in
    let g = first q.second in
    let k = first g.behind in
    let p = move_listed kind.Newline part_tokens PartAlike move_part m.body k.rest k.behind in
    let z = only o.second in
    record {
      it = record {
        word = a.place;
        written = named_at m.written b.place;
        left = c.place;
        params = l.it;
        right = d.place;
        result = y.it;
        equals = g.place;
        begin = k.place;
        body = p.it;
        end = z.place;
      };
      spelled = consed a.is (consed b.is (consed c.is (joined o.is (joined q.is (joined s.is l.spelled (consed d.is y.spelled))
          (consed g.is (consed k.is p.spelled))) z.is)));
      alike = record {
        fine = λ f. (
          f.0,
          all_fine IsParam (λ x. bare_typed (param_tree x)) (members m.params) (members l.it) l.alike f.1,
          y.alike.fine f.2,
          order_alike 0 (members m.body) (members p.it) p.alike f.3,
          parts_fine (members m.body) (members p.it) p.alike f.4,
        );
        tree = parts_tree (members m.body) (members p.it) p.alike
            (grammar.bare_method m.written (map param_tree (members m.params)) (typed_tree m.result))
            (grammar.bare_method (named_at m.written b.place) (map param_tree (members l.it)) (typed_tree y.it))
            (begun_alike m.written b.place (map param_tree (members m.params)) (map param_tree (members l.it)) (typed_tree m.result) (typed_tree y.it)
            (params_alike (members m.params) (members l.it) l.alike) y.alike.tree);
      };
    }

-- ---- declarations

record PathAlike (a b : List PathText) : Type 0 where
  names : map bare_name (map path_name b) ≡ map bare_name (map path_name a)

move_path : (path : List PathText) → Moves (List PathText) path_tokens PathAlike path
move_path [] tokens h = record { it = []; spelled = nothing h; alike = record { names = refl } }
move_path (part ∷ more) tokens h =
    let a = first h in
    let b = first a.behind in
    let m = move_path more b.rest b.behind in
    record {
      it = record { dot = a.place; written = named_at part.written b.place } ∷ m.it;
      spelled = consed a.is (consed b.is m.spelled);
      alike = record { names = λ i. bare_name part.written ∷ m.alike.names i };
    }

abbrev DeclAlike : DeclText → DeclText → Type 0
DeclAlike = Same DeclText DeclTree IsDecl (λ d. bare_decl (decl_tree d))

move_decl : (decl : DeclText) → Moves DeclText decl_tokens DeclAlike decl
move_decl (import_text word name path) tokens h =
    let a = first h in
    let b = first a.behind in
    let m = move_path path b.rest b.behind in
    record {
      it = import_text a.place (named_at name b.place) m.it;
      spelled = consed a.is (consed b.is m.spelled);
      alike = record { fine = λ f. f; tree = λ i. t.import_decl nowhere (bare_name name ∷ m.alike.names i) };
    }
move_decl (global_text fixed word n ty equals init) tokens h =
    let a = first h in
    let b = first a.behind in
    let s = split (optional typed_tokens ty) (sign kind.Equals equals ∷ const_tokens init) b.behind in
    let y = move_optional typed_tokens TypedAlike move_typed ty s.left s.first in
    let c = first s.second in
    let m = move_const init c.rest c.behind in
    record {
      it = global_text fixed a.place (named_at n b.place) y.it c.place m.it;
      spelled = consed a.is (consed b.is (joined s.is y.spelled (consed c.is m.spelled)));
      alike = record {
        fine = λ f. (f.0, if_fine IsTyped (λ x. bare_type (typed_tree x)) ty y.it y.alike f.1, m.alike.fine f.2);
        tree = λ i. t.global_decl (record { place = nowhere; fixed = fixed; written = bare_name n; ty = if_typed ty y.it y.alike i; init = m.alike.tree i });
      };
    }
move_decl (record_text at_ datatype word n left fields right) tokens h =
    let a = first h in
    let b = first a.behind in
    let c = first b.behind in
    let x = first c.behind in
    let y = first x.behind in
    let s = split (listed kind.Comma field_tokens fields) (sign kind.RightParen right ∷ []) y.behind in
    let l = move_listed kind.Comma field_tokens FieldAlike move_field fields s.left s.first in
    let z = only s.second in
    record {
      it = record_text a.place b.place c.place (named_at n x.place) y.place l.it z.place;
      spelled = consed a.is (consed b.is (consed c.is (consed x.is (consed y.is (joined s.is l.spelled z.is)))));
      alike = record {
        fine = λ f. (
          f.0,
          some_alike FieldAlike (members fields) (members l.it) l.alike f.1,
          all_fine IsField (λ x. bare_typed (field_tree x)) (members fields) (members l.it) l.alike f.2,
        );
        tree = λ i. t.record_decl (record { place = nowhere; written = bare_name n; fields = fields_alike (members fields) (members l.it) l.alike i });
      };
    }
move_decl (method_text m) tokens h =
    let x = move_method m tokens h in
    record { it = method_text x.it; spelled = x.spelled; alike = record { fine = x.alike.fine; tree = λ i. t.method_decl (x.alike.tree i) } }

-- ---- whole texts

pub places_may_move : PlacesMayMove
places_may_move tokens moved file h a =
    let m = move_listed kind.Newline decl_tokens DeclAlike move_decl h.text moved (subst (λ ts. Alike ts moved) (sym h.spelled) a) in
    record {
      tree = file_tree m.it;
      in_grammar = record {
        text = m.it;
        well_formed = all_fine IsDecl (λ d. bare_decl (decl_tree d)) (members h.text) (members m.it) m.alike h.well_formed;
        spelled = m.spelled;
        shaped = refl;
      };
      same = map-map bare_decl decl_tree (members m.it)
          ∙ all_same IsDecl (λ d. bare_decl (decl_tree d)) (members h.text) (members m.it) m.alike
          ∙ sym (map-map bare_decl decl_tree (members h.text))
          ∙ ap (map bare_decl) h.shaped;
    }
