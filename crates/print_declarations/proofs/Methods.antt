-- What is printed of a method is in the grammar, and has the same tree without places.
use Rattle.std.proofs.Common.{Bool, ◌≡◌, ℕ, ◌≤◌, List, [], ◌∷◌, ◌++◌, map, Option, Some, None, refl, sym, ap, ap₂, ◌∙◌, subst, arith, append-nil, append_assoc}
use Rattle.std.specs.List.{AllByRecursion}
use Rattle.std.specs.Option.{option_map}
use Rattle.slang_tree.specs.declared.expression.Name.{Name}
use Rattle.slang_tree.specs.TypeTree.{TypeTree}
use Rattle.slang_tree.specs.ExprTree.{ExprTree, exprs_of}
use Rattle.slang_tree.specs.StmtTree.{StmtTree}
use Rattle.slang_tree.specs.DeclTree.{TypedName, ReturnTree, MethodDeclTree}
use Rattle.slang_grammar.specs.Parts.{members, IsPlain}
use Rattle.slang_grammar.specs.Expressions.{HasExpr, IsGrouped, AreGrouped, expr_tree, expr_trees}
use Rattle.slang_grammar.specs.Statements.{IsStmt, stmt_tree}
use Rattle.slang_grammar.specs.Declarations.{ClauseText, requires_clause, modifies_clause, ensures_clause, IsClause, Ascends, PartText, contract_part, stmt_part, return_part, IsPart, InOrder, MethodText, IsMethod, with_clause, with_clauses, with_part, with_parts, bare_method as empty_method, method_tree}
use Rattle.print_expressions.specs.Bare.{nowhere, bare_name, bare_type, bare_expr}
use Rattle.print_expressions.specs.Accounts.{expr_account, exprs_account}
use Rattle.print_expressions.proofs.Back.{expressions_read_back}
use Rattle.print_statements.specs.Bare.{bare_stmt}
use Rattle.print_statements.specs.Accounts.{listed_of, stmt_account}
use Rattle.print_statements.proofs.Lists.{listed_members, listed_all, names_plain, names_some, expressions_back}
use Rattle.print_statements.proofs.Back.{stmt_back}
use Rattle.print_declarations.specs.Bare.{bare_typed, bare_return, bare_method}
use Rattle.print_declarations.specs.Accounts.{requires_clauses, modifies_clauses, ensures_clauses, clauses_of, contract_parts, stmt_parts, return_parts, parts_of, method_account, param_account}
use Rattle.print_declarations.proofs.Parts.{IsTypeBack, IsTypedBack, params_back, params_are, params_same}
use Rattle.slang_grammar.specs.Parts.{typed_tree, type_tree}
use Rattle.slang_grammar.specs.Declarations.{IsParam, param_tree}
use Rattle.print_expressions.specs.Accounts.{type_account}
use Rattle.print_expressions.proofs.Back.{type_back}

-- ---- what a method of a text has

module _ (light : Bool) where
  abbrev AreClaimsBack : List ExprTree → Type 0
  AreClaimsBack claims =
      AreGrouped (exprs_account light (exprs_of claims)) × (expr_trees (exprs_account light (exprs_of claims)) ≡ map bare_expr claims)

  abbrev IsStmtBack : StmtTree → Type 0
  IsStmtBack stmt = IsStmt (stmt_account light stmt) × (stmt_tree (stmt_account light stmt) ≡ bare_stmt stmt)

  abbrev IsReturnBack : Option ReturnTree → Type 0
  IsReturnBack None = Unit {0}
  IsReturnBack (Some returned) = IsGrouped (expr_account light returned.value) × (expr_tree (expr_account light returned.value) ≡ bare_expr returned.value)

  record IsFine (method : MethodDeclTree) : Type 0 where
    requires_ : AreClaimsBack method.requires_
    modifies : AllByRecursion IsPlain method.modifies
    ensures_ : AreClaimsBack method.ensures_
    body : AllByRecursion IsStmtBack method.body
    returned : IsReturnBack method.returned

  fine_clause : (method : MethodDeclTree) (clause : ClauseText) → IsFine method → IsClause clause → IsFine (with_clause method clause)
  fine_clause method (requires_clause word claims) fine h = record {
    requires_ = expressions_back light claims.claims h.1;
    modifies = fine.modifies;
    ensures_ = fine.ensures_;
    body = fine.body;
    returned = fine.returned;
  }
  fine_clause method (modifies_clause word names) fine h = record {
    requires_ = fine.requires_;
    modifies = h.1;
    ensures_ = fine.ensures_;
    body = fine.body;
    returned = fine.returned;
  }
  fine_clause method (ensures_clause word claims) fine h = record {
    requires_ = fine.requires_;
    modifies = fine.modifies;
    ensures_ = expressions_back light claims.claims h.1;
    body = fine.body;
    returned = fine.returned;
  }

  fine_clauses : (method : MethodDeclTree) (clauses : List ClauseText) → IsFine method → AllByRecursion IsClause clauses → IsFine (with_clauses method clauses)
  fine_clauses method [] fine h = fine
  fine_clauses method (clause ∷ clauses) fine h = fine_clauses (with_clause method clause) clauses (fine_clause method clause fine h.0) h.1

  all_append : {A : Type 0} (P : A → Type 0) (xs ys : List A) → AllByRecursion P xs → AllByRecursion P ys → AllByRecursion P (xs ++ ys)
  all_append P [] ys h k = k
  all_append P (x ∷ xs) ys h k = (h.0, all_append P xs ys h.1 k)

  fine_part : (method : MethodDeclTree) (part : PartText) → IsFine method → IsPart part → IsFine (with_part method part)
  fine_part method (contract_part contract) fine h = fine_clauses method (members contract.clauses) fine h.1
  fine_part method (stmt_part stmt) fine h = record {
    requires_ = fine.requires_;
    modifies = fine.modifies;
    ensures_ = fine.ensures_;
    body = all_append IsStmtBack method.body (stmt_tree stmt ∷ []) fine.body (stmt_back light stmt h, tt);
    returned = fine.returned;
  }
  fine_part method (return_part word e) fine h = record {
    requires_ = fine.requires_;
    modifies = fine.modifies;
    ensures_ = fine.ensures_;
    body = fine.body;
    returned = expressions_read_back light e h;
  }

  fine_parts : (method : MethodDeclTree) (parts : List PartText) → IsFine method → AllByRecursion IsPart parts → IsFine (with_parts method parts)
  fine_parts method [] fine h = fine
  fine_parts method (part ∷ parts) fine h = fine_parts (with_part method part) parts (fine_part method part fine h.0) h.1

  -- ---- the parts that are printed

  has_expr : (claim : ExprTree) (claims : List ExprTree) → HasExpr (exprs_account light (exprs_of (claim ∷ claims)))
  has_expr claim [] = tt
  has_expr claim (next ∷ claims) = tt

  requires_are : (claims : List ExprTree) → AreClaimsBack claims → AllByRecursion IsClause (requires_clauses light claims)
  requires_are [] h = tt
  requires_are (claim ∷ claims) h = ((has_expr claim claims, h.0), tt)

  ensures_are : (claims : List ExprTree) → AreClaimsBack claims → AllByRecursion IsClause (ensures_clauses light claims)
  ensures_are [] h = tt
  ensures_are (claim ∷ claims) h = ((has_expr claim claims, h.0), tt)

  modifies_are : (names : List Name) → AllByRecursion IsPlain names → AllByRecursion IsClause (modifies_clauses names)
  modifies_are [] h = tt
  modifies_are (name ∷ names) h = ((names_some (name ∷ names) (omega arith), names_plain (name ∷ names) h), tt)

  clauses_ascend : (requires_ : List ExprTree) (modifies : List Name) (ensures_ : List ExprTree) →
      Ascends 0 (requires_clauses light requires_ ++ modifies_clauses modifies ++ ensures_clauses light ensures_)
  clauses_ascend [] [] [] = tt
  clauses_ascend [] [] (e ∷ es) = (omega arith, tt)
  clauses_ascend [] (m ∷ ms) [] = (omega arith, tt)
  clauses_ascend [] (m ∷ ms) (e ∷ es) = (omega arith, (omega arith, tt))
  clauses_ascend (r ∷ rs) [] [] = (omega arith, tt)
  clauses_ascend (r ∷ rs) [] (e ∷ es) = (omega arith, (omega arith, tt))
  clauses_ascend (r ∷ rs) (m ∷ ms) [] = (omega arith, (omega arith, tt))
  clauses_ascend (r ∷ rs) (m ∷ ms) (e ∷ es) = (omega arith, (omega arith, (omega arith, tt)))

  clauses_are : (method : MethodDeclTree) → IsFine method → AllByRecursion IsClause (clauses_of light method)
  clauses_are method fine =
      all_append IsClause (requires_clauses light method.requires_ ++ modifies_clauses method.modifies) (ensures_clauses light method.ensures_)
      (all_append IsClause (requires_clauses light method.requires_) (modifies_clauses method.modifies) (requires_are method.requires_ fine.requires_)
      (modifies_are method.modifies fine.modifies)) (ensures_are method.ensures_ fine.ensures_)

  contract_are : (clauses : List ClauseText) → Ascends 0 clauses → AllByRecursion IsClause clauses → AllByRecursion IsPart (contract_parts clauses)
  contract_are [] h k = tt
  contract_are (clause ∷ clauses) h k =
      ((subst (Ascends 0) (sym (listed_members (clause ∷ clauses))) h, listed_all IsClause (clause ∷ clauses) k), tt)

  stmts_are : (stmts : List StmtTree) → AllByRecursion IsStmtBack stmts → AllByRecursion IsPart (stmt_parts light stmts)
  stmts_are [] h = tt
  stmts_are (stmt ∷ stmts) h = (h.0.0, stmts_are stmts h.1)

  return_are : (returned : Option ReturnTree) → IsReturnBack returned → AllByRecursion IsPart (return_parts light returned)
  return_are None h = tt
  return_are (Some returned) h = (h.0, tt)

  -- a return stands at the end
  return_order : (least : ℕ) (returned : Option ReturnTree) → least ≤ 2 → InOrder least (return_parts light returned)
  return_order least None h = tt
  return_order least (Some returned) h = (h, tt)

  stmts_order : (least : ℕ) (stmts : List StmtTree) (returned : Option ReturnTree) → least ≤ 1 → InOrder least (stmt_parts light stmts ++ return_parts light returned)
  stmts_order least [] returned h = return_order least returned (omega arith)
  stmts_order least (stmt ∷ stmts) returned h = (h, stmts_order 1 stmts returned (omega arith))

  parts_order : (clauses : List ClauseText) (stmts : List StmtTree) (returned : Option ReturnTree) →
      InOrder 0 (contract_parts clauses ++ stmt_parts light stmts ++ return_parts light returned)
  parts_order [] stmts returned = stmts_order 0 stmts returned (omega arith)
  parts_order (clause ∷ clauses) stmts returned = (omega arith, stmts_order 1 stmts returned (omega arith))

  parts_are : (method : MethodDeclTree) → IsFine method → AllByRecursion IsPart (parts_of light method)
  parts_are method fine =
      all_append IsPart (contract_parts (clauses_of light method) ++ stmt_parts light method.body) (return_parts light method.returned)
      (all_append IsPart (contract_parts (clauses_of light method)) (stmt_parts light method.body)
      (contract_are (clauses_of light method) (clauses_ascend method.requires_ method.modifies method.ensures_) (clauses_are method fine))
      (stmts_are method.body fine.body)) (return_are method.returned fine.returned)

  -- ---- the tree of what is printed

  clauses_join : (method : MethodDeclTree) (xs ys : List ClauseText) → with_clauses method (xs ++ ys) ≡ with_clauses (with_clauses method xs) ys
  clauses_join method [] ys = refl
  clauses_join method (x ∷ xs) ys = clauses_join (with_clause method x) xs ys

  parts_join : (method : MethodDeclTree) (xs ys : List PartText) → with_parts method (xs ++ ys) ≡ with_parts (with_parts method xs) ys
  parts_join method [] ys = refl
  parts_join method (x ∷ xs) ys = parts_join (with_part method x) xs ys

  module _ (written : Name) (params : List TypedName) (ty : TypeTree) where
    abbrev made : List ExprTree → List Name → List ExprTree → List StmtTree → Option ReturnTree → MethodDeclTree
    made requires_ modifies ensures_ body returned = record {
      written = written;
      params = params;
      result = ty;
      requires_ = requires_;
      modifies = modifies;
      ensures_ = ensures_;
      body = body;
      returned = returned;
    }

    requires_made : (claims : List ExprTree) → AreClaimsBack claims → with_clauses (made [] [] [] [] None) (requires_clauses light claims) ≡ made (map bare_expr claims) [] [] [] None
    requires_made [] h = refl
    requires_made (claim ∷ claims) h = ap (λ cs. made cs [] [] [] None) h.1

    modifies_made : (cs : List ExprTree) (names : List Name) → with_clauses (made cs [] [] [] None) (modifies_clauses names) ≡ made cs (map bare_name names) [] [] None
    modifies_made cs [] = refl
    modifies_made cs (name ∷ names) = ap (λ ns. made cs ns [] [] None) (listed_members (map bare_name (name ∷ names)))

    ensures_made : (cs : List ExprTree) (ns : List Name) (claims : List ExprTree) → AreClaimsBack claims →
        with_clauses (made cs ns [] [] None) (ensures_clauses light claims) ≡ made cs ns (map bare_expr claims) [] None
    ensures_made cs ns [] h = refl
    ensures_made cs ns (claim ∷ claims) h = ap (λ es. made cs ns es [] None) h.1

    clauses_made : (method : MethodDeclTree) → IsFine method →
        with_clauses (made [] [] [] [] None) (clauses_of light method) ≡ made (map bare_expr method.requires_) (map bare_name method.modifies) (map bare_expr method.ensures_) [] None
    clauses_made method fine =
        clauses_join (made [] [] [] [] None) (requires_clauses light method.requires_ ++ modifies_clauses method.modifies) (ensures_clauses light method.ensures_)
        ∙ ap (λ m. with_clauses m (ensures_clauses light method.ensures_))
        (clauses_join (made [] [] [] [] None) (requires_clauses light method.requires_) (modifies_clauses method.modifies)
        ∙ ap (λ m. with_clauses m (modifies_clauses method.modifies)) (requires_made method.requires_ fine.requires_)
        ∙ modifies_made (map bare_expr method.requires_) method.modifies)
        ∙ ensures_made (map bare_expr method.requires_) (map bare_name method.modifies) method.ensures_ fine.ensures_

    contract_made : (m : MethodDeclTree) (clauses : List ClauseText) → with_parts m (contract_parts clauses) ≡ with_clauses m clauses
    contract_made m [] = refl
    contract_made m (clause ∷ clauses) = ap (with_clauses m) (listed_members (clause ∷ clauses))

    stmts_made : (cs : List ExprTree) (ns : List Name) (es : List ExprTree) (before stmts : List StmtTree) → AllByRecursion IsStmtBack stmts →
        with_parts (made cs ns es before None) (stmt_parts light stmts) ≡ made cs ns es (before ++ map bare_stmt stmts) None
    stmts_made cs ns es before [] h = ap (λ b. made cs ns es b None) (sym (append-nil before))
    stmts_made cs ns es before (stmt ∷ stmts) h =
        ap (λ s. with_parts (made cs ns es (before ++ s ∷ []) None) (stmt_parts light stmts)) h.0.1
        ∙ stmts_made cs ns es (before ++ bare_stmt stmt ∷ []) stmts h.1
        ∙ ap (λ b. made cs ns es b None) (append_assoc before (bare_stmt stmt ∷ []) (map bare_stmt stmts))

    return_made : (cs : List ExprTree) (ns : List Name) (es : List ExprTree) (body : List StmtTree) (returned : Option ReturnTree) → IsReturnBack returned →
        with_parts (made cs ns es body None) (return_parts light returned) ≡ made cs ns es body (option_map bare_return returned)
    return_made cs ns es body None h = refl
    return_made cs ns es body (Some returned) h = ap (λ e. made cs ns es body (Some (record { place = nowhere; value = e }))) h.1

    parts_made : (method : MethodDeclTree) → IsFine method →
        with_parts (made [] [] [] [] None) (parts_of light method)
        ≡ made (map bare_expr method.requires_) (map bare_name method.modifies) (map bare_expr method.ensures_) (map bare_stmt method.body)
        (option_map bare_return method.returned)
    parts_made method fine =
        let cs = map bare_expr method.requires_ in
        let ns = map bare_name method.modifies in
        let es = map bare_expr method.ensures_ in
        parts_join (made [] [] [] [] None) (contract_parts (clauses_of light method) ++ stmt_parts light method.body) (return_parts light method.returned)
        ∙ ap (λ m. with_parts m (return_parts light method.returned))
        (parts_join (made [] [] [] [] None) (contract_parts (clauses_of light method)) (stmt_parts light method.body)
        ∙ ap (λ m. with_parts m (stmt_parts light method.body)) (contract_made (made [] [] [] [] None) (clauses_of light method) ∙ clauses_made method fine)
        ∙ stmts_made cs ns es [] method.body fine.body)
        ∙ return_made cs ns es (map bare_stmt method.body) method.returned fine.returned

  -- ---- methods

  -- what a method declares in front of its body
  record HasHead (method : MethodDeclTree) : Type 0 where
    written : IsPlain method.written
    params : AllByRecursion IsTypedBack method.params
    result : IsTypeBack method.result

  method_printed : (method : MethodDeclTree) → HasHead method → IsFine method →
      IsMethod (method_account light method) × (method_tree (method_account light method) ≡ bare_method method)
  method_printed method head fine =
      let params = listed_members (map param_account method.params) in (
        (
          head.written,
          subst (AllByRecursion IsParam) (sym params) (params_are method.params head.params),
          head.result.0,
          subst (InOrder 0) (sym (listed_members (parts_of light method))) (parts_order (clauses_of light method) method.body method.returned),
          listed_all IsPart (parts_of light method) (parts_are method fine),
        ),
        ap (λ ps. with_parts (empty_method (bare_name method.written) (map param_tree ps) (type_tree (type_account method.result))) (members (listed_of (parts_of light method)))) params
            ∙ ap₂ (λ ps ty. with_parts (empty_method (bare_name method.written) ps ty) (members (listed_of (parts_of light method)))) (params_same method.params head.params) head.result.1
            ∙ ap (with_parts (empty_method (bare_name method.written) (map bare_typed method.params) (bare_type method.result))) (listed_members (parts_of light method))
            ∙ parts_made (bare_name method.written) (map bare_typed method.params) (bare_type method.result) method fine,
      )

  head_clauses : (method : MethodDeclTree) (clauses : List ClauseText) → HasHead method → HasHead (with_clauses method clauses)
  head_clauses method [] head = head
  head_clauses method (requires_clause word claims ∷ clauses) head =
      head_clauses (with_clause method (requires_clause word claims)) clauses (record { written = head.written; params = head.params; result = head.result })
  head_clauses method (modifies_clause word names ∷ clauses) head =
      head_clauses (with_clause method (modifies_clause word names)) clauses (record { written = head.written; params = head.params; result = head.result })
  head_clauses method (ensures_clause word claims ∷ clauses) head =
      head_clauses (with_clause method (ensures_clause word claims)) clauses (record { written = head.written; params = head.params; result = head.result })

  head_parts : (method : MethodDeclTree) (parts : List PartText) → HasHead method → HasHead (with_parts method parts)
  head_parts method [] head = head
  head_parts method (contract_part contract ∷ parts) head =
      head_parts (with_part method (contract_part contract)) parts (head_clauses method (members contract.clauses) head)
  head_parts method (stmt_part stmt ∷ parts) head =
      head_parts (with_part method (stmt_part stmt)) parts (record { written = head.written; params = head.params; result = head.result })
  head_parts method (return_part word e ∷ parts) head =
      head_parts (with_part method (return_part word e)) parts (record { written = head.written; params = head.params; result = head.result })

  pub method_back : (text : MethodText) → IsMethod text →
      IsMethod (method_account light (method_tree text)) × (method_tree (method_account light (method_tree text)) ≡ bare_method (method_tree text))
  method_back text h =
      let empty = empty_method text.written (map param_tree (members text.params)) (typed_tree text.result) in
      method_printed (method_tree text)
      (head_parts empty (members text.body)
      (record { written = h.0; params = params_back (members text.params) h.1; result = type_back text.result.ty h.2 }))
      (fine_parts empty (members text.body)
      (record { requires_ = (tt, refl); modifies = tt; ensures_ = (tt, refl); body = tt; returned = tt }) h.4)
