-- What is printed lightly of a file adds no more than the file.
use Rattle.std.proofs.Common.{◌≡◌, ℕ, ◌+◌, ◌<◌, ◌≤◌, max, true, List, [], ◌∷◌, ◌++◌, map, refl, ap, ◌∙◌, arith}
use Rattle.std.specs.List.{AllByRecursion}
use Rattle.slang_tree.specs.declared.expression.Name.{Name}
use Rattle.slang_tree.specs.ExprTree.{ExprTree, exprs_of}
use Rattle.slang_tree.specs.StmtTree.{StmtTree}
use Rattle.slang_tree.specs.DeclTree as t
use Rattle.slang_tree.specs.DeclTree.{ConstTree, ConstTrees, TypedName, ReturnTree, MethodDeclTree, DeclTree}
use Rattle.slang_grammar.specs.Parts.{members, typed_tree}
use Rattle.slang_grammar.specs.Expressions.{expr_trees}
use Rattle.slang_grammar.specs.Statements.{stmt_tree}
use Rattle.slang_grammar.specs.Declarations.{ConstText, const_number, const_minus, const_truth, const_falsity, const_sequence, const_record, ConstsText}
use Rattle.slang_grammar.specs.Declarations.{no_consts, last_const, const_then, const_tree, consts_tree, ParamText, param_tree, FieldText, field_tree}
use Rattle.slang_grammar.specs.Declarations.{ClauseText, requires_clause, modifies_clause, ensures_clause, IsClause, PartText, contract_part, stmt_part}
use Rattle.slang_grammar.specs.Declarations.{return_part, IsPart, PathText, path_name, MethodText, DeclText, import_text, global_text, record_text}
use Rattle.slang_grammar.specs.Declarations.{method_text, IsMethod, IsDecl, with_clause, with_clauses, with_part, with_parts, bare_method, method_tree}
use Rattle.slang_grammar.specs.Declarations.{decl_tree}
use Rattle.slang_grammar.specs.Texts.{FileText, IsFile, file_tree}
use Rattle.print_expressions.specs.Hefts.{Heft, one, around, followed, type_heft, peak_of, heavy}
use Rattle.print_expressions.specs.Accounts.{type_account, exprs_account}
use Rattle.print_statements.specs.Accounts.{listed_of, stmt_account}
use Rattle.print_statements.proofs.Lists.{listed_members}
use Rattle.print_declarations.specs.Accounts.{const_account, consts_account, param_account, field_account, requires_clauses, modifies_clauses}
use Rattle.print_declarations.specs.Accounts.{ensures_clauses, clauses_of, contract_parts, stmt_parts, return_parts, parts_of, method_account, path_account}
use Rattle.print_declarations.specs.Accounts.{decl_account, file_account}
use Rattle.light_expressions.proofs.Lightest.{expressions_are_lightest}
use Rattle.light_files.specs.Hefts.{most, stmt_heft, const_heft, consts_peak, param_peak, field_peak, clause_peak, part_peak, path_heft, method_heft}
use Rattle.light_files.specs.Hefts.{decl_peak, file_peak}
use Rattle.light_files.proofs.Lighter.{type_same, typed_same, element_same, claims_lighter, stmt_lighter}

-- ---- constants

consts_are : (c : ConstTree) (cs : ConstTrees)
    → consts_peak (consts_account (t.const_then c cs)) ≡ max (const_heft (const_account c)).peak (consts_peak (consts_account cs))
consts_are c t.no_consts = omega arith
consts_are c (t.const_then next cs) = refl

mutual
  const_same : (c : ConstText) → const_heft (const_account (const_tree c)) ≡ const_heft c
  const_same (const_number digits place) = refl
  const_same (const_minus minus digits place) = refl
  const_same (const_truth place) = refl
  const_same (const_falsity place) = refl
  const_same (const_sequence word ty left elements right) = λ i. followed (element_same ty i) (around (consts_same elements i))
  const_same (const_record n left fields right) = ap around (consts_same fields)

  consts_same : (cs : ConstsText) → consts_peak (consts_account (consts_tree cs)) ≡ consts_peak cs
  consts_same no_consts = refl
  consts_same (last_const c) = ap (λ h. h.peak) (const_same c)
  consts_same (const_then c comma more) = consts_are (const_tree c) (consts_tree more) ∙ (λ i. max (const_same c i).peak (consts_same more i))

-- ---- lists

most-append : {A : Type 0} (peak : A → ℕ) (xs ys : List A) → most peak (xs ++ ys) ≡ max (most peak xs) (most peak ys)
most-append peak [] ys = omega arith
most-append peak (x ∷ xs) ys = let h = most-append peak xs ys in omega (arith, h)

most_listed : {A : Type 0} (peak : A → ℕ) (xs : List A) → most peak (members (listed_of xs)) ≡ most peak xs
most_listed peak xs = ap (most peak) (listed_members xs)

params_same : (params : List ParamText) → most param_peak (map param_account (map param_tree params)) ≡ most param_peak params
params_same [] = refl
params_same (p ∷ params) = λ i. max (type_same p.ty.ty i).peak (params_same params i)

fields_same : (fields : List FieldText) → most field_peak (map field_account (map field_tree fields)) ≡ most field_peak fields
fields_same [] = refl
fields_same (f ∷ fields) = λ i. max (type_same f.param.ty.ty i).peak (fields_same fields i)

paths_same : (path : List PathText) → path_heft (map path_account (map path_name path)) ≡ path_heft path
paths_same [] = refl
paths_same (part ∷ more) = ap (followed one) (paths_same more)

-- ---- contracts and bodies

-- a contract with this clause adds no more than so much
abbrev Fits : ℕ → ClauseText → Type 0
Fits peak c = clause_peak c + 1 ≤ peak

abbrev AllFit : ℕ → List ClauseText → Type 0
AllFit peak cs = AllByRecursion (Fits peak) cs

fit_both : (peak : ℕ) (xs ys : List ClauseText) → AllFit peak xs → AllFit peak ys → AllFit peak (xs ++ ys)
fit_both peak [] ys h k = k
fit_both peak (x ∷ xs) ys h k = (h.0, fit_both peak xs ys h.1 k)

most_fit : (peak : ℕ) (c : ClauseText) (cs : List ClauseText) → AllFit peak (c ∷ cs) → most clause_peak (c ∷ cs) + 1 ≤ peak
most_fit peak c [] h = let u = h.0 in omega (arith, u)
most_fit peak c (next ∷ cs) h = let u = h.0 in let v = most_fit peak next cs h.1 in omega (arith, u, v)

contract_fits : (peak : ℕ) (cs : List ClauseText) → AllFit peak cs → most part_peak (contract_parts cs) ≤ peak
contract_fits peak [] h = omega arith
contract_fits peak (c ∷ cs) h = let e = most_listed clause_peak (c ∷ cs) in let u = most_fit peak c cs h in omega (arith, e, u)

all_fit : (peak : ℕ) (cs : List ClauseText) → most clause_peak cs + 1 ≤ peak → AllFit peak cs
all_fit peak [] h = tt
all_fit peak (c ∷ cs) h = (omega (arith, h), all_fit peak cs (omega (arith, h)))

-- what is printed of a method's body adds no more than so much, and what it declares adds as much as this
record IsWithin (peak params : ℕ) (result : Heft) (m : MethodDeclTree) : Type 0 where
  declared : most param_peak (map param_account m.params) ≡ params
  typed : type_heft (type_account m.result) ≡ result
  requires_ : AllFit peak (requires_clauses true m.requires_)
  modifies : AllFit peak (modifies_clauses m.modifies)
  ensures_ : AllFit peak (ensures_clauses true m.ensures_)
  body : most part_peak (stmt_parts true m.body) ≤ peak
  returned : most part_peak (return_parts true m.returned) ≤ peak

requires_fit : (peak : ℕ) (claims : List ExprTree) → peak_of (exprs_account true (exprs_of claims)) + 2 ≤ peak
    → AllFit peak (requires_clauses true claims)
requires_fit peak [] h = tt
requires_fit peak (claim ∷ claims) h = (omega (arith, h), tt)

ensures_fit : (peak : ℕ) (claims : List ExprTree) → peak_of (exprs_account true (exprs_of claims)) + 2 ≤ peak
    → AllFit peak (ensures_clauses true claims)
ensures_fit peak [] h = tt
ensures_fit peak (claim ∷ claims) h = (omega (arith, h), tt)

modifies_fit : (peak : ℕ) (names : List Name) → 2 ≤ peak → AllFit peak (modifies_clauses names)
modifies_fit peak [] h = tt
modifies_fit peak (name ∷ names) h = (omega (arith, h), tt)

stmts_more : (xs : List StmtTree) (stmt : StmtTree)
    → most part_peak (stmt_parts true (xs ++ stmt ∷ [])) ≡ max (most part_peak (stmt_parts true xs)) (stmt_heft (stmt_account true stmt)).peak
stmts_more [] stmt = omega arith
stmts_more (x ∷ xs) stmt = let h = stmts_more xs stmt in omega (arith, h)

module _ (peak params : ℕ) (result : Heft) (light : peak < heavy) where
  clause_within : (m : MethodDeclTree) (c : ClauseText) → IsClause c → clause_peak c + 1 ≤ peak → IsWithin peak params result m
      → IsWithin peak params result (with_clause m c)
  clause_within m (requires_clause word claims) g p w = record {
    declared = w.declared;
    typed = w.typed;
    requires_ = requires_fit peak (expr_trees claims.claims)
        (let h = claims_lighter claims.claims g.1 (omega (arith, p, light)) in omega (arith, h, p));
    modifies = w.modifies;
    ensures_ = w.ensures_;
    body = w.body;
    returned = w.returned;
  }
  clause_within m (modifies_clause word names) g p w = record {
    declared = w.declared;
    typed = w.typed;
    requires_ = w.requires_;
    modifies = modifies_fit peak (members names.names) (omega (arith, p));
    ensures_ = w.ensures_;
    body = w.body;
    returned = w.returned;
  }
  clause_within m (ensures_clause word claims) g p w = record {
    declared = w.declared;
    typed = w.typed;
    requires_ = w.requires_;
    modifies = w.modifies;
    ensures_ = ensures_fit peak (expr_trees claims.claims)
        (let h = claims_lighter claims.claims g.1 (omega (arith, p, light)) in omega (arith, h, p));
    body = w.body;
    returned = w.returned;
  }

  clauses_within : (m : MethodDeclTree) (cs : List ClauseText) → AllByRecursion IsClause cs → AllFit peak cs → IsWithin peak params result m
      → IsWithin peak params result (with_clauses m cs)
  clauses_within m [] g p w = w
  clauses_within m (c ∷ cs) g p w = clauses_within (with_clause m c) cs g.1 p.1 (clause_within m c g.0 p.0 w)

  part_within : (m : MethodDeclTree) (part : PartText) → IsPart part → part_peak part ≤ peak → IsWithin peak params result m
      → IsWithin peak params result (with_part m part)
  part_within m (contract_part c) g p w = clauses_within m (members c.clauses) g.1 (all_fit peak (members c.clauses) (omega (arith, p))) w
  part_within m (stmt_part stmt) g p w = record {
    declared = w.declared;
    typed = w.typed;
    requires_ = w.requires_;
    modifies = w.modifies;
    ensures_ = w.ensures_;
    body =
        let e = stmts_more m.body (stmt_tree stmt) in
        let h = stmt_lighter stmt g (omega (arith, p, light)) in
        let k = w.body in
        omega (arith, e, h, k, p);
    returned = w.returned;
  }
  part_within m (return_part word e) g p w = record {
    declared = w.declared;
    typed = w.typed;
    requires_ = w.requires_;
    modifies = w.modifies;
    ensures_ = w.ensures_;
    body = w.body;
    returned = let h = expressions_are_lightest e g (omega (arith, p, light)) in omega (arith, h, p);
  }

  parts_within : (m : MethodDeclTree) (parts : List PartText) → AllByRecursion IsPart parts → most part_peak parts ≤ peak → IsWithin peak params result m
      → IsWithin peak params result (with_parts m parts)
  parts_within m [] g p w = w
  parts_within m (part ∷ parts) g p w =
      parts_within (with_part m part) parts g.1 (omega (arith, p)) (part_within m part g.0 (omega (arith, p)) w)

  body_within : (m : MethodDeclTree) → IsWithin peak params result m → most part_peak (parts_of true m) ≤ peak
  body_within m w =
      let contract = contract_parts (clauses_of true m) in
      let a = most-append part_peak (contract ++ stmt_parts true m.body) (return_parts true m.returned) in
      let b = most-append part_peak contract (stmt_parts true m.body) in
      let c = contract_fits peak (clauses_of true m)
      (fit_both peak (requires_clauses true m.requires_ ++ modifies_clauses m.modifies) (ensures_clauses true m.ensures_)
      (fit_both peak (requires_clauses true m.requires_) (modifies_clauses m.modifies) w.requires_ w.modifies) w.ensures_) in
      let h = w.body in
      let k = w.returned in
      omega (arith, a, b, c, h, k)

method_lighter : (m : MethodText) → IsMethod m → (method_heft m).peak < heavy → (method_heft (method_account true (method_tree m))).peak ≤ (method_heft m).peak
method_lighter m g p =
    let peak = most part_peak (members m.body) in
    let params = most param_peak (members m.params) in
    let light : peak < heavy = omega (arith, p) in
    let empty = bare_method m.written (map param_tree (members m.params)) (typed_tree m.result) in
    let start : IsWithin peak params (type_heft m.result.ty) empty = record {
      declared = params_same (members m.params);
      typed = type_same m.result.ty;
      requires_ = tt;
      modifies = tt;
      ensures_ = tt;
      body = omega arith;
      returned = omega arith;
    } in
    let w = parts_within peak params (type_heft m.result.ty) light empty (members m.body) g.4 (omega arith) start in
    let h = body_within peak params (type_heft m.result.ty) light (method_tree m) w in
    let a = most_listed param_peak (map param_account (method_tree m).params) in
    let b = most_listed part_peak (parts_of true (method_tree m)) in
    let c = w.declared in
    let d = ap (λ x. x.peak) w.typed in
    let e = ap (λ x. x.count) w.typed in
    omega (arith, a, b, c, d, e, h)

-- ---- declarations

decl_lighter : (decl : DeclText) → IsDecl decl → decl_peak decl < heavy → decl_peak (decl_account true (decl_tree decl)) ≤ decl_peak decl
decl_lighter (import_text word first path) g p = let e = ap (λ h. h.peak) (paths_same path) in omega (arith, e)
decl_lighter (global_text fixed word n ty equals init) g p =
    let e : decl_peak (decl_account true (decl_tree (global_text fixed word n ty equals init))) ≡ decl_peak (global_text fixed word n ty equals init)
    = (λ i. (followed (typed_same ty i) (const_same init i)).peak) in
    omega (arith, e)
decl_lighter (record_text at datatype word n left fields right) g p =
    let a = most_listed field_peak (map field_account (map field_tree (members fields))) in
    let e = fields_same (members fields) in
    omega (arith, a, e)
decl_lighter (method_text m) g p = method_lighter m g p

decls_lighter : (decls : List DeclText) → AllByRecursion IsDecl decls → most decl_peak decls < heavy
    → file_peak (file_account true (map decl_tree decls)) ≤ most decl_peak decls
decls_lighter [] g p = omega arith
decls_lighter (decl ∷ decls) g p =
    let h = decl_lighter decl g.0 (omega (arith, p)) in
    let k = decls_lighter decls g.1 (omega (arith, p)) in
    omega (arith, h, k)

pub file_lighter : (file : FileText) → IsFile file → file_peak file < heavy → file_peak (file_account true (file_tree file)) ≤ file_peak file
file_lighter file g p = decls_lighter (members file) g p
