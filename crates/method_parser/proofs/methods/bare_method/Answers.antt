use Rattle.std.proofs.Common.{◌≡◌, List, [], None, Ok, Result, map, sym, ap, ◌∙◌}
use Rattle.slang_tree.specs.declared.expression.Expr.{Expr}
use Rattle.slang_tree.specs.declared.expression.Name.{Name}
use Rattle.slang_tree.specs.declared.expression.TypeName.{TypeName}
use Rattle.slang_tree.specs.declared.statement.Stmt.{Stmt}
use Rattle.slang_tree.specs.declared.declaration.MethodDecl.{MethodDecl}
use Rattle.slang_tree.specs.declared.declaration.Param.{Param}
use Rattle.slang_tree.specs.TypeTree.{type_tree}
use Rattle.slang_tree.specs.DeclTree.{param_tree, method_decl_tree}
use Rattle.slang_grammar.specs.Declarations.{bare_method}
use Rattle.token_cursor.specs.declared.stop.Stop.{Stop}
use Rattle.method_parser.proofs.methods.bare_method.Goals as goal

abbrev of : Name → List Param → TypeName → List Expr → List Name → List Expr → List Stmt → MethodDecl
of name params ty requires modifies ensures body = record {
  name = name;
  params = params;
  result = ty;
  requires_ = requires;
  modifies = modifies;
  ensures_ = ensures;
  body = body;
  returned = None;
}

bare : (given name : Name) (params : List Param) (ty : TypeName) (requires : List Expr) (modifies : List Name) (ensures : List Expr) (body : List Stmt)
    → given ≡ name → requires ≡ [] → modifies ≡ [] → ensures ≡ [] → body ≡ []
    → method_decl_tree (of name params ty requires modifies ensures body) ≡ bare_method given (map param_tree params) (type_tree ty)
bare given name params ty requires modifies ensures body n r m e b =
    ap (λ x. method_decl_tree (of x params ty requires modifies ensures body)) (sym n)
    ∙ ap (λ x. method_decl_tree (of given params ty x modifies ensures body)) r
    ∙ ap (λ x. method_decl_tree (of given params ty [] x ensures body)) m
    ∙ ap (λ x. method_decl_tree (of given params ty [] [] x body)) e
    ∙ ap (λ x. method_decl_tree (of given params ty [] [] [] x)) b

abbrev read_name : Name → Result Name Stop
read_name n = Ok n

ok_same : (a b : Name) → read_name a ≡ read_name b → a ≡ b
ok_same a b h = cc (h)

pub returns-clause-made : goal.returns-clause-made
returns-clause-made c =
    let parts = c.in_ok-name.ensures.parts in
    let read = c.in_ok-name.signature in
    (read, parts.1, bare c.args.name c.in_ok-name.name read.0 read.1 c.new.result c.new-2.result c.new-3.result c.new-4.result (ok_same _ _ parts.0) c.new.ensures c.new-2.ensures c.new-3.ensures c.new-4.ensures)
