-- The parts of a method, and the method.
use Rattle.std.proofs.Common.{◌≡◌, ℕ, ◌+◌, List, ◌∷◌, [], ◌++◌, length, map, sym, ap, ◌∙◌, length-append}
use Rattle.std.proofs.lemmas.List.{length-map}
use Rattle.program_trees.specs.Variables.{number_of, numbered_method}
use Rattle.slang_tree.specs.declared.expression.Name.{Name}
use Rattle.slang_tree.specs.StmtTree.{stmts_of}
use Rattle.slang_tree.specs.DeclTree.{MethodDeclTree}
use Rattle.program_trees.specs.Programs.{MethodTree}
use Rattle.lk_programs.specs.declared.expression.NodeNo.{NodeNo}
use Rattle.lk_programs.specs.declared.program.Noted.{Noted}
use Rattle.lk_programs.specs.declared.program.Method.{Method}
use Rattle.lk_programs.specs.Program.{code_trees, field_types, method_tree, noted_tree}
use Rattle.type_rules.specs.Meanings.{Declared, Scope, meaning_of}
use Rattle.type_rules.specs.Judged.{known_type}
use Rattle.type_rules.specs.Expressions.{in_claim, in_ensures}
use Rattle.type_rules.specs.Statements.{behind_all, local_counts}
use Rattle.type_rules.specs.Projects.{body_scope, contract_scope, param_types, result_type}
use Rattle.typed_texts.specs.Numbered.{joined, pair}
use Rattle.typed_texts.specs.Code.{all_noted, code_of_trees, locals_of_trees}
use Rattle.typed_texts.specs.TypedProjects.{global_meant, method_of_tree, return_of, types_declared}
use Rattle.typed_names.specs.declared.nodes.Nodes.{Nodes}
use Rattle.typed_names.specs.declared.variables.Numbering.{Numbering}
use Rattle.typed_names.specs.Nodes.{IsMade, with_nodes}
use Rattle.typed_names.specs.Variables.{number_in}
use Rattle.typed_names.proofs.Made.{made_headed, made_joined}
use Rattle.local_counting.proofs.Counts.{locals_counted}
use Rattle.header_making.specs.declared.headers.Header.{Header}
use Rattle.header_making.specs.Headers.{IsHeader}
use Rattle.header_making.proofs.Params.{as_many}
use Rattle.method_making.specs.declared.bodies.Body.{Body}
use Rattle.method_making.specs.declared.parts.Parts.{Parts}
use Rattle.method_making.specs.Methods.{Numbers, PartsTree, body_in, locals_in, method_in, noted_in, parts_in}
use Rattle.method_making.specs.Made.{IsBody, IsMethodOf, IsPartsOf, parts_seen}
use Rattle.method_making.proofs.Inside.{with_renamed}

-- ---- the parts

pub parts_made : (numbers : Numbering) (names : List Declared) (at : Scope) (decl : MethodDeclTree) (before one two after : Nodes) (header : Header)
    (requires_ ensures_ : List Noted) (body : Body) (parts : Parts) → IsHeader header names decl →
    IsMade before one (map noted_tree requires_) (noted_in (number_in numbers) (contract_scope names at decl) in_claim decl.requires_) →
    IsMade one two (map noted_tree ensures_)
    (noted_in (number_in numbers) (contract_scope names at decl) (in_ensures (result_type names decl).type) decl.ensures_) →
    IsBody numbers two after (field_types header.params) body (contract_scope names at decl) decl → IsPartsOf header requires_ ensures_ body parts →
    IsMade before after (parts_seen parts) (parts_in (number_in numbers) names at decl)
parts_made numbers names at decl before one two after header requires_ ensures_ body parts headed required ensured inside is =
    let f : Numbers = number_in numbers in
    let contract = contract_scope names at decl in
    let E = noted_in f contract (in_ensures (result_type names decl).type) decl.ensures_ in
    let B = body_in f (body_scope names at decl) decl in
    let rest = made_joined one two after pair (map noted_tree ensures_) (code_trees body.code) E B ensured inside.code in
    let all = made_joined before one after pair (map noted_tree requires_) (map noted_tree ensures_, code_trees body.code)
    (noted_in f contract in_claim decl.requires_) (joined pair E B) required rest in
    let locals = inside.locals ∙ ap (λ ts. ts ++ locals_of_trees (body_scope names at decl) (stmts_of decl.body)) headed.params.types in record {
      added = all.added;
      is = ap parts_seen is ∙ (λ i. record {
        params = headed.params.types i;
        result = headed.ty i;
        requires_ = (all.is i).0;
        ensures_ = (all.is i).1.0;
        locals = locals i;
        body = (all.is i).1.1;
      });
    }

-- ---- the method

pub locals_are : (names : List Declared) (at : Scope) (decl : MethodDeclTree) →
    length (locals_in names at decl) ≡ length decl.params + local_counts (stmts_of decl.body)
locals_are names at decl =
    let types = types_declared (param_types names decl.params) in
    let own = locals_of_trees (body_scope names at decl) (stmts_of decl.body) in
    length-append types own
    ∙ ap (λ n. n + length own) (length-map (param_types names decl.params) known_type ∙ as_many names decl.params)
    ∙ ap (λ n. length decl.params + n) (locals_counted (body_scope names at decl) (stmts_of decl.body))

abbrev modified : Scope → MethodDeclTree → List ℕ
modified at decl = map (λ (written : Name). global_meant (meaning_of at written.text)) decl.modifies

abbrev method_by : Scope → MethodDeclTree → ℕ → PartsTree → MethodTree ℕ
method_by at decl node parts = record {
  name = decl.written.text;
  node = node;
  params = parts.params;
  result = parts.result;
  requires_ = parts.requires_;
  modifies = modified at decl;
  ensures_ = parts.ensures_;
  locals = parts.locals;
  body = parts.body;
}

-- the whole from its parts, where the variables have these numbers
renamed_whole : (globals : ℕ) (names : List Declared) (at : Scope) (decl : MethodDeclTree) (n : ℕ) →
    method_by at decl n ((parts_in (number_of (length (locals_in names at decl)) globals) names at decl).from (n + 1))
    ≡ numbered_method globals ((method_of_tree names at decl).from n)
renamed_whole globals names at decl n =
    let f : Numbers = number_of (length (locals_in names at decl)) globals in
    let place = body_scope names at decl in
    let contract = contract_scope names at decl in
    let R = all_noted contract in_claim decl.requires_ in
    let E = all_noted contract (in_ensures (result_type names decl).type) decl.ensures_ in
    let C = code_of_trees place (stmts_of decl.body) in
    let T = return_of (behind_all place (stmts_of decl.body)) decl.returned in
    let k = n + 1 + length R.places + length E.places in
    let whole = sym (with_renamed f (C.from k) (T.from (k + length C.places))) in
    ap (λ body. record (numbered_method globals ((method_of_tree names at decl).from n)) { body = body }) whole

pub method_made : (globals : ℕ) (numbers : Numbering) (names : List Declared) (at : Scope) (decl : MethodDeclTree) (before headed_by after : Nodes)
    (node : NodeNo) (name modifies : List ℕ) (parts : Parts) (made : Method) →
    numbers.locals ≡ length decl.params + local_counts (stmts_of decl.body) → numbers.globals ≡ globals →
    node.0 ≡ length before.places → headed_by ≡ with_nodes before (decl.written.place ∷ []) →
    IsMade headed_by after (parts_seen parts) (parts_in (number_in numbers) names at decl) →
    modifies ≡ modified at decl → name ≡ decl.written.text → IsMethodOf node name modifies parts made →
    IsMade before after (method_tree made) (method_in globals names at decl)
method_made globals numbers names at decl before headed_by after node name modifies parts made counted same number added inside modify named is =
    let make = method_by at decl in
    let seen : method_tree made ≡ make node.0 (parts_seen parts) =
    ap method_tree is ∙ (λ i. record (make node.0 (parts_seen parts)) { name = named i; modifies = modify i }) in
    let headed = made_headed before headed_by after decl.written.place make node.0 (parts_seen parts) (method_tree made)
    (parts_in (number_in numbers) names at decl) number added inside seen in
    let count : numbers.locals ≡ length (locals_in names at decl) = counted ∙ sym (locals_are names at decl) in
    let n = length before.places in record {
      added = headed.added;
      is = headed.is
          ∙ ap (λ l. make n ((parts_in (number_of l numbers.globals) names at decl).from (n + 1))) count
          ∙ ap (λ g. make n ((parts_in (number_of (length (locals_in names at decl)) g) names at decl).from (n + 1))) same
          ∙ renamed_whole globals names at decl n;
    }
