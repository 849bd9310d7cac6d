-- What is wrong with a method, part by part, and the scope behind it.
use Rattle.std.proofs.Common.{◌≡◌, ℕ, ◌≤◌, Bool, false, Option, Some, None, List, [], ◌∷◌, ◌++◌, length, take, map, get_or, refl, sym, ap, ◌∙◌, append_assoc, length-take, take-take, arith}
use Rattle.std.proofs.lemmas.List.{same_from_push}
use Rattle.std.specs.Prelude.{find}
use Rattle.std.specs.Option.{is_some, option_map}
use Rattle.std.specs.Str.{bytes_eq}
use Rattle.slang_values.specs.Value.{ValueType}
use Rattle.slang_tree.specs.declared.place.Fault.{Fault}
use Rattle.slang_tree.specs.StmtTree.{stmts_of}
use Rattle.slang_tree.specs.DeclTree.{MethodDeclTree, TypedName}
use Rattle.name_maps.specs.Names.{is_named, named}
use Rattle.text_types.specs.TextType.{text_value}
use Rattle.name_scopes.specs.declared.scope.NameScope.{NameScope}
use Rattle.name_scopes.specs.declared.meaning.Signature.{Signature as CodeSignature}
use Rattle.name_scopes.specs.Meanings.{meant, signed}
use Rattle.name_scopes.specs.Fits.{Fits, field_known, types_known}
use Rattle.type_faults.specs.FirstFault.{with_first}
use Rattle.type_faults.proofs.First.{in_turn}
use Rattle.type_rules.specs.Judged.{Judged}
use Rattle.type_rules.specs.Meanings.{Declared, Field, Scope, Signature, all_typed, with_local}
use Rattle.type_rules.specs.Projects.{contract_scope, method_faults, param_types, result_type, signature_of, with_params}
use Rattle.header_judging.specs.Headers.{header_faults}
use Rattle.statement_judging.specs.Keeps.{Keeps}
use Rattle.statement_judging.proofs.Behind.{behind_all-depth, behind_all-fields}
use Rattle.method_judging.specs.Bodies.{after_method, behind_body, body_faults, within_body}

-- ---- what is wrong

pub method_told : (a b c : Option Fault) (names : List Declared) (at : Scope) (decl : MethodDeclTree) (has_signature : Bool) (type : Option ValueType) →
    has_signature ≡ is_some (signature_of names decl) → type ≡ (result_type names decl).type →
    b ≡ with_first a (header_faults names at decl) → c ≡ with_first b (body_faults (contract_scope names at decl) has_signature type decl) →
    c ≡ with_first a (method_faults names at decl)
method_told a b c names at decl has_signature type holds is header body =
    let contract = contract_scope names at decl in
    let own = body_faults contract (is_some (signature_of names decl)) (result_type names decl).type decl in
    body
    ∙ ap (λ h. with_first b (body_faults contract h type decl)) holds
    ∙ ap (λ t. with_first b (body_faults contract (is_some (signature_of names decl)) t decl)) is
    ∙ ap (λ f. with_first f own) header
    ∙ in_turn a (header_faults names at decl) own
    ∙ ap (with_first a) (sym (append_assoc (header_faults names at decl) _ _))

-- whether there is a signature
pub has_is : (known : Option CodeSignature) (signature : Option Signature) → option_map signed known ≡ signature → is_some known ≡ is_some signature
has_is None signature is = ap is_some is
has_is (Some known) signature is = ap is_some is

-- ---- the scope behind

-- what could be changed in the contract may be changed again, but for what the method declared
pub method_ends : (old left contract : NameScope) (names covered locals : ℕ) (outer : List (List ℕ × Unit {0})) →
    left.names ≡ take names old.names → left.records ≡ old.records → left.covered ≡ take covered outer → left.locals ≡ locals → left.depth ≡ old.depth →
    old.outside ≡ left.outside ++ outer ∷ [] → old.outside ≡ contract.outside ++ contract.covered ∷ [] → left ≡ after_method names covered locals contract old
method_ends old left contract names covered locals outer own_names records own_covered own_locals depth last outside =
    let same = same_from_push left.outside contract.outside outer contract.covered (sym last ∙ outside) in
    let covers = own_covered ∙ ap (take covered) same.1 in
    λ i. record {
      names = own_names i;
      records = records i;
      covered = covers i;
      outside = same.0 i;
      locals = own_locals i;
      depth = depth i;
    }

params-fields : (scope : Scope) (params : List TypedName) (types : List Judged) → (with_params scope params types).fields ≡ scope.fields
params-fields scope [] types = refl
params-fields scope (param ∷ params) [] = refl
params-fields scope (param ∷ params) (type ∷ types) = params-fields (with_local scope param.written.text false type.type) params types

params-depth : (scope : Scope) (params : List TypedName) (types : List Judged) → (with_params scope params types).depth ≡ scope.depth
params-depth scope [] types = refl
params-depth scope (param ∷ params) [] = refl
params-depth scope (param ∷ params) (type ∷ types) = params-depth (with_local scope param.written.text false type.type) params types

front_of : {X : Type 0} (xs ys zs : List X) → take (length xs) ys ≡ xs → take (length ys) zs ≡ ys → take (length xs) zs ≡ xs
front_of xs ys zs p q =
    let shorter : length xs ≤ length ys = omega (arith, ap length p, length-take (length xs) ys) in
    sym (take-take (length xs) (length ys) zs shorter) ∙ ap (take (length xs)) q ∙ p

-- The scope fits what it fitted before.
pub method_left : (old contract new left : NameScope) (names : List Declared) (at : Scope) (decl : MethodDeclTree) →
    Keeps old contract → take (length contract.names) new.names ≡ contract.names →
    left ≡ after_method (length old.names) (length old.covered) old.locals contract new →
    Fits old at → Fits new (behind_body (contract_scope names at decl) decl) → Fits left at
method_left old contract new left names at decl keeps kept is fits inside =
    let types = param_types names decl.params in
    let body = within_body (contract_scope names at decl) decl.modifies in
    let end_fields = behind_all-fields body (stmts_of decl.body) ∙ params-fields at decl.params types in
    let end_depth = behind_all-depth body (stmts_of decl.body) ∙ params-depth at decl.params types in
    record {
      names = λ text. ap (λ (s : NameScope). option_map meant (named s.names text)) is
          ∙ ap (λ es. option_map meant (named es text)) (front_of old.names contract.names new.names keeps.names kept)
          ∙ fits.names text;
      fields = λ number text.
          ap (λ (s : NameScope). option_map (option_map text_value) (field_known s.records number text)) is
          ∙ inside.fields number text
          ∙ ap (λ (fs : List (List Field)). option_map (λ (f : Field). f.type) (find (λ (f : Field). bytes_eq f.text text) (get_or fs number []))) end_fields;
      types = λ number.
          ap (λ (s : NameScope). option_map (map text_value) (types_known s.records number)) is
          ∙ inside.types number
          ∙ ap (λ (fs : List (List Field)). all_typed (map (λ (f : Field). f.type) (get_or fs number []))) end_fields;
      covers = λ text. ap (λ (s : NameScope). is_named s.covered text) is ∙ ap (λ es. is_named es text) keeps.covered ∙ fits.covers text;
      locals = ap (λ (s : NameScope). s.locals) is ∙ fits.locals;
      depth = ap (λ (s : NameScope). s.depth) is ∙ inside.depth ∙ end_depth;
    }
