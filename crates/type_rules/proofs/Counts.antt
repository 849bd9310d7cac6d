-- How many methods a project may have.
use Rattle.std.proofs.Common.{not, List, length, filter_map, ap, ne_eqb, eq-eqb}
use Rattle.slang_tree.specs.DeclTree.{MethodDeclTree, DeclTree}
use Rattle.type_rules.specs.Faults.{unless, too_many_methods}
use Rattle.type_rules.specs.Projects.{method_of}
use Rattle.type_rules.specs.Laws.{CountsMethods}

pub counts_methods : (before : List DeclTree) (decl : MethodDeclTree) → CountsMethods before decl
counts_methods before decl = record {
  one_too_many = λ h. ap (λ b. unless (not b) (too_many_methods decl.written.place)) (eq-eqb (length (filter_map method_of before)) 10000 h);
  no_other = λ h. ap (λ b. unless (not b) (too_many_methods decl.written.place)) (ne_eqb (length (filter_map method_of before)) 10000 h);
}
