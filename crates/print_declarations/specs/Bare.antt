-- Constants and declarations without places.
use Rattle.std.specs.Prelude.{List, map}
use Rattle.std.specs.Option.{option_map}
use Rattle.slang_tree.specs.DeclTree.{ConstTree, const_number, const_minus, const_truth, const_falsity, const_sequence, const_record, ConstTrees, no_consts, const_then, TypedName, GlobalDeclTree, RecordDeclTree, ReturnTree, MethodDeclTree, DeclTree, import_decl, global_decl, record_decl, method_decl}
use Rattle.print_expressions.specs.Bare.{nowhere, bare_name, bare_type, bare_expr}
use Rattle.print_statements.specs.Bare.{bare_stmt}

abbrev mutual
  pub bare_const : ConstTree → ConstTree
  bare_const (const_number place z) = const_number nowhere z
  bare_const (const_minus place digits z) = const_minus nowhere nowhere z
  bare_const (const_truth place) = const_truth nowhere
  bare_const (const_falsity place) = const_falsity nowhere
  bare_const (const_sequence place ty elements) = const_sequence nowhere (option_map bare_type ty) (bare_consts elements)
  bare_const (const_record written fields) = const_record (bare_name written) (bare_consts fields)

  pub bare_consts : ConstTrees → ConstTrees
  bare_consts no_consts = no_consts
  bare_consts (const_then tree trees) = const_then (bare_const tree) (bare_consts trees)

abbrev pub bare_typed : TypedName → TypedName
bare_typed named = record { written = bare_name named.written; ty = bare_type named.ty }

abbrev pub bare_return : ReturnTree → ReturnTree
bare_return returned = record { place = nowhere; value = bare_expr returned.value }

abbrev pub bare_global : GlobalDeclTree → GlobalDeclTree
bare_global decl = record {
  place = nowhere;
  fixed = decl.fixed;
  written = bare_name decl.written;
  ty = option_map bare_type decl.ty;
  init = bare_const decl.init;
}

abbrev pub bare_record : RecordDeclTree → RecordDeclTree
bare_record decl = record { place = nowhere; written = bare_name decl.written; fields = map bare_typed decl.fields }

abbrev pub bare_method : MethodDeclTree → MethodDeclTree
bare_method decl = record {
  written = bare_name decl.written;
  params = map bare_typed decl.params;
  result = bare_type decl.result;
  requires_ = map bare_expr decl.requires_;
  modifies = map bare_name decl.modifies;
  ensures_ = map bare_expr decl.ensures_;
  body = map bare_stmt decl.body;
  returned = option_map bare_return decl.returned;
}

abbrev pub bare_decl : DeclTree → DeclTree
bare_decl (import_decl place path) = import_decl nowhere (map bare_name path)
bare_decl (global_decl decl) = global_decl (bare_global decl)
bare_decl (record_decl decl) = record_decl (bare_record decl)
bare_decl (method_decl decl) = method_decl (bare_method decl)

abbrev pub bare_file : List DeclTree → List DeclTree
bare_file decls = map bare_decl decls
