-- A whole text as plain data.
use Rattle.std.specs.Prelude.{ℤ, Bool, List, [], ◌∷◌, map, Option}
use Rattle.std.specs.Option.{option_map}
use Rattle.slang_tree.specs.TypeTree.{TypeTree, type_tree}
use Rattle.slang_tree.specs.ExprTree.{ExprTree, expr_tree}
use Rattle.slang_tree.specs.StmtTree.{StmtTree, stmt_tree}
use Rattle.slang_tree.specs.declared.place.Place.{Place}
use Rattle.slang_tree.specs.declared.expression.Name.{Name}
use Rattle.slang_tree.specs.declared.declaration.Const.{Const, fold-Const}
use Rattle.slang_tree.specs.declared.declaration.Const.TheOpen as c
use Rattle.slang_tree.specs.declared.declaration.GlobalDecl.{GlobalDecl}
use Rattle.slang_tree.specs.declared.declaration.RecordDecl.{RecordDecl}
use Rattle.slang_tree.specs.declared.declaration.FieldDecl.{FieldDecl}
use Rattle.slang_tree.specs.declared.declaration.Param.{Param}
use Rattle.slang_tree.specs.declared.declaration.Return.{Return}
use Rattle.slang_tree.specs.declared.declaration.MethodDecl.{MethodDecl}
use Rattle.slang_tree.specs.declared.declaration.Decl.{Decl}
use Rattle.slang_tree.specs.declared.declaration.Decl.TheVariants as d
use Rattle.slang_tree.specs.declared.declaration.File.{File}

mutual
  pub data ConstTree : Type 0 where
    const_number : (place : Place) (z : ℤ) → ConstTree
    -- a minus, and the digits behind it
    const_minus : (place digits : Place) (z : ℤ) → ConstTree
    const_truth : (place : Place) → ConstTree
    const_falsity : (place : Place) → ConstTree
    const_sequence : (place : Place) (ty : Option TypeTree) (elements : ConstTrees) → ConstTree
    const_record : (written : Name) (fields : ConstTrees) → ConstTree

  pub data ConstTrees : Type 0 where
    no_consts : ConstTrees
    const_then : ConstTree → ConstTrees → ConstTrees

abbrev pub consts_of : List ConstTree → ConstTrees
consts_of [] = no_consts
consts_of (tree ∷ trees) = const_then tree (consts_of trees)

-- one level of a constant, with the trees of its parts
abbrev pub const_level : c.Const-F ConstTree → ConstTree
const_level (c.Number place z) = const_number place z
const_level (c.Minus place digits z) = const_minus place digits z
const_level (c.True place) = const_truth place
const_level (c.False place) = const_falsity place
const_level (c.Sequence place ty elements) = const_sequence place (option_map type_tree ty) (consts_of elements)
const_level (c.Record written fields) = const_record written (consts_of fields)

abbrev pub const_tree : Const → ConstTree
const_tree const = fold-Const ConstTree const_level const

-- where a constant stands
abbrev pub const_place : ConstTree → Place
const_place (const_number place z) = place
const_place (const_minus place digits z) = place
const_place (const_truth place) = place
const_place (const_falsity place) = place
const_place (const_sequence place ty elements) = place
const_place (const_record written fields) = written.place

-- a name with its type: a parameter, or a field of a record
pub record TypedName : Type 0 where
  pub written : Name
  pub ty : TypeTree

pub record GlobalDeclTree : Type 0 where
  pub place : Place
  -- a `val`
  pub fixed : Bool
  pub written : Name
  pub ty : Option TypeTree
  pub init : ConstTree

pub record RecordDeclTree : Type 0 where
  pub place : Place
  pub written : Name
  pub fields : List TypedName

pub record ReturnTree : Type 0 where
  pub place : Place
  pub value : ExprTree

pub record MethodDeclTree : Type 0 where
  pub written : Name
  pub params : List TypedName
  pub result : TypeTree
  pub requires_ : List ExprTree
  pub modifies : List Name
  pub ensures_ : List ExprTree
  pub body : List StmtTree
  pub returned : Option ReturnTree

pub data DeclTree : Type 0 where
  import_decl : (place : Place) (path : List Name) → DeclTree
  global_decl : (decl : GlobalDeclTree) → DeclTree
  record_decl : (decl : RecordDeclTree) → DeclTree
  method_decl : (decl : MethodDeclTree) → DeclTree

abbrev pub param_tree : Param → TypedName
param_tree param = record { written = param.name; ty = type_tree param.ty }

abbrev pub field_tree : FieldDecl → TypedName
field_tree field = record { written = field.name; ty = type_tree field.ty }

abbrev pub global_decl_tree : GlobalDecl → GlobalDeclTree
global_decl_tree decl = record {
  place = decl.place;
  fixed = decl.fixed;
  written = decl.name;
  ty = option_map type_tree decl.ty;
  init = const_tree decl.init;
}

abbrev pub record_decl_tree : RecordDecl → RecordDeclTree
record_decl_tree decl = record { place = decl.place; written = decl.name; fields = map field_tree decl.fields }

abbrev pub return_tree : Return → ReturnTree
return_tree returned = record { place = returned.place; value = expr_tree returned.value }

abbrev pub method_decl_tree : MethodDecl → MethodDeclTree
method_decl_tree decl = record {
  written = decl.name;
  params = map param_tree decl.params;
  result = type_tree decl.result;
  requires_ = map expr_tree decl.requires_;
  modifies = decl.modifies;
  ensures_ = map expr_tree decl.ensures_;
  body = map stmt_tree decl.body;
  returned = option_map return_tree decl.returned;
}

abbrev pub decl_tree : Decl → DeclTree
decl_tree (d.Import place path) = import_decl place path
decl_tree (d.Global decl) = global_decl (global_decl_tree decl)
decl_tree (d.Record decl) = record_decl (record_decl_tree decl)
decl_tree (d.Method decl) = method_decl (method_decl_tree decl)

abbrev pub file_tree : File → List DeclTree
file_tree file = map decl_tree file.items
