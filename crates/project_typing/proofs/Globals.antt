-- The globals of a project without faults.
use Rattle.std.proofs.Common.{◌≡◌, ℕ, suc, ◌+◌, ◌<◌, ◌≤◌, true, false, not, List, [], ◌∷◌, length, slice_get, Option, Some, None, option_map, refl, sym, ap, ◌∙◌, subst, arith}
use Rattle.std.specs.Option.{option_map_or}
use Rattle.std.specs.List.{AllByRecursion}
use Rattle.std.proofs.lemmas.Option.{slice_get_within}
use Rattle.slang_values.specs.Value.{ValueType}
use Rattle.slang_tree.specs.DeclTree.{ConstTree, GlobalDeclTree, DeclTree}
use Rattle.program_trees.specs.Claims.{ClaimName}
use Rattle.program_trees.specs.Programs.{GlobalTree, ProgramTree}
use Rattle.program_trees.specs.Variables.{Variable}
use Rattle.run_rules.specs.Runs.{no_method}
use Rattle.typed_programs.specs.WellTyped.{is_program_type, nothing_named, IsTypedGlobal}
use Rattle.type_rules.specs.Meanings.{Scope}
use Rattle.type_rules.specs.Judged.{known_type}
use Rattle.type_rules.specs.Constants.{judged_const}
use Rattle.type_rules.specs.Statements.{declared_type}
use Rattle.type_rules.specs.Projects.{outline_of, global_faults}
use Rattle.typed_texts.specs.Code.{type_declared}
use Rattle.typed_texts.specs.TypedProjects.{records_of}
use Rattle.claim_typing.proofs.Parts.{none_is_some}
use Rattle.text_heights.specs.Heights.{const_height}
use Rattle.statement_typing.proofs.Types.{value_typed, program_type, is_result}
use Rattle.statement_typing.proofs.Typed.{has_known}
use Rattle.statement_typing.proofs.Declares.{HasSide, Declares, declares}
use Rattle.constant_typing.specs.Constants.{HasRecords}
use Rattle.constant_typing.proofs.Constants.{constants_have_types, constants_constant, const_good, constants_values}
use Rattle.declaration_typing.specs.Records.{RecordsFit}
use Rattle.project_typing.proofs.Members.{AllTwo, IsGlobalOf}

abbrev pub nothing_known : ClaimName Variable → Option ValueType
nothing_known a = None

-- from that place on a list is this one
abbrev pub HasTail : {A : Type 0} → List A → ℕ → List A → Type 0
HasTail {A} all start tail = (k : ℕ) (a : A) → slice_get tail k ≡ Some a → slice_get all (start + k) ≡ Some a

pub whole_tail : {A : Type 0} (all : List A) → HasTail all 0 all
whole_tail {A} all k a h = subst (λ n. slice_get all n ≡ Some a) (let e : k ≡ 0 + k = omega arith in e) h

first_there : {A : Type 0} (all : List A) (start : ℕ) (a : A) (tail : List A) → HasTail all start (a ∷ tail) → slice_get all start ≡ Some a
first_there all start a tail h = subst (λ n. slice_get all n ≡ Some a) (let e : start + 0 ≡ start = omega arith in e) (h 0 a refl)

next_tail : {A : Type 0} (all : List A) (start : ℕ) (a : A) (tail : List A) → HasTail all start (a ∷ tail) → HasTail all (start + 1) tail
next_tail all start a tail h k b e = subst (λ n. slice_get all n ≡ Some b) (let q : start + suc k ≡ start + 1 + k = omega arith in q) (h (suc k) b e)

module _ (decls : List DeclTree) (fit : RecordsFit decls) (nodes : ℕ) (gs : List (GlobalTree Variable)) where
  abbrev outline : Scope
  outline = outline_of decls

  pub has_records : HasRecords (records_of decls) (outline_of decls)
  has_records = record { classes = fit.classes; same_fields = fit.same_fields }

  const_side : (tree : ConstTree) → (judged_const outline tree).faults ≡ [] → (t : ValueType) × HasSide (records_of decls) (judged_const outline tree) t
  const_side tree h =
      let part = judged_const outline tree in
      let typed = has_known part (constants_have_types (records_of decls) outline has_records tree h) in
      let g = const_good (records_of decls) nothing_known outline has_records tree 0 (known_type part) typed in (
        known_type part,
        record {
          typed = typed;
          known = is_result (records_of decls) (known_type part)
              (program_type (records_of decls) (known_type part)
              (value_typed (records_of decls) nothing_known (λ a t k. none_is_some k) fit.value_fields _ (known_type part) g.typed g.elements) g.known);
        },
      )

  pub global_declares : (decl : GlobalDeclTree) → global_faults (outline_of decls) decl ≡ [] →
      (t : ValueType) × Declares (records_of decls) (outline_of decls) fit.classes decl.ty (judged_const (outline_of decls) decl.init) t
  global_declares decl h = declares (records_of decls) outline fit.classes decl.ty (judged_const outline decl.init) (const_side decl.init) h

  -- the global of that number is the one that is declared
  pub record IsGlobalThere (g : ℕ) (decl : GlobalDeclTree) : Type 0 where
    pub type : ValueType
    pub declared : declared_type (outline_of decls) decl.ty (judged_const (outline_of decls) decl.init) ≡ Some type
    pub known : is_program_type (records_of decls) type ≡ true
    pub type_there : option_map (λ x. x.type) (slice_get gs g) ≡ Some type
    pub var_there : not decl.fixed ≡ true → option_map_or (λ x. not x.fixed) (slice_get gs g) false ≡ true
    pub below : g < length gs

  abbrev pub AreGlobalsThere : ℕ → List GlobalDeclTree → Type 0
  AreGlobalsThere g [] = Unit {0}
  AreGlobalsThere g (decl ∷ ds) = IsGlobalThere g decl × AreGlobalsThere (g + 1) ds

  type_is : (decl : GlobalDeclTree) (x : GlobalTree Variable) (t : ValueType) → declared_type outline decl.ty (judged_const outline decl.init) ≡ Some t →
      IsGlobalOf decls nodes decl x → x.type ≡ t
  type_is decl x t declared is = ap (λ (g : GlobalTree Variable). g.type) is.same ∙ ap type_declared declared

  global_there : (g : ℕ) (decl : GlobalDeclTree) (x : GlobalTree Variable) → global_faults outline decl ≡ [] → IsGlobalOf decls nodes decl x →
      slice_get gs g ≡ Some x → IsGlobalThere g decl
  global_there g decl x clean is there =
      let d = global_declares decl clean in
      record {
        type = d.0;
        declared = d.1.declared;
        known = d.1.known;
        type_there = ap (option_map (λ (y : GlobalTree Variable). y.type)) there ∙ ap Some (type_is decl x d.0 d.1.declared is);
        var_there = λ var. ap (λ o. option_map_or (λ (y : GlobalTree Variable). not y.fixed) o false) there
            ∙ ap (λ (y : GlobalTree Variable). not y.fixed) is.same ∙ var;
        below = slice_get_within gs g x there;
      }

  pub globals_there : (g : ℕ) (ds : List GlobalDeclTree) (tail : List (GlobalTree Variable)) →
      AllByRecursion (λ decl. global_faults (outline_of decls) decl ≡ []) ds → AllTwo (IsGlobalOf decls nodes) ds tail → HasTail gs g tail → AreGlobalsThere g ds
  globals_there g [] [] clean two has = tt
  globals_there g [] (x ∷ tail) clean two has = absurd two
  globals_there g (decl ∷ ds) [] clean two has = absurd two
  globals_there g (decl ∷ ds) (x ∷ tail) clean two has = (
    global_there g decl x clean.0 two.0 (first_there gs g x tail has),
    globals_there (g + 1) ds tail clean.1 two.1 (next_tail gs g x tail has),
  )

  -- A global is well typed in a program of these records.
  pub global_typed : (program : ProgramTree Variable) → program.records ≡ records_of decls → (decl : GlobalDeclTree) (x : GlobalTree Variable) →
      global_faults (outline_of decls) decl ≡ [] → const_height decl.init ≤ 1000 → IsGlobalOf decls nodes decl x → IsTypedGlobal program nodes x
  global_typed program same decl x clean low is =
      let d = global_declares decl clean in
      let has = subst (λ records. HasRecords records outline) (sym same) has_records in
      subst (IsTypedGlobal program nodes) (sym is.same) (record {
        type = subst (λ o. is_program_type program.records (type_declared o) ≡ true) (sym d.1.declared)
            (subst (λ records. is_program_type records d.0 ≡ true) (sym same) d.1.known);
        constant = constants_constant outline decl.init is.start;
        initial = constants_values (record { program = program; method = no_method; named = nothing_named; nodes = nodes }) outline has decl.init
            (type_declared (declared_type outline decl.ty (judged_const outline decl.init))) is.start
            (d.1.typed ∙ ap Some (sym (ap type_declared d.1.declared))) low is.room;
      })
