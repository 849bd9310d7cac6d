-- What the methods of a typed program call is there, and the same whatever names variables have.
use Rattle.std.proofs.Common.{◌≡◌, ◌⊎◌, inl, inr, ℕ, ◌<◌, List, [], ◌∷◌, ◌++◌, Bool, true, length, get_or, map, refl, sym, ap, ap₂, ◌∙◌, subst, Some, None, zero, suc, true≢false, arith}
use Rattle.std.specs.Prelude.{nat_eq}
use Rattle.std.specs.List.{AllByRecursion}
use Rattle.std.specs.Set.{is_member}
use Rattle.std.proofs.lemmas.Bool.{or_cases}
use Rattle.std.proofs.lemmas.Bool.Decides.{Decides-eqb}
use Rattle.std.proofs.lemmas.List.{get_or-map, length-map}
use Rattle.lk_programs.specs.Program.{method_tree}
use Rattle.lk_programs.specs.Typed.{program_tree}
use Rattle.lk_programs.specs.declared.typed.Typed.{Typed}
use Rattle.lk_programs.specs.declared.program.Method.{Method}
use Rattle.method_reach.specs.Search.{called_by}
use Rattle.program_trees.specs.Programs.{CodeTree, set, give, assert, deduce, branch, loop, call, CodeTrees, no_code, code_then, MethodTree, ProgramTree, renamed_code, renamed_codes, renamed_method}
use Rattle.program_trees.specs.Variables.{Variable, variable_of, with_kinds}
use Rattle.run_rules.specs.Runs.{method_at, no_method}
use Rattle.run_rules.specs.Reach.{calls, calls_of_all}
use Rattle.typed_programs.specs.WellTyped.{Around, within, behind, End, goes_on, returns, ended, end_behind, IsTypedCode, AreTypedCodes, IsTypedMethod, IsTypedProgram, body_end, around_body}

mutual
  calls_renamed : {A B : Type 0} (f : A → B) (code : CodeTree A) → calls (renamed_code f code) ≡ calls code
  calls_renamed f (set node target value) = refl
  calls_renamed f (give node value) = refl
  calls_renamed f (assert noted) = refl
  calls_renamed f (deduce node steps) = refl
  calls_renamed f (branch node test on_true on_false) = ap₂ (λ a b. a ++ b) (all_calls_renamed f on_true) (all_calls_renamed f on_false)
  calls_renamed f (loop node test modifies invariants body) = all_calls_renamed f body
  calls_renamed f (call node target name_node method arguments) = refl

  all_calls_renamed : {A B : Type 0} (f : A → B) (codes : CodeTrees A) → calls_of_all (renamed_codes f codes) ≡ calls_of_all codes
  all_calls_renamed f no_code = refl
  all_calls_renamed f (code_then code codes) = ap₂ (λ a b. a ++ b) (calls_renamed f code) (all_calls_renamed f codes)

pub calls_with_kinds : (program : ProgramTree ℕ) (n : ℕ) (method : MethodTree ℕ) → n < length program.methods → get_or program.methods n method ≡ method
    → calls_of_all (method_at (with_kinds program) n).body ≡ calls_of_all method.body
calls_with_kinds program n method within is =
    let renamed = λ (m : MethodTree ℕ). renamed_method (variable_of (length m.locals) (length program.globals)) m in
    let found : method_at (with_kinds program) n ≡ renamed method =
    get_or-map renamed program.methods n method no_method within ∙ ap renamed is in
    ap (λ m. calls_of_all m.body) found ∙ all_calls_renamed (variable_of (length method.locals) (length program.globals)) method.body

-- ---- what is called is there

all_append : {A : Type 0} (Q : A → Type 0) (xs ys : List A) → AllByRecursion Q xs → AllByRecursion Q ys → AllByRecursion Q (xs ++ ys)
all_append Q [] ys h g = g
all_append Q (x ∷ xs) ys h g = (h.0, all_append Q xs ys h.1 g)

of_either : (Q : ℕ → Type 0) (x n : ℕ) → Q x → (b : Bool) → (b ≡ true → Q n) → (nat_eq n x ≡ true) ⊎ (b ≡ true) → Q n
of_either Q x n q b more (inl same) = subst Q (sym ((Decides-eqb n x).0 same)) q
of_either Q x n q b more (inr is) = more is

of_member : (Q : ℕ → Type 0) (xs : List ℕ) (n : ℕ) → AllByRecursion Q xs → is_member nat_eq xs n ≡ true → Q n
of_member Q [] n h is = absurd (true≢false (sym is))
of_member Q (x ∷ xs) n h is = of_either Q x n h.0 (is_member nat_eq xs n) (of_member Q xs n h.1) (or_cases (nat_eq n x) (is_member nat_eq xs n) is)

same_program : (around : Around) (code : CodeTree Variable) → (behind around code).scope.program ≡ around.scope.program
same_program around (set node x value) = refl
same_program around (give node value) = refl
same_program around (assert noted) = refl
same_program around (deduce node steps) = refl
same_program around (branch node test on_true on_false) = refl
same_program around (loop node test modifies invariants body) = refl
same_program around (call node None name_node number arguments) = refl
same_program around (call node (Some x) name_node number arguments) = refl

module _ (program : ProgramTree Variable) where
  abbrev There : ℕ → Type 0
  There n = n < length program.methods

  mutual
    there : (end : End) (around : Around) (code : CodeTree Variable) → around.scope.program ≡ program → IsTypedCode end around code → AllByRecursion There
        (calls code)
    there end around (set node x value) same h = tt
    there end around (give node value) same h = tt
    there end around (assert noted) same h = tt
    there end around (deduce node steps) same h = tt
    there end around (branch node test on_true on_false) same h =
        all_append There (calls_of_all on_true) (calls_of_all on_false) (all_there goes_on around on_true same h.2) (all_there goes_on around on_false same h.3)
    there end around (loop node test modifies invariants body) same h = all_there goes_on (within around modifies) body same h.4
    there end around (call node target name_node number arguments) same h = (subst (λ p. number < length p.methods) same h.2.there, tt)

    all_there : (end : End) (around : Around) (codes : CodeTrees Variable) → around.scope.program ≡ program → AreTypedCodes end around codes
        → AllByRecursion There (calls_of_all codes)
    all_there end around no_code same h = tt
    all_there ended around (code_then code codes) same h = absurd h
    all_there goes_on around (code_then code codes) same h =
        all_append There (calls code) (calls_of_all codes) (there goes_on around code same h.0)
        (all_there (end_behind goes_on code) (behind around code) codes (same_program around code ∙ same) h.1)
    all_there (returns t) around (code_then code codes) same h =
        all_append There (calls code) (calls_of_all codes) (there (returns t) around code same h.0)
        (all_there (end_behind (returns t) code) (behind around code) codes (same_program around code ∙ same) h.1)

all_at : {A : Type 0} (Q : A → Type 0) (xs : List A) (n : ℕ) (d : A) → n < length xs → AllByRecursion Q xs → Q (get_or xs n d)
all_at Q [] n d l h = absurd (omega arith)
all_at Q (x ∷ xs) zero d l h = h.0
all_at Q (x ∷ xs) (suc n) d l h = all_at Q xs n d (omega arith) h.1

pub called_there : (program : ProgramTree Variable) (node_files : List ℕ) (files n called : ℕ) → IsTypedProgram program node_files files
    → n < length program.methods
    → is_member nat_eq (calls_of_all (method_at program n).body) called ≡ true → called < length program.methods
called_there program node_files files n called typed within is =
    let method = method_at program n in
    let fine = all_at (IsTypedMethod program (length node_files)) program.methods n no_method within typed.methods in
    of_member (λ m. m < length program.methods) (calls_of_all method.body) called
    (all_there program (body_end program (length node_files) method method.result)
    (around_body program (length node_files) method) method.body refl fine.body) is

-- ---- the methods of a typed program

methods_length : (typed : Typed) → length (with_kinds (program_tree typed)).methods ≡ length typed.methods
methods_length typed = length-map _ _ ∙ length-map _ _

pub called_is : (typed : Typed) (n : ℕ) (method : Method) (slice : List Method) → n < length typed.methods → slice ≡ typed.methods
    → method ≡ get_or slice n method
    → calls_of_all (method_tree method).body ≡ called_by (with_kinds (program_tree typed)) n
called_is typed n method slice within same is =
    sym (calls_with_kinds (program_tree typed) n (method_tree method) (subst (λ l. n < l) (sym (length-map typed.methods method_tree)) within)
    (get_or-map method_tree typed.methods n method (method_tree method) within ∙ ap method_tree (ap (λ s. get_or s n method) (sym same) ∙ sym is)))

pub all_there_of : (typed : Typed) (n called : ℕ) (calls : List ℕ) → n < length typed.methods → calls ≡ called_by (with_kinds (program_tree typed)) n
    → is_member nat_eq calls called ≡ true → called < length typed.methods
all_there_of typed n called calls within same is =
    subst (λ l. called < l) (methods_length typed)
    (called_there (with_kinds (program_tree typed)) (map (λ node. node.file) typed.nodes) (length typed.files) n called typed.well_typed
    (subst (λ l. n < l) (sym (methods_length typed)) within) (subst (λ ns. is_member nat_eq ns called ≡ true) same is))
