-- The methods of a program, and claims over the variables of an environment.
use Rattle.std.proofs.Common.{◌≡◌, ℕ, zero, suc, ◌<◌, List, [], ◌∷◌, map, length, get_or, Some, refl, sym, ap, ap₂, ◌∙◌, arith}
use Rattle.std.specs.Prelude.{slice_get}
use Rattle.std.proofs.lemmas.List.{length-map}
use Rattle.program_trees.specs.Claims.{renamed_noted}
use Rattle.program_trees.specs.Programs.{ProgramTree, MethodTree, renamed_method, renamed_global}
use Rattle.program_trees.specs.Variables.{Variable, variable_of, global}
use Rattle.lk_programs.specs.declared.typed.Typed.{Typed}
use Rattle.lk_programs.specs.declared.program.Method.{Method}
use Rattle.lk_programs.specs.declared.program.Noted.{Noted}
use Rattle.lk_programs.specs.Program.{noted_tree, method_tree, global_tree}
use Rattle.run_rules.specs.Runs.{method_at, no_method}
use Rattle.expression_values.specs.declared.environment.Env.{Env}
use Rattle.expression_values.specs.Environment.{variable_in}
use Rattle.claim_tests.specs.Tested.{noted_in}
use Rattle.run_steps.specs.Steps.{program_of, IsOf}

some_inj : {A : Type 0} {x y : A} → Some x ≡ Some y → x ≡ y
some_inj e = cc

there : {A B C : Type 0} (f : A → B) (g : B → C) (xs : List A) (n : ℕ) (x : A) (past : C) → slice_get xs n ≡ Some x → get_or (map g (map f xs)) n past ≡ g (f x)
there f g [] n x past h = absurd (cc)
there f g (y ∷ xs) zero x past h = ap (λ z. g (f z)) (some_inj h)
there f g (y ∷ xs) (suc n) x past h = there f g xs n x past h

-- the element at a place that is there
pub taken : {A : Type 0} (xs : List A) (n : ℕ) (x : A) → n < length xs → x ≡ get_or xs n x → slice_get xs n ≡ Some x
taken [] n x h is = absurd (omega (arith, h))
taken (y ∷ xs) zero x h is = ap Some (sym is)
taken (y ∷ xs) (suc n) x h is = taken xs n x (omega (arith, h)) is

module _ (typed : Typed) where
  pub methods_count : length (program_of typed).methods ≡ length typed.methods
  methods_count =
      length-map (map method_tree typed.methods) (λ m. renamed_method (variable_of (length m.locals) (length (map global_tree typed.globals))) m)
      ∙ length-map typed.methods method_tree

  globals_count : length (map global_tree typed.globals) ≡ length (program_of typed).globals
  globals_count = sym (length-map (map global_tree typed.globals) (renamed_global global))

  pub method_there : (n : ℕ) (method : Method) → slice_get typed.methods n ≡ Some method
      → method_at (program_of typed) n ≡ renamed_method (variable_of (length (method_tree method).locals) (length (program_of typed).globals))
      (method_tree method)
  method_there n method h =
      there method_tree (λ m. renamed_method (variable_of (length m.locals) (length (map global_tree typed.globals))) m) typed.methods n method no_method h
      ∙ ap (λ (k : ℕ). renamed_method (variable_of (length (method_tree method).locals) k) (method_tree method)) globals_count

noted_same : (f : ℕ → Variable) (claims : List Noted) → map (λ (noted : Noted). renamed_noted f (noted_tree noted)) claims
    ≡ map (renamed_noted f) (map noted_tree claims)
noted_same f [] = refl
noted_same f (noted ∷ claims) = ap (λ ns. renamed_noted f (noted_tree noted) ∷ ns) (noted_same f claims)

pub claims_in : (env : Env) (claims : List Noted) → noted_in env claims ≡ map (renamed_noted (variable_in env)) (map noted_tree claims)
claims_in env claims = noted_same (variable_in env) claims

module _ (program : ProgramTree Variable) (number : ℕ) (method : Method) (env : Env) (fits : IsOf program number env)
    (is : method_at program number ≡ renamed_method (variable_of (length (method_tree method).locals) (length program.globals)) (method_tree method)) where
  pub variables_are : variable_in env ≡ variable_of (length (method_tree method).locals) (length program.globals)
  variables_are = ap₂ variable_of (fits.locals ∙ ap (λ (m : MethodTree Variable). length m.locals) is) fits.globals

  contract : (claims : List Noted) → noted_in env claims ≡ map (renamed_noted (variable_of (length (method_tree method).locals)
      (length program.globals))) (map noted_tree claims)
  contract claims = claims_in env claims ∙ ap (λ (f : ℕ → Variable). map (renamed_noted f) (map noted_tree claims)) variables_are

  pub requires_are : noted_in env method.requires_ ≡ (method_at program number).requires_
  requires_are = contract method.requires_ ∙ sym (ap (λ (m : MethodTree Variable). m.requires_) is)

  pub ensures_are : noted_in env method.ensures_ ≡ (method_at program number).ensures_
  ensures_are = contract method.ensures_ ∙ sym (ap (λ (m : MethodTree Variable). m.ensures_) is)
