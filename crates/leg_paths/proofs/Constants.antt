-- Constants name no variable, so they are the same over all.
use Rattle.std.proofs.Common.{◌≡◌, ℕ, Bool, suc, ◌+◌, length, append_assoc, arith, ◌&&◌, true, false, List, [], ◌∷◌, ◌++◌, map, if◌then◌else◌, refl, ap, ap₂, sym, ◌∙◌}
use Rattle.std.specs.List.{AllByRecursion}
use Rattle.std.proofs.lemmas.Bool.{false≢true, and_parts}
use Rattle.std.proofs.lemmas.List.{append-nil}
use Rattle.slang_values.specs.Tree.{Trees, name, unary as unary_tree, listed as listed_tree, tree_then}
use Rattle.slang_values.specs.declared.operators.Unary.{Unary}
use Rattle.validity.specs.Bind.{bind_all}
use Rattle.program_trees.specs.Claims.{ClaimTree, renamed_claim, renamed_name}
use Rattle.program_trees.specs.Legs.{set}
use Rattle.program_trees.specs.Programs.{TypedExpr, number, truth, variable, unary, binary, read, update, listed, TypedExprs, no_exprs, expr_then, claim_of, claims_of, renamed_expr, renamed_exprs, renamed_global, MethodTree, ProgramTree}
use Rattle.program_trees.specs.Variables.{Variable, global}
use Rattle.typed_programs.specs.Parts.{is_constant, are_constant}
use Rattle.typed_programs.specs.WellTyped.{IsTypedGlobal}
use Rattle.lk_programs.specs.declared.program.Global.{Global}
use Rattle.lk_programs.specs.Expr.{typed_expr}
use Rattle.lk_programs.specs.Program.{global_tree}
use Rattle.leg_rules.specs.LegNames.{own, same_name}
use Rattle.leg_rules.specs.Legs.{Items, at_node, own_claim, fixed_items}
use Rattle.leg_rules.specs.Mentions.{leg_mentions}
use Rattle.leg_items.specs.declared.name.Scope.{Scope}
use Rattle.leg_items.specs.declared.name.Frame.TheVariants as f
use Rattle.leg_items.specs.Drafts.{framed}
use Rattle.leg_items.specs.Names.{frame_name}
use Rattle.leg_items.proofs.Renaming.{claim_of-renamed, renamed-renamed}
use Rattle.leg_paths.specs.Initial.{all_fixed, one_fixed}

module _ {A B C : Type 0} (r : A → B) (g h : A → C) where
  mutual
    same_constant : (e : TypedExpr A) → is_constant (renamed_expr r e) ≡ true → renamed_claim g (claim_of e) ≡ renamed_claim h (claim_of e)
    same_constant (number node z) c = refl
    same_constant (truth node b) c = refl
    same_constant (variable node x) c = absurd (false≢true c)
    same_constant (unary node Unary.Neg (number inner z)) c = refl
    same_constant (unary node Unary.Neg (truth inner b)) c = absurd (false≢true c)
    same_constant (unary node Unary.Neg (variable inner x)) c = absurd (false≢true c)
    same_constant (unary node Unary.Neg (unary inner op a)) c = absurd (false≢true c)
    same_constant (unary node Unary.Neg (binary inner op a b)) c = absurd (false≢true c)
    same_constant (unary node Unary.Neg (read inner a i)) c = absurd (false≢true c)
    same_constant (unary node Unary.Neg (update inner a i x)) c = absurd (false≢true c)
    same_constant (unary node Unary.Neg (listed inner front parts)) c = absurd (false≢true c)
    same_constant (unary node Unary.Not a) c = absurd (false≢true c)
    same_constant (unary node Unary.Size a) c = absurd (false≢true c)
    same_constant (unary node (Unary.Field k) a) c = absurd (false≢true c)
    same_constant (binary node op a b) c = absurd (false≢true c)
    same_constant (read node a i) c = absurd (false≢true c)
    same_constant (update node a i x) c = absurd (false≢true c)
    same_constant (listed node front parts) c = ap (listed_tree front) (same_constants parts c)

    same_constants : (es : TypedExprs A) → are_constant (renamed_exprs r es) ≡ true →
        bind_all (λ a. name (renamed_name g a)) (claims_of es) ≡ bind_all (λ a. name (renamed_name h a)) (claims_of es)
    same_constants no_exprs c = refl
    same_constants (expr_then e es) c = let p = and_parts _ _ c in ap₂ tree_then (same_constant e p.0) (same_constants es p.1)

-- the initial value of a global on a leg
initial_is : (scope : Scope) (e : TypedExpr ℕ) → is_constant (renamed_expr global e) ≡ true → framed (f.Own scope) (claim_of e) ≡ own_claim (claim_of (renamed_expr global e))
initial_is scope e c =
    same_constant global (frame_name (f.Own scope)) (λ n. own (global n)) e c
    ∙ sym (ap own_claim (claim_of-renamed global e) ∙ renamed-renamed own global (claim_of e))

pub fixed_are : (program : ProgramTree Variable) (nodes : ℕ) (method : MethodTree Variable) (scope : Scope) (items : Items) (n : ℕ) (globals : List Global) →
    AllByRecursion (IsTypedGlobal program nodes) (map (renamed_global global) (map global_tree globals)) →
    all_fixed scope method.node items n globals ≡ fixed_items program method items n (map (renamed_global global) (map global_tree globals))
fixed_are program nodes method scope items n [] h = refl
fixed_are program nodes method scope items n (g ∷ globals) h =
    ap₂ (λ t later. (if g.fixed && leg_mentions (same_name (own (global n))) items then at_node method.node (set (own (global n)) t) ∷ [] else []) ++ later)
    (initial_is scope (typed_expr g.init) h.0.constant) (fixed_are program nodes method scope items (suc n) globals h.1)

-- ---- one global more

module _ (scope : Scope) (node : ℕ) (items : Items) where
  fixed-append : (n : ℕ) (xs : List Global) (g : Global) → all_fixed scope node items n (xs ++ g ∷ []) ≡ all_fixed scope node items n xs ++ one_fixed scope node items (n + length xs) g
  fixed-append n [] g = let same : n ≡ n + 0 = omega arith in append-nil (one_fixed scope node items n g) ∙ ap (λ k. one_fixed scope node items k g) same
  fixed-append n (x ∷ xs) g =
      let same : suc n + length xs ≡ n + suc (length xs) = omega arith in
      ap (λ l. one_fixed scope node items n x ++ l) (fixed-append (suc n) xs g ∙ ap (λ k. all_fixed scope node items (suc n) xs ++ one_fixed scope node items k g) same)
      ∙ sym (append_assoc (one_fixed scope node items n x) (all_fixed scope node items (suc n) xs) (one_fixed scope node items (n + suc (length xs)) g))

  pub fixed-more : (place : ℕ) (xs all : List Global) (g : Global) (old middle new : Items) → all ≡ xs ++ g ∷ [] → place ≡ length xs →
      middle ≡ old ++ all_fixed scope node items 0 xs → new ≡ middle ++ one_fixed scope node items place g → new ≡ old ++ all_fixed scope node items 0 all
  fixed-more place xs all g old middle new is at a b =
      let there : 0 + length xs ≡ place = omega (arith, at) in
      let told : all_fixed scope node items 0 all ≡ all_fixed scope node items 0 xs ++ one_fixed scope node items place g =
      ap (all_fixed scope node items 0) is ∙ fixed-append 0 xs g ∙ ap (λ k. all_fixed scope node items 0 xs ++ one_fixed scope node items k g) there in
      b ∙ ap (λ l. l ++ one_fixed scope node items place g) a ∙ append_assoc old (all_fixed scope node items 0 xs) (one_fixed scope node items place g) ∙ ap (λ l. old ++ l) (sym told)

  -- it is due, or it is not
  abbrev given : ℕ → Global → Bool → Items → Items
  given place g b old =
      old ++ (if b then at_node node (set (own (global place)) (framed (f.Own scope) (claim_of (typed_expr g.init)))) ∷ [] else [])

  pub not_due : (place : ℕ) (g : Global) (old : Items) → false ≡ (g.fixed && leg_mentions (same_name (own (global place))) items) → old ≡ old ++ one_fixed scope node items place g
  not_due place g old e = sym (append-nil old) ∙ ap (λ b. given place g b old) e

  pub due : (place : ℕ) (g : Global) (t : ClaimTree ℕ) (old new : Items) → true ≡ (g.fixed && leg_mentions (same_name (own (global place))) items) → t ≡ claim_of (typed_expr g.init) →
      new ≡ old ++ at_node node (set (own (global place)) (framed (f.Own scope) t)) ∷ [] → new ≡ old ++ one_fixed scope node items place g
  due place g t old new e h k =
      k ∙ ap (λ u. old ++ at_node node (set (own (global place)) (framed (f.Own scope) u)) ∷ []) h ∙ ap (λ b. given place g b old) e
