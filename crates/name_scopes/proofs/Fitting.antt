-- What comes into scope, and goes out of it.
use Rattle.std.proofs.Common.{◌≡◌, ℕ, suc, ◌+◌, ◌-◌, ◌<◌, Bool, true, false, cond, ◌||◌, ◌&&◌, not, Option, Some, None, List, [], ◌∷◌, ◌++◌, length, take, drop, get_or, map, refl, sym, ap, ◌∙◌, true≢false, arith}
use Rattle.std.specs.Option.{is_some, option_map}
use Rattle.std.specs.List.{list_any}
use Rattle.std.specs.Set.{is_member}
use Rattle.std.specs.Str.{bytes_eq}
use Rattle.std.proofs.lemmas.List.Folds.{list_any-append}
use Rattle.std.proofs.lemmas.Slice.Eq.{bytes_eq-Decides}
use Rattle.std.proofs.Math.Seq.{drop-cons}
use Rattle.name_maps.specs.Names.{is_named, named, with_name}
use Rattle.name_maps.proofs.Tables.{bytes_eq-symm}
use Rattle.text_types.specs.declared.text_type.TextType.{TextType}
use Rattle.text_types.specs.TextType.{text_value}
use Rattle.slang_tree.specs.declared.expression.Name.{Name}
use Rattle.type_rules.specs.Meanings.{Scope, declared, meaning_among, block_variable, bound_variable, covers_all, variable, with_bound, with_local, with_name as with_name_in, within}
use Rattle.type_rules.specs.Statements.{texts}
use Rattle.name_scopes.specs.declared.scope.NameScope.{NameScope}
use Rattle.name_scopes.specs.declared.meaning.Meaning.TheVariants as m
use Rattle.name_scopes.specs.Fits.{Fits, after_block, after_quantifier, field_known, may_change, types_known}
use Rattle.name_scopes.specs.Meanings.{meant}
use Rattle.name_scopes.proofs.Named.{is_named-with, names_with, taken_with}
use Rattle.program_trees.specs.Variables.{local}

-- ---- the variable of a quantifier

pub fits_bound : (known new : NameScope) (scope : Scope) (text : List ℕ) →
    new.names ≡ with_name known.names text (m.Bound known.depth) → new.records ≡ known.records → new.covered ≡ known.covered →
    new.locals ≡ known.locals → new.depth ≡ known.depth + 1 →
    Fits known scope → Fits new (with_bound scope text)
fits_bound known new scope text names records covered locals depth fits = record {
  names = λ other. ap (λ es. option_map meant (named es other)) names
      ∙ names_with known.names scope.names text (m.Bound known.depth) fits.names other
      ∙ ap (λ d. meaning_among (scope.names ++ declared text (bound_variable d) ∷ []) other) fits.depth;
  fields = λ number other. ap (λ rs. option_map (option_map text_value) (field_known rs number other)) records ∙ fits.fields number other;
  types = λ number. ap (λ rs. option_map (map text_value) (types_known rs number)) records ∙ fits.types number;
  covers = λ other. ap (λ es. is_named es other) covered ∙ fits.covers other;
  locals = locals ∙ fits.locals;
  depth = depth ∙ ap (λ d. d + 1) fits.depth;
}

pub after_bound : (known new : NameScope) (text : List ℕ) →
    new.names ≡ with_name known.names text (m.Bound known.depth) → new.records ≡ known.records → new.covered ≡ known.covered →
    new.outside ≡ known.outside → new.locals ≡ known.locals → new.depth ≡ known.depth + 1 →
    after_quantifier (length known.names) new ≡ known
after_bound known new text names records covered outside locals depth =
    let all_names = ap (take (length known.names)) names ∙ taken_with known.names text (m.Bound known.depth) in
    let same_depth : new.depth - 1 ≡ known.depth = omega (arith, depth) in
    λ i. record {
      names = all_names i;
      records = records i;
      covered = covered i;
      outside = outside i;
      locals = locals i;
      depth = same_depth i;
    }

-- ---- the variable of a block of a proof

pub fits_block : (known new : NameScope) (scope : Scope) (text : List ℕ) (label : ℕ) →
    new.names ≡ with_name known.names text (m.Block label) → new.records ≡ known.records → new.covered ≡ known.covered →
    new.locals ≡ known.locals → new.depth ≡ known.depth →
    Fits known scope → Fits new (with_name_in scope text (block_variable label))
fits_block known new scope text label names records covered locals depth fits = record {
  names = λ other. ap (λ es. option_map meant (named es other)) names ∙ names_with known.names scope.names text (m.Block label) fits.names other;
  fields = λ number other. ap (λ rs. option_map (option_map text_value) (field_known rs number other)) records ∙ fits.fields number other;
  types = λ number. ap (λ rs. option_map (map text_value) (types_known rs number)) records ∙ fits.types number;
  covers = λ other. ap (λ es. is_named es other) covered ∙ fits.covers other;
  locals = locals ∙ fits.locals;
  depth = depth ∙ fits.depth;
}

-- ---- a local

pub fits_local : (known new : NameScope) (scope : Scope) (text : List ℕ) (changes : Bool) (ty : Option TextType) →
    new.names ≡ with_name known.names text (m.Local known.locals changes ty) → new.records ≡ known.records → new.covered ≡ with_name known.covered text tt →
    new.locals ≡ known.locals + 1 → new.depth ≡ known.depth →
    Fits known scope → Fits new (with_local scope text changes (option_map text_value ty))
fits_local known new scope text changes ty names records covered locals depth fits = record {
  names = λ other. ap (λ es. option_map meant (named es other)) names
      ∙ names_with known.names scope.names text (m.Local known.locals changes ty) fits.names other
      ∙ ap (λ n. meaning_among (scope.names ++ declared text (variable (local n) changes (option_map text_value ty)) ∷ []) other) fits.locals;
  fields = λ number other. ap (λ rs. option_map (option_map text_value) (field_known rs number other)) records ∙ fits.fields number other;
  types = λ number. ap (λ rs. option_map (map text_value) (types_known rs number)) records ∙ fits.types number;
  covers = λ other. ap (λ es. is_named es other) covered ∙ is_named-with known.covered text tt other ∙ ap (λ b. bytes_eq text other || b) (fits.covers other);
  locals = locals ∙ ap (λ n. n + 1) fits.locals;
  depth = depth ∙ fits.depth;
}

-- ---- a loop

pub fits_loop : (known new : NameScope) (scope : Scope) (modifies : List (List ℕ)) →
    new.names ≡ known.names → new.records ≡ known.records →
    ((text : List ℕ) → is_named new.covered text ≡ (is_named known.covered text && is_member bytes_eq modifies text)) →
    new.locals ≡ known.locals → new.depth ≡ known.depth →
    Fits known scope → Fits new (within scope modifies)
fits_loop known new scope modifies names records covered locals depth fits = record {
  names = λ other. ap (λ es. option_map meant (named es other)) names ∙ fits.names other;
  fields = λ number other. ap (λ rs. option_map (option_map text_value) (field_known rs number other)) records ∙ fits.fields number other;
  types = λ number. ap (λ rs. option_map (map text_value) (types_known rs number)) records ∙ fits.types number;
  covers = λ other. covered other ∙ ap (λ b. b && is_member bytes_eq modifies other) (fits.covers other);
  locals = locals ∙ fits.locals;
  depth = depth ∙ fits.depth;
}

covered_more : (c m b : Bool) → (b ≡ true → c ≡ true) → (b || (c && m)) ≡ (c && (m || (b || false)))
covered_more true true true h = refl
covered_more true true false h = refl
covered_more true false true h = refl
covered_more true false false h = refl
covered_more false m true h = absurd (true≢false (sym (h refl)))
covered_more false m false h = refl

covered_same : (c m b : Bool) → (b ≡ true → c ≡ false) → (c && m) ≡ (c && (m || (b || false)))
covered_same true m true h = absurd (true≢false (h refl))
covered_same true true false h = refl
covered_same true false false h = refl
covered_same false m b h = refl

-- one name more of a loop's Modifies, which may be changed outside
pub one_covered : {X : Type 0} (inner covered : List (List ℕ × X)) (before : List (List ℕ)) (name : List ℕ) (value : X) →
    ((text : List ℕ) → is_named inner text ≡ (is_named covered text && is_member bytes_eq before text)) → is_named covered name ≡ true →
    (text : List ℕ) → is_named (with_name inner name value) text ≡ (is_named covered text && is_member bytes_eq (before ++ name ∷ []) text)
one_covered inner covered before name value so_far may text =
    is_named-with inner name value text
    ∙ ap (λ b. bytes_eq name text || b) (so_far text)
    ∙ ap (λ b. b || (is_named covered text && is_member bytes_eq before text)) (bytes_eq-symm name text)
    ∙ covered_more (is_named covered text) (is_member bytes_eq before text) (bytes_eq text name)
    (λ e. ap (is_named covered) ((bytes_eq-Decides text name).0 e) ∙ may)
    ∙ ap (λ b. is_named covered text && b) (sym (list_any-append (bytes_eq text) before (name ∷ [])))

-- and one which may not be
pub none_covered : {X : Type 0} (inner covered : List (List ℕ × X)) (before : List (List ℕ)) (name : List ℕ) →
    ((text : List ℕ) → is_named inner text ≡ (is_named covered text && is_member bytes_eq before text)) → is_named covered name ≡ false →
    (text : List ℕ) → is_named inner text ≡ (is_named covered text && is_member bytes_eq (before ++ name ∷ []) text)
none_covered inner covered before name so_far may_not text =
    so_far text
    ∙ covered_same (is_named covered text) (is_member bytes_eq before text) (bytes_eq text name)
    (λ e. ap (is_named covered) ((bytes_eq-Decides text name).0 e) ∙ may_not)
    ∙ ap (λ b. is_named covered text && b) (sym (list_any-append (bytes_eq text) before (name ∷ [])))

-- ---- all that a Modifies names

from : {X : Type 0} (xs : List X) (i : ℕ) (x : X) → i < length xs → x ≡ get_or xs i x → drop i xs ≡ x ∷ drop (i + 1) xs
from xs i x within is =
    let next : suc i ≡ i + 1 = omega arith in
    drop-cons xs i x within ∙ ap (λ n. get_or xs i x ∷ drop n xs) next ∙ ap (λ y. y ∷ drop (i + 1) xs) (sym is)

pub covers_next : (scope : Scope) (names : List (List ℕ)) (i : ℕ) (name : List ℕ) → i < length names → name ≡ get_or names i name →
    may_change scope name ≡ true → covers_all scope names ≡ covers_all scope (drop i names) → covers_all scope names ≡ covers_all scope (drop (i + 1) names)
covers_next scope names i name within is may before =
    before ∙ ap (covers_all scope) (from names i name within is) ∙ ap (λ b. b && covers_all scope (drop (i + 1) names)) may

pub covers_stop : (scope : Scope) (names : List (List ℕ)) (i : ℕ) (name : List ℕ) → i < length names → name ≡ get_or names i name →
    may_change scope name ≡ false → covers_all scope names ≡ covers_all scope (drop i names) → false ≡ covers_all scope names
covers_stop scope names i name within is may_not before =
    sym (before ∙ ap (covers_all scope) (from names i name within is) ∙ ap (λ b. b && covers_all scope (drop (i + 1) names)) may_not)
