-- The scopes of the code behind statements and behind blocks.
use Rattle.std.proofs.Common.{◌≡◌, ℕ, ◌+◌, ◌≤◌, List, [], ◌∷◌, ◌++◌, length, take, map, get_or, refl, sym, ap, ◌∙◌, arith, length-take, take_all, take-take, le_refl}
use Rattle.std.specs.Prelude.{find}
use Rattle.std.proofs.lemmas.List.{same_from_push}
use Rattle.std.specs.Option.{option_map}
use Rattle.std.specs.Str.{bytes_eq}
use Rattle.name_maps.specs.Names.{is_named, named}
use Rattle.type_rules.specs.Meanings.{Field, Scope, all_typed, within}
use Rattle.type_rules.specs.Statements.{past_locals}
use Rattle.slang_tree.specs.StmtTree.{StmtTrees}
use Rattle.type_rules.specs.Statements.{behind_all, local_counts}
use Rattle.text_types.specs.TextType.{text_value}
use Rattle.name_scopes.specs.declared.scope.NameScope.{NameScope}
use Rattle.name_scopes.specs.Meanings.{meant}
use Rattle.name_scopes.specs.Fits.{Fits, after_block, field_known, types_known}
use Rattle.statement_judging.specs.Keeps.{Keeps, Restores, after_loop}
use Rattle.statement_judging.proofs.Behind.{behind_all-depth, behind_all-fields, behind_all-locals}

-- ---- what stays in scope

whole : {X : Type 0} (xs : List X) → take (length xs) xs ≡ xs
whole xs = take_all (length xs) xs (le_refl (length xs))

pub keeps_same : (known : NameScope) → Keeps known known
keeps_same known = record { names = whole known.names; covered = whole known.covered; outside = refl }

pub keeps_restored : (old new : NameScope) → Restores old new → Keeps old new
keeps_restored old new same = record {
  names = ap (take (length old.names)) same.names ∙ whole old.names;
  covered = ap (take (length old.covered)) same.covered ∙ whole old.covered;
  outside = same.outside;
}

front_of : {X : Type 0} (xs ys zs : List X) → take (length xs) ys ≡ xs → take (length ys) zs ≡ ys → take (length xs) zs ≡ xs
front_of xs ys zs p q =
    let shorter : length xs ≤ length ys = omega (arith, ap length p, length-take (length xs) ys) in
    sym (take-take (length xs) (length ys) zs shorter) ∙ ap (take (length xs)) q ∙ p

pub keeps_all : (a b c : NameScope) → Keeps a b → Keeps b c → Keeps a c
keeps_all a b c p q = record {
  names = front_of a.names b.names c.names p.names q.names;
  covered = front_of a.covered b.covered c.covered p.covered q.covered;
  outside = q.outside ∙ p.outside;
}

pub restores_all : (a b c : NameScope) → Restores a b → Restores b c → Restores a c
restores_all a b c p q = record { names = q.names ∙ p.names; covered = q.covered ∙ p.covered; outside = q.outside ∙ p.outside }

-- a local more
pub keeps_local : (old new : NameScope) → after_block (length old.names) (length old.covered) new ≡ record old { locals = old.locals + 1 } → Keeps old new
keeps_local old new is = record {
  names = ap (λ (s : NameScope). s.names) is;
  covered = ap (λ (s : NameScope). s.covered) is;
  outside = ap (λ (s : NameScope). s.outside) is;
}

-- behind a block
pub restores_left : (old new left : NameScope) → Keeps old new → left ≡ after_block (length old.names) (length old.covered) new → Restores old left
restores_left old new left keeps is = record {
  names = ap (λ (s : NameScope). s.names) is ∙ keeps.names;
  covered = ap (λ (s : NameScope). s.covered) is ∙ keeps.covered;
  outside = ap (λ (s : NameScope). s.outside) is ∙ keeps.outside;
}

-- ---- the place of the text

-- behind a block, at the end of which the scope was that of the place behind its statements
fits_back : (old inner new : NameScope) (at end : Scope) (count : ℕ) →
    Restores old new → inner.records ≡ new.records → inner.locals ≡ new.locals → inner.depth ≡ new.depth →
    end.fields ≡ at.fields → end.locals ≡ at.locals + count → end.depth ≡ at.depth →
    Fits old at → Fits inner end → Fits new (past_locals at count)
fits_back old inner new at end count same records locals depth end_fields end_locals end_depth fits inside = record {
  names = λ text. ap (λ es. option_map meant (named es text)) same.names ∙ fits.names text;
  fields = λ number text.
      ap (λ rs. option_map (option_map text_value) (field_known rs number text)) (sym records)
      ∙ inside.fields number text
      ∙ ap (λ (fs : List (List Field)). option_map (λ (f : Field). f.type) (find (λ (f : Field). bytes_eq f.text text) (get_or fs number []))) end_fields;
  types = λ number.
      ap (λ rs. option_map (map text_value) (types_known rs number)) (sym records)
      ∙ inside.types number
      ∙ ap (λ (fs : List (List Field)). all_typed (map (λ (f : Field). f.type) (get_or fs number []))) end_fields;
  covers = λ text. ap (λ es. is_named es text) same.covered ∙ fits.covers text;
  locals = sym locals ∙ inside.locals ∙ end_locals;
  depth = sym depth ∙ inside.depth ∙ end_depth;
}

pub fits_left : (old new left : NameScope) (at : Scope) (stmts : StmtTrees) →
    Keeps old new → left ≡ after_block (length old.names) (length old.covered) new → Fits old at → Fits new (behind_all at stmts) →
    Fits left (past_locals at (local_counts stmts))
fits_left old new left at stmts keeps is fits inside =
    fits_back old new left at (behind_all at stmts) (local_counts stmts) (restores_left old new left keeps is)
    (ap (λ (s : NameScope). s.records) (sym is)) (ap (λ (s : NameScope). s.locals) (sym is)) (ap (λ (s : NameScope). s.depth) (sym is))
    (behind_all-fields at stmts) (behind_all-locals at stmts) (behind_all-depth at stmts) fits inside

-- ---- loops

pub none_before : {X : Type 0} (xs : List X) (x : X) → [] ≡ xs ++ x ∷ [] → ⊥
none_before [] x e = cc
none_before (y ∷ ys) x e = cc

-- what could be changed before a loop can be changed again
pub loop_left : (old new before : NameScope) (names : ℕ) →
    new.names ≡ take names old.names → new.records ≡ old.records → new.locals ≡ old.locals → new.depth ≡ old.depth →
    old.outside ≡ new.outside ++ new.covered ∷ [] → old.outside ≡ before.outside ++ before.covered ∷ [] → new ≡ after_loop names before old
loop_left old new before names all_names records locals depth last outside =
    let same = same_from_push new.outside before.outside new.covered before.covered (sym last ∙ outside) in
    λ i. record {
      names = all_names i;
      records = records i;
      covered = same.1 i;
      outside = same.0 i;
      locals = locals i;
      depth = depth i;
    }

-- behind a loop, in which only these of what stands outside may be changed
pub restores_loop : (old inner new left : NameScope) →
    inner.names ≡ old.names → inner.outside ≡ old.outside ++ old.covered ∷ [] → Keeps inner new →
    left ≡ after_loop (length old.names) old new → Restores old left
restores_loop old inner new left names outside keeps is = record {
  names = ap (λ (s : NameScope). s.names) is ∙ ap (λ es. take (length es) new.names) (sym names) ∙ keeps.names ∙ names;
  covered = ap (λ (s : NameScope). s.covered) is;
  outside = ap (λ (s : NameScope). s.outside) is;
}

pub fits_behind_loop : (old inner new left : NameScope) (at : Scope) (modifies : List (List ℕ)) (stmts : StmtTrees) →
    inner.names ≡ old.names → inner.outside ≡ old.outside ++ old.covered ∷ [] → Keeps inner new →
    left ≡ after_loop (length old.names) old new →
    Fits old at → Fits new (behind_all (within at modifies) stmts) → Fits left (past_locals at (local_counts stmts))
fits_behind_loop old inner new left at modifies stmts names outside keeps is fits inside =
    fits_back old new left at (behind_all (within at modifies) stmts) (local_counts stmts) (restores_loop old inner new left names outside keeps is)
    (ap (λ (s : NameScope). s.records) (sym is)) (ap (λ (s : NameScope). s.locals) (sym is)) (ap (λ (s : NameScope). s.depth) (sym is))
    (behind_all-fields (within at modifies) stmts) (behind_all-locals (within at modifies) stmts) (behind_all-depth (within at modifies) stmts) fits inside
