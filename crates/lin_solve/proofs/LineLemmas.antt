-- What stays when lines are added.
use Rattle.std.proofs.Common.{◌+◌, cond, eqb, false, take, ◌≡◌, ℕ, ◌<◌, ◌≤◌, Bool, true, List, [], ◌∷◌, ◌++◌, length, get_or, is_some, nat_eq, Option, Some, pos, ℤ, ap, ap₂, sym, refl, ◌∙◌, subst, arith, FitsSigned, to_z, of_z, append_assoc, append-nil, length-append}
use Rattle.std.specs.Option.{option_map}
use Rattle.std.specs.HashMap.{get}
use Rattle.std.specs.List.{AllByRecursion}
use Rattle.std.proofs.lemmas.List.{take_more, get_or_append_left, get_or_push, get_or_default, map-append}
use Rattle.std.proofs.lemmas.Option.{slice_get-get_or}
use Rattle.std.specs.Int.{w128}
use Rattle.std.proofs.lemmas.Int.{ints, to_z-of_z}
use Rattle.lin_rows.specs.Inequality.{Inequality, is_within}
use Rattle.lin_rows.specs.Sum.{is_multiplier, combined}
use Rattle.lin_rows.specs.Cut.{cut, divides, tightened}
use Rattle.lin_rows.proofs.CutLaws.{is_within-cut}
use Rattle.lin_rows.proofs.SizeLemmas.{multiplier_bounds}
use Rattle.lin_cert.specs.declared.CertStep.{CertStep}
use Rattle.lin_cert.specs.declared.CertStep.TheVariants.{Take, Comb, Cut}
use Rattle.lin_cert.specs.declared.CertLine.{CertLine}
use Rattle.lin_cert.specs.Certificate.{row_at, sum_of, cut_of, IsRight, IsDerivation, are_within}
use Rattle.lin_cert.specs.Certificate as certificate
use Rattle.lin_cert.proofs.Derivations.{IsDerivation-push, are_within-push}
use Rattle.elimination.specs.Elimination.{most_rows}
use Rattle.elimination.proofs.NextRows.{All-push}
use Rattle.lin_solve.specs.declared.keeping.Kept.{Kept}
use Rattle.lin_solve.specs.declared.keeping.Tightened.{Tightened}
use Rattle.lin_solve.specs.declared.keeping.Tightened.TheVariants.{Same, By}
use Rattle.lin_solve.specs.Lines.{IsTightened, row_of, rows_of, AreLines, Extends, Stands, HasTable, HasLine, HasKept}
use Rattle.lin_solve.specs.Print.{print_of}
use Rattle.lin_solve.proofs.KeptLemmas.{line_here}

-- ---- lines that are there stay as they are
abbrev pub no_line : CertLine
no_line = record { step = Take 0; row = record { parts = []; bound = pos 0 } }

pub row_of-extends : (old new : List CertLine) → Extends old new → (k : ℕ) → k < length old → row_of new k ≡ row_of old k
row_of-extends old new x k h =
    ap (λ (ls : List CertLine). row_of ls k) x.whole ∙ ap (λ (l : CertLine). l.row) (get_or_append_left old x.more no_line k h)

pub rows_of-extends : (old new : List CertLine) → Extends old new → (ks : List ℕ) → AreLines old ks → rows_of new ks ≡ rows_of old ks
rows_of-extends old new x [] h = refl
rows_of-extends old new x (k ∷ ks) h = ap₂ ◌∷◌ (row_of-extends old new x k h.0) (rows_of-extends old new x ks h.1)

pub longer : (old new : List CertLine) → Extends old new → length old ≤ length new
longer old new x = rw x.whole (omega (arith, length-append old x.more))

pub AreLines-extends : (old new : List CertLine) → Extends old new → (ks : List ℕ) → AreLines old ks → AreLines new ks
AreLines-extends old new x [] h = tt
AreLines-extends old new x (k ∷ ks) h = (omega (arith, longer old new x, h.0), AreLines-extends old new x ks h.1)

pub Extends-refl : (lines : List CertLine) → Extends lines lines
Extends-refl lines = record { more = []; whole = sym (append-nil lines) }

pub Extends-push : (lines : List CertLine) (line : CertLine) → Extends lines (lines ++ line ∷ [])
Extends-push lines line = record { more = line ∷ []; whole = refl }

pub Extends-trans : (a b c : List CertLine) → Extends a b → Extends b c → Extends a c
Extends-trans a b c x y = record {
  more = x.more ++ y.more;
  whole = y.whole ∙ ap (λ (ls : List CertLine). ls ++ y.more) x.whole ∙ append_assoc a x.more y.more;
}

pub row_of-push : (lines : List CertLine) (line : CertLine) → row_of (lines ++ line ∷ []) (length lines) ≡ line.row
row_of-push lines line = ap (λ (l : CertLine). l.row) (get_or_push lines line no_line (length lines) refl)

-- the line that the code reads there
pub row_of-read : (lines : List CertLine) (k : ℕ) (line : CertLine) → k < length lines → line ≡ get_or lines k line → row_of lines k ≡ line.row
row_of-read lines k line h e = ap (λ (l : CertLine). l.row) (get_or_default lines k no_line line h ∙ sym e)

pub row_of-got : (lines : List CertLine) (k : ℕ) (line : CertLine) → k < length lines → row_of lines k ≡ (get_or lines k line).row
row_of-got lines k line h = ap (λ (l : CertLine). l.row) (get_or_default lines k no_line line h)

-- ---- what a step gives
row_at-line : (lines : List CertLine) (k : ℕ) → k < length lines → row_at lines k ≡ Some (row_of lines k)
row_at-line lines k h = ap (option_map (λ (l : CertLine). l.row)) (slice_get-get_or lines k no_line h)

pub comb_gives : (given : List Inequality) (lines : List CertLine) (i : ℕ) (a : ℤ) (j : ℕ) (b : ℤ) → i < length lines → j < length lines → is_multiplier a ≡ true → is_multiplier b ≡ true → certificate.row_of given lines (Comb i a j b) ≡ Some (combined (row_of lines i) a (row_of lines j) b)
comb_gives given lines i a j b hi hj ha hb = rw (ha, hb, row_at-line lines i hi, row_at-line lines j hj) refl

cut_gives : (given : List Inequality) (lines : List CertLine) (k : ℕ) (g : ℤ) → k < length lines → divides g (row_of lines k).parts ≡ true → is_multiplier g ≡ true → certificate.row_of given lines (Cut k g) ≡ Some (cut (row_of lines k) g)
cut_gives given lines k g h d m = rw (m, row_at-line lines k h, d) refl

-- ---- a line more, or two
one_line : (old : List CertLine) (step : CertStep) (row : Inequality) → are_within old ≡ true → is_within row ≡ true → tightened row ≡ row → HasLine old (old ++ record { step = step; row = row } ∷ []) step row (length old)
one_line old step row w h e = record {
  here = omega (arith, length-append old (record { step = step; row = row } ∷ []));
  row_here = row_of-push old (record { step = step; row = row }) ∙ sym e;
  extends = Extends-push old (record { step = step; row = row });
  within = are_within-push old (record { step = step; row = row }) w h;
  derives = λ given f d. IsDerivation-push given old (record { step = step; row = row }) d (record { follows = f; within = h });
}

two_lines : (old : List CertLine) (step : CertStep) (row tight : Inequality) (g : ℤ) → are_within old ≡ true → is_within row ≡ true → tightened row ≡ tight → tight ≡ cut row g → divides g row.parts ≡ true → is_multiplier g ≡ true →
    HasLine old ((old ++ record { step = step; row = row } ∷ []) ++ record { step = Cut (length old) g; row = tight } ∷ []) step row (length (old ++ record { step = step; row = row } ∷ []))
two_lines old step row tight g w h e f d m =
    let one : CertLine = record { step = step; row = row } in
    let two : CertLine = record { step = Cut (length old) g; row = tight } in
    let mid = old ++ one ∷ [] in
    let at : row_of mid (length old) ≡ row = row_of-push old one in
    let here : length old < length mid = omega (arith, length-append old (one ∷ [])) in
    let small : is_within tight ≡ true = ap is_within f ∙ is_within-cut row g (omega (arith, ints, (multiplier_bounds g m).0)) h in
    let gives = λ (given : List Inequality). cut_gives given mid (length old) g here (ap (λ (r : Inequality). divides g r.parts) at ∙ d) m ∙ ap (λ (r : Inequality). Some (cut r g)) at ∙ ap Some (sym f) in
    record {
      here = omega (arith, length-append mid (two ∷ []));
      row_here = row_of-push mid two ∙ sym e;
      extends = Extends-trans old mid (mid ++ two ∷ []) (Extends-push old one) (Extends-push mid two);
      within = are_within-push mid two (are_within-push old one w h) small;
      derives = λ given q p. IsDerivation-push given mid two (IsDerivation-push given old one p (record { follows = q; within = h })) (record { follows = gives given; within = small });
    }

pub multiplier_fits : (g : ℤ) → is_multiplier g ≡ true → FitsSigned w128 g
multiplier_fits g m = let b = multiplier_bounds g m in omega (arith, ints)

-- what the code pushed
pub has_one_line : (old new : List CertLine) (step : CertStep) (row : Inequality) (k : ℕ) → are_within old ≡ true → is_within row ≡ true → (k ≡ length old) × (new ≡ old ++ record { step = step; row = row } ∷ []) → (t : Tightened) → IsTightened row t → t ≡ Same → HasLine old new step row k
has_one_line old new step row k w h p t i e =
    rw (p.0, p.1) (one_line old step row w h (subst (IsTightened row) e i))

pub has_two_lines : (old mid new : List CertLine) (step : CertStep) (row tight : Inequality) (g : ℤ) (j k : ℕ) → are_within old ≡ true → is_within row ≡ true →
    (j ≡ length old) × (mid ≡ old ++ record { step = step; row = row } ∷ []) → (k ≡ length mid) × (new ≡ mid ++ record { step = Cut j (to_z w128 (of_z w128 g)); row = tight } ∷ []) →
    (t : Tightened) → IsTightened row t → t ≡ By g tight → HasLine old new step row k
has_two_lines old mid new step row tight g j k w h p q t i e =
    let b : IsTightened row (By g tight) = subst (IsTightened row) e i in
    rw (q.0, q.1, to_z-of_z w128 g (multiplier_fits g b.3), p.0, p.1) (two_lines old step row tight g w h b.0 b.1 b.2 b.3)

-- ---- a line is kept
found-keeps : (lines : List CertLine) (old new : ℕ → Bool) (ks : List ℕ) → ((p : ℕ) → old p ≡ true → new p ≡ true) → AllByRecursion (λ k. old (print_of (row_of lines k)) ≡ true) ks → AllByRecursion (λ k. new (print_of (row_of lines k)) ≡ true) ks
found-keeps lines old new [] f h = tt
found-keeps lines old new (k ∷ ks) f h = (f (print_of (row_of lines k)) h.0, found-keeps lines old new ks f h.1)

found-extends : (old new : List CertLine) (places : ℕ → Bool) (ks : List ℕ) → Extends old new → AreLines old ks → AllByRecursion (λ k. places (print_of (row_of old k)) ≡ true) ks → AllByRecursion (λ k. places (print_of (row_of new k)) ≡ true) ks
found-extends old new places [] x a h = tt
found-extends old new places (k ∷ ks) x a h =
    (ap (λ (r : Inequality). places (print_of r)) (row_of-extends old new x k a.0) ∙ h.0, found-extends old new places ks x a.1 h.1)

pub Stands-extends : (old new : List CertLine) (ks : List ℕ) → Extends old new → are_within new ≡ true → Stands old ks → Stands new ks
Stands-extends old new ks x w s = record { within = w; are_lines = AreLines-extends old new x ks s.are_lines; few = s.few }

pub Stands-push : (lines : List CertLine) (ks next : List ℕ) (k : ℕ) → Stands lines ks → length ks < most_rows → k < length lines → next ≡ ks ++ k ∷ [] → Stands lines next
Stands-push lines ks next k s room h e = record {
  within = s.within;
  are_lines = subst (AreLines lines) (sym e) (All-push (λ n. n < length lines) ks k s.are_lines h);
  few = omega (arith, ap length e, length-append ks (k ∷ []));
}

HasTable-extends : (old new : List CertLine) (kept : Kept) → Extends old new → are_within new ≡ true → HasTable old kept → HasTable new kept
HasTable-extends old new kept x w t = record {
  stands = Stands-extends old new kept.lines.items x w t.stands;
  found = found-extends old new (λ p. is_some (get nat_eq kept.places p)) kept.lines.items x t.stands.are_lines t.found;
}

-- what `add` leaves
HasTable-add : (lines : List CertLine) (kept next : Kept) (k : ℕ) → HasTable lines kept → length kept.lines.items < most_rows → k < length lines → next.lines.items ≡ kept.lines.items ++ k ∷ [] →
    is_some (get nat_eq next.places (print_of (row_of lines k))) ≡ true →
    ((p : ℕ) → is_some (get nat_eq kept.places p) ≡ true → is_some (get nat_eq next.places p) ≡ true) → HasTable lines next
HasTable-add lines kept next k t room h e f g =
    let after = λ (p : ℕ). is_some (get nat_eq next.places p) in
    record {
      stands = Stands-push lines kept.lines.items next.lines.items k t.stands room h e;
      found = subst (AllByRecursion (λ n. after (print_of (row_of lines n)) ≡ true)) (sym e)
          (All-push (λ n. after (print_of (row_of lines n)) ≡ true) kept.lines.items k (found-keeps lines (λ p. is_some (get nat_eq kept.places p)) after kept.lines.items g t.found) f);
    }

pub rows_of-push : (lines : List CertLine) (ks next : List ℕ) (k : ℕ) → next ≡ ks ++ k ∷ [] → rows_of lines next ≡ rows_of lines ks ++ row_of lines k ∷ []
rows_of-push lines ks next k e = ap (rows_of lines) e ∙ map-append (row_of lines) ks (k ∷ [])

pub has_kept : (old : List CertLine) (kept : Kept) (new : List CertLine) (next : Kept) (step : CertStep) (row : Inequality) (k : ℕ) → HasTable old kept → length kept.lines.items < most_rows → HasLine old new step row k →
    next.lines.items ≡ kept.lines.items ++ k ∷ [] →
    is_some (get nat_eq next.places (print_of (row_of new k))) ≡ true →
    ((p : ℕ) → is_some (get nat_eq kept.places p) ≡ true → is_some (get nat_eq next.places p) ≡ true) → HasKept old kept new next step row
has_kept old kept new next step row k s room h e f g = record {
  rows = rows_of-push new kept.lines.items next.lines.items k e ∙ ap₂ (λ (xs : List Inequality) (x : Inequality). xs ++ x ∷ []) (rows_of-extends old new h.extends kept.lines.items s.stands.are_lines) h.row_here;
  table = HasTable-add new kept next k (HasTable-extends old new kept h.extends h.within s) room h.here e f g;
  extends = h.extends;
  derives = h.derives;
}

-- ---- the table, line by line
-- what was found is found, and so is the new print
pub still_found : (old new : ℕ → Option ℕ) (k place : ℕ) → ((q : ℕ) → new q ≡ cond (eqb k q) (Some place) (old q)) → (p : ℕ) → is_some (old p) ≡ true → is_some (new p) ≡ true
still_found old new k place u p h = ap is_some (u p) ∙ by_test (eqb k p)
  where
    by_test : (t : Bool) → is_some (cond t (Some place) (old p)) ≡ true
    by_test true = refl
    by_test false = h

-- the lines so far are found
pub found_more : (lines : List CertLine) (ks : List ℕ) (i k : ℕ) (line : CertLine) (old new : ℕ → Bool) → AreLines lines ks → i < length ks → k ≡ get_or ks i k → ((p : ℕ) → old p ≡ true → new p ≡ true) → new (print_of (get_or lines k line).row) ≡ true →
    AllByRecursion (λ n. old (print_of (row_of lines n)) ≡ true) (take i ks) → AllByRecursion (λ n. new (print_of (row_of lines n)) ≡ true) (take (i + 1) ks)
found_more lines ks i k line old new ls h e g f a =
    let here : k < length lines = subst (λ (n : ℕ). n < length lines) (sym e) (line_here lines ks i k ls h) in
    subst (AllByRecursion (λ n. new (print_of (row_of lines n)) ≡ true)) (sym (take_more ks i k h ∙ ap (λ (n : ℕ). take i ks ++ n ∷ []) (sym e)))
    (All-push (λ n. new (print_of (row_of lines n)) ≡ true) (take i ks) k (found-keeps lines old new (take i ks) g a) (ap (λ (x : Inequality). new (print_of x)) (row_of-got lines k line here) ∙ f))
