-- The combinations of a turn, one after the other, and that they are those of the definition.
use Rattle.std.proofs.Common.{eqb, ◌⊎◌, inl, inr, ◌≡◌, ℕ, ◌+◌, ◌/◌, ◌<◌, Bool, true, cond, List, [], ◌∷◌, map, fold, filter, length, drop, get_or, Option, Some, None, ℤ, pos, to_z, of_z, to_z-of_z, ap, ap₂, sym, refl, ◌∙◌, subst, arith}
use Rattle.std.specs.Int.{w128}
use Rattle.std.proofs.lemmas.Bool.Decides.{Decides-eqb}
use Rattle.std.specs.List.{AllByRecursion}
use Rattle.whole_numbers.specs.Gcd.{gcd}
use Rattle.lin_rows.specs.Inequality.{Inequality, is_within}
use Rattle.lin_rows.specs.Sum.{is_multiplier, combined}
use Rattle.lin_rows.specs.Cut.{tightened}
use Rattle.lin_cert.specs.declared.CertStep.{CertStep}
use Rattle.lin_cert.specs.declared.CertStep.TheVariants.{Comb}
use Rattle.lin_cert.specs.declared.CertLine.{CertLine}
use Rattle.lin_cert.specs.Certificate.{IsDerivation}
use Rattle.lin_cert.specs.Certificate as certificate
use Rattle.elimination.specs.Elimination.{Progress, Going, Ended, TooWide, and_then, kept_with, kept_with_sum, cancelled, combination, is_lower, is_upper, with_uppers, next_rows}
use Rattle.elimination.proofs.NextRows.{All-map}
use Rattle.lin_solve.specs.declared.SolveEnd.{SolveEnd}
use Rattle.lin_solve.specs.declared.keeping.Kept.{Kept}
use Rattle.lin_solve.specs.declared.keeping.Tightened.{Tightened}
use Rattle.lin_solve.specs.declared.turning.Side.{Side}
use Rattle.lin_solve.specs.declared.turning.Parted.{Parted}
use Rattle.lin_solve.specs.Answers.{EndsAs}
use Rattle.lin_solve.specs.Lines.{row_of, rows_of, Extends, Stands, HasTable, IsNew, HasKept, Goes, Leaves}
use Rattle.lin_solve.specs.Sides.{IsCombinable, AreCombinable, sum_of, combined_with, combined_with_all, IsSide, AreSides, IsParted}
use Rattle.lin_solve.proofs.KeptLemmas.{all_at}
use Rattle.lin_solve.proofs.LineLemmas.{row_of-extends, row_of-read, longer, Extends-refl, Extends-trans, comb_gives, multiplier_fits}
use Rattle.lin_solve.proofs.ProgressLemmas.{Absorbs, fold-ended, taken_at, ended_at}

-- ---- one combination
-- the row that a step makes of two sides
pub record IsSumOf (lines : List CertLine) (lower upper : Side) (step : CertStep) (sum : Inequality) : Type 0 where
  pub here : sum ≡ sum_of lines lower upper
  pub within : is_within sum ≡ true
  pub gives : (given : List Inequality) → certificate.row_of given lines step ≡ Some sum

-- what the code multiplies and adds is the sum
pub sum_made : (lines : List CertLine) (lower upper : Side) (x y : CertLine) (p q : ℤ) (sum : Inequality) → IsCombinable lines lower → IsCombinable lines upper → x ≡ get_or lines lower.line x → y ≡ get_or lines upper.line y →
    p ≡ pos (upper.size / gcd lower.size upper.size) → q ≡ pos (lower.size / gcd lower.size upper.size) → is_multiplier p ≡ true → is_multiplier q ≡ true →
    sum ≡ combined x.row (to_z w128 (of_z w128 p)) y.row (to_z w128 (of_z w128 q)) → is_within sum ≡ true →
    IsSumOf lines lower upper (Comb lower.line (to_z w128 (of_z w128 p)) upper.line (to_z w128 (of_z w128 q))) sum
sum_made lines lower upper x y p q sum cl cu ex ey ep eq mp mq e w =
    let p' = to_z w128 (of_z w128 p) in
    let q' = to_z w128 (of_z w128 q) in
    let fp : p' ≡ p = to_z-of_z (multiplier_fits p mp) in
    let fq : q' ≡ q = to_z-of_z (multiplier_fits q mq) in
    let rx = row_of-read lines lower.line x cl.here ex in
    let ry = row_of-read lines upper.line y cu.here ey in
    let rows : sum ≡ combined (row_of lines lower.line) p' (row_of lines upper.line) q' = e ∙ ap₂ (λ (a b : Inequality). combined a p' b q') (sym rx) (sym ry) in
    record {
      here = rows ∙ ap₂ (λ (a b : ℤ). combined (row_of lines lower.line) a (row_of lines upper.line) b) (fp ∙ ep) (fq ∙ eq);
      within = w;
      gives = λ given. comb_gives given lines lower.line p' upper.line q' cl.here cu.here (ap is_multiplier fp ∙ mp) (ap is_multiplier fq ∙ mq) ∙ ap Some (sym rows);
    }

within-sum : (rows : List Inequality) (sum : Inequality) → is_within sum ≡ true → kept_with_sum rows sum ≡ kept_with rows (tightened sum)
within-sum rows sum w = ap (λ (b : Bool). cond b (kept_with rows (tightened sum)) (Ended TooWide)) w

kept-sum : (lines : List CertLine) (lower upper : Side) (step : CertStep) (rows : List Inequality) (sum : Inequality) → IsSumOf lines lower upper step sum → kept_with_sum rows (sum_of lines lower upper) ≡ kept_with rows (tightened sum)
kept-sum lines lower upper step rows sum s = ap (kept_with_sum rows) (sym s.here) ∙ within-sum rows sum s.within

pub sum_ends : (lines : List CertLine) (lower upper : Side) (step : CertStep) (rows : List Inequality) (sum : Inequality) (e : SolveEnd) → IsSumOf lines lower upper step sum → EndsAs e (kept_with rows (tightened sum)) → EndsAs e (kept_with_sum rows (sum_of lines lower upper))
sum_ends lines lower upper step rows sum e s h = subst (EndsAs e) (sym (kept-sum lines lower upper step rows sum s)) h

-- an equal row stands
pub sum_there : (lines : List CertLine) (kept : Kept) (lower upper : Side) (step : CertStep) (sum : Inequality) (o : Option Tightened) → HasTable lines kept → IsSumOf lines lower upper step sum → o ≡ None → IsNew (rows_of lines kept.lines.items) sum o →
    Goes lines lines kept (kept_with_sum (rows_of lines kept.lines.items) (sum_of lines lower upper)) (λ _. Unit {0})
sum_there lines kept lower upper step sum o st s e n = record {
  going = kept-sum lines lower upper step (rows_of lines kept.lines.items) sum s ∙ subst (IsNew (rows_of lines kept.lines.items) sum) e n;
  table = st;
  extends = Extends-refl lines;
  derives = λ given f d. d;
}

-- or it is kept
pub sum_kept : (old : List CertLine) (kept : Kept) (new : List CertLine) (next : Kept) (lower upper : Side) (step : CertStep) (sum : Inequality) (o : Option Tightened) (t : Tightened) → IsSumOf old lower upper step sum → o ≡ Some t → IsNew (rows_of old kept.lines.items) sum o →
    HasKept old kept new next step sum → Goes old new next (kept_with_sum (rows_of old kept.lines.items) (sum_of old lower upper)) (λ _. Unit {0})
sum_kept old kept new next lower upper step sum o t s e n h =
    let fresh : IsNew (rows_of old kept.lines.items) sum (Some t) = subst (IsNew (rows_of old kept.lines.items) sum) e n in
    record {
      going = kept-sum old lower upper step (rows_of old kept.lines.items) sum s ∙ fresh.0 ∙ ap Going (sym h.rows);
      table = h.table;
      extends = h.extends;
      derives = λ given f d. h.derives given (s.gives given) d;
    }

-- ---- more lines change no combination
pub IsCombinable-extends : (old new : List CertLine) (side : Side) → Extends old new → IsCombinable old side → IsCombinable new side
IsCombinable-extends old new side x c = record { here = omega (arith, longer old new x, c.here); positive = c.positive; small = c.small }

pub AreCombinable-extends : (old new : List CertLine) (sides : List Side) → Extends old new → AreCombinable old sides → AreCombinable new sides
AreCombinable-extends old new sides x a = All-map (IsCombinable old) (IsCombinable new) sides (λ s c. IsCombinable-extends old new s x c) a

pub sum_of-extends : (old new : List CertLine) (lower upper : Side) → Extends old new → IsCombinable old lower → IsCombinable old upper → sum_of new lower upper ≡ sum_of old lower upper
sum_of-extends old new lower upper x l u =
    ap₂ (λ (a b : Inequality). cancelled lower.size a upper.size b) (row_of-extends old new x lower.line l.here) (row_of-extends old new x upper.line u.here)

pub combined_with-extends : (old new : List CertLine) (uppers : List Side) (p : Progress) (lower : Side) → Extends old new → IsCombinable old lower → AreCombinable old uppers → combined_with new uppers p lower ≡ combined_with old uppers p lower
combined_with-extends old new [] p lower x l u = refl
combined_with-extends old new (s ∷ ss) p lower x l u =
    ap (λ (sum : Inequality). combined_with new ss (and_then p (λ rows. kept_with_sum rows sum)) lower) (sum_of-extends old new lower s x l u.0)
    ∙ combined_with-extends old new ss (and_then p (λ rows. kept_with_sum rows (sum_of old lower s))) lower x l u.1

-- ---- a loop over the upper rows
-- what the loops have done: the lines of `first` have grown, and the rows that stand lead to the whole
pub record HasCombined (first lines : List CertLine) (kept : Kept) (left whole : Progress) : Type 0 where
  pub going : left ≡ whole
  pub table : HasTable lines kept
  pub extends : Extends first lines
  pub derives : (given : List Inequality) → IsDerivation given first → IsDerivation given lines

pub upper_taken : (first lines new : List CertLine) (kept next : Kept) (lower : Side) (uppers : List Side) (i : ℕ) (d : Side) (whole : Progress) → IsCombinable first lower → AreCombinable first uppers → i < length uppers →
    HasCombined first lines kept (combined_with first (drop i uppers) (Going (rows_of lines kept.lines.items)) lower) whole →
    Goes lines new next (kept_with_sum (rows_of lines kept.lines.items) (sum_of lines lower (get_or uppers i d))) (λ _. Unit {0}) →
    HasCombined first new next (combined_with first (drop (i + 1) uppers) (Going (rows_of new next.lines.items)) lower) whole
upper_taken first lines new kept next lower uppers i d whole l u h c g = record {
  going = taken_at (λ p upper. and_then p (λ rows. kept_with_sum rows (sum_of first lower upper))) (rows_of lines kept.lines.items) (rows_of new next.lines.items) uppers i d whole h c.going
      (ap (kept_with_sum (rows_of lines kept.lines.items)) (sym (sum_of-extends first lines lower (get_or uppers i d) c.extends l (all_at (IsCombinable first) uppers i d u h))) ∙ g.going);
  table = g.table;
  extends = Extends-trans first lines new c.extends g.extends;
  derives = λ given f. g.derives given tt (c.derives given f);
}

pub upper_ended : (first lines : List CertLine) (kept : Kept) (lower : Side) (uppers : List Side) (i : ℕ) (d : Side) (whole : Progress) (e : SolveEnd) → IsCombinable first lower → AreCombinable first uppers → i < length uppers →
    HasCombined first lines kept (combined_with first (drop i uppers) (Going (rows_of lines kept.lines.items)) lower) whole →
    EndsAs e (kept_with_sum (rows_of lines kept.lines.items) (sum_of lines lower (get_or uppers i d))) → EndsAs e whole
upper_ended first lines kept lower uppers i d whole e l u h c t =
    ended_at (λ p upper. and_then p (λ rows. kept_with_sum rows (sum_of first lower upper))) (λ e x. refl) (rows_of lines kept.lines.items) uppers i d whole e h c.going
    (subst (EndsAs e) (ap (kept_with_sum (rows_of lines kept.lines.items)) (sum_of-extends first lines lower (get_or uppers i d) c.extends l (all_at (IsCombinable first) uppers i d u h))) t)

-- ---- a loop over the lower rows
combined_with-ended : (lines : List CertLine) (uppers : List Side) → Absorbs (combined_with lines uppers)
combined_with-ended lines uppers e lower =
    fold-ended (λ p upper. and_then p (λ rows. kept_with_sum rows (sum_of lines lower upper))) (λ e x. refl) e uppers

pub lower_taken : (first lines new : List CertLine) (kept next : Kept) (lowers uppers : List Side) (i : ℕ) (d : Side) (whole : Progress) → AreCombinable first lowers → AreCombinable first uppers → i < length lowers →
    HasCombined first lines kept (combined_with_all first uppers (Going (rows_of lines kept.lines.items)) (drop i lowers)) whole →
    Goes lines new next (combined_with lines uppers (Going (rows_of lines kept.lines.items)) (get_or lowers i d)) (λ _. Unit {0}) →
    HasCombined first new next (combined_with_all first uppers (Going (rows_of new next.lines.items)) (drop (i + 1) lowers)) whole
lower_taken first lines new kept next lowers uppers i d whole l u h c g = record {
  going = taken_at (combined_with first uppers) (rows_of lines kept.lines.items) (rows_of new next.lines.items) lowers i d whole h c.going
      (sym (combined_with-extends first lines uppers (Going (rows_of lines kept.lines.items)) (get_or lowers i d) c.extends (all_at (IsCombinable first) lowers i d l h) u) ∙ g.going);
  table = g.table;
  extends = Extends-trans first lines new c.extends g.extends;
  derives = λ given f. g.derives given tt (c.derives given f);
}

pub lower_ended : (first lines : List CertLine) (kept : Kept) (lowers uppers : List Side) (i : ℕ) (d : Side) (whole : Progress) (e : SolveEnd) → AreCombinable first lowers → AreCombinable first uppers → i < length lowers →
    HasCombined first lines kept (combined_with_all first uppers (Going (rows_of lines kept.lines.items)) (drop i lowers)) whole →
    EndsAs e (combined_with lines uppers (Going (rows_of lines kept.lines.items)) (get_or lowers i d)) → EndsAs e whole
lower_ended first lines kept lowers uppers i d whole e l u h c t =
    ended_at (combined_with first uppers) (combined_with-ended first uppers) (rows_of lines kept.lines.items) lowers i d whole e h c.going
    (subst (EndsAs e) (combined_with-extends first lines uppers (Going (rows_of lines kept.lines.items)) (get_or lowers i d) c.extends (all_at (IsCombinable first) lowers i d l h) u) t)

-- ---- the combinations are those of the definition
combinable : (lines : List CertLine) (v : ℕ) (sides : List Side) → AllByRecursion (IsSide lines v) sides → AreCombinable lines sides
combinable lines v sides a = All-map (IsSide lines v) (IsCombinable lines) sides (λ s h. h.combinable) a

pub AreCombinable-sides : (lines : List CertLine) (v : ℕ) (rows : List Inequality) (sides : List Side) → AreSides lines v rows sides → AreCombinable lines sides
AreCombinable-sides lines v rows sides a = combinable lines v sides a.each

same_sum : (lines : List CertLine) (v : ℕ) (lower upper : Side) → IsSide lines v lower → IsSide lines v upper → sum_of lines lower upper ≡ combination v (row_of lines lower.line) (row_of lines upper.line)
same_sum lines v lower upper l u = ap₂ (λ (a b : ℕ). cancelled a (row_of lines lower.line) b (row_of lines upper.line)) l.size u.size

same_uppers : (lines : List CertLine) (v : ℕ) (uppers : List Side) (p : Progress) (lower : Side) → IsSide lines v lower → AllByRecursion (IsSide lines v) uppers → combined_with lines uppers p lower ≡ with_uppers v (map (λ s. row_of lines s.line) uppers) p (row_of lines lower.line)
same_uppers lines v [] p lower l u = refl
same_uppers lines v (s ∷ ss) p lower l u =
    ap (λ (sum : Inequality). combined_with lines ss (and_then p (λ rows. kept_with_sum rows sum)) lower) (same_sum lines v lower s l u.0)
    ∙ same_uppers lines v ss (and_then p (λ rows. kept_with_sum rows (combination v (row_of lines lower.line) (row_of lines s.line)))) lower l u.1

same_lowers : (lines : List CertLine) (v : ℕ) (uppers lowers : List Side) (p : Progress) → AllByRecursion (IsSide lines v) lowers → AllByRecursion (IsSide lines v) uppers → combined_with_all lines uppers p lowers ≡ fold (with_uppers v (map (λ s. row_of lines s.line) uppers)) p (map (λ s. row_of lines s.line) lowers)
same_lowers lines v uppers [] p l u = refl
same_lowers lines v uppers (s ∷ ss) p l u =
    ap (λ (q : Progress). combined_with_all lines uppers q ss) (same_uppers lines v uppers p s l.0 u) ∙ same_lowers lines v uppers ss (with_uppers v (map (λ s. row_of lines s.line) uppers) p (row_of lines s.line)) l.1 u

next_rows-combined : (lines : List CertLine) (rows : List Inequality) (v : ℕ) (parted : Parted) → IsParted lines rows v parted → combined_with_all lines parted.upper.items (Going (rows_of lines parted.without.items)) parted.lower.items ≡ next_rows v rows
next_rows-combined lines rows v parted p =
    same_lowers lines v parted.upper.items parted.lower.items (Going (rows_of lines parted.without.items)) p.lower.each p.upper.each
    ∙ ap₂ (λ (us ls : List Inequality). fold (with_uppers v us) (Going (rows_of lines parted.without.items)) ls) p.upper.rows_here p.lower.rows_here
    ∙ ap (λ (ws : List Inequality). fold (with_uppers v (filter (is_upper v) rows)) (Going ws) (filter (is_lower v) rows)) p.without

-- as the code reads the lists
pub combined-next_rows : (lines read : List CertLine) (ks : List ℕ) (v : ℕ) (parted : Parted) (lowers uppers : List Side) → read ≡ lines → lowers ≡ parted.lower.items → uppers ≡ parted.upper.items → IsParted read (rows_of read ks) v parted →
    combined_with_all lines uppers (Going (rows_of lines parted.without.items)) lowers ≡ next_rows v (rows_of lines ks)
combined-next_rows lines read ks v parted lowers uppers e el eu p =
    ap₂ (λ (us ls : List Side). combined_with_all lines us (Going (rows_of lines parted.without.items)) ls) eu el
    ∙ next_rows-combined lines (rows_of lines ks) v parted (subst (λ (ls : List CertLine). IsParted ls (rows_of ls ks) v parted) e p)

-- no upper row, no combination
pub is_nothing : {X : Type 0} (xs : List X) → true ≡ eqb (length xs) 0 → xs ≡ []
is_nothing [] e = refl
is_nothing (x ∷ xs) e = absurd (let z : length (x ∷ xs) ≡ 0 = (Decides-eqb (length (x ∷ xs)) 0).0 (sym e) in omega arith)

no_uppers : (lines : List CertLine) (p : Progress) (lowers : List Side) → combined_with_all lines [] p lowers ≡ p
no_uppers lines p [] = refl
no_uppers lines p (l ∷ ls) = no_uppers lines p ls

no_pairs : (lines : List CertLine) (p : Progress) (lowers uppers : List Side) → (lowers ≡ []) ⊎ (uppers ≡ []) → combined_with_all lines uppers p lowers ≡ p
no_pairs lines p lowers uppers (inl e) = ap (combined_with_all lines uppers p) e
no_pairs lines p lowers uppers (inr e) = ap (λ (us : List Side). combined_with_all lines us p lowers) e ∙ no_uppers lines p lowers

pub nothing_combined : (lines : List CertLine) (ks : List ℕ) (lowers uppers : List Side) → (lowers ≡ []) ⊎ (uppers ≡ []) → Stands lines ks → Leaves lines lines ks (combined_with_all lines uppers (Going (rows_of lines ks)) lowers) (λ _. Unit {0})
nothing_combined lines ks lowers uppers n s = record {
  going = no_pairs lines (Going (rows_of lines ks)) lowers uppers n;
  stands = s;
  derives = λ given f d. d;
}

pub Leaves-from : (old new : List CertLine) (ks : List ℕ) (next : Kept) (p q : Progress) → p ≡ q → Goes old new next q (λ _. Unit {0}) → next.lines.items ≡ ks → Leaves old new ks p (λ _. Unit {0})
Leaves-from old new ks next p q e g k = record {
  going = e ∙ g.going ∙ ap (λ (ms : List ℕ). Going (rows_of new ms)) k;
  stands = subst (Stands new) k g.table.stands;
  derives = g.derives;
}

pub Leaves-same : (old new : List CertLine) (ks : List ℕ) (p q : Progress) → p ≡ q → Leaves old new ks p (λ _. Unit {0}) → Leaves old new ks q (λ _. Unit {0})
Leaves-same old new ks p q e l = record { going = sym e ∙ l.going; stands = l.stands; derives = l.derives }
