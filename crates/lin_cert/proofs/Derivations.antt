-- Derivations grow by right lines, and their fronts are derivations.
use Rattle.std.proofs.Common.{◌≡◌, ℕ, zero, suc, List, [], ◌∷◌, ◌++◌, take, true, sym, subst, refl, append_assoc, append-nil}
use Rattle.std.proofs.lemmas.Bool.{and_parts, and_from}
use Rattle.lin_rows.specs.Inequality.{Inequality, is_within}
use Rattle.lin_cert.specs.declared.CertLine.{CertLine}
use Rattle.lin_cert.specs.Certificate.{IsRight, IsDerivationAfter, IsDerivation, are_within}

after-push : (rows : List Inequality) (earlier lines : List CertLine) (line : CertLine) → IsDerivationAfter rows earlier lines → IsRight rows (earlier ++ lines) line → IsDerivationAfter rows earlier (lines ++ line ∷ [])
after-push rows earlier [] line d r = (subst (λ (ls : List CertLine). IsRight rows ls line) (append-nil earlier) r, tt)
after-push rows earlier (l ∷ ls) line d r =
    (d.0, after-push rows (earlier ++ l ∷ []) ls line d.1 (subst (λ (ks : List CertLine). IsRight rows ks line) (sym (append_assoc earlier (l ∷ []) ls)) r))

-- one more line that is right over all of them
pub IsDerivation-push : (rows : List Inequality) (lines : List CertLine) (line : CertLine) → IsDerivation rows lines → IsRight rows lines line → IsDerivation rows (lines ++ line ∷ [])
IsDerivation-push rows lines line d r = after-push rows [] lines line d r

after-take : (rows : List Inequality) (earlier : List CertLine) (n : ℕ) (lines : List CertLine) → IsDerivationAfter rows earlier lines → IsDerivationAfter rows earlier (take n lines)
after-take rows earlier zero lines d = tt
after-take rows earlier (suc n) [] d = tt
after-take rows earlier (suc n) (l ∷ ls) d = (d.0, after-take rows (earlier ++ l ∷ []) n ls d.1)

pub IsDerivation-take : (rows : List Inequality) (n : ℕ) (lines : List CertLine) → IsDerivation rows lines → IsDerivation rows (take n lines)
IsDerivation-take rows n lines d = after-take rows [] n lines d

pub are_within-push : (lines : List CertLine) (line : CertLine) → are_within lines ≡ true → is_within line.row ≡ true → are_within (lines ++ line ∷ []) ≡ true
are_within-push [] line h w = and_from _ _ w refl
are_within-push (l ∷ ls) line h w = let t = and_parts (is_within l.row) (are_within ls) h in and_from _ _ t.0 (are_within-push ls line t.1 w)
