use Rattle.std.proofs.Common.{◌≡◌, ◌∙◌, ◌-◌, List, length, true, refl, sym, subst}
use Rattle.lin_cert.specs.declared.CertLine.{CertLine}
use Rattle.lin_cert.specs.Certificate.{IsDerivation, is_contradiction_at, row_at}
use Rattle.lin_cert.proofs.Soundness.{refuted}
use Rattle.lin_cert.proofs.accepts.Goals as goal

pub returns-then-derives-clause-sound : goal.returns-then-derives-clause-sound
returns-then-derives-clause-sound c = λ yes.
    let lines = c.deref.ensures.value ∙ c.cert.view_is in
    let last = c.deref-then-derives.ensures.value ∙ c.cert.view_is in
    refuted c.args.rows.now c.args.cert.now (record {
      derives = subst (IsDerivation c.args.rows.now) lines (c.if-derives.ensures.0 refl);
      refutes = subst (λ (ls : List CertLine). is_contradiction_at (row_at ls (length ls - 1)) ≡ true) last (sym c.ends_in_contradiction.ensures ∙ yes);
    })
