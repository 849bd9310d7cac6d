use Rattle.std.proofs.Common.{◌≡◌, ℕ, List, ◌++◌, Some, codes, subst, sym, ap, ◌∙◌, append_assoc}
use Rattle.lk_io.specs.Sink.{SinkRun}
use Rattle.command_ends.specs.Journal.{GetsLine}
use Rattle.command_ends.proofs.stop.write_too_large.Goals as goal

-- The line of a name and of digits is that of what they are.
of_parts : (journal : SinkRun) (name name' digits digits' : List ℕ) → name' ≡ name → digits' ≡ digits
    → GetsLine journal (Some (codes "logika: too large " ++ (name' ++ (codes " line " ++ (digits' ++ codes "\n")))))
    → GetsLine journal (Some (codes "logika: too large " ++ name ++ codes " line " ++ digits ++ codes "\n"))
of_parts journal name name' digits digits' same_name same_digits line =
    let parted : name' ++ (codes " line " ++ (digits' ++ codes "\n")) ≡ name ++ codes " line " ++ digits ++ codes "\n" =
    ap (λ n. n ++ (codes " line " ++ (digits' ++ codes "\n"))) same_name ∙ ap (λ d. name ++ (codes " line " ++ (d ++ codes "\n"))) same_digits
    ∙ sym (append_assoc name (codes " line ") (digits ++ codes "\n")) ∙ sym (append_assoc (name ++ codes " line ") digits (codes "\n")) in
    subst (λ rest. GetsLine journal (Some (codes "logika: too large " ++ rest))) parted line

pub returns : goal.returns
returns g c = of_parts _ _ _ _ _ c.as_bytes.ensures.value (c.as_bytes-digits.ensures.value ∙ c.format.ensures.text) c.write_line.ensures
