use Rattle.std.proofs.Common.{ap, ◌∙◌, vec_items}
use Rattle.token_printing.proofs.Digits.{long_said, short_said}
use Rattle.token_printing.proofs.numerals.+add_numeral.Goals as goal
use Rattle.token_printing.proofs.numerals.+add_numeral.Goals.{then-number-ge10+in_ok-add_numeral, else-number-ge10}

pub returns : goal.returns
returns t c =
    elim c.if-number-ge10.branch [
      | then-number-ge10+in_ok-add_numeral w ↦ long_said c.args.text.now.items c.if-number-ge10.text.items c.push.new.self.items c.args.number c.digit.result
          w.if-number-ge10.true (ap vec_items w.text-is ∙ w.in_ok-add_numeral.ensures) c.digit.ensures c.in_ok-push.ensures.items
      | else-number-ge10 w ↦ short_said c.args.text.now.items c.if-number-ge10.text.items c.push.new.self.items c.args.number c.digit.result
          w.if-number-ge10.false (ap vec_items w.text-is) c.digit.ensures c.in_ok-push.ensures.items
    ]
