use Rattle.token_printing.proofs.numerals.+add_numeral.Given as goal

abbrev pub decreases-add_numeral : goal.decreases-add_numeral
decreases-add_numeral l = l.number
