use Rattle.argument_lists.proofs.heads.bare_head.Goals as goal

pub returns-in-None-clause-only : goal.returns-in-None-clause-only
returns-in-None-clause-only c = λ a h. c.in-None.ensures.only a.rest h.1
