use Rattle.c_parser.proofs.parsing.outer_here.Goals as goal

pub returns-clause-goes : goal.returns-clause-goes
returns-clause-goes c = c.outer.ensures.goes
