use Rattle.std.proofs.Common.{refl, sym, subst}
use Rattle.std.specs.Prelude.{Ok, Err}
use Rattle.c_parser_steps.specs.declared.fault.Fault.TheVariants as faults
use Rattle.c_parser_leaves.specs.Ends.{Hands, handed, unmade}
use Rattle.c_parser_leaves.proofs.made.handed.Goals as goal

pub returns-in-Ok-clause-goes : goal.returns-in-Ok-clause-goes
returns-in-Ok-clause-goes g c = subst (λ m. Hands c.args.tokens.now m (Ok (c.in-Ok.whole, c.args.tokens))) (sym c.in-Ok.is) (handed refl)

pub returns-in-Err-clause-goes : goal.returns-in-Err-clause-goes
returns-in-Err-clause-goes g c = subst (λ m. Hands c.args.tokens.now m (Err faults.NoMemory)) (sym c.in-Err.is) unmade
