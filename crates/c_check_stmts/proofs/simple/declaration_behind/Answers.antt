use Rattle.std.proofs.Common.{ap}
use Rattle.std.proofs.lemmas.Option.{IfSome_then}
use Rattle.c_typing.specs.Decls.{Made}
use Rattle.c_typing.specs.World.{Typed, goes_on, stops}
use Rattle.c_check_names.specs.Views.{refusal_of}
use Rattle.c_check_names.specs.Worlds.{world_of}
use Rattle.c_check_stmts.proofs.simple.declaration_behind.Goals as goal

pub returns-in-Err : goal.returns-in-Err
returns-in-Err c = IfSome_then (refusal_of c.in-Err.error) c.in-Err.ensures (λ r p. stops p)

pub returns : goal.returns
returns c = goes_on c.in-Ok.ensures (ap (λ (made : Made). Typed made (world_of c.declaration.new.world)) c.in_ok-all.ensures)
