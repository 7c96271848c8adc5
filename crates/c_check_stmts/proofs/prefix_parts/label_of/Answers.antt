use Rattle.std.proofs.Common.{ap}
use Rattle.std.proofs.lemmas.Option.{IfSome_then}
use Rattle.c_syntax.specs.TypedStmt.{TStmtTree}
use Rattle.c_typing.specs.World.{Typed, goes_on, stops}
use Rattle.c_check_names.specs.Views.{refusal_of}
use Rattle.c_check_names.specs.Worlds.{world_of}
use Rattle.c_check_stmts.proofs.prefix_parts.label_of.Goals as goal

pub returns-in-Err : goal.returns-in-Err
returns-in-Err c = IfSome_then (refusal_of c.in-Err.error) c.in-Err.ensures (λ r p. stops p)

pub returns : goal.returns
returns c = goes_on c.in-Ok.ensures (ap (λ (s : TStmtTree). Typed s (world_of c.labelled.new.world)) c.label_node.ensures)
