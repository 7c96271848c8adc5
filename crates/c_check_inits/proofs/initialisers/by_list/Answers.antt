use Rattle.c_syntax_written.specs.WrittenDecl.{inits_tree}
use Rattle.std.proofs.Common.{ap, subst, map}
use Rattle.std.proofs.lemmas.Option.{IfSome_then}
use Rattle.c_syntax.specs.Types.{ctype_tree}
use Rattle.c_syntax.specs.TypedStmt.{tinit_tree}
use Rattle.c_typing.specs.Inits as inits
use Rattle.c_typing.specs.World.{Typed, Refused, goes_on, stops}
use Rattle.c_check_names.specs.Views.{refusal_of}
use Rattle.c_check_names.specs.Worlds.{world_of}
use Rattle.c_check_inits.specs.Views.{filled_tree}
use Rattle.c_check_inits.proofs.initialisers.by_list.Goals as goal

pub returns-in-Err : goal.returns-in-Err
returns-in-Err c =
    IfSome_then (refusal_of c.in-Err.error) c.in-Err.ensures (λ r p.
    stops (subst (λ f. inits.TypesItems (world_of c.args.world.now) c.args.is_static (ctype_tree c.args.ty.now) f (inits_tree c.args.list.now) (Refused r))
    c.nothing_filled-nothing.ensures p))

pub returns : goal.returns
returns c =
    goes_on (subst (λ f. inits.TypesItems (world_of c.args.world.now) c.args.is_static (ctype_tree c.args.ty.now) f (inits_tree c.args.list.now)
    (Typed (filled_tree c.in-Ok.got) (world_of c.list_items.new.world))) c.nothing_filled-nothing.ensures c.in-Ok.ensures)
    (ap (λ n. Typed (inits.by_text (map tinit_tree c.in-Ok.got.items.items) n) (world_of c.list_items.new.world)) c.own_count-count.ensures)
