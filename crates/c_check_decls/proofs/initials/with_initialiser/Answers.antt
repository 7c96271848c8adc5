use Rattle.std.proofs.Common.{◌≡◌, subst}
use Rattle.std.proofs.lemmas.Option.{IfSome_then}
use Rattle.c_syntax_written.specs.WrittenDecl.{init_tree}
use Rattle.c_typing.specs.Decls as decls
use Rattle.c_typing.specs.Inits.{TypesInit}
use Rattle.c_typing.specs.World.{Typed, Refused, goes_on, stops}
use Rattle.c_check_decls.specs.DeclaredViews.{now_tree}
use Rattle.c_check_names.specs.Views.{refusal_of}
use Rattle.c_check_exprs.proofs.Results.{by}
use Rattle.c_check_fills.specs.Views.{by_tree}
use Rattle.c_check_decls.specs.MadeViews.{made_tree}
use Rattle.c_check_names.specs.Worlds.{world_of}
use Rattle.c_check_decls.specs.Forms.{WithInitialiser}
use Rattle.c_check_decls.proofs.initials.with_initialiser.Goals as goal

pub returns-in-Err : goal.returns-in-Err
returns-in-Err c =
    let w = world_of c.args.world.now in
    let object = now_tree c.args.object.now in
    IfSome_then (refusal_of c.in-Err.error) c.in-Err.ensures (λ r p.
    stops (subst (λ f. TypesInit w object.is_static object.ty f (init_tree c.args.init.now) (Refused r)) c.in_ok-frame.ensures p))

pub returns : goal.returns
returns c =
    let w = world_of c.args.world.now in
    let v = world_of c.initialiser.new.world in
    let object = now_tree c.args.object.now in
    let by_list = by_tree c.in-Ok.got in
    by (λ out. out ≡ decls.initialised v object by_list (decls.measured v object by_list)) (WithInitialiser w object (init_tree c.args.init.now)) made_tree
    (world_of c.initialised.new.world) c.initialised.result c.initialised.ensures (λ o p.
    goes_on (subst (λ f. TypesInit w object.is_static object.ty f (init_tree c.args.init.now) (Typed by_list v)) c.in_ok-frame.ensures c.in-Ok.ensures) p)
