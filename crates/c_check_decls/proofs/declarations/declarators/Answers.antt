use Rattle.std.proofs.Common.{refl, subst, drop, ◌+◌}
use Rattle.std.specs.Prelude.{map}
use Rattle.std.proofs.lemmas.Option.{IfSome_then}
use Rattle.c_syntax_written.specs.WrittenDecl.{initdeclarator_tree}
use Rattle.c_typing.specs.Decls.{TypesInitDeclarators}
use Rattle.c_typing.specs.World.{Typed, Refused, goes_on, stops}
use Rattle.c_check_jumps.specs.ContextViews.{context_tree}
use Rattle.c_check_names.specs.Views.{refusal_of}
use Rattle.c_check_decls.specs.MadeViews.{made_tree}
use Rattle.c_check_names.specs.Trees.{form_tree}
use Rattle.c_check_names.specs.Worlds.{world_of}
use Rattle.c_check_decls.proofs.Lists.{next_declarator, last_declarator}
use Rattle.c_check_decls.proofs.declarations.declarators.Goals as goal

pub each-init : goal.each-init
each-init c = λ o p.
    subst (λ d. TypesInitDeclarators (world_of c.args.world.now) (context_tree c.args.around) c.args.first c.args.storage.now (form_tree c.args.base.now) d
    (map initdeclarator_tree c.args.items.now) o) c.nothing-done.ensures p

pub each-preserved : goal.each-preserved
each-preserved c = λ o p.
    c.each.invariant o (next_declarator (world_of c.each.world) (context_tree c.args.around) c.args.first c.args.storage.now (form_tree c.args.base.now)
    (made_tree c.each.done) c.args.items.now c.each.item-index c.item-item.result o c.item-item.is c.each-test.true
    (goes_on c.in-Ok.ensures
    (subst (λ d. TypesInitDeclarators (world_of c.one_declarator.new.world) (context_tree c.args.around) c.args.first c.args.storage.now (form_tree c.args.base.now)
    d (map initdeclarator_tree (drop (c.each.item-index + 1) c.args.items.now)) o) c.in_ok-done.ensures p)))

pub returns-in-Err : goal.returns-in-Err
returns-in-Err c =
    IfSome_then (refusal_of c.in-Err.error) c.in-Err.ensures (λ r p.
    c.each.invariant (Refused r) (next_declarator (world_of c.each.world) (context_tree c.args.around) c.args.first c.args.storage.now (form_tree c.args.base.now)
    (made_tree c.each.done) c.args.items.now c.each.item-index c.item-item.result (Refused r) c.item-item.is c.each-test.true (stops p)))

pub returns : goal.returns
returns c =
    c.each.invariant (Typed (made_tree c.each.done) (world_of c.each.world))
    (last_declarator (world_of c.each.world) (context_tree c.args.around) c.args.first c.args.storage.now (form_tree c.args.base.now) (made_tree c.each.done)
    c.args.items.now c.each.item-index (Typed (made_tree c.each.done) (world_of c.each.world)) c.each-test.false refl)
