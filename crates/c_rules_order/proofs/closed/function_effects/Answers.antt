use Rattle.std.proofs.Common.{◌⊎◌, List, map, subst}
use Rattle.std.specs.Prelude.{◌↔◌, Contains, IfOk}
use Rattle.c_syntax.specs.declared.types.Object.{Object}
use Rattle.c_syntax.specs.Program.{tprogram_tree}
use Rattle.c_syntax.specs.Types.{object_tree}
use Rattle.c_rules_calls.specs.Placed.{placed}
use Rattle.c_rules_effects.specs.declared.effects.Effects.{Effects}
use Rattle.c_rules_effects.specs.declared.touch.Touch.{Touch}
use Rattle.c_rules_order.specs.Gathered.{HasCalledReads, HasCalledWrites, IsSeenObject}
use Rattle.c_rules_order.proofs.Closing.{closed_told}
use Rattle.c_rules_order.proofs.closed.function_effects.Goals as goal

pub returns : goal.returns
returns c =
    let known = c.args.known.now in
    let calls = map placed c.args.calls.now in
    let own = c.in_ok-own.own in
    let r = c.seen_effects.result in
    closed_told (tprogram_tree c.args.program.now) c.args.function known calls c.requires.calls c.requires.known own r c.in_ok-own.ensures
    (subst (λ (objects : List Object). IfOk r (λ (all : Effects). (t : Touch) → Contains all.reads t
    ↔ ((Contains own.reads t × IsSeenObject (map object_tree objects) t) ⊎ HasCalledReads known calls t))) c.as_slice.ensures c.seen_effects.ensures.reads)
    (subst (λ (objects : List Object). IfOk r (λ (all : Effects). (t : Touch) → Contains all.writes t
    ↔ ((Contains own.writes t × IsSeenObject (map object_tree objects) t) ⊎ HasCalledWrites known calls t))) c.as_slice.ensures c.seen_effects.ensures.writes)
