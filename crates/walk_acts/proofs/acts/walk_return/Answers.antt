use Rattle.std.proofs.Common.{Some, refl}
use Rattle.csharp.specs.Trees.{csexpr_tree, csprogram_tree}
use Rattle.walk_owes.specs.declared.way.Way.TheVariants as ways
use Rattle.walk_owes.specs.Owes.{HasTyped, returned}
use Rattle.walk_owes.proofs.Acting.{none_typed, return_sound, value_typed}
use Rattle.walk_owes.proofs.Alone.{kept_typed}
use Rattle.walk_owes.proofs.ExactActs.{return_exact}
use Rattle.walk_owes.proofs.Typed.{keeps_with}
use Rattle.walk_acts.proofs.acts.walk_return.Goals as goal

pub keep-requires : goal.keep-requires
keep-requires g c =
    let q = csprogram_tree c.args.program.now in
    record { one = (q, c.requires.kept_for, c.in_ok-give.ensures.is_for q c.requires.is_for) }

pub returns-clause-kept_for : goal.returns-clause-kept_for
returns-clause-kept_for g c =
    let q = csprogram_tree c.args.program.now in
    c.in_ok-keep.ensures.is_for q c.requires.kept_for (c.in_ok-give.ensures.is_for q c.requires.is_for)

pub returns-clause-sound : goal.returns-clause-sound
returns-clause-sound g c = λ out.
    let q = csprogram_tree c.args.program.now in
    let sets = c.actions_keep_states_typed.ensures.set in
    return_sound (HasTyped g.M.MemDomain.stands q) q c.args.to c.args.state c.keep.new.kept.items out c.args.value.now
    (λ s e h. keeps_with g.M.MemDomain.stands q c.keep.new.kept.items ways.Return _ (c.in_ok-keep.ensures.new _ (c.in_ok-give.ensures.none s e h.0))
    (none_typed sets q c.args.to s c.requires.target h.1))
    (λ x s v e h i. let given = rw e at c.requires.given in
    keeps_with g.M.MemDomain.stands q c.keep.new.kept.items ways.Return (returned c.args.to (Some v) s)
    (c.in_ok-keep.ensures.new (returned c.args.to (Some v) s) (c.in_ok-give.ensures.some x s v e h.0 i))
    (value_typed sets q c.args.to s (csexpr_tree x) v c.requires.target given i h.1))

pub returns-clause-exact : goal.returns-clause-exact
returns-clause-exact g c = λ over out.
    let q = csprogram_tree c.args.program.now in
    let sets = c.actions_keep_states_typed.ensures.set in
    return_exact (HasTyped g.M.MemDomain.sharp q) over q c.args.to c.args.value.now c.args.state c.args.kept.now.items c.keep.new.kept.items out
    (λ s e h i. kept_typed g.M.MemDomain.sharp q c.keep.new.kept.items ways.Return _
    (record { way = ways.Return; state = c.give.new.state }, c.in_ok-keep.ensures.alone i, refl, c.in_ok-give.ensures.sharp_none s e h.0)
    (none_typed sets q c.args.to s c.requires.target h.1))
    (λ x s v e h i k. let given = rw e at c.requires.given in
    kept_typed g.M.MemDomain.sharp q c.keep.new.kept.items ways.Return (returned c.args.to (Some v) s)
    (record { way = ways.Return; state = c.give.new.state }, c.in_ok-keep.ensures.alone i, refl, c.in_ok-give.ensures.sharp_some x s v e h.0 k)
    (value_typed sets q c.args.to s (csexpr_tree x) v c.requires.target given k h.1))
