use Rattle.std.proofs.Common.{ap, map}
use Rattle.std.specs.Prelude.{option_map}
use Rattle.csharp.specs.Trees.{csexpr_tree}
use Rattle.csharp.specs.Actions.{put}
use Rattle.walk_owes.proofs.Passing.{put_first}
use Rattle.walk_acts.proofs.give.pass_args.Goals as goal

pub loop-arg-init : goal.loop-arg-init
loop-arg-init g c = record {
  ready = λ q h k. (h, k);
  is_for = λ q h. h;
  stands = λ s t h p. (s, h, p);
  sharp = λ s t h p. (s, h, p);
}

pub set-requires : goal.set-requires
set-requires g c =
    let q = c.requires.ready.0 in
    let i = c.loop-arg.invariant.ready q c.requires.ready.1 c.requires.ready.2 in
    let ready = rw (c.in-Some.ensures.cases.0, c.in-Some-split_first.ensures.cases.0) at i.1 in
    (q, i.0, ready.0)

pub loop-arg-preserved : goal.loop-arg-preserved
loop-arg-preserved g c = record {
  ready = λ q h k.
      let i = c.loop-arg.invariant.ready q h k in
      let ready = rw (c.in-Some.ensures.cases.0, c.in-Some-split_first.ensures.cases.0) at i.1 in
      (c.in_ok-set.ensures.is_for q i.0, ready.2);
  is_for = λ q h. c.in_ok-set.ensures.is_for q (c.loop-arg.invariant.is_for q h);
  stands = λ s t h p.
      let q = c.requires.ready.0 in
      let k = c.loop-arg.invariant.ready q c.requires.ready.1 c.requires.ready.2 in
      let ready = rw (c.in-Some.ensures.cases.0, c.in-Some-split_first.ensures.cases.0) at k.1 in
      let i = c.loop-arg.invariant.stands s t h p in
      let e = rw (c.in-Some.ensures.cases.0, c.in-Some-split_first.ensures.cases.0) at i.2 in
      let f = put_first (csexpr_tree c.in-Some.arg.now) (map csexpr_tree c.in-Some.more.now) c.in-Some-split_first.param.now c.in-Some-split_first.last.now i.0 t
      ready.1 e in (
        put i.0 c.in-Some-split_first.param.now f.value,
        c.in_ok-set.ensures.stands i.0 (put i.0 c.in-Some-split_first.param.now f.value) i.1
            (ap (option_map (put i.0 c.in-Some-split_first.param.now)) f.has),
        f.rest,
      );
  sharp = λ s t h p.
      let q = c.requires.ready.0 in
      let k = c.loop-arg.invariant.ready q c.requires.ready.1 c.requires.ready.2 in
      let ready = rw (c.in-Some.ensures.cases.0, c.in-Some-split_first.ensures.cases.0) at k.1 in
      let i = c.loop-arg.invariant.sharp s t h p in
      let e = rw (c.in-Some.ensures.cases.0, c.in-Some-split_first.ensures.cases.0) at i.2 in
      let f = put_first (csexpr_tree c.in-Some.arg.now) (map csexpr_tree c.in-Some.more.now) c.in-Some-split_first.param.now c.in-Some-split_first.last.now i.0 t
      ready.1 e in (
        put i.0 c.in-Some-split_first.param.now f.value,
        c.in_ok-set.ensures.sharp i.0 (put i.0 c.in-Some-split_first.param.now f.value) i.1
            (ap (option_map (put i.0 c.in-Some-split_first.param.now)) f.has),
        f.rest,
      );
}
