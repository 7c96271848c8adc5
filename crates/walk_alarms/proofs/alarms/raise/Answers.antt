use Rattle.std.proofs.Common.{[], length, refl, inl}
use Rattle.csharp.specs.Trees.{csprogram_tree}
use Rattle.csharp.specs.States.{State}
use Rattle.mem_api.specs.FactsOf.{HoldsIn, NamesFactObjects}
use Rattle.csharp.specs.Trees as code
use Rattle.csharp.specs.Trees.{cscheck_tree}
use Rattle.walk_owes.proofs.Admits.{gains_push}
use Rattle.walk_owes.proofs.Alone.{push_alone}
use Rattle.walk_owes.proofs.Lists.{added, listed_front, listed_back}
use Rattle.walk_alarms.proofs.alarms.raise.Goals as goal

pub returns-clause-old : goal.returns-clause-old
returns-clause-old g c = λ calls at k x m h. rw c.in_ok-push.ensures.items (listed_front (csprogram_tree c.args.program.now) c.args.out.now.items _ calls at k x m h)

pub returns-clause-new : goal.returns-clause-new
returns-clause-new g c = λ s x h i.
    let q = csprogram_tree c.args.program.now in
    rw c.in_ok-push.ensures.items (listed_back q c.args.out.now.items _ [] c.args.check.now.pos c.args.check.now.check.kind x s.memory
    (inl (record {
      chain = c.new.ensures;
      place = refl;
      kind = refl;
      shown = i;
      facts = added (NamesFactObjects (length q.objects)) (λ fact. (u : State) → g.M.MemDomain.stands c.args.state.now u → HoldsIn q u.memory fact)
          (HoldsIn q s.memory) _ _ c.new-facts.ensures (c.in_ok-facts.ensures.told q c.requires.is_for) (λ f n y. y s h);
    })))

pub returns-clause-gains : goal.returns-clause-gains
returns-clause-gains g c =
    let q = csprogram_tree c.args.program.now in
    rw c.in_ok-push.ensures.items
    (gains_push q (code.Checked (cscheck_tree c.args.check.now)) c.args.out.now.items _
    (record {
      check = rw c.new.ensures (refl, refl, c.requires.form);
      kind = refl;
      example_shown = c.requires.failing.shown_there;
      example_fails = c.requires.failing.fails;
      proper = c.requires.proper;
      names = c.requires.names;
      facts = added (NamesFactObjects (length q.objects)) (λ fact. (u : State) → g.M.MemDomain.stands c.args.state.now u → HoldsIn q u.memory fact)
          (NamesFactObjects (length q.objects)) _ _ c.new-facts.ensures (c.in_ok-facts.ensures.told q c.requires.is_for) (λ f n y. n);
    }))

pub returns-clause-alone : goal.returns-clause-alone
returns-clause-alone g c = λ s x h i e. (
  _,
  push_alone _ _ _ c.in_ok-push.ensures.items e,
  record {
    chain = c.new.ensures;
    place = refl;
    kind = refl;
    shown = i;
    facts = c.in_ok-facts.ensures.sharp (csprogram_tree c.args.program.now) s c.requires.is_for h;
  },
)
