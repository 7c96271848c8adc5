use Rattle.std.proofs.Common.{ap, sym, subst, ℕ, List, [], ◌≡◌}
use Rattle.std.specs.Prelude.{All}
use Rattle.num_api.specs.Lives.{is_live}
use Rattle.num_api.specs.Messages.{put_out}
use Rattle.num_api.specs.declared.message.Message.{Message}
use Rattle.num_api.specs.declared.message.Range.{Range}
use Rattle.channels.specs.Hearing.{IsHeard}
use Rattle.relations_laws.proofs.told.answers_what_it_told.Goals as goal

heard_of : (K : ℕ → Range) (before after seen : List Message) → before ≡ [] → seen ≡ after → All (IsHeard K) (put_out before after) → All (IsHeard K) seen
heard_of K before after seen e same h = subst (All (IsHeard K)) (sym same) (subst (λ (l : List Message). All (IsHeard K) (put_out l after)) e h)

pub returns : goal.returns
returns g c =
    let first = g.met.A.Exact.is_exact in
    c.answers_all.ensures first
    (heard_of _ _ c.assume.new.out c.as_slice.result.now c.new-out.ensures c.as_slice.ensures (c.in_ok-assume.ensures.heard (ap is_live c.in-Live.is) first))
