use Rattle.std.proofs.Common.{rules, arith, suc, ℕ, ◌≡◌, ◌+◌, ◌<◌, List, ◌∷◌, length, take, drop, subst, ap, ◌∙◌}
use Rattle.std.specs.Prelude.{All}
use Rattle.std.proofs.Math.Seq.{drop-cons}
use Rattle.std.proofs.lemmas.List.Elements.{All-head, All-tail, All-more}
use Rattle.num_api.specs.declared.message.Message.{Message}
use Rattle.num_api.specs.Lives.{is_live}
use Rattle.num_api.specs.Messages.{Holds, IsProper}
use Rattle.channels.specs.Hearing.{IsHeard}
use Rattle.channels.proofs.HeardLemmas.{heard_still, heard_at}
use Rattle.channels.proofs.delivery.deliver.Goals as goal

pub loop-m-preserved : goal.loop-m-preserved
loop-m-preserved g c =
    let i = c.loop-m.m-index in let told = c.args.told.now in let m = c.m-item.result in
    let rest = drop (c.loop-m.m-index + 1) c.args.told.now in
    let known = g.D.Oracle.known c.accept.new.self in
    let next : suc c.loop-m.m-index ≡ c.loop-m.m-index + 1 = omega arith in
    let inside : c.loop-m.m-index < length c.args.told.now = search rules in
    let left : drop c.loop-m.m-index c.args.told.now ≡ c.m-item.result ∷ drop (c.loop-m.m-index + 1) c.args.told.now =
    subst (λ (n : ℕ). drop c.loop-m.m-index c.args.told.now ≡ c.m-item.result ∷ drop n c.args.told.now) next
    (drop-cons c.args.told.now c.loop-m.m-index c.m-item.result inside ∙ ap (λ (q : Message). q ∷ drop (suc c.loop-m.m-index) c.args.told.now) (search rules)) in
    record {
      handed = record {
        after = λ v a h.
            let now = c.loop-m.invariant.handed.after v a h in
            let holds = subst (All (Holds v)) left now.1 in
            ((c.in_ok-accept.ensures.after v now.0 (All-head (Holds v) m rest holds)).1, All-tail (Holds v) m rest holds);
        proper = All-tail IsProper m rest (subst (All IsProper) left c.loop-m.invariant.handed.proper);
        sharp = λ v y x a h s.
            let now = c.loop-m.invariant.handed.after v a h in
            c.in_ok-accept.ensures.sharp v y x now.0 (All-head (Holds v) m rest (subst (All (Holds v)) left now.1)) (c.loop-m.invariant.handed.sharp v y x a h s);
        plain = λ given x u. c.in_ok-accept.ensures.plain given x (c.loop-m.invariant.handed.plain given x u);
      };
      heard = λ x.
          All-more (IsHeard known) told i m inside
          (heard_still (g.D.Oracle.known c.loop-m.state) known (take i told) (λ given u. c.in_ok-accept.ensures.plain given x u) (c.loop-m.invariant.heard x))
          (subst (IsHeard known) c.m-item.is (heard_at known m (λ y r e. c.in_ok-accept.ensures.cut y r x e (ap is_live c.in-Live.is))));
    }
