use Rattle.std.proofs.Common.{map}
use Rattle.csharp.specs.Trees.{csexpr_tree}
use Rattle.mem_narrowed.specs.Narrowed.{IsNarrowed}
use Rattle.mem_pairs.proofs.Forms.{form-along, forms-alike, only-along}
use Rattle.mem_pairs.proofs.Results.{if_ok_then}
use Rattle.mem_pairs.proofs.paired.PairedMemDomain.show.Goals as goal

pub narrowed-requires-clause-form : goal.narrowed-requires-clause-form
narrowed-requires-clause-form g c =
    forms-alike c.args.check.now.check.kind (map csexpr_tree c.args.check.now.operands) c.in_ok-first.first c.in_ok-second.second c.in_ok-first.ensures.form c.in_ok-second.ensures.form

pub returns-clause-form : goal.returns-clause-form
returns-clause-form g c = if_ok_then c.narrowed.result (IsNarrowed c.in_ok-first.first c.in_ok-second.second) _
    (λ w n. form-along c.args.check.now.check.kind (map csexpr_tree c.args.check.now.operands) c.in_ok-first.first w n.form c.in_ok-first.ensures.form) c.narrowed.ensures

pub returns-clause-sharp : goal.returns-clause-sharp
returns-clause-sharp g c = if_ok_then c.narrowed.result (IsNarrowed c.in_ok-first.first c.in_ok-second.second) _
    (λ w n q s x f t e.
    let alone = c.in_ok-first.ensures.sharp q s x f.0 t.0 e in
    record {
      there = n.holds q.objects x alone.there (c.in_ok-second.ensures.holds q s x f.1 t.1 e);
      only = λ y k. alone.only y (n.inside q.objects y (c.in_ok-second.ensures.names q f.1) k);
    }) c.narrowed.ensures

pub returns-clause-named : goal.returns-clause-named
returns-clause-named g c = if_ok_then c.narrowed.result (IsNarrowed c.in_ok-first.first c.in_ok-second.second) _
    (λ w n q e o k x f l p a i. only-along q.objects o k c.in_ok-first.first c.in_ok-second.second w n (c.in_ok-second.ensures.names q f.1) (c.in_ok-first.ensures.named q e o k x f.0 l p a i))
    c.narrowed.ensures
