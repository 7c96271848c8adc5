use Rattle.std.proofs.Common.{ap}
use Rattle.std.proofs.lemmas.Result.{IfOk-weaker}
use Rattle.num_api.specs.Lives.{is_live}
use Rattle.machine_nums.proofs.Both.{ok_both}
use Rattle.machine_nums.proofs.Cutting.{cut_under, under_itself}
use Rattle.machine_nums.proofs.changes.keep_both.Goals as goal

pub returns-clause-after : goal.returns-clause-after
returns-clause-after g c = IfOk-weaker c.keep-2.result _ _ (λ live h v ad cuts. h v (c.in_ok-keep.ensures.after v ad cuts.left).1 cuts.right)
    c.keep-2.ensures.after

pub returns-clause-sharp : goal.returns-clause-sharp
returns-clause-sharp g c = IfOk-weaker c.keep-2.result _ _
    (λ live h v y ex l ad cuts s. h v y ex (c.in_ok-keep.ensures.after v ad cuts.left).1 cuts.right (c.in_ok-keep.ensures.sharp v y ex ad cuts.left s))
    c.keep-2.ensures.sharp

pub returns-clause-narrows : goal.returns-clause-narrows
returns-clause-narrows g c = IfOk-weaker c.keep-2.result _ _
    (λ live h given ex u. h given ex (c.in_ok-keep.ensures.narrows given ex u)) c.keep-2.ensures.narrows

pub returns-clause-cut : goal.returns-clause-cut
returns-clause-cut g c = ok_both _ _ _ c.keep-2.result c.keep-2.ensures.narrows c.keep-2.ensures.cut (λ live narrows cut ex is.
    let known = g.D.Oracle.known in let left = known c.keep.new.state in
    record {
      left = cut_under (known c.keep-2.new.state) left c.args.cuts.left (narrows left ex (under_itself left))
          (c.in_ok-keep.ensures.cut ex (ap is_live c.in-Live.is));
      right = cut ex is;
    })
