use Rattle.std.proofs.Common.{refl, subst, sym}
use Rattle.std.proofs.lemmas.Result.{on_ok_weaker}
use Rattle.num_api.specs.Valuation.{SetTo}
use Rattle.machine_nums.specs.Machines.{Admits}
use Rattle.mem_cell_stores.proofs.Behind.{put-behind}
use Rattle.mem_cell_stores.proofs.stores.put_value.Goals as goal

pub returns-in_ok-put_number-in-Some : goal.returns-in_ok-put_number-in-Some
returns-in_ok-put_number-in-Some g c =
    let admits = g.D.Oracle.admits in let known = c.args.known.now in let ty = c.args.ty in
    record {
      types = refl;
      stands = on_ok_weaker c.put_cell.result (λ put e f leads content fits.
          put-behind admits known ty e f (Admits admits c.put_number.new.nums) c.put_cell.new.grid c.args.spot c.args.content.now c.args.cell c.in-Some.ensures.small leads content fits put
          (λ v w n a typed inside value set.
          c.in_ok-put_number-in-Some.ensures v w n a typed inside value (subst (λ y. SetTo y n v w) (sym c.in-Some.ensures.variable) set))) c.put_cell.ensures;
    }

pub returns-in-None : goal.returns-in-None
returns-in-None g c = record {
  types = c.forget_spot.ensures.types;
  stands = on_ok_weaker c.forget_spot.result (λ law e f leads content fits. law e f leads) c.forget_spot.ensures.stands;
}
