use Rattle.std.proofs.lemmas.Result.{on_ok_weaker}
use Rattle.csharp.specs.Trees.{csexpr_tree}
use Rattle.mem_cell_exprs.proofs.Options.{some-at}
use Rattle.mem_cell_stores.specs.Changes.{IsCellFor}
use Rattle.mem_cell_stores.proofs.stores.store_at.Goals as goal

pub returns-in-Some : goal.returns-in-Some
returns-in-Some g c =
    let content = c.in_ok-content.content in let f = csexpr_tree c.args.value.now in
    let fits = some-at (IsCellFor c.args.spot.at c.args.ty content) c.in_ok-cell.field-0 c.in-Some.cell c.in-Some.is c.in_ok-cell.ensures in
    record {
      types = c.put_value.ensures.types;
      stands = on_ok_weaker c.put_value.result (λ law e leads. law e f leads c.in_ok-content.ensures fits) c.put_value.ensures.stands;
    }

pub returns : goal.returns
returns g c =
    let f = csexpr_tree c.args.value.now in
    record {
      types = c.forget_spot.ensures.types;
      stands = on_ok_weaker c.forget_spot.result (λ law e leads. law e f leads) c.forget_spot.ensures.stands;
    }
