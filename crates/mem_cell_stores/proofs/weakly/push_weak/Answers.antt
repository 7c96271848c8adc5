use Rattle.std.proofs.Common.{◌%◌, ◌∙◌, ◌++◌, ◌∷◌, ◌≡◌, [], ap, refl}
use Rattle.mem_cell_bytes.specs.declared.entry.Entry.{Entry}
use Rattle.mem_cell_bytes.specs.Joins.{IsWider}
use Rattle.mem_cell_exprs.proofs.Options.{some-at}
use Rattle.mem_cell_stores.specs.Changes.{IsCellFor}
use Rattle.mem_cell_stores.proofs.Weaker.{among-push, weak-hit, weak-kept}
use Rattle.mem_cell_stores.proofs.weakly.push_weak.Goals as goal

pub returns-then-is_beside : goal.returns-then-is_beside
returns-then-is_beside c =
    let old = c.args.cells.now.items in
    record {
      among = λ y h. h;
      cells = λ all has was. weak-kept c.args.object c.args.bytes c.args.ty c.args.content.now all c.args.variables.now.items old c.push.new.self.items c.args.e.now was has
          (c.if-is_beside.ensures refl) (c.in_ok-push.ensures.items ∙ ap (λ (x : Entry). old ++ x ∷ []) c.in_ok-copy.ensures);
    }

pub returns-in_default : goal.returns-in_default
returns-in_default c = record { among = λ y h. h; cells = λ all has was. was }

pub returns-in_default-cell_variable : goal.returns-in_default-cell_variable
returns-in_default-cell_variable c = record { among = λ y h. h; cells = λ all has was. was }

pub returns : goal.returns
returns c =
    let e = c.args.e.now in let w = c.in-Some.w in let x = c.in-Some-cell_variable.x.0 in let ys = c.args.variables.now.items in let zs = c.push-2.new.self.items in
    let ty = c.args.ty in let content = c.args.content.now in let step = c.args.bytes.step in
    let wider = some-at (IsWider e) c.in_ok-w.field-0 w c.in-Some.is c.in_ok-w.ensures.wider in
    let fits = some-at (λ (v : Entry). IsCellFor v.offset ty content v) c.in_ok-w.field-0 w c.in-Some.is c.in_ok-w.ensures.fits in
    let rest = some-at (λ (v : Entry). v.offset % step ≡ 0) c.in_ok-w.field-0 w c.in-Some.is c.in_ok-w.ensures.place in
    record {
      among = among-push ys zs x c.in_ok-push-2.ensures.items;
      cells = λ all has was. weak-hit c.args.object c.args.bytes ty content all ys zs c.args.cells.now.items c.push-3.new.self.items e w x was has wider fits rest
          c.in-Some-cell_variable.ensures.small c.in-Some-cell_variable.ensures.variable c.in_ok-push-2.ensures.items c.in_ok-push-3.ensures.items;
    }
