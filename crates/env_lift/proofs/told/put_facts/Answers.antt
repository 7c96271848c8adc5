use Rattle.std.proofs.Common.{sym, subst, ◌≡◌, Some}
use Rattle.env_lift.specs.declared.entries.Entry.{Entry}
use Rattle.num_api.proofs.PutOut.{adds_twice, tells_twice}
use Rattle.env_lift.specs.Entries.{value_in}
use Rattle.env_lift.proofs.Rising.{rising_found}
use Rattle.env_lift.proofs.told.put_facts.Goals as goal

pub loop-entry-preserved : goal.loop-entry-preserved
loop-entry-preserved g c =
    let es = c.args.entries.now in let i = c.loop-entry.entry-index in let item = c.entry-item.result in
    let inv = c.loop-entry.invariant in
    let one = c.in_ok-put_fact.ensures in
    let found = subst (λ (d : Entry g.row.V.Denot). value_in es d.var.0 ≡ Some d.value) (sym c.entry-item.is) (rising_found es c.requires i item c.loop-entry-test.true) in
    record {
      kept = adds_twice c.args.out.now c.loop-entry.out c.put_fact.new.out inv.kept one.kept;
      told = λ v p. tells_twice v c.args.out.now c.loop-entry.out c.put_fact.new.out inv.kept one.kept (inv.told v p) (one.told v (p item.var.0 item.value found));
    }
