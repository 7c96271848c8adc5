use Rattle.std.proofs.Common.{sym, ◌∙◌}
use Rattle.c_rules.proofs.Mains.{named_at, none_named, still_unnamed}
use Rattle.c_rules.proofs.start.named_main.Goals as goal

pub loop-number-preserved : goal.loop-number-preserved
loop-number-preserved c =
    still_unnamed c.args.functions.now c.loop-number.number c.index-functions-number.result c.loop-number-test.true c.index-functions-number.is c.loop-number.invariant
    (sym c.is_named_main.ensures ∙ c.if-is_named_main.false)

pub returns-then-is_named_main : goal.returns-then-is_named_main
returns-then-is_named_main c = record {
  place = named_at c.args.functions.now c.loop-number.number c.index-functions-number.result c.loop-number-test.true c.index-functions-number.is
      c.loop-number.invariant (sym c.is_named_main.ensures ∙ c.if-is_named_main.true);
  inside = c.loop-number-test.true;
}

pub returns : goal.returns
returns c = record { place = none_named c.args.functions.now c.loop-number.number c.loop-number-test.false c.loop-number.invariant; inside = tt }
