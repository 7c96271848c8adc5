use Rattle.std.proofs.Common.{arith}
use Rattle.c_parser.proofs.NewTypes.{word_added, words_added}
use Rattle.c_parser.proofs.outer.with_words.Goals as goal

pub loop-item-preserved : goal.loop-item-preserved
loop-item-preserved c = word_added _ _ _ c.args.inits.now c.loop-item.item-index c.item-item.result (omega arith) c.item-item.is c.loop-item.invariant c.in_ok-names.ensures

pub returns : goal.returns
returns c = words_added _ _ c.args.inits.now c.loop-item.item-index (omega arith) c.loop-item.invariant
