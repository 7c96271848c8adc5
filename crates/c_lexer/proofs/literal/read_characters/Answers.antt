use Rattle.std.proofs.Common.{drop, map, Some, [], sym, subst, arith}
use Rattle.c_lexer.specs.Spelling.{Reads, here}
use Rattle.c_lexer.proofs.CharacterLemmas.{one_more, all_characters, literal_some}
use Rattle.c_lexer.proofs.literal.read_characters.Goals as goal

pub loop-value-init : goal.loop-value-init
loop-value-init c = record {
  reads = subst (λ v. Reads 34 (drop 1 c.args.literal.now) (map Some v) c.split_at.result.1.now) (sym c.new-values.ensures.items) (subst (λ v. Reads 34 (drop 1 c.args.literal.now) [] v) (sym c.split_at.ensures.back) here);
  short = omega (arith, literal_some c.args.literal.now 34 c.requires, c.split_at.ensures.back_len);
}

pub loop-value-preserved : goal.loop-value-preserved
loop-value-preserved c = record {
  reads = one_more (drop 1 c.args.literal.now) c.loop-value.rest.now c.in-Some.after.now c.loop-value.values.items c.push.new.self.items c.in-Some-value.byte c.in-Some.value c.loop-value.invariant.reads c.in-Some.ensures c.in-Some-value.is c.in_ok-push-in-Some-value.ensures.items;
  short = omega (arith, c.in-Some.ensures.shorter, c.loop-value.invariant.short);
}

pub returns : goal.returns
returns c = all_characters c.args.literal.now c.loop-value.rest.now c.loop-value.values.items c.requires c.loop-value.invariant.reads c.in_default.ensures
