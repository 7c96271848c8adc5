use Rattle.std.proofs.Common.{drop, [], sym, subst, arith}
use Rattle.std.proofs.lemmas.Grind.{common_steps}
use Rattle.c_lexer.specs.Spelling.{Reads, here}
use Rattle.c_lexer.proofs.CharacterLemmas.{all_characters, literal_some}
use Rattle.c_lexer.proofs.Stretches.{allowed}
use Rattle.c_lexer.proofs.literal.bad_escape.Goals as goal

pub loop-value-init : goal.loop-value-init
loop-value-init c = record {
  reads = ([], subst (λ v. Reads 34 (drop 1 c.args.literal.now) [] v) (sym c.split_at.ensures.back) here);
  short = omega (arith, literal_some c.args.literal.now 34 c.requires, c.split_at.ensures.back_len);
}

pub loop-value-preserved : goal.loop-value-preserved
loop-value-preserved c = record {
  reads = allowed (drop 1 c.args.literal.now) c.loop-value.rest.now c.in-Some.after.now c.loop-value.invariant.reads.0 c.in-Some.value c.loop-value.invariant.reads.1 c.in-Some.ensures (λ e. grind (arith, common_steps));
  short = omega (arith, c.in-Some.ensures.shorter, c.loop-value.invariant.short);
}

pub returns : goal.returns
returns c = (c.loop-value.invariant.reads.0, all_characters c.args.literal.now c.loop-value.rest.now c.loop-value.invariant.reads.0 c.requires c.loop-value.invariant.reads.1 c.in_default.ensures)
