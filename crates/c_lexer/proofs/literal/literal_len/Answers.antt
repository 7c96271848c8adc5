use Rattle.std.proofs.Common.{drop, [], sym, subst, arith, refl}
use Rattle.c_lexer.specs.Spelling.{Reads, here}
use Rattle.c_lexer.proofs.CharacterLemmas.{more_read, closed_at, open_at}
use Rattle.c_lexer.proofs.literal.literal_len.Goals as goal

pub loop-after-init : goal.loop-after-init
loop-after-init c = record {
  reads = ([], subst (λ v. Reads c.args.quote (drop 1 c.args.bytes.now) [] v) (sym c.split_at.ensures.back) here);
  short = omega (arith, c.requires.some, c.split_at.ensures.back_len);
}

pub loop-after-preserved : goal.loop-after-preserved
loop-after-preserved c = record {
  reads = more_read c.args.quote (drop 1 c.args.bytes.now) c.loop-after.rest.now c.in-Some.after.now c.in-Some.field-0-0 c.loop-after.invariant.reads c.in-Some.ensures;
  short = omega (arith, c.in-Some.ensures.shorter, c.loop-after.invariant.short);
}

pub returns-then-begins_with : goal.returns-then-begins_with
returns-then-begins_with c = let b = c.if-begins_with.ensures.0 refl in closed_at c.args.quote c.args.bytes.now c.loop-after.rest.now _ c.requires.some c.requires.first c.loop-after.invariant.reads b.0 b.1 refl

pub returns-else-begins_with : goal.returns-else-begins_with
returns-else-begins_with c = open_at c.args.quote c.args.bytes.now c.loop-after.rest.now c.requires.some c.requires.first c.requires.no_escape c.loop-after.invariant.reads c.in_default.ensures (λ h. let f = c.if-begins_with.ensures.1 h in absurd (cc))
