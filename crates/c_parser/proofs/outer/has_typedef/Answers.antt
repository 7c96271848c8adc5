use Rattle.std.proofs.Common.{sym, ◌∙◌, arith}
use Rattle.c_parser.proofs.NewTypes.{typedef_found, typedef_later, typedef_nowhere}
use Rattle.c_parser.proofs.outer.has_typedef.Goals as goal

pub returns-then-is_typedef : goal.returns-then-is_typedef
returns-then-is_typedef c = typedef_found c.args.specs.now c.loop-spec.spec-index c.spec-item.result (omega arith) c.spec-item.is c.loop-spec.invariant (sym c.is_typedef.ensures ∙ c.if-is_typedef.true)

pub loop-spec-preserved : goal.loop-spec-preserved
loop-spec-preserved c = typedef_later c.args.specs.now c.loop-spec.spec-index c.spec-item.result (omega arith) c.spec-item.is c.loop-spec.invariant (sym c.is_typedef.ensures ∙ c.if-is_typedef.false)

pub returns : goal.returns
returns c = typedef_nowhere c.args.specs.now c.loop-spec.spec-index (omega arith) c.loop-spec.invariant
