use Rattle.std.proofs.Common.{◌≡◌, drop}
use Rattle.c_parser.proofs.NewTypes.{typedef_among}
use Rattle.c_parser.proofs.outer.has_typedef.Given as goal

-- no spec before is a typedef
abbrev pub invariant-loop-spec : goal.invariant-loop-spec
invariant-loop-spec l = typedef_among (drop l.spec-index l.specs) ≡ typedef_among l.specs
