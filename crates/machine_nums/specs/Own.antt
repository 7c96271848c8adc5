-- The answers of a numeric domain to an expression without its types, where all that is asked lies inside the types.
use Rattle.c_syntax_written.specs.declared.int_type.IntType.{IntType}
use Rattle.num_api.specs.declared.message.Range.{Range}
use Rattle.num_api.specs.Exprs.{NExprTree}
use Rattle.num_api.specs.Exprs as plain
use Rattle.num_api.specs.Ranges.{NoWider}
use Rattle.num_api.specs.Spans.{range_of}
use Rattle.machine_nums.specs.MExprs.{MExprTree, Const, Read, Convert, Unary, Binary, type_of, untyped}
use Rattle.machine_nums.specs.Rule.{type_span}

-- the range lies inside the type
abbrev pub IsInside : IntType → Range → Type 0
IsInside t r = NoWider r (range_of (type_span t))

-- this is so of an answer that the domain may give
abbrev pub SomeAnswer : (NExprTree → Range → Type 0) → NExprTree → (Range → Type 0) → Type 0
SomeAnswer may e P = (r : Range) × may e r × P r

-- there is an answer for each part of the expression and for the whole, and where those of the parts lie inside the types of their nodes,
-- this is so of that of the whole
abbrev pub OwnAnswers : (NExprTree → Range → Type 0) → MExprTree → (Range → Type 0) → Type 0
OwnAnswers may (Const t n) P = SomeAnswer may (plain.Const n) P
OwnAnswers may (Read x t) P = SomeAnswer may (plain.Read x) P
OwnAnswers may (Convert t a) P = OwnAnswers may a (λ r. IsInside (type_of a) r → P r)
OwnAnswers may (Unary op t a) P = OwnAnswers may a (λ q. IsInside (type_of a) q → SomeAnswer may (plain.Unary op (untyped a)) P)
OwnAnswers may (Binary op t a b) P = OwnAnswers may a (λ p. IsInside (type_of a) p
    → OwnAnswers may b (λ q. IsInside (type_of b) q → SomeAnswer may (plain.Binary op (untyped a) (untyped b)) P))
