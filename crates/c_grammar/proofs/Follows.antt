-- Behind each part of a production nothing may follow that continues the part.
use Rattle.c_grammar.specs.Parts.{Scene, Part, Value}
use Rattle.c_grammar.specs.Process.{Process}
use Rattle.c_grammar.specs.Grammar.{Produces, expr_rule, type_rule, file_rule}
use Rattle.c_grammar.proofs.Table.{WellFollowed}
use Rattle.c_grammar.proofs.Firsts.{begins, continues}
use Rattle.c_grammar.proofs.ExprFollows.{expr_follows}
use Rattle.c_grammar.proofs.TypeFollows.{type_follows}
use Rattle.c_grammar.proofs.FileFollows.{file_follows}

pub rule_follows : {w : Scene} {p : Part} {q : Process (Value p)} → Produces w p q → WellFollowed begins continues w p q
rule_follows (expr_rule r) = expr_follows r
rule_follows (type_rule r) = type_follows r
rule_follows (file_rule r) = file_follows r
