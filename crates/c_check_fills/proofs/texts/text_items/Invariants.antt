use Rattle.std.proofs.Common.{◌≡◌, ◌++◌, drop, map}
use Rattle.c_syntax.specs.TypedStmt.{tinit_tree}
use Rattle.c_typing.specs.Inits.{text_items}
use Rattle.c_check_fills.proofs.texts.text_items.Given as goal

-- what is left makes the whole
abbrev pub invariant-each : goal.invariant-each
invariant-each l = map tinit_tree l.items.items ++ text_items l.at l.t l.next (drop l.byte-index l.text) ≡ text_items l.at l.t l.fn.offset l.fn.text
