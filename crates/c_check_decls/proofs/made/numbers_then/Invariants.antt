use Rattle.std.proofs.Common.{◌≡◌, ◌++◌, take}
use Rattle.c_check_decls.proofs.made.numbers_then.Given as goal

abbrev pub invariant-loop-n : goal.invariant-loop-n
invariant-loop-n l = l.all.items ≡ l.fn.first.items ++ take l.n-index l.n-items
