use Rattle.std.proofs.Common.{◌≡◌, ◌++◌, map}
use Rattle.c_syntax_written.specs.Written.{declarator_tree}
use Rattle.c_check_exprs.specs.Views.{forms_of}
use Rattle.c_check_exprs.proofs.Forms.{forms_from, size_from}
use Rattle.c_check_exprs.proofs.steps.forms.Given as goal

abbrev pub decreases-inward : goal.decreases-inward
decreases-inward l = size_from l.next

abbrev pub invariant-inward : goal.invariant-inward
invariant-inward l = map (λ form. declarator_tree form.now) l.list.items ++ forms_from l.next ≡ forms_of (declarator_tree l.fn.whole)
