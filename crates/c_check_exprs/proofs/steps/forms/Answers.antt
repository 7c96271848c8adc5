use Rattle.std.proofs.Common.{◌≡◌, ◌<◌, ◌++◌, ap, sym, ◌∙◌, subst}
use Rattle.c_syntax_written.specs.Written.{declarator_tree}
use Rattle.c_check_exprs.specs.Views.{forms_of}
use Rattle.c_check_exprs.proofs.Forms.{forms_from, next_falls, next_forms, one_listed, size_from, trees_of}
use Rattle.c_check_exprs.proofs.steps.forms.Goals as goal

pub inward-init : goal.inward-init
inward-init c = ap (λ l. trees_of l ++ forms_of (declarator_tree c.args.whole.now)) c.new-list.ensures.items

pub inward-preserved : goal.inward-preserved
inward-preserved c =
    one_listed (declarator_tree c.args.whole.now) c.inward.list.items c.push.new.self.items c.in-Some.form c.inner-next.result c.in_ok-push.ensures.items
    (ap (λ n. trees_of c.inward.list.items ++ forms_from n) (sym c.in-Some.is) ∙ c.inward.invariant)
    (next_forms c.in-Some.form.now c.inner-next.result c.inner-next.ensures.none c.inner-next.ensures.one)

pub inward-smaller : goal.inward-smaller
inward-smaller c =
    subst (λ n. size_from c.inner-next.result < size_from n) (sym c.in-Some.is) (next_falls c.in-Some.form.now c.inner-next.result c.inner-next.ensures.one)
