use Rattle.std.proofs.Common.{◌≡◌, ap, ◌∙◌}
use Rattle.std.specs.Prelude.{Some, None, slice_get}
use Rattle.std.specs.Option.{option_copied}
use Rattle.c_syntax.specs.Types.{Void}
use Rattle.c_syntax.specs.Program.{tfunction_tree}
use Rattle.c_syntax.proofs.TypeTrees.{ctype_void}
use Rattle.c_check_exprs.proofs.Passing.{found_at, told_at}
use Rattle.c_check_exprs.proofs.calls.result_of.Goals as goal

pub returns-in-None : goal.returns-in-None
returns-in-None c =
    let functions = c.args.world.now.functions.items in
    let none : slice_get functions c.args.n ≡ None =
    found_at c.deref.result.now functions c.args.n c.get.result
    c.get.ensures.lookup.3 c.deref.ensures.value None (ap option_copied c.in-None.is) in
    ctype_void ∙ told_at tfunction_tree (λ f. f.result) Void functions c.args.n None none

pub returns-in_ok-ty-in-Some : goal.returns-in_ok-ty-in-Some
returns-in_ok-ty-in-Some c =
    let functions = c.args.world.now.functions.items in
    let there : slice_get functions c.args.n ≡ Some c.in-Some.function.now =
    found_at c.deref.result.now functions c.args.n c.get.result
    c.get.ensures.lookup.3 c.deref.ensures.value (Some c.in-Some.function.now) (ap option_copied c.in-Some.is) in
    c.in_ok-ty-in-Some.ensures ∙ told_at tfunction_tree (λ f. f.result) Void functions c.args.n (Some c.in-Some.function.now) there
