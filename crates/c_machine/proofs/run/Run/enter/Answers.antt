use Rattle.std.proofs.Common.{◌≡◌, List, map, sym, ap, ◌∙◌, subst}
use Rattle.c_syntax.specs.declared.types.Object.{Object}
use Rattle.c_syntax.specs.Types.{object_tree}
use Rattle.c_syntax.specs.Program.{tprogram_tree}
use Rattle.c_machine_values.specs.Contents.{stack_of}
use Rattle.c_machine_values.specs.Needs.{HasArguments}
use Rattle.c_machine.specs.Functions.{CalleeTree, callees_of}
use Rattle.c_machine.proofs.Entered.{has_callee, same_callee}
use Rattle.c_machine.proofs.run.Run.enter.Goals as goal

pub callee-callee-requires : goal.callee-callee-requires
callee-callee-requires c =
    let e = c.requires.entered in (
      _,
      has_callee (callees_of c.args.functions.now) (tprogram_tree c.args.program.now) c.args.function e.function e.body c.requires.functions e.is e.has_body,
    )

pub enter-requires : goal.enter-requires
enter-requires c =
    let e = c.requires.entered in
    let here = has_callee (callees_of c.args.functions.now) (tprogram_tree c.args.program.now) c.args.function e.function e.body c.requires.functions e.is e.has_body in
    let same = same_callee _ _ _ c.callee-callee.ensures here in
    let params : c.as_slice-2.result.now ≡ e.function.params = c.as_slice-2.ensures ∙ c.deref.ensures ∙ ap (λ (x : CalleeTree). x.params) same in
    subst (λ (os : List Object). HasArguments (map object_tree os) c.as_slice-2.result.now (stack_of c.args.self.now.values) c.args.self.now.values.memory)
    (sym c.as_slice.ensures)
    (subst (λ xs. HasArguments (map object_tree c.args.program.now.objects) xs (stack_of c.args.self.now.values) c.args.self.now.values.memory) (sym params)
    (e.params, (e.args, e.below, e.taken, e.filled)))
