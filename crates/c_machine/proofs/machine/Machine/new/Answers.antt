use Rattle.std.proofs.Common.{◌≡◌, List, [], ◌∷◌, None, map, sym, ap, ◌∙◌, subst}
use Rattle.c_syntax.specs.declared.program.Initial.{Initial}
use Rattle.c_syntax.specs.declared.types.Object.{Object}
use Rattle.c_syntax.specs.Program.{tprogram_tree}
use Rattle.c_syntax.specs.Types.{object_tree}
use Rattle.c_values.specs.Places.{ObjectMemory}
use Rattle.c_objects.specs.Statics.{FitInitials, opened_statics}
use Rattle.c_objects.specs.Statics as statics
use Rattle.c_objects.proofs.Starting.{start_fits}
use Rattle.c_steps.specs.States.{state}
use Rattle.c_steps.specs.Work.{Enter, Finish, GivesZero}
use Rattle.c_machine_work.specs.declared.stack.Held as code
use Rattle.c_machine_work.specs.Works.{work_of}
use Rattle.c_machine_work.specs.Views.{on_top}
use Rattle.c_machine_work.proofs.Lists.{on_top_none}
use Rattle.c_machine.proofs.machine.Machine.new.Goals as goal

pub start-requires : goal.start-requires
start-requires c =
    subst (λ (os : List Object). FitInitials (opened_statics (map object_tree os)) c.as_slice-2.result.now) (sym c.as_slice.ensures)
    (subst (λ (is : List Initial). FitInitials (opened_statics (map object_tree c.args.program.now.objects)) is) (sym c.as_slice-2.ensures)
    (start_fits (tprogram_tree c.args.program.now) c.requires.typed))

pub returns-clause-start : goal.returns-clause-start
returns-clause-start c =
    let i = c.args.inputs in
    let m = c.in_ok-memory.memory in
    let main = c.args.plan.now.main in
    let entry = Enter None main GivesZero ∷ Finish ∷ [] in
    let work : work_of c.in_ok-work.work ≡ entry = c.in_ok-work.ensures in
    let stack = ap (λ (s : List code.Held). on_top s []) c.new.ensures ∙ on_top_none [] in
    let memory = c.in_ok-memory.ensures.start ∙ ap (λ (os : List Object). statics.start (map object_tree os) c.as_slice-2.result.now) c.as_slice.ensures
    ∙ ap (statics.start (map object_tree c.args.program.now.objects)) c.as_slice-2.ensures in
    ap (λ w. state w (on_top c.new.result []) m i) work ∙ ap (λ s. state entry s m i) stack ∙ ap (λ (n : ObjectMemory). state entry [] n i) memory

pub returns-clause-made : goal.returns-clause-made
returns-clause-made c = λ sound.
    let i = c.args.inputs in
    let m = c.in_ok-memory.memory in
    let main = c.args.plan.now.main in
    let entry = Enter None main GivesZero ∷ Finish ∷ [] in
    let work : work_of c.in_ok-work.work ≡ entry = c.in_ok-work.ensures in
    let stack = ap (λ (s : List code.Held). on_top s []) c.new.ensures ∙ on_top_none [] in
    let memory = c.in_ok-memory.ensures.start ∙ ap (λ (os : List Object). statics.start (map object_tree os) c.as_slice-2.result.now) c.as_slice.ensures
    ∙ ap (statics.start (map object_tree c.args.program.now.objects)) c.as_slice-2.ensures in
    record {
      plan = c.args.plan.now;
      inputs = i;
      typed = c.requires.typed;
      planned = c.requires.planned;
      bits = c.in_ok-memory.ensures.bits (tprogram_tree c.args.program.now) c.requires.typed
          (ap (λ (os : List Object). map object_tree os) (sym c.as_slice.ensures)) (sym c.as_slice-2.ensures);
      reached = (
        0,
        sym (ap (λ w. state w (on_top c.new.result []) m i) work ∙ ap (λ s. state entry s m i) stack
            ∙ ap (λ (n : ObjectMemory). state entry [] n i) memory),
      );
      functions = c.in_ok-functions.ensures;
    }
