use Rattle.std.proofs.Common.{List, ◌∷◌, sym, ap, ◌∙◌, subst}
use Rattle.c_steps_laws.specs.Needs.{CopyNeeds}
use Rattle.c_steps.specs.States.{Held, Struct}
use Rattle.c_steps.specs.Work.{CopyAt}
use Rattle.c_values.specs.Places.{ObjectMemory}
use Rattle.c_machine_values.specs.declared.row.Row.TheVariants as rows
use Rattle.c_machine_values.specs.Contents.{stack_of}
use Rattle.c_machine_values.specs.Rows.{Does}
use Rattle.c_machine_values.proofs.Done.{fits_at, source_wrong, target_wrong}
use Rattle.c_machine_values.proofs.values.Values.copy.Goals as goal

pub returns-in-Err : goal.returns-in-Err
returns-in-Err c = λ objects fit.
    let m = c.args.self.now.memory in
    let from = c.take_struct-source.result.0 in
    let source = c.take_struct-source.result.1 in
    let is = c.take_struct-source.ensures ∙ ap (λ (x : List Held). Struct from source ∷ x) c.take_value-target.ensures in
    let needs = subst (CopyNeeds c.requires.1.0.objects m c.args.extent) is c.requires.1.2 in
    subst (λ (n : ObjectMemory).
    Does objects (CopyAt c.args.pos c.args.extent) (stack_of c.args.self.now) m (stack_of c.put_copied.new.self) n (rows.Wrong from c.in-Err.wrong.kind))
    (sym c.in_ok-put_copied.ensures.memory)
    (source_wrong objects m _ _ _ c.args.pos from c.args.extent c.take_value-target.result source _ _ is c.in_ok-put_copied.ensures.stack
    (c.in-Err.ensures objects (fits_at objects m fit source needs.0.1)))

pub returns-in-Err-check_write : goal.returns-in-Err-check_write
returns-in-Err-check_write c = λ objects fit.
    let m = c.args.self.now.memory in
    let from = c.take_struct-source.result.0 in
    let source = c.take_struct-source.result.1 in
    let target = c.take_value-target.result in
    let is = c.take_struct-source.ensures ∙ ap (λ (x : List Held). Struct from source ∷ x) c.take_value-target.ensures in
    let needs = subst (CopyNeeds c.requires.1.0.objects m c.args.extent) is c.requires.1.2 in
    subst (λ (n : ObjectMemory). Does objects (CopyAt c.args.pos c.args.extent) (stack_of c.args.self.now) m
    (stack_of c.put_copied-in-Err-check_write.new.self) n (rows.Wrong c.args.pos c.in-Err-check_write.wrong.kind))
    (sym c.in_ok-put_copied-2.ensures.memory)
    (target_wrong objects m _ _ _ c.args.pos from c.args.extent target source _ _ is c.in_ok-put_copied-2.ensures.stack
    (c.in_default.ensures objects (fits_at objects m fit source needs.0.1))
    (c.in-Err-check_write.ensures objects (fits_at objects m fit target needs.1.1)))
