use Rattle.std.proofs.Common.{◌≡◌, ◌+◌, List, [], ◌∷◌, length, drop, get_or, map, reverse, Some, refl, sym, ap, ◌∙◌, subst, arith}
use Rattle.std.proofs.lemmas.List.{drop_all, drop_more, nil_from_length, reverse-append}
use Rattle.c_syntax.specs.Types.{object_tree}
use Rattle.c_values.specs.Places.{ObjectMemory}
use Rattle.c_objects.specs.Opening.{open_all}
use Rattle.c_steps.specs.Calls.{all_filled}
use Rattle.c_machine_work.specs.declared.stack.Held as code
use Rattle.c_machine_work.specs.Views.{on_top}
use Rattle.c_steps_laws.specs.Needs.{AreFilled}
use Rattle.c_machine_values.proofs.Given.{filled_end, first_filled, first_of, next_argument}
use Rattle.c_machine_values.proofs.values.Values.enter.Goals as goal

pub loop-param-init : goal.loop-param-init
loop-param-init c =
    let objects = map object_tree c.args.objects.now in
    let given = c.requires.1 in
    let same : given.0 ≡ reverse c.in_ok-args.args.items = first_of (sym given.2 ∙ c.in_ok-args.ensures) in (
      subst (λ (m : ObjectMemory). AreFilled objects c.args.params.now (reverse c.in_ok-args.args.items) m) (sym c.in_ok-open_all.ensures)
          (subst (λ vs. AreFilled objects c.args.params.now vs (open_all objects c.args.self.now.memory c.args.params.now)) same given.3),
      refl,
      refl,
    )

pub fill_param-requires : goal.fill_param-requires
fill_param-requires c =
    let objects = map object_tree c.args.objects.now in
    let params = c.args.params.now in
    let i = c.loop-param.param-index in
    let vs : reverse c.loop-param.args.items ≡ c.in-Some.v ∷ reverse c.pop.new.self.items =
    ap reverse c.in-Some.ensures.items ∙ reverse-append c.pop.new.self.items (c.in-Some.v ∷ []) in
    let xs = drop_more params i 0 (omega arith) in
    (subst (λ l. AreFilled objects (get_or params i 0 ∷ drop (i + 1) params) l c.loop-param.self.memory) vs
    (subst (λ l. AreFilled objects l (reverse c.loop-param.args.items) c.loop-param.self.memory) xs c.loop-param.invariant.0)).0

pub unreachable-requires : goal.unreachable-requires
unreachable-requires c =
    let objects = map object_tree c.args.objects.now in
    let params = c.args.params.now in
    let i = c.loop-param.param-index in
    let count : length c.loop-param.args.items ≡ 0 = let len = c.in-None.ensures.cases.0 in let ok = c.loop-param.args.ok in omega (arith, len, ok) in
    let none = nil_from_length c.loop-param.args.items count in
    let xs = drop_more params i 0 (omega arith) in
    next_argument objects (get_or params i 0) (drop (i + 1) params) c.loop-param.self.memory
    (subst (λ l. AreFilled objects (get_or params i 0 ∷ drop (i + 1) params) l c.loop-param.self.memory) (ap reverse none)
    (subst (λ l. AreFilled objects l (reverse c.loop-param.args.items) c.loop-param.self.memory) xs c.loop-param.invariant.0))

pub loop-param-preserved : goal.loop-param-preserved
loop-param-preserved c =
    let objects = map object_tree c.args.objects.now in
    let params = c.args.params.now in
    let i = c.loop-param.param-index in
    let m = c.loop-param.self.memory in
    let below = reverse c.pop.new.self.items in
    let vs : reverse c.loop-param.args.items ≡ c.in-Some.v ∷ below =
    ap reverse c.in-Some.ensures.items ∙ reverse-append c.pop.new.self.items (c.in-Some.v ∷ []) in
    let xs = drop_more params i 0 (omega arith) in
    let all = subst (λ l. AreFilled objects (get_or params i 0 ∷ drop (i + 1) params) l m) vs
    (subst (λ l. AreFilled objects l (reverse c.loop-param.args.items) m) xs c.loop-param.invariant.0) in (
      all.1 c.fill_param.new.self.memory c.fill_param.ensures.memory,
      sym (first_filled objects (get_or params i 0) (drop (i + 1) params) c.in-Some.v below m c.fill_param.new.self.memory c.fill_param.ensures.memory)
          ∙ sym (ap (λ l. all_filled objects l (reverse c.loop-param.args.items) m) xs
          ∙ ap (λ l. all_filled objects (get_or params i 0 ∷ drop (i + 1) params) l m) vs)
          ∙ c.loop-param.invariant.1,
      c.fill_param.ensures.stack ∙ c.loop-param.invariant.2,
    )

pub returns : goal.returns
returns c =
    let objects = map object_tree c.args.objects.now in
    let params = c.args.params.now in
    let args = reverse c.in_ok-args.args.items in
    let none = drop_all c.loop-param.param-index params (omega arith) in
    let left = reverse c.loop-param.args.items in
    let m = c.loop-param.self.memory in (
      args,
      c.in_ok-args.ensures ∙ ap (λ (s : List code.Held). Some (args, on_top s [])) (sym c.loop-param.invariant.2),
      ap (λ (n : ObjectMemory). all_filled objects params args n) (sym c.in_ok-open_all.ensures) ∙ sym c.loop-param.invariant.1
          ∙ ap (λ l. all_filled objects l left m) none
          ∙ filled_end objects left m (subst (λ l. AreFilled objects l left m) none c.loop-param.invariant.0),
    )
