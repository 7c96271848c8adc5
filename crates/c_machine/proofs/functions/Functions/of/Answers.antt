use Rattle.std.proofs.Common.{List, [], ◌∷◌, ◌++◌, map, take, sym, ap, ◌∙◌, arith}
use Rattle.std.proofs.lemmas.List.{map-append, take_all, take_more}
use Rattle.c_syntax.specs.declared.program.TFunction.{TFunction}
use Rattle.c_syntax.specs.Program.{tfunction_tree}
use Rattle.c_machine.specs.Functions.{bodied, callee_of}
use Rattle.c_machine.proofs.functions.Functions.of.Goals as goal

pub loop-function-preserved : goal.loop-function-preserved
loop-function-preserved c =
    let all = c.as_slice-function-items.result.now in
    let i = c.loop-function.function-index in
    let item = c.function-item.result in
    let done = take i all in
    let more = take_more all i item (omega arith) ∙ ap (λ (x : TFunction). done ++ x ∷ []) (sym c.function-item.is) in
    let new = c.in_ok-share_callee.field-0 in
    ap (map callee_of) c.in_ok-push.ensures.items
    ∙ map-append callee_of c.loop-function.items.items (new ∷ [])
    ∙ ap (λ l. l ++ callee_of new ∷ []) c.loop-function.invariant
    ∙ ap (λ x. map bodied (map tfunction_tree done) ++ x ∷ []) c.in_ok-share_callee.ensures
    ∙ sym (ap (λ l. map bodied (map tfunction_tree l)) more ∙ ap (map bodied) (map-append tfunction_tree done (item ∷ []))
    ∙ map-append bodied (map tfunction_tree done) (tfunction_tree item ∷ []))

pub returns : goal.returns
returns c =
    let all = c.as_slice-function-items.result.now in
    c.loop-function.invariant
    ∙ ap (λ (l : List TFunction). map bodied (map tfunction_tree l)) (take_all c.loop-function.function-index all (omega arith) ∙ c.as_slice-function-items.ensures)
