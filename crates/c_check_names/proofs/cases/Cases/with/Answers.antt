use Rattle.std.proofs.Common.{List, [], ◌∷◌, ◌++◌, map, ap, sym, subst, ◌∙◌}
use Rattle.std.specs.declared.snapshot.Snapshot.{Snapshot}
use Rattle.std.proofs.lemmas.List.{map-append}
use Rattle.c_check_names.specs.declared.types.CaseAt.{CaseAt}
use Rattle.c_check_names.specs.Firsts.{HasFirstCases}
use Rattle.c_check_names.proofs.cases.Cases.with.Goals as goal

pub invariant_of-result : goal.invariant_of-result
invariant_of-result c =
    let before = c.self.inside.items.items in
    let told : List CaseAt = map (λ (s : Snapshot CaseAt). s.value) before in
    let items = ap (map (λ (s : Snapshot CaseAt). s.value)) c.in_ok-push.ensures.items ∙ map-append (λ (s : Snapshot CaseAt). s.value) before (c.of.result ∷ [])
    ∙ ap (λ (case : CaseAt). told ++ case ∷ []) c.of.ensures in
    subst (HasFirstCases c.in_ok-places.places) (sym items) (c.in_ok-places.ensures told c.self.invariant)
