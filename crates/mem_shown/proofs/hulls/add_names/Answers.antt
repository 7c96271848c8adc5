use Rattle.std.proofs.Common.{◌≡◌, ◌∙◌, ◌+◌, ◌∷◌, ℕ, List, ap, sym, drop, add-one, drop-cons, slice_index_or}
use Rattle.mem_shown.specs.Hulls.{with_names}
use Rattle.mem_shown.proofs.hulls.add_names.Goals as goal

pub loop-name-preserved : goal.loop-name-preserved
loop-name-preserved c =
    let xs = c.args.others.now in let i = c.loop-name.name-index in
    let split : drop i xs ≡ slice_index_or xs i 0 ∷ drop (i + 1) xs = rw add-one (drop-cons xs i 0 c.loop-name-test.true) in
    ap (λ (names : List ℕ). with_names names (drop (i + 1) xs)) c.in_ok-add_name.ensures
    ∙ ap (λ (rest : List ℕ). with_names c.loop-name.names.items rest) (sym split) ∙ c.loop-name.invariant
