use Rattle.std.proofs.Common.{◌≡◌, ℤ, pos, ◌+ℤ◌, ◌*ℤ◌, FitsSigned, rules, arith, ap, sym, ◌∙◌}
use mir.Syntax.{w128}
use Rattle.std.proofs.lemmas.Int.{ints, to_z-of_z}
use Rattle.std.proofs.lemmas.Result.{on_ok_weaker}
use Rattle.num_api.proofs.Rings.{mul_add}
use Rattle.mem_places.proofs.sums.Sum.add_times.Goals as goal

pub returns : goal.returns
returns c =
    let k = pos c.args.count in let a = c.halves-half.result.0 in let b = c.halves-half.result.1 in
    let a_fits : FitsSigned w128 a = search rules in let b_fits : FitsSigned w128 b = search rules in
    let p_fits : FitsSigned w128 c.times.result = search rules in let q_fits : FitsSigned w128 c.times-2.result = search rules in
    let first : c.times.result ≡ k *ℤ a = c.times.ensures ∙ ap (λ (t : ℤ). k *ℤ t) (to_z-of_z w128 a a_fits) in
    let second : c.times-2.result ≡ k *ℤ b = c.times-2.ensures ∙ ap (λ (t : ℤ). k *ℤ t) (to_z-of_z w128 b b_fits) in
    let n_fits : FitsSigned w128 c.args.n = search rules in
    let whole : k *ℤ c.args.n ≡ ((k *ℤ a) +ℤ (k *ℤ b)) = ap (λ (t : ℤ). k *ℤ t) (sym (c.halves-half.ensures.sum ∙ to_z-of_z w128 c.args.n n_fits)) ∙ mul_add k a b in
    let one = c.in_ok-add.ensures ∙ ap (λ (t : ℤ). c.args.self.now +ℤ t) (to_z-of_z w128 c.times.result p_fits) in
    on_ok_weaker c.add-2.result (λ h.
    let two = h ∙ ap (λ (t : ℤ). c.add.new.self +ℤ t) (to_z-of_z w128 c.times-2.result q_fits) in omega (arith, ints, one, two, first, second, whole)) c.add-2.ensures
