use Rattle.std.proofs.Common.{◌≡◌, ◌≤◌, ◌∙◌, ℕ, List, [], length, filter, not, subst, sym, ap, rules, cond}
use Rattle.std.specs.List.Sorted.{IsStrictlyIncreasing}
use Rattle.pointsets.specs.Targets.{Any, Among, has_name}
use Rattle.pointsets.proofs.Bases.{none-gone}
use Rattle.pointsets.proofs.Targets.copy.Goals as goal

pub invariant_of-result : goal.invariant_of-result
invariant_of-result c =
    let items : c.without.result.items ≡ filter (λ n. not (has_name [] n)) c.self.inside.names.items = search rules in
    let same : c.without.result.items ≡ c.self.inside.names.items = items ∙ none-gone c.self.inside.names.items in
    record {
      in_place = c.without.ensures.in_place;
      few = subst (λ (ns : List ℕ). length ns ≤ 16) (sym same) c.self.invariant.few;
      rising = subst (λ (ns : List ℕ). IsStrictlyIncreasing ns) (sym same) c.self.invariant.rising;
      none = λ e. same ∙ c.self.invariant.none e;
    }

pub returns : goal.returns
returns c =
    let items : c.without.result.items ≡ filter (λ n. not (has_name [] n)) c.self.inside.names.items = search rules in
    let same : c.without.result.items ≡ c.self.inside.names.items = items ∙ none-gone c.self.inside.names.items in
    ap (λ (ns : List ℕ). cond c.self.inside.all Any (Among ns c.self.inside.null c.self.inside.dead)) same ∙ c.self.view_is
