use Rattle.std.proofs.Common.{rules, ℕ, ℤ, List, subst, sym, ◌≡◌, ◌≤◌, ◌<◌, length, arith}
use Rattle.bound_matrix.specs.Points.{IsPoint}
use Rattle.octagons_pack.specs.Packs.{at}
use Rattle.octagons_pack.proofs.Picking.{picked-outside}
use Rattle.octagons_changes.proofs.Packing.{without-length}
use Rattle.octagons_changes.proofs.relations.Relations.forget.Goals as goal

pub returns-then-is_none : goal.returns-then-is_none
returns-then-is_none c =
    let none : (k : ℕ) → k < length c.args.self.now.pack → at c.args.self.now.pack k ≡ c.args.x → ⊥ = search rules in
    record { points = λ v w n h s. subst (λ (a : List ℤ). IsPoint a c.args.self.now.matrix) (sym (picked-outside v w c.args.self.now.pack c.args.x n s none)) h }

pub redraw-requires : goal.redraw-requires
redraw-requires c =
    let few = c.pack-2.ensures.size.few in let size = c.pack-2.ensures.size.size in
    let h = without-length c.args.x c.pack-2.result.now in
    subst (λ (l : List ℕ). length l ≤ 24) (sym c.in_ok-pack.ensures) (omega arith)
