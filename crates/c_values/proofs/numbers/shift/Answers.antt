use Rattle.std.proofs.Common.{◌≡◌, pos, ◌<◌, FitsSigned, sym, subst, rules}
use Rattle.std.specs.Prelude.{int_lt, int_le, false}
use Rattle.std.specs.Int.{w128}
use Rattle.std.proofs.lemmas.Int.{to_z-of_z}
use Rattle.c_values.specs.Answers.{Answers}
use Rattle.c_values.specs.Operators.{binary}
use Rattle.c_values.proofs.Outcomes.{left_answers}
use Rattle.c_values.proofs.Ranges.{width_some}
use Rattle.c_syntax.specs.declared.operator.TBinaryOp.TheVariants as binaries
use Rattle.block_mem.specs.declared.types.Value.TheVariants as values
use Rattle.c_values.proofs.numbers.shift.Goals as goal

pub returns-in-Left : goal.returns-in-Left
returns-in-Left c = λ objects m u.
    let t = c.args.t in let a = c.args.a in let k = c.args.amount in
    let fa : FitsSigned w128 a = c.ranges.a in let fk : FitsSigned w128 k = c.ranges.amount in
    let h = simp to_z-of_z at c.shift_left.ensures in
    let fw : FitsSigned w128 c.from.result = search rules in
    let low : int_lt k (pos 0) ≡ false = simp to_z-of_z at c.if-amount-lt0.false in
    let high = simp to_z-of_z at c.if-amount-from.false in
    let above : int_le (pos c.width.result) k ≡ false = rw c.from.ensures at high in
    let some : 0 < c.width.result = subst (λ n. 0 < n) (sym c.width.ensures) (width_some t) in
    subst (λ way. Answers c.shift_left.result (binary objects m (binaries.Shift way t) (values.Int t a) (values.Int u k))) (sym c.in-Left.is)
    (left_answers c.shift_left.result objects m t u a k c.width.result c.width.ensures some low above h)
