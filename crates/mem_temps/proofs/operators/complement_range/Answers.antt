use Rattle.std.proofs.Common.{◌≡◌, ℤ, negsuc, ap, sym, subst, ◌∙◌}
use Rattle.std.specs.Int.RustNames.{FitsSigned}
use Rattle.std.proofs.lemmas.Int.{to_z-of_z}
use mir.Syntax.{w128}
use mir.Val.{to_z, of_z}
use Rattle.c_syntax_written.specs.declared.int_type.IntType.{IntType}
use Rattle.c_syntax_written.specs.Integer.{wrapped}
use Rattle.machine_nums.proofs.Values.{has-wrapped}
use Rattle.mem_temps.proofs.Bounds.{number_fits}
use Rattle.num_api.specs.Spans.{point, range_of}
use Rattle.mem_temps.proofs.Results.{wrapped_complement, any_complement}
use Rattle.mem_temps.proofs.operators.complement_range.Goals as goal

pub returns-then-not-lies_in : goal.returns-then-not-lies_in
returns-then-not-lies_in c =
    any_complement c.args.t c.args.r c.type_range.result c.type_range.ensures.value (λ h. let yes = c.lies_in.ensures.1 h in let no = c.if-not-lies_in.true in absurd (cc))

still : (t : IntType) (n m : ℤ) → n ≡ wrapped t m → to_z w128 (of_z w128 n) ≡ n
still t n m e = to_z-of_z w128 n (subst (FitsSigned w128) (sym e) (number_fits t (wrapped t m) (has-wrapped t m)))

pub returns : goal.returns
returns c =
    wrapped_complement c.args.t c.args.r c.point-ones.result c.typed_range.result c.wrap_range.result.range c.wrap_range.result.way
    (c.typed_range.ensures.holds, c.typed_range.ensures.point, c.typed_range.ensures.plain) c.wrap_range.ensures (c.lies_in.ensures.0 c.if-not-lies_in.false)
    (c.point-ones.ensures ∙ ap (λ n. range_of (point n)) (still c.args.t c.wrap.result (negsuc 0) c.wrap.ensures ∙ c.wrap.ensures))
