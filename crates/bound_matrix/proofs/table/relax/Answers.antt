use Rattle.std.proofs.Common.{arith, subst}
use Rattle.std.specs.Prelude.{ℤ, ◌+ℤ◌}
use Rattle.std.proofs.lemmas.Int.{ints}
use mir.Val.{to_z, of_z}
use mir.Syntax.{w128}
use Rattle.ext_int.specs.declared.Ext.{Ext}
use Rattle.bound_matrix.specs.Bound.{InRange}
use Rattle.bound_matrix.proofs.Entries.{relax-exact, relax-sound, relax-lower, relax-range}
use Rattle.bound_matrix.proofs.table.relax.Goals as goal

-- a number as an i128 holds it
abbrev held : ℤ → ℤ
held x = to_z w128 (of_z w128 x)

pub returns-in-Fin-Fin-clause-range : goal.returns-in-Fin-Fin-clause-range
returns-in-Fin-Fin-clause-range c = relax-range c.args.e c.cut_bound.result c.min.result c.min.ensures.value c.requires.third c.cut_bound.ensures.range

pub returns-in-Fin-Fin-clause-lower : goal.returns-in-Fin-Fin-clause-lower
returns-in-Fin-Fin-clause-lower c = relax-lower c.args.e c.cut_bound.result c.min.result c.min.ensures.value c.cut_bound.ensures.range

pub returns-in-Fin-Fin-clause-sound : goal.returns-in-Fin-Fin-clause-sound
returns-in-Fin-Fin-clause-sound c =
    let f = subst (λ (e : Ext). InRange e) c.in-Fin-Fin.is-0 c.requires.first in
    let g = subst (λ (e : Ext). InRange e) c.in-Fin-Fin.is-1 c.requires.second in
    relax-sound c.in-Fin-Fin.x c.in-Fin-Fin.y (held (held c.in-Fin-Fin.x +ℤ held c.in-Fin-Fin.y)) c.args.a c.args.b c.args.e c.cut_bound.result c.min.result c.cut_bound.ensures.value (omega (arith, ints)) c.in-Fin-Fin.is-0 c.in-Fin-Fin.is-1 c.min.ensures.value

pub returns-in-Fin-Fin-clause-exact : goal.returns-in-Fin-Fin-clause-exact
returns-in-Fin-Fin-clause-exact c =
    let f = subst (λ (e : Ext). InRange e) c.in-Fin-Fin.is-0 c.requires.first in
    let g = subst (λ (e : Ext). InRange e) c.in-Fin-Fin.is-1 c.requires.second in
    relax-exact c.in-Fin-Fin.x c.in-Fin-Fin.y (held (held c.in-Fin-Fin.x +ℤ held c.in-Fin-Fin.y)) c.args.a c.args.b c.args.e c.cut_bound.result c.min.result c.requires.third c.cut_bound.ensures.value (omega (arith, ints)) c.in-Fin-Fin.is-0 c.in-Fin-Fin.is-1 c.min.ensures.value
