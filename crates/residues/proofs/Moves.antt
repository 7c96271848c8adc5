-- A number that went through the code as 128 bits is the same number.
use Rattle.std.proofs.Common.{ℤ, sym, subst, FitsSigned, to_z, of_z}
use Rattle.std.proofs.lemmas.Int.{to_z-of_z}
use mir.Syntax.{w128}

pub moved : (P : ℤ → Type 0) (z : ℤ) → FitsSigned w128 z → P z → P (to_z w128 (of_z w128 z))
moved P z fits h = subst P (sym (to_z-of_z w128 z fits)) h

pub unmoved : (P : ℤ → Type 0) (z : ℤ) → FitsSigned w128 z → P (to_z w128 (of_z w128 z)) → P z
unmoved P z fits h = subst P (to_z-of_z w128 z fits) h
