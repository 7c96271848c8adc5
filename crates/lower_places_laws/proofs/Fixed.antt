-- A place without an index is at one offset of its object.
use Rattle.std.proofs.Common.{◌+◌, ℕ, refl}
use Rattle.c_syntax.specs.TypedExpr.{TLvalueTree}
use Rattle.c_syntax.specs.Program.{TProgramTree}
use Rattle.lower_trees.specs.LowerExpr.{lower_place}
use Rattle.lower_trees.specs.Named.{IsNamedPlace, is_var, is_member, is_index}
use Rattle.lower_places_laws.specs.Laws.{HasNoIndex, IsAtOffset, NamedPlacesAreFixed}

fixed : {x : ℕ} {place : TLvalueTree} → IsNamedPlace x place → (p : TProgramTree) (d : ℕ) → HasNoIndex place → (n : ℕ) × IsAtOffset x n (lower_place p d place).value
fixed (is_var at ty k) p d h = (0, (refl, refl))
fixed (is_member at k offset ty q place n) p d h = let (m, is) = fixed n p d h in (m + offset, (m, refl, refl, is))
fixed (is_index at kind ty q from n whole place index g) p d h = absurd h

pub named_places_are_fixed : NamedPlacesAreFixed
named_places_are_fixed scope d x place n h = fixed n scope.program d h
