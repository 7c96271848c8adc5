-- Pairs of a range domain and a class domain, over what their parts mean and answer.
use Rattle.std.specs.Prelude.{◌≡◌, ◌⊎◌, ℤ}
use Rattle.num_api.specs.declared.expr.NOp.{NOp}
use Rattle.num_api.specs.declared.expr.NOp.TheVariants.{Eq, Ne}
use Rattle.num_api.specs.declared.message.Range.{Range}
use Rattle.num_api.specs.declared.message.Residue.{Residue}
use Rattle.residues.specs.declared.pair.Pair.{Pair}
use Rattle.residues.specs.Inward.{inward_range}

-- the part that gives the bounds, and the one that gives the class
abbrev pub bounds_part : {V W : Type 0} → Pair V W → V
bounds_part p = p.bounds

abbrev pub class_part : {V W : Type 0} → Pair V W → W
class_part p = p.class

-- the number is in both parts
abbrev pub IsInBoth : {V W : Type 0} → (V → ℤ → Type 0) → (W → ℤ → Type 0) → Pair V W → ℤ → Type 0
IsInBoth bounds class p n = bounds (bounds_part p) n × class (class_part p) n

-- the range of a pair: that of its first part, moved inward by the class of the second
abbrev pub range_of_pair : {V W : Type 0} → (V → Range) → (W → Residue) → Pair V W → Range
range_of_pair known class p = inward_range (class (class_part p)) (known (bounds_part p))

-- the bounds that the pair keeps are those of its range
abbrev pub KeepsItsRange : {V W : Type 0} → (V → Range) → (W → Residue) → Pair V W → Type 0
KeepsItsRange known class p = known (bounds_part p) ≡ range_of_pair known class p

-- the operator is a test for equality
abbrev pub IsEquality : NOp → Type 0
IsEquality op = (op ≡ Eq) ⊎ (op ≡ Ne)
