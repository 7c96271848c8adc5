-- What passes end with is one or the other.
use Rattle.std.proofs.Common.{◌≡◌, Global, Vec}
use Rattle.walk_owes.specs.declared.marks.Change.{Change}
use Rattle.walk_owes.specs.declared.marks.Change.TheVariants as changes
use Rattle.walk_owes.specs.declared.marks.Head.{Head}
use Rattle.iterator.specs.declared.passes.Pass.{Pass}
use Rattle.iterator.specs.declared.passes.Settled.TheVariants as settled

pub closed_is : {M : Type 0} (p r : Pass M) → settled.Closed p ≡ settled.Closed r → p ≡ r
closed_is p r e = cc

pub more_is : {M : Type 0} (h k : Vec (Head M) Global) → settled.More h ≡ settled.More k → h ≡ k
more_is h k e = cc

-- heads change in one way
pub not_new : {change : Change} → change ≡ changes.Same → change ≡ changes.New → ⊥
not_new e f = absurd (cc)

pub not_wider : {change : Change} → change ≡ changes.Same → change ≡ changes.Wider → ⊥
not_wider e f = absurd (cc)
