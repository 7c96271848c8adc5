-- The calls that work leads back to, an item more at its front.
use Rattle.std.proofs.Common.{◌≡◌, true, false, List, [], ◌∷◌, ◌++◌, Some, None, refl, ap}
use Rattle.c_syntax_written.specs.declared.place.Pos.{Pos}
use Rattle.c_steps.specs.Work.{Item, Reach}
use Rattle.c_steps.specs.Runs.{calls_in, chain_of}
use Rattle.c_machine.specs.declared.jumps.Way.TheVariants as ways
use Rattle.c_machine.specs.Chains.{call_in}
use Rattle.c_machine.specs.Landing.{ends_at}

pub end_skipped : (item : Item) (w : List Item) → ends_at ways.Return item ≡ true → chain_of (item ∷ w) ≡ calls_in w
end_skipped (Reach at end) w e = refl
end_skipped item w e = absurd (cc)

pub other_kept : (item : Item) (w : List Item) → ends_at ways.Return item ≡ false → chain_of (item ∷ w) ≡ calls_in (item ∷ w)
other_kept (Reach at end) w e = absurd (cc)
other_kept item w e = refl

one_is : {A : Type 0} {x y : A} → Some x ≡ Some y → x ≡ y
one_is e = cc

pub with_call : (item : Item) (w : List Item) (at : Pos) → call_in item ≡ Some at → calls_in (item ∷ w) ≡ calls_in w ++ at ∷ []
with_call (Reach (Some from) end) w at e = ap (λ x. calls_in w ++ x ∷ []) (one_is e)
with_call (Reach None end) w at e = absurd (cc)
with_call item w at e = absurd (cc)

pub without_call : (item : Item) (w : List Item) → call_in item ≡ None → calls_in (item ∷ w) ≡ calls_in w
without_call (Reach (Some from) end) w e = absurd (cc)
without_call (Reach None end) w e = refl
without_call item w e = refl
