-- What kinds of things stand on top of the stack where an item is next.
use Rattle.std.proofs.Common.{ℕ, ℤ, List, [], ◌∷◌, Option, refl, sym, subst}
use Rattle.std.specs.Prelude.{IsSome}
use Rattle.c_syntax.specs.Types.{CTypeTree}
use Rattle.c_syntax.specs.Program.{TProgramTree}
use Rattle.block_mem.specs.declared.types.Value.TheVariants as values
use Rattle.c_values.specs.Places.{ObjectMemory}
use Rattle.c_syntax_written.specs.declared.place.Pos.{Pos}
use Rattle.c_steps.specs.Work.{Item, AtEnd}
use Rattle.c_steps.specs.States.{Held, state}
use Rattle.c_steps_laws.specs.Wants.{Want, is_value, is_struct, Stacked, on_top}
use Rattle.c_steps_laws.specs.Takes.{GivesAtEnd, nothing, zero, zero_any, wrong, Takes, eval, addr, load, store, named, copy, modify, step_at, un, bin, convert, to_void, move, and_then, or_else, truth_of, pick, choose, keep, sure, drop, enter, leave, reach, does, close, begin, turn, again, select, switch_end, fill, fill_copy, rest, finish}
use Rattle.c_steps_laws.specs.Fits.{Fits}
use Rattle.c_steps_laws.specs.Shapes.{IsCalled, HasShape}

-- of the first item
abbrev FirstShape : List Item → List Held → Type 0
FirstShape [] s = ⊥
FirstShape (item ∷ work) s = HasShape item s

called : {at : Option Pos} {r : CTypeTree} {end : AtEnd} {want : Want} → GivesAtEnd r at end want → IsCalled at end
called nothing = tt
called zero = tt
called zero_any = tt
called (wrong e) = refl

first_shape : {p : TProgramTree} {r : CTypeTree} {w : List Item} {ts : List Want} {n : ℕ} {s : List Held} → Takes p r w ts → Stacked n ts s → FirstShape w s
first_shape (eval wanted t k) d = tt
first_shape (addr t k) d = tt
first_shape (load k) (on_top (is_value h m) d) = (refl, tt)
first_shape (store k) (on_top (is_value h m) (on_top (is_value g l) d)) = (refl, tt)
first_shape (named k) (on_top (is_value h m) d) = tt
first_shape (copy k) (on_top (is_struct h m) (on_top (is_value g l) d)) = tt
first_shape (modify c k) (on_top (is_value h m) (on_top (is_value g l) d)) = (refl, tt)
first_shape (step_at h1 c k) (on_top (is_value h m) d) = (refl, tt)
first_shape (un t k) (on_top (is_value h m) d) = (refl, tt)
first_shape (bin t k) (on_top (is_value h m) (on_top (is_value g l) d)) = tt
first_shape (convert c k) (on_top (is_value h m) d) = tt
first_shape (to_void k) (on_top h d) = tt
first_shape (move k) (on_top (is_value h m) d) = tt
first_shape (and_then te is k) (on_top (is_value h m) d) = (refl, tt)
first_shape (or_else te is k) (on_top (is_value h m) d) = (refl, tt)
first_shape (truth_of k) (on_top (is_value h m) d) = (refl, tt)
first_shape (pick ta tb e k) (on_top (is_value h m) d) = (refl, tt)
first_shape (choose ta tb v k) (on_top (is_value h m) d) = (refl, tt)
first_shape (keep k) (on_top (is_value h m) d) = (refl, tt)
first_shape (sure k) (on_top (is_value h m) d) = (refl, tt)
first_shape (drop k) (on_top h d) = tt
first_shape (enter found is gives k) d = tt
first_shape (leave v k) (on_top h d) = tt
first_shape (reach gives k) d = called gives
first_shape (does t v k) d = tt
first_shape (close t v k) d = tt
first_shape (begin t v k) d = tt
first_shape (turn {s = ty} is t v k) (on_top (is_value h m) d) = (subst (λ o. IsSome o) (sym is) refl, tt)
first_shape (again t v k) d = tt
first_shape (select t v k) (on_top (is_value {v = values.Int u n} h m) d) = tt
first_shape (select t v k) (on_top (is_value {v = values.Ptr x} h m) d) = absurd h
first_shape (select t v k) (on_top (is_value {v = values.Null} h m) d) = absurd h
first_shape (switch_end v k) d = tt
first_shape (fill lives at is k) (on_top (is_value h m) d) = (refl, tt)
first_shape (fill_copy lives at c k) (on_top (is_struct h m) d) = tt
first_shape (rest lives k) d = tt
first_shape finish (on_top (is_value {v = values.Int u n} h m) d) = tt
first_shape finish (on_top (is_value {v = values.Ptr x} h m) d) = absurd h
first_shape finish (on_top (is_value {v = values.Null} h m) d) = absurd h

pub shaped : {p : TProgramTree} {item : Item} {w : List Item} {s : List Held} {m : ObjectMemory} {i : List ℤ} → Fits p (state (item ∷ w) s m i) → HasShape item s
shaped h = first_shape h.takes h.stacked

-- there is a first item
pub work_left : {p : TProgramTree} {s : List Held} {m : ObjectMemory} {i : List ℤ} → Fits p (state [] s m i) → ⊥
work_left h = first_shape h.takes h.stacked
