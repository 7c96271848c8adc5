-- What kinds of things stand on top of the stack where an item is next.
use Rattle.std.specs.Prelude.{List, ◌∷◌, Option, Some, None, IsSome}
use Rattle.c_syntax_written.specs.declared.place.Pos.{Pos}
use Rattle.block_mem.specs.declared.types.Value.TheVariants as values
use Rattle.c_values.specs.declared.values.Given.TheVariants as givens
use Rattle.c_steps.specs.Work.{Item, AtEnd, GivesNothing, GivesZero, IsWrong, LoadAt, StoreAt, Named, CopyAt, Modify, StepAt, Un, Bin, Conv, Move, AndThen, OrElse, Truth, Pick}
use Rattle.c_steps.specs.Work.{Choose, Keep, Sure, Drop, Leave, Reach, Turn, Select, Fill, FillCopy, Finish}
use Rattle.c_steps.specs.States.{Held, Plain, Struct}
use Rattle.c_steps.specs.Statements.{condition_scalar}

-- something
abbrev pub HasTop : List Held → Type 0
HasTop (x ∷ s) = Unit {0}
HasTop s = ⊥

-- a value
abbrev pub HasValue : List Held → Type 0
HasValue (Plain (givens.Value v) ∷ s) = Unit {0}
HasValue s = ⊥

-- a value over another
abbrev pub HasTwoValues : List Held → Type 0
HasTwoValues (Plain (givens.Value u) ∷ Plain (givens.Value v) ∷ s) = Unit {0}
HasTwoValues s = ⊥

-- a number
abbrev pub HasNumber : List Held → Type 0
HasNumber (Plain (givens.Value (values.Int t n)) ∷ s) = Unit {0}
HasNumber s = ⊥

-- the place of a struct's bytes
abbrev pub HasStruct : List Held → Type 0
HasStruct (Struct at v ∷ s) = Unit {0}
HasStruct s = ⊥

-- the place of a struct's bytes over a value
abbrev pub HasStructOverValue : List Held → Type 0
HasStructOverValue (Struct at u ∷ Plain (givens.Value v) ∷ s) = Unit {0}
HasStructOverValue s = ⊥

-- a call whose value is used has a place
abbrev pub IsCalled : Option Pos → AtEnd → Type 0
IsCalled at GivesNothing = Unit {0}
IsCalled at GivesZero = Unit {0}
IsCalled at IsWrong = IsSome at

-- what stands there for an item; an item that takes a value of a scalar type names one
abbrev pub HasShape : Item → List Held → Type 0
HasShape (LoadAt at ty) s = IsSome ty × HasValue s
HasShape (StoreAt at ty) s = IsSome ty × HasTwoValues s
HasShape (Named at) s = HasValue s
HasShape (CopyAt at extent) s = HasStructOverValue s
HasShape (Modify at at_place ty op) s = IsSome ty × HasTwoValues s
HasShape (StepAt at at_place ty time way stride) s = IsSome ty × HasValue s
HasShape (Un at op ty) s = IsSome ty × HasValue s
HasShape (Bin at op) s = HasTwoValues s
HasShape (Conv None) s = HasTop s
HasShape (Conv (Some ty)) s = HasValue s
HasShape (Move at offset) s = HasValue s
HasShape (AndThen at ty e) s = IsSome ty × HasValue s
HasShape (OrElse at ty e) s = IsSome ty × HasValue s
HasShape (Truth at ty) s = IsSome ty × HasValue s
HasShape (Pick at ty first second) s = IsSome ty × HasValue s
HasShape (Choose at ty first second) s = IsSome ty × HasValue s
HasShape (Keep at ty) s = IsSome ty × HasValue s
HasShape (Sure at ty) s = IsSome ty × HasValue s
HasShape Drop s = HasTop s
HasShape Leave s = HasTop s
HasShape (Reach at end) s = IsCalled at end
HasShape (Turn k loop) s = IsSome (condition_scalar loop) × HasValue s
HasShape (Select objects items) s = HasNumber s
HasShape (Fill x offset ty) s = IsSome ty × HasValue s
HasShape (FillCopy x offset extent) s = HasStruct s
HasShape Finish s = HasNumber s
HasShape item s = Unit {0}
