-- Which structs types name, and that no struct holds itself.
use Rattle.std.specs.Prelude.{ℕ, ◌<◌, Option, Some, None, IfSome, List, All, length}
use Rattle.c_syntax.specs.Types.{CTypeTree, Void, Int, Pointer, Array, Struct, Function}
use Rattle.c_syntax.specs.Program.{StructDefTree}
use Rattle.c_layout.specs.Layout.{members_of}

-- each struct number in the type is below the count
abbrev pub NamesBelow : ℕ → CTypeTree → Type 0
NamesBelow count Void = Unit {0}
NamesBelow count (Int t) = Unit {0}
NamesBelow count (Pointer to is_const) = NamesBelow count to
NamesBelow count (Array of is_const n) = NamesBelow count of
NamesBelow count (Struct n) = n < count
NamesBelow count (Function n) = Unit {0}

-- each struct number in the members' types names a struct of the list
abbrev pub AreNamed : List StructDefTree → Type 0
AreNamed structs = All (λ def. All (λ member. NamesBelow (length structs) member.ty) def.members) structs

-- the struct that an object of the type is, or has as its elements
abbrev pub held : CTypeTree → Option ℕ
held Void = None
held (Int t) = None
held (Pointer to is_const) = None
held (Array of is_const n) = held of
held (Struct n) = Some n
held (Function n) = None

-- the height falls from a struct to those that its members hold
abbrev pub Falls : List StructDefTree → (ℕ → ℕ) → Type 0
Falls structs height = (n : ℕ) → All (λ member. IfSome (held member.ty) (λ k. height k < height n)) (members_of structs n)

-- no struct holds itself, directly or through others: each has a height, of as many as there are structs, that falls
pub record NoneHoldsItself (structs : List StructDefTree) : Type 0 where
  pub height : ℕ → ℕ
  pub bounded : (n : ℕ) → n < length structs → height n < length structs
  pub falls : Falls structs height
