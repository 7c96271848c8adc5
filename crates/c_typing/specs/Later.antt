-- Structs of a program that goes on from another.
use Rattle.std.specs.Prelude.{◌≡◌, ◌≤◌, ℕ, Bool, true, false, IsTrue, List, [], ◌∷◌, length, slice_get}
use Rattle.c_syntax.specs.Program.{MemberTree, StructDefTree}
use Rattle.c_layout.specs.Layout.{members_of}
use Rattle.c_layout.specs.LaidOut.{IsLaidOut}

-- whether a struct has its members, from its `}` on (C11 6.7.2.1p8)
abbrev pub has_members : List MemberTree → Bool
has_members [] = false
has_members (member ∷ rest) = true

abbrev pub is_complete : List StructDefTree → ℕ → Bool
is_complete structs n = has_members (members_of structs n)

-- both tables are laid out, and each struct of the one has its number in the other, complete ones as they are (C11 6.7.2.1p8)
pub record IsLater (before after : List StructDefTree) : Type 0 where
  pub laid_out : IsLaidOut before
  pub still : IsLaidOut after
  pub longer : length before ≤ length after
  pub same : (n : ℕ) → IsTrue (is_complete before n) → slice_get after n ≡ slice_get before n
