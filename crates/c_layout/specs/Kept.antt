-- Sizes as the code keeps them: each up to 2 to the 40 exactly, and any above as one more than that.
use Rattle.std.specs.Prelude.{◌≡◌, ℕ, ◌+◌, ◌*◌, ◌^◌, min, option_map}
use Rattle.c_syntax.specs.Types.{CTypeTree, Int, Pointer, Array, Struct}
use Rattle.c_syntax_written.specs.Integer.{bytes}
use Rattle.c_layout.specs.Layout.{Space, no_space, scalar_space}
use Rattle.c_layout.specs.declared.layout.Room.{Room}

-- a size as it is kept
abbrev pub kept : ℕ → ℕ
kept n = min n (2 ^ 40 + 1)

-- the code's record of a space
pub record IsKept (room : Room) (space : Space) : Type 0 where
  pub size : room.size ≡ option_map kept space.size
  pub align : room.align ≡ space.align

-- the innermost element of an array of arrays; another type is its own
abbrev pub element : CTypeTree → CTypeTree
element (Array of is_const n) = element of
element ty = ty

-- how many of these elements it has
abbrev pub element_count : CTypeTree → ℕ
element_count (Array of is_const n) = n * element_count of
element_count ty = 1

-- what an element takes
abbrev pub element_space : (ℕ → Space) → CTypeTree → Space
element_space struct (Int t) = scalar_space (bytes t)
element_space struct (Pointer to is_const) = scalar_space 8
element_space struct (Struct n) = struct n
element_space struct ty = no_space
