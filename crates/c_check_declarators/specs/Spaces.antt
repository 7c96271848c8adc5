-- What the code tells of an object's size and alignment.
use Rattle.std.specs.Prelude.{◌≡◌, ℕ, unwrap_or}
use Rattle.c_layout.specs.Layout as layout
use Rattle.c_check_declarators.specs.declared.layouts.Space.{Space}

abbrev pub space_tree : Space → layout.Space
space_tree space = record { size = space.size; align = space.align }

-- the size and the alignment of a struct as they are stored; without members it has no size
pub record IsStructRoom (size align : ℕ) (space : layout.Space) : Type 0 where
  pub size_is : size ≡ unwrap_or space.size 0
  pub align_is : align ≡ space.align
