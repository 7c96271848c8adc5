-- What is shown of an address in a named object.
use Rattle.std.specs.Prelude.{◌≡◌, ℕ, ℤ, pos, false, List, length, Option, Some, None, IfSome, IsSomeAnd, option_and_then}
use Rattle.c_syntax.specs.declared.alarm.Pointers.{Pointers}
use Rattle.c_syntax.specs.declared.alarm.Shown.TheVariants as shows
use Rattle.c_syntax.specs.Types.{ObjectTree}
use Rattle.c_syntax.specs.Operand.{Operand}
use Rattle.c_syntax.specs.Admission.{IsInShown, IsModerate, IsProperSet}
use Rattle.block_mem.specs.declared.types.Value.{Value}
use Rattle.c_values.specs.Places.{place_of, point}
use Rattle.num_api.specs.Fold.{IsAlignment}
use Rattle.mem_shown.specs.Decisions.{NamesBelow}
use Rattle.csharp.specs.Trees.{CsExprTree, CsProgramTree}
use Rattle.csharp.specs.Formed.{NamesThere}
use Rattle.csharp.specs.States.{State, value_of}
use Rattle.mem_api.specs.Named.{Fixed, IsNamed, fixed_at, HasOnly}
use Rattle.mem_api.specs.Owned.{IsOwned}

-- one offset of these objects, and the multiples of an alignment
abbrev pub set_at : List ℕ → ℤ → Pointers
set_at names k = record { any = false; null = false; dead = false; names = names; lo = Some k; hi = Some k; modulus = pos 0; rem = k }

abbrev pub set_of : List ℕ → ℤ → Pointers
set_of names unit = record { any = false; null = false; dead = false; names = names; lo = None; hi = None; modulus = unit; rem = pos 0 }

-- the offset of an address that is moved by constants, where it may be shown
abbrev pub IsShownOffset : CsExprTree → Option ℤ → Type 0
IsShownOffset e None = (f : Fixed) → fixed_at e ≡ Some f → IsModerate (Some f.offset) → ⊥
IsShownOffset e (Some k) = (f : Fixed) × (fixed_at e ≡ Some f) × (f.offset ≡ k) × IsModerate (Some k)

-- the pointer is shown in each state in which blocks are those of objects, and some object lives where it is there
pub record IsSetFor (e : CsExprTree) (set : Pointers) : Type 0 where
  pub holds : (objects : List ObjectTree) (s : State) (x : Operand) → IsOwned (length objects) s.memory → option_and_then (point s.memory) (value_of e s) ≡ Some x
      → IsInShown objects x (shows.One set)
  pub proper : IsProperSet set
  pub names : (q : CsProgramTree) → NamesThere q e → NamesBelow (length q.objects) set
  pub lives : (s : State) (v : Value) → value_of e s ≡ Some v → (o : ℕ) × (b : ℕ) × (place_of s.memory o ≡ Some b)

-- what is shown holds the pointer; of an address in a named object it has that object alone, with each alignment of its steps, and where it is moved by
-- constants, its one offset
pub record IsShownPlace (e : CsExprTree) (shown : Option Pointers) : Type 0 where
  pub set : IfSome shown (IsSetFor e)
  pub named : (objects : List ObjectTree) (o c : ℕ) → IsAlignment (pos c) → IsNamed o c e → IsSomeAnd shown (λ set. HasOnly objects set o c)
  pub fixed : (f : Fixed) → fixed_at e ≡ Some f → IsModerate (Some f.offset) → IsSomeAnd shown (λ set. (set.lo ≡ Some f.offset) × (set.hi ≡ Some f.offset))
