-- What is found of an address in a named object.
use Rattle.std.specs.Prelude.{◌≡◌, ◌<◌, ℕ, ℤ, pos, ◌+ℤ◌, ◌*ℤ◌, neg_ℤ, Bool, true, false, length, Option, Some, None, IsSomeAnd, option_map}
use Rattle.block_mem.specs.declared.types.Value.{Value}
use Rattle.block_mem.specs.declared.types.Value.TheVariants as values
use Rattle.c_syntax_written.specs.declared.int_type.IntType.{IntType}
use Rattle.c_values.specs.Places.{place_of}
use Rattle.num_api.specs.Fold.{IsAlignment}
use Rattle.num_api.specs.Residues.{IsMultiple}
use Rattle.csharp.specs.Trees.{CsExprTree, Const, CsProgramTree}
use Rattle.csharp.specs.Formed.{NamesThere}
use Rattle.csharp.specs.States.{State, value_of}
use Rattle.mem_api.specs.Named.{Fixed, IsNamed, IsStep, fixed_at}
use Rattle.mem_places.specs.declared.places.NamedPlace.{NamedPlace}

-- a pointer to this offset of an object that lives
abbrev pub PointsTo : State → ℕ → ℤ → Value → Type 0
PointsTo s o k v = (b : ℕ) × (place_of s.memory o ≡ Some b) × (v ≡ values.Ptr (record { block = b; offset = k }))

-- where the address has a value, it is a pointer into the object, at a multiple of the alignment
pub record IsPlaceOf (e : CsExprTree) (o : ℕ) (unit : ℤ) : Type 0 where
  pub alignment : IsAlignment unit
  pub points : (s : State) (v : Value) → value_of e s ≡ Some v → (k : ℤ) × PointsTo s o k v × IsMultiple unit k
  pub there : (q : CsProgramTree) → NamesThere q e → o < length q.objects

-- an address in a named object, moved by multiples of an alignment, is found, and that alignment divides the one that is found
abbrev pub NamesPlace : CsExprTree → Option NamedPlace → Type 0
NamesPlace e found = (o c : ℕ) → IsAlignment (pos c) → IsNamed o c e → IsSomeAnd found (λ p. (p.object ≡ o) × IsMultiple (pos c) p.unit)

-- the number of a constant
abbrev pub constant_of : CsExprTree → Option ℤ
constant_of (Const t n) = Some n
constant_of e = None

-- so many elements, each of so many bytes, are a multiple of the alignment, which is the greatest that their form tells
pub record IsUnitOf (size : ℕ) (count : CsExprTree) (unit : ℤ) : Type 0 where
  pub alignment : IsAlignment unit
  pub divides : (s : State) (t : IntType) (n : ℤ) → value_of count s ≡ Some (values.Int t n) → IsMultiple unit (pos size *ℤ n)
  pub greatest : (c : ℕ) → IsAlignment (pos c) → IsStep c size count → IsMultiple (pos c) unit

-- the object stays, and the alignment is one that divides both
pub record IsCommonUnit (unit step found : ℤ) : Type 0 where
  pub one : IsAlignment unit → IsAlignment step → IsAlignment found
  pub first : IsAlignment unit → IsAlignment step → IsMultiple found unit
  pub second : IsAlignment unit → IsAlignment step → IsMultiple found step
  pub greatest : (c : ℤ) → IsMultiple c unit → IsMultiple c step → IsMultiple c found

abbrev pub IsMovedBy : Option NamedPlace → ℤ → Option NamedPlace → Type 0
IsMovedBy None step found = found ≡ None
IsMovedBy (Some p) step found = IsSomeAnd found (λ r. (r.object ≡ p.object) × IsCommonUnit p.unit step r.unit)

-- ---- offsets

abbrev pub signed : Bool → ℤ → ℤ
signed false n = n
signed true n = neg_ℤ n

-- so many elements as bytes, added or taken away, where they are a constant
abbrev pub step_at : Bool → ℕ → CsExprTree → Option ℤ
step_at down size e = option_map (λ n. signed down (pos size *ℤ n)) (constant_of e)

-- the offset, where all steps are constants
abbrev pub offset_of : CsExprTree → Option ℤ
offset_of e = option_map Fixed.offset (fixed_at e)

abbrev pub both_offsets : Option ℤ → Option ℤ → Option ℤ
both_offsets None n = None
both_offsets (Some k) None = None
both_offsets (Some k) (Some n) = Some (k +ℤ n)

-- a number that is there was added, and the answer tells whether it is
abbrev pub Adds : Option ℤ → ℤ → Bool → ℤ → Type 0
Adds None before all after = all ≡ false
Adds (Some n) before all after = (all ≡ true) × (after ≡ (before +ℤ n))
