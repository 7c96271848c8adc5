-- Integer objects of a typed program have their types' sizes.
use Rattle.std.proofs.Common.{◌≡◌, suc, List, [], ◌∷◌, Some, true, refl, arith}
use Rattle.std.specs.Prelude.{All}
use Rattle.std.proofs.lemmas.Bool.{and_from, eq-eqb}
use Rattle.c_syntax_written.specs.Integer.{bytes}
use Rattle.c_syntax.specs.Types.{CTypeTree, Void, Int, Pointer, Array, Struct, Function, ObjectTree}
use Rattle.c_syntax.specs.Program.{StructDefTree}
use Rattle.c_layout.specs.Layout.{size_in}
use Rattle.c_layout.specs.WellTyped.{IsTypedObject}
use Rattle.mem_objects.specs.Under.{has_own_size, have_own_sizes}
use Rattle.lower_exact_laws.specs.Laws.{LoweredHasOwnSizes}

own_size : (structs : List StructDefTree) (object : ObjectTree) (ty : CTypeTree) → size_in structs ty ≡ Some object.size → has_own_size object ty ≡ true
own_size structs object Void h = refl
own_size structs object (Int t) h = let same : object.size ≡ bytes t = cc in eq-eqb object.size (bytes t) same
own_size structs object (Pointer to is_const) h = refl
own_size structs object (Array of is_const n) h = refl
own_size structs object (Struct n) h = refl
own_size structs object (Function n) h = refl

own_sizes : (structs : List StructDefTree) (objects : List ObjectTree) → All (IsTypedObject structs) objects → have_own_sizes objects ≡ true
own_sizes structs [] h = refl
own_sizes structs (object ∷ objects) h =
    and_from (has_own_size object object.ty) (have_own_sizes objects) (own_size structs object object.ty (h 0 object (omega arith)).size)
    (own_sizes structs objects (λ k d lt. h (suc k) d (omega (arith, lt))))

pub lowered_has_own_sizes : LoweredHasOwnSizes
lowered_has_own_sizes p plan runs = own_sizes p.structs p.objects runs.typed.objects
