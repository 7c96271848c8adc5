-- What a load, a store and an assignment do where they are not stuck.
use Rattle.std.proofs.Common.{ℕ, ◌≡◌, false, Option, Some, None, Result, Ok, Err, option_and_then, refl}
use Rattle.c_syntax.specs.declared.alarm.WrongKind.{WrongKind}
use Rattle.block_mem.specs.declared.types.Pointer.{Pointer}
use Rattle.block_mem.specs.declared.types.Scalar.{Scalar}
use Rattle.block_mem.specs.declared.types.Value.{Value}
use Rattle.block_mem.specs.declared.types.Value.TheVariants as values
use Rattle.block_mem.specs.Bytes.{size_of, bytes_of}
use Rattle.block_mem.specs.Blocks.{load, loaded, bytes_at, after_access, wrong_access, place, store}
use Rattle.c_values.specs.Places.{ObjectMemory}
use Rattle.c_values.specs.Accesses.{ok_of}
use Rattle.c_objects.specs.Writing.{stored_at, with_blocks, unless_wrong}
use Rattle.csharp.specs.Trees.{CsExprTree}
use Rattle.csharp.specs.States.{State, value_of, on_both}
use Rattle.csharp.specs.Actions.{put, loaded_at, with_memory}
use Rattle.csharp.specs.Actions as acts
use Rattle.mem_cell_bytes.proofs.Bytes.{after}
use Rattle.mem_cell_exprs.proofs.Options.{map-some, then-some}

pub ok-some : {X Y : Type 0} (r : Result X Y) (x : X) → ok_of r ≡ Some x → r ≡ Ok x
ok-some (Ok y) x h = cc
ok-some (Err e) x h = cc

-- ---- loads

-- the load is through a pointer whose access passes, and its bytes hold the value
pub record Loads (m : ObjectMemory) (ty : Scalar) (a u : Value) : Type 0 where
  pub at : Pointer
  pub pointer : a ≡ values.Ptr at
  pub passes : wrong_access m.blocks at (size_of ty) (size_of ty) false ≡ None
  pub given : loaded ty (bytes_at m.blocks at (size_of ty)) ≡ Ok u

after-ok : (wrong : Option WrongKind) (r : Result Value WrongKind) (u : Value) → after_access wrong r ≡ Ok u → (wrong ≡ None) × (r ≡ Ok u)
after-ok None r u h = (refl, h)
after-ok (Some k) r u h = cc

pub loads : (m : ObjectMemory) (ty : Scalar) (a u : Value) → loaded_at m ty a ≡ Some u → Loads m ty a u
loads m ty (values.Int t n) u h = cc
loads m ty (values.Ptr p) u h =
    let r = after-ok (wrong_access m.blocks p (size_of ty) (size_of ty) false) (loaded ty (bytes_at m.blocks p (size_of ty))) u (ok-some (load m.blocks p ty) u h) in
    record { at = p; pointer = refl; passes = r.0; given = r.1 }
loads m ty values.Null u h = cc

pub record IsLoad (d : ℕ) (ty : Scalar) (e : CsExprTree) (s t : State) : Type 0 where
  pub address : Value
  pub value : Value
  pub is : value_of e s ≡ Some address
  pub loads : Loads s.memory ty address value
  pub after : t ≡ put s d value

pub load-is : (d : ℕ) (ty : Scalar) (e : CsExprTree) (s t : State) → acts.load d ty e s ≡ Some t → IsLoad d ty e s t
load-is d ty e s t h =
    let f = map-some (put s d) (option_and_then (loaded_at s.memory ty) (value_of e s)) t h in
    let g = then-some (loaded_at s.memory ty) (value_of e s) f.0 f.1 in
    record { address = g.0; value = f.0; is = g.1; loads = loads s.memory ty g.0 f.0 g.2; after = f.2 }

-- ---- stores

pub record Stores (m n : ObjectMemory) (ty : Scalar) (a u : Value) : Type 0 where
  pub at : Pointer
  pub pointer : a ≡ values.Ptr at
  pub passes : wrong_access m.blocks at (size_of ty) (size_of ty) false ≡ None
  pub after : n ≡ after m at.block (place at) (bytes_of u)

if-right : (wrong : Option WrongKind) (o : Option ObjectMemory) (n : ObjectMemory) → unless_wrong wrong o ≡ Some n → (wrong ≡ None) × (o ≡ Some n)
if-right None o n h = (refl, h)
if-right (Some k) o n h = cc

pub stores : (m n : ObjectMemory) (ty : Scalar) (a u : Value) → stored_at m ty a u ≡ Some n → Stores m n ty a u
stores m n ty (values.Int t i) u h = cc
stores m n ty (values.Ptr p) u h =
    let r = if-right (wrong_access m.blocks p (size_of ty) (size_of ty) false) (Some (with_blocks m (store m.blocks p u))) n h in
    record { at = p; pointer = refl; passes = r.0; after = let same = r.1 in cc }
stores m n ty values.Null u h = cc

pub record IsStore (ty : Scalar) (e f : CsExprTree) (s t : State) : Type 0 where
  pub address : Value
  pub value : Value
  pub memory : ObjectMemory
  pub is : value_of e s ≡ Some address
  pub given : value_of f s ≡ Some value
  pub step : stored_at s.memory ty address value ≡ Some memory
  pub stores : Stores s.memory memory ty address value
  pub after : t ≡ record s { memory = memory }

pub store-is : (ty : Scalar) (e f : CsExprTree) (s t : State) → acts.store ty e f s ≡ Some t → IsStore ty e f s t
store-is ty e f s t h =
    let m = map-some (λ (memory : ObjectMemory). record s { memory = memory }) (on_both e f s (stored_at s.memory ty)) t h in
    let a = then-some (λ (v : Value). option_and_then (stored_at s.memory ty v) (value_of f s)) (value_of e s) m.0 m.1 in
    let u = then-some (stored_at s.memory ty a.0) (value_of f s) m.0 a.2 in
    record { address = a.0; value = u.0; memory = m.0; is = a.1; given = u.1; step = u.2; stores = stores s.memory m.0 ty a.0 u.0 u.2; after = m.2 }

-- ---- assignments

pub set-is : (d : ℕ) (e : CsExprTree) (s t : State) → acts.set d e s ≡ Some t → (u : Value) × (value_of e s ≡ Some u) × (t ≡ put s d u)
set-is d e s t h = map-some (put s d) (value_of e s) t h
