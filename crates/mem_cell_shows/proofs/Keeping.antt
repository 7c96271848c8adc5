-- States that a change keeps.
use Rattle.std.proofs.Common.{ℕ, ℤ, ◌≡◌, inl, inr, Bool, true, false, List, Some, slice_get, slice_set, refl, sym, ap, subst, ◌∙◌}
use Rattle.std.proofs.lemmas.Bool.{cases_eq}
use Rattle.std.specs.Prelude.{IsTrue}
use Rattle.ext_int.specs.declared.Live.{Live as LiveOrDead}
use Rattle.ext_int.specs.declared.Live.TheVariants.{Live}
use Rattle.c_syntax.specs.Types.{ObjectTree}
use Rattle.pointsets.specs.declared.Base.{Base}
use Rattle.pointsets.specs.declared.Base.TheVariants.{Dead, Null, Object}
use Rattle.pointsets.specs.Targets.{BaseSet, has_base}
use Rattle.block_mem.specs.declared.types.Pointer.{Pointer}
use Rattle.block_mem.specs.declared.types.Value.{Value}
use Rattle.block_mem.specs.declared.types.Value.TheVariants as values
use Rattle.block_mem.specs.Blocks.{block_at}
use Rattle.c_values.specs.Places.{ObjectMemory, owner_of}
use Rattle.num_api.specs.Lives.{is_live}
use Rattle.machine_nums.specs.declared.machine.Machine.{Machine}
use Rattle.machine_nums.specs.Machines.{Admits}
use Rattle.csharp.specs.Trees.{CsExprTree, Temp}
use Rattle.csharp.specs.States.{State}
use Rattle.mem_cell_bytes.specs.Cells.{Points}
use Rattle.mem_cell_bytes.proofs.Steps.{Some-same, get-set_other, length-set, set-is}
use Rattle.mem_cell_exprs.specs.Known.{StandsFor}
use Rattle.mem_cell_exprs.specs.declared.known.Known.{Known}
use Rattle.mem_cell_shows.specs.Addresses.{IsAddress}
use Rattle.mem_cell_shows.specs.Changes.{IsKept, KeepsShape, base_of, own_temp}

-- ---- bases

pub base-lives : (m : ObjectMemory) (p : Pointer) → (block_at m.blocks p.block).live ≡ true → base_of m (values.Ptr p) ≡ Some (Object (owner_of m p.block))
base-lives m p h = rw h refl

pub base-dead : (m : ObjectMemory) (p : Pointer) → (block_at m.blocks p.block).live ≡ false → base_of m (values.Ptr p) ≡ Some Dead
base-dead m p h = rw h refl

pub points-base : (m : ObjectMemory) (set : BaseSet) (u : Value) (b : Base) → Points m set u → base_of m u ≡ Some b → has_base set b ≡ true
points-base m set (values.Int t n) b h e = cc
points-base m set values.Null b h e = let same : Null ≡ b = cc in subst (λ x. has_base set x ≡ true) same h
points-base m set (values.Ptr p) b h e = by ((block_at m.blocks p.block).live) refl where
  by : (live : Bool) → (block_at m.blocks p.block).live ≡ live → has_base set b ≡ true
  by true is = subst (λ x. has_base set x ≡ true) (Some-same (Object (owner_of m p.block)) b (sym (base-lives m p is) ∙ e)) (h.live is)
  by false is = subst (λ x. has_base set x ≡ true) (Some-same Dead b (sym (base-dead m p is) ∙ e)) (h.dead is)

pub base-points : (m : ObjectMemory) (set : BaseSet) (u : Value) → ((b : Base) → base_of m u ≡ Some b → has_base set b ≡ true) → Points m set u
base-points m set (values.Int t n) h = tt
base-points m set values.Null h = h Null refl
base-points m set (values.Ptr p) h = record { live = λ is. h (Object (owner_of m p.block)) (base-lives m p is); dead = λ is. h Dead (base-dead m p is) }

-- a pointer has a base
pub address-base : (m : ObjectMemory) (u : Value) → IsAddress u → (b : Base) × (base_of m u ≡ Some b)
address-base m (values.Int t n) a = absurd a
address-base m (values.Ptr p) a = (_, refl)
address-base m values.Null a = (Null, refl)

module _ {D : Type 0} (admits : D → List ℤ → Type 0) (objects : List ObjectTree) (k : Known D) (s : State) (st : StandsFor admits objects k s) where
  -- nothing is changed
  pub all-kept : IsKept admits objects k k s st Live
  all-kept = record { live = refl; stands = st; same = refl }

  -- other numbers, that admit the valuation
  pub numbers-kept : (n : Machine D) (left : LiveOrDead) → IsTrue (is_live left) → Admits admits n st.v → IsKept admits objects k (record k { nums = n }) s st left
  numbers-kept n left live a = record {
    live = live;
    stands = record { kept = st.kept; long = st.long; typed = st.typed; v = st.v; admitted = a; number = st.number; points = st.points; cell = st.cell; byte = st.byte };
    same = refl;
  }

  -- another set for a temporary, in which its pointer is
  pub set-kept : (d : ℕ) (set : BaseSet) → ((u : Value) → slice_get s.temps d ≡ Some u → Points s.memory set u)
      → IsKept admits objects k (record k { pointers = slice_set k.pointers d (Some set) }) s st Live
  set-kept d set at = record {
    live = refl;
    stands = record {
      kept = st.kept;
      long = st.long;
      typed = st.typed;
      v = st.v;
      admitted = st.admitted;
      number = st.number;
      points = λ j other u has got. elim (cases_eq j d) [
        | inl e ↦
            let is : Some other ≡ Some set = set-is k.pointers d (Some set) (Some other) (sym (ap (slice_get (slice_set k.pointers d (Some set))) e) ∙ has) in
            subst (λ t. Points s.memory t u) (sym (Some-same other set is)) (at u (sym (ap (slice_get s.temps) e) ∙ got))
        | inr h ↦ st.points j other u (sym (get-set_other k.pointers j d (Some set) h) ∙ has) got
      ];
      cell = st.cell;
      byte = st.byte;
    };
    same = refl;
  }

pub put-shape : {D : Type 0} (k : Known D) (d : ℕ) (set : BaseSet) → KeepsShape k (record k { pointers = slice_set k.pointers d (Some set) })
put-shape k d set = record { types = refl; grid = refl; count = length-set k.pointers d (Some set) }

pub own-temp : (e : CsExprTree) (d : ℕ) → own_temp e ≡ Some d → e ≡ Temp d
own-temp (Temp j) d h = ap Temp (Some-same j d h)
own-temp e d h = cc

-- ---- one change behind another

pub shape-then : {D : Type 0} (a b c : Known D) → KeepsShape a b → KeepsShape b c → KeepsShape a c
shape-then a b c h k = record { types = k.types ∙ h.types; grid = k.grid ∙ h.grid; count = k.count ∙ h.count }

pub kept-then : {D : Type 0} (admits : D → List ℤ → Type 0) (objects : List ObjectTree) (a b c : Known D) (s : State) (st : StandsFor admits objects a s) (l r : LiveOrDead)
    (h : IsKept admits objects a b s st l) → IsKept admits objects b c s h.stands r → IsKept admits objects a c s st r
kept-then admits objects a b c s st l r h k = record { live = k.live; stands = k.stands; same = k.same ∙ h.same }

pub null-base : (m : ObjectMemory) (u : Value) → base_of m u ≡ Some Null → u ≡ values.Null
null-base m (values.Int t n) h = cc
null-base m values.Null h = refl
null-base m (values.Ptr p) h = by ((block_at m.blocks p.block).live) refl where
  by : (live : Bool) → (block_at m.blocks p.block).live ≡ live → values.Ptr p ≡ values.Null
  by true e = let is : Some (Object (owner_of m p.block)) ≡ Some Null = sym (base-lives m p e) ∙ h in cc
  by false e = let is : Some Dead ≡ Some Null = sym (base-dead m p e) ∙ h in cc
