-- Where a pointer leads through which an access passes.
use Rattle.std.proofs.Common.{ℕ, ℤ, pos, ◌≡◌, ◌*◌, ◌/◌, ◌%◌, ◌<◌, ◌≤◌, ◌==◌, Bool, true, false, List, [], ◌∷◌, length, suc, zero, get_or, Some, refl, sym, ap, subst, ◌∙◌, arith, inl, inr}
use Rattle.std.specs.Prelude.{◌||◌}
use Rattle.ext_int.specs.Ext.{Above, Below}
use Rattle.std.proofs.lemmas.Bool.{cases_lt, eqb-true}
use Rattle.std.proofs.lemmas.List.{get_or_past}
use Rattle.std.proofs.lemmas.Nat.{div-add-mod'}
use Rattle.std.proofs.Math.Nat.{div-le_of_le-mul, le-div_iff_mul-le, mul_comm}
use Rattle.num_api.specs.declared.message.Range.{Range}
use Rattle.num_api.specs.Ranges.{InRange}
use Rattle.pointsets.specs.declared.Base.TheVariants.{Object}
use Rattle.pointsets.specs.Targets.{Among, Any, BaseSet, has_base, has_name, names_of}
use Rattle.pointsets.proofs.Names.{eq-true}
use Rattle.block_mem.specs.declared.types.Value.TheVariants as values
use Rattle.block_mem.specs.Block.{BlockView, is_aligned, place_of as block_place}
use Rattle.block_mem.specs.Blocks.{block_at, no_block, place}
use Rattle.block_mem.proofs.StoreLaws.{passing}
use Rattle.c_values.specs.Places.{ObjectMemory, owner_of}
use Rattle.machine_nums.specs.MExprs.{MExprTree}
use Rattle.machine_nums.specs.Machine.{machine_value}
use Rattle.machine_nums.specs.Machines.{Admits}
use Rattle.csharp.specs.Trees.{CsExprTree}
use Rattle.mem_cell_bytes.specs.Stands.{Has}
use Rattle.mem_cell_exprs.specs.Known.{IsPlaceFor}
use Rattle.mem_cell_exprs.specs.declared.known.Known.{Known}
use Rattle.mem_cell_loads.specs.declared.reach.Reach.{Reach}
use Rattle.mem_cell_loads.specs.Places.{LeadsThere}

pub alive-made : (m : ObjectMemory) (c : ℕ) → (block_at m.blocks c).live ≡ true → c < length m.blocks
alive-made m c live = elim (cases_lt c (length m.blocks)) [
  | inl h ↦ h
  | inr h ↦ let none : false ≡ true = sym (ap (λ (v : BlockView). v.live) (get_or_past m.blocks c no_block h)) ∙ live in cc
]

-- a name of a list stands in it
name-has : (names : List ℕ) (o : ℕ) → has_name names o ≡ true → Has names o
name-has [] o h = cc
name-has (x ∷ xs) o h = by (x == o) refl h (λ g. name-has xs o g)
  where
    by : (b : Bool) → (x == o) ≡ b → (b || has_name xs o) ≡ true → (has_name xs o ≡ true → Has xs o) → Has (x ∷ xs) o
    by true e g rest = (0, ap Some (eq-true x o e))
    by false e g rest = let r = rest g in (suc r.0, r.1)

pub object-has : (set : BaseSet) (o : ℕ) → (set ≡ Any → ⊥) → has_base set (Object o) ≡ true → Has (names_of set) o
object-has Any o not_any h = absurd (not_any refl)
object-has (Among names null dead) o not_any h = name-has names o h

-- an aligned place is a multiple
aligned-whole : (n size : ℕ) → is_aligned (Some n) size ≡ true → n ≡ n / size * size
aligned-whole n size h =
    let rest : n % size ≡ 0 = eqb-true (n % size) 0 h in
    let all = div-add-mod' n size in omega (arith, rest, all)

-- steps whose places lie between two offsets
pub steps-between : (low high step i : ℕ) → 0 < step → low ≤ i * step → i * step ≤ high → (low / step ≤ i) × (i ≤ high / step)
steps-between low high step i some l h = (div-le_of_le-mul step (subst (λ n. low ≤ n) (mul_comm i step) l), (le-div_iff_mul-le some).1 h)

module _ {D : Type 0} (admits : D → List ℤ → Type 0) (k : Known D) where
  pub leads-there : (e : CsExprTree) (size : ℕ) (set : BaseSet) (m : MExprTree) (range : Range) (r : Reach) → r.step ≡ size → IsPlaceFor admits k e set (Some m)
      → ((o : ℕ) → has_base set (Object o) ≡ true → Has r.objects.items o)
      → ((v : List ℤ) (n : ℤ) → Admits admits k.nums v → machine_value v m ≡ Some n → InRange range n)
      → ((i : ℕ) → InRange range (pos (i * r.step)) → (r.first ≤ i) × (i < r.end))
      → LeadsThere admits k e size r
  leads-there e size set m range r step is_place named ranged steps objects s st p is passes =
      let a = is_place objects s st (values.Ptr p) is in
      let pass = passing s.memory.blocks p size size false passes in
      let made = alive-made s.memory p.block pass.live in
      let i = place p / size in
      let aligned : is_aligned (Some (place p)) size ≡ true = ap (λ (x : ℤ). is_aligned (block_place x) size) (sym pass.offset) ∙ pass.aligned in
      let whole : place p ≡ i * size = aligned-whole (place p) size aligned in
      let stepped : place p ≡ i * r.step = whole ∙ ap (λ n. i * n) (sym step) in
      let inside : InRange range (pos (i * r.step)) = subst (InRange range) (pass.offset ∙ ap pos stepped) (ranged st.v p.offset st.admitted a.1) in
      let both = steps i inside in
      record {
        object = named (owner_of s.memory p.block) (a.0.live pass.live);
        lives = st.kept.lives p.block made pass.live;
        index = i;
        place_is = stepped;
        first = both.0;
        end = both.1;
      }

-- the steps of offsets that lie in a range
pub steps-made : (range : Range) (step low high : ℕ) → 1 ≤ step → ((n : ℕ) → Below range.lo (pos n) → low ≤ n) → ((n : ℕ) → Above range.hi (pos n) → n ≤ high)
    → (i : ℕ) → InRange range (pos (i * step)) → (low / step ≤ i) × (i ≤ high / step)
steps-made range step low high some from to i inside = steps-between low high step i (omega (arith, some)) (from (i * step) inside.low) (to (i * step) inside.high)

-- the one item of a list
pub only-one : {X : Type 0} (xs : List X) (x d : X) → length xs ≡ 1 → Has xs x → get_or xs 0 d ≡ x
only-one [] x d long (n, h) = cc
only-one (y ∷ []) x d long (zero, h) = cc
only-one (y ∷ []) x d long (suc n, h) = cc
only-one (y ∷ z ∷ xs) x d long has = absurd (omega (arith, long))
