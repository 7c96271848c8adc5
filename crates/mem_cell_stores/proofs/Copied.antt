-- The state behind a copy, and an object whose bytes lose their values.
use Rattle.std.proofs.Common.{ℕ, ℤ, zero, suc, ◌≡◌, ◌+◌, ◌≤◌, ◌<◌, Bool, true, false, not, ◌&&◌, cond, List, [], ◌∷◌, length, slice_get, slice_set, Option, Some, None, option_and_then, refl, sym, ap, subst, ◌∙◌, arith, inl, inr}
use Rattle.std.specs.Prelude.{option_map, unwrap_or}
use Rattle.std.proofs.lemmas.Bool.{cases_eq, le-leb}
use Rattle.c_syntax.specs.declared.alarm.WrongKind.{WrongKind}
use Rattle.c_syntax.specs.declared.alarm.WrongKind.TheVariants.{Access, Alignment, Dangling, ReadOnly}
use Rattle.c_syntax.specs.Types.{ObjectTree}
use Rattle.block_mem.specs.declared.types.Pointer.{Pointer}
use Rattle.block_mem.specs.declared.types.Value.{Value}
use Rattle.block_mem.specs.declared.types.Value.TheVariants as values
use Rattle.block_mem.specs.Block.{is_aligned, is_inside, place_of as block_place}
use Rattle.block_mem.specs.Blocks.{block_at, copy, place, with_undefined, wrong_access}
use Rattle.block_mem.specs.Proper.{IsMade}
use Rattle.block_mem.specs.Pieces.{taken}
use Rattle.block_mem.proofs.Puts.{length-taken}
use Rattle.block_mem.proofs.StoreLaws.{passing}
use Rattle.c_values.specs.Places.{ObjectMemory, owner_of, place_of}
use Rattle.c_objects.specs.Kept.{KeepsObjects}
use Rattle.c_objects.specs.Opening.{size_of as object_size, undefined}
use Rattle.c_objects.proofs.Keeping.{keeps_objects, objects_keep}
use Rattle.c_objects.proofs.Writes.{keeps_copied, keeps_undefined}
use Rattle.c_objects.specs.Writing.{copied_at, unless_wrong, with_blocks}
use Rattle.machine_nums.specs.Machines.{Admits}
use Rattle.csharp.specs.Trees.{CsExprTree}
use Rattle.csharp.specs.States.{State, on_both, value_of}
use Rattle.csharp.specs.Actions as acts
use Rattle.mem_cell_bytes.specs.declared.entry.FillByte.{FillByte}
use Rattle.mem_cell_bytes.specs.declared.entry.FillByte.TheVariants as fills
use Rattle.mem_cell_bytes.specs.declared.entry.Stretch.{Stretch}
use Rattle.mem_cell_bytes.specs.Contents.{Contents, contents}
use Rattle.mem_cell_bytes.specs.Stands.{Has, IsInStretch, Stands, claims}
use Rattle.mem_cell_bytes.proofs.Bytes.{after}
use Rattle.mem_cell_bytes.proofs.Ends.{blank-stands}
use Rattle.mem_cell_bytes.proofs.Steps.{get-set_other, has-none, set-is}
use Rattle.mem_cell_exprs.specs.Known.{StandsFor}
use Rattle.mem_cell_exprs.specs.declared.known.Known.{Known}
use Rattle.mem_cell_exprs.proofs.Options.{map-some, then-some}
use Rattle.mem_cell_loads.proofs.Leads.{alive-made}
use Rattle.mem_cell_stores.specs.Changes.{AreForgotten, AreNothing, IsAmong}
use Rattle.mem_cell_stores.proofs.Changed.{cleared-stored, forgotten-stored}

-- ---- what a copy does

pub record Copies (m after_it : ObjectMemory) (a b : Value) (n : ℕ) : Type 0 where
  pub to : Pointer
  pub from : Pointer
  pub pointer : a ≡ values.Ptr to
  pub reads : wrong_access m.blocks from n 1 false ≡ None
  pub writes : wrong_access m.blocks to n 1 false ≡ None
  pub after : after_it ≡ after m to.block (place to) (taken (block_at m.blocks from.block).bytes (place from) n)

if-right : (wrong : Option WrongKind) (o : Option ObjectMemory) (n : ObjectMemory) → unless_wrong wrong o ≡ Some n → (wrong ≡ None) × (o ≡ Some n)
if-right None o n h = (refl, h)
if-right (Some k) o n h = cc

copies : (m l : ObjectMemory) (a b : Value) (n : ℕ) → copied_at m a b n ≡ Some l → Copies m l a b n
copies m l (values.Ptr to) (values.Ptr from) n h =
    let one = if-right (wrong_access m.blocks from n 1 false) (unless_wrong (wrong_access m.blocks to n 1 false) (Some (with_blocks m (copy m.blocks to from n)))) l h in
    let two = if-right (wrong_access m.blocks to n 1 false) (Some (with_blocks m (copy m.blocks to from n))) l one.1 in
    record { to = to; from = from; pointer = refl; reads = one.0; writes = two.0; after = let same = two.1 in cc }
copies m l (values.Ptr to) (values.Int t i) n h = cc
copies m l (values.Ptr to) values.Null n h = cc
copies m l (values.Int t i) b n h = cc
copies m l values.Null b n h = cc

record IsCopy (n : ℕ) (to from : CsExprTree) (s t : State) : Type 0 where
  address : Value
  source : Value
  memory : ObjectMemory
  is : value_of to s ≡ Some address
  step : copied_at s.memory address source n ≡ Some memory
  copies : Copies s.memory memory address source n
  behind : t ≡ record s { memory = memory }

copy-is : (n : ℕ) (to from : CsExprTree) (s t : State) → acts.copy_bytes n to from s ≡ Some t → IsCopy n to from s t
copy-is n to from s t h =
    let m = map-some (λ (memory : ObjectMemory). record s { memory = memory }) (on_both to from s (λ v u. copied_at s.memory v u n)) t h in
    let a = then-some (λ (v : Value). option_and_then (λ u. copied_at s.memory v u n) (value_of from s)) (value_of to s) m.0 m.1 in
    let u = then-some (λ (u : Value). copied_at s.memory a.0 u n) (value_of from s) m.0 a.2 in
    record { address = a.0; source = u.0; memory = m.0; is = a.1; step = u.2; copies = copies s.memory m.0 a.0 u.0 n u.2; behind = m.2 }

-- memory stays that of the objects
copied-kept : (objects : List ObjectTree) (s t : State) (n : ℕ) (to from : CsExprTree) → KeepsObjects objects s.memory → acts.copy_bytes n to from s ≡ Some t
    → KeepsObjects objects t.memory
copied-kept objects s t n to from kept h =
    let r = copy-is n to from s t h in
    let c = r.copies in
    let pass = passing s.memory.blocks c.to n 1 false c.writes in
    let made = subst (IsMade (length s.memory.blocks)) (sym c.pointer) (alive-made s.memory c.to.block pass.live) in
    subst (λ (x : State). KeepsObjects objects x.memory) (sym r.behind)
    (keeps_objects ⊥ objects r.memory (keeps_copied ⊥ objects s.memory (objects_keep objects s.memory kept) r.address r.source n r.memory made r.step))

module _ {D : Type 0} (admits : D → List ℤ → Type 0) (k : Known D) (n : ℕ) (to from : CsExprTree) (A : List ℤ → Type 0) (grid : List Contents) where
  pub forgot-copied : (os : List ℕ) (first count : ℕ) → AreForgotten os first count k.grid grid → ((v : List ℤ) → Admits admits k.nums v → A v)
      → IsAmong admits k to n 1 os first count
      → (objects : List ObjectTree) (s t : State) → StandsFor admits objects k s
      → acts.copy_bytes n to from s ≡ Some t → Stands objects k.types A (claims k.pointers grid) t
  forgot-copied os first count forgot law among objects s t st h =
      let kept = copied-kept objects s t n to from st.kept h in
      let r = copy-is n to from s t h in
      let c = r.copies in
      let p = c.to in
      let new = taken (block_at s.memory.blocks c.from.block).bytes (place c.from) n in
      let pass = passing s.memory.blocks p n 1 false c.writes in
      let read = passing s.memory.blocks c.from n 1 false c.reads in
      let made = alive-made s.memory p.block pass.live in
      let there = among objects s st p (r.is ∙ ap Some c.pointer) c.writes in
      let size : length new ≡ n = length-taken (block_at s.memory.blocks c.from.block).bytes (place c.from) n read.inside in
      let t_is : t ≡ record s { memory = after s.memory p.block (place p) new } = r.behind ∙ ap (λ (m : ObjectMemory). record s { memory = m }) c.after in
      let inside = pass.inside in let high = there.4 in
      subst (Stands objects k.types A (claims k.pointers grid)) (sym t_is)
      (forgotten-stored objects k.types (Admits admits k.nums) A k.pointers k.grid grid s st there.0 p.block made there.2 os first count (place p) new law there.1 there.3
      (omega (arith, size, high)) (subst (λ (x : State). KeepsObjects objects x.memory) t_is kept) (omega (arith, size, inside)) forgot)

  pub cleared-copied : AreNothing grid → ((v : List ℤ) → Admits admits k.nums v → A v)
      → (objects : List ObjectTree) (s t : State) → StandsFor admits objects k s
      → acts.copy_bytes n to from s ≡ Some t → Stands objects k.types A (claims k.pointers grid) t
  cleared-copied clear law objects s t st h =
      let kept = copied-kept objects s t n to from st.kept h in
      let r = copy-is n to from s t h in
      let c = r.copies in
      let p = c.to in
      let new = taken (block_at s.memory.blocks c.from.block).bytes (place c.from) n in
      let pass = passing s.memory.blocks p n 1 false c.writes in
      let read = passing s.memory.blocks c.from n 1 false c.reads in
      let made = alive-made s.memory p.block pass.live in
      let size : length new ≡ n = length-taken (block_at s.memory.blocks c.from.block).bytes (place c.from) n read.inside in
      let t_is : t ≡ record s { memory = after s.memory p.block (place p) new } = r.behind ∙ ap (λ (m : ObjectMemory). record s { memory = m }) c.after in
      let inside = pass.inside in
      subst (Stands objects k.types A (claims k.pointers grid)) (sym t_is)
      (cleared-stored objects k.types (Admits admits k.nums) A k.pointers k.grid grid s st (owner_of s.memory p.block) p.block made (st.kept.lives p.block made pass.live)
      (place p) new law (subst (λ (x : State). KeepsObjects objects x.memory) t_is kept) (omega (arith, size, inside)) clear)

-- ---- fewer bytes

-- the first of four tests that fails
abbrev first-wrong : Bool → Bool → Bool → Bool → Option WrongKind
first-wrong live inside aligned kept = cond (not live) (Some Dangling) (cond (not inside) (Some Access) (cond (not aligned) (Some Alignment) (cond kept (Some ReadOnly) None)))

-- an access of one byte passes where one of more bytes does
pub one-passes : (n : ℕ) → 1 ≤ n → (s : State) (p : Pointer) → wrong_access s.memory.blocks p n 1 false ≡ None → wrong_access s.memory.blocks p 1 1 false ≡ None
one-passes n some s p h =
    let b = block_at s.memory.blocks p.block in
    let pass = passing s.memory.blocks p n 1 false h in
    let inside = pass.inside in
    let fits : place p + 1 ≤ length b.bytes = omega (arith, some, inside) in
    let within : is_inside (block_place p.offset) 1 (length b.bytes) ≡ true =
    ap (λ (x : ℤ). is_inside (block_place x) 1 (length b.bytes)) pass.offset ∙ le-leb (place p + 1) (length b.bytes) fits in
    ap (λ (l : Bool). first-wrong l (is_inside (block_place p.offset) 1 (length b.bytes)) (is_aligned (block_place p.offset) 1) (false && b.read_only)) pass.live
    ∙ ap (λ (i : Bool). first-wrong true i (is_aligned (block_place p.offset) 1) (false && b.read_only)) within
    ∙ ap (λ (a : Bool). first-wrong true true a (false && b.read_only)) pass.aligned

-- ---- bytes lose their values

one-is : (f g : Stretch) → Has (f ∷ []) g → g ≡ f
one-is f g (zero, h) = cc
one-is f g (suc n, h) = cc

one-stretch : (f : Stretch) (q : ℕ) (x : FillByte) → IsInStretch (f ∷ []) q x → (q < f.to) × (f.byte ≡ x)
one-stretch f q x i = subst (λ (g : Stretch). (q < g.to) × (g.byte ≡ x)) (one-is f i.stretch i.has) (i.to, i.is)

pub undefined-behind : {D : Type 0} (admits : D → List ℤ → Type 0) (k : Known D) (grid : List Contents) (x size : ℕ) (held : Contents)
    → held ≡ contents [] (record { from = 0; to = size; byte = fills.Undef } ∷ []) → grid ≡ slice_set k.grid x held
    → (objects : List ObjectTree) (s t : State) → size ≤ object_size objects x → StandsFor admits objects k s
    → acts.undefine x s ≡ Some t → Stands objects k.types (Admits admits k.nums) (claims k.pointers grid) t
undefined-behind admits k grid x size held held_is put objects s t small st step =
    let m = s.memory in
    let f = map-some (λ (memory : ObjectMemory). record s { memory = memory }) (undefined m x) t step in
    let g = map-some (λ (b : ℕ). record m { blocks = with_undefined m.blocks b }) (place_of m x) f.0 f.1 in
    let b = g.0 in
    let kept = keeps_objects ⊥ objects f.0 (keeps_undefined ⊥ objects m (objects_keep objects m st.kept) x f.0 f.1) in
    let t_is : t ≡ record s { memory = record m { blocks = with_undefined m.blocks b } } = f.2 ∙ ap (λ (memory : ObjectMemory). record s { memory = memory }) g.2 in
    let placed = st.kept.placed x b g.1 in
    let fits = st.kept.fits b placed.made in
    let size_is : object_size objects x ≡ fits.object.size =
    ap (object_size objects) (sym placed.owner) ∙ ap (λ (o : Option ObjectTree). unwrap_or (option_map (λ (object : ObjectTree). object.size) o) 0) fits.is in
    let long = fits.size in
    let here : (q : ℕ) (c : Contents) → q ≡ x → slice_get grid q ≡ Some c → c ≡ contents [] (record { from = 0; to = size; byte = fills.Undef } ∷ []) =
    λ q c same got. set-is k.grid x held c (sym (ap (λ xs. slice_get xs x) put) ∙ sym (ap (slice_get grid) same) ∙ got) ∙ held_is in
    let there : (q : ℕ) (c : Contents) → (q ≡ x → ⊥) → slice_get grid q ≡ Some c → slice_get k.grid q ≡ Some c =
    λ q c other got. sym (ap (λ xs. slice_get xs q) put ∙ get-set_other k.grid q x held other) ∙ got in
    subst (Stands objects k.types (Admits admits k.nums) (claims k.pointers grid)) (sym t_is)
    (blank-stands objects k.types (Admits admits k.nums) (claims k.pointers k.grid) (claims k.pointers grid) s st x size b g.1 (omega (arith, small, size_is, long))
    (subst (λ (y : State). KeepsObjects objects y.memory) (sym f.2 ∙ t_is) kept) (record {
      pointer = λ d set h. h;
      cell = λ o e (c, got, has, low). elim (cases_eq o x) [
        | inl same ↦ has-none c.cells e (ap (λ (y : Contents). y.cells) (here o c same got)) has
        | inr other ↦ ((c, there o c other got, has, low), other)
      ];
      byte = λ o q y (c, got, is). elim (cases_eq o x) [
        | inl same ↦
            let i = one-stretch (record { from = 0; to = size; byte = fills.Undef }) q y (subst (λ (z : Contents). IsInStretch z.stretches q y) (here o c same got) is) in
            inr (same, i.0, sym i.1)
        | inr other ↦ inl ((c, there o c other got, is), other)
      ];
    }))
