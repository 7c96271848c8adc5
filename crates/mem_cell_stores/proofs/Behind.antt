-- The state behind a store.
use Rattle.std.proofs.Common.{ℕ, ℤ, ◌≡◌, ◌+◌, ◌≤◌, ◌<◌, false, List, length, Some, sym, ap, subst, ◌∙◌, arith}
use Rattle.std.specs.Prelude.{IfSome, option_map}
use Rattle.c_syntax.specs.Types.{ObjectTree}
use Rattle.num_api.specs.Ranges.{InRange}
use Rattle.num_api.specs.Valuation.{SetTo}
use Rattle.pointsets.specs.Targets.{BaseSet}
use Rattle.block_mem.specs.declared.types.Scalar.{Scalar}
use Rattle.block_mem.specs.declared.types.Value.{Value}
use Rattle.block_mem.specs.declared.types.Value.TheVariants as values
use Rattle.block_mem.specs.Blocks.{block_at, place}
use Rattle.block_mem.specs.Bytes.{IsOf, bytes_of, size_of as scalar_size}
use Rattle.block_mem.proofs.Laws.{length-value}
use Rattle.block_mem.proofs.StoreLaws.{passing}
use Rattle.c_values.specs.Places.{ObjectMemory, owner_of}
use Rattle.c_objects.specs.Kept.{KeepsObjects}
use Rattle.machine_nums.specs.MExprs.{mexpr_tree}
use Rattle.machine_nums.specs.Machine.{machine_value}
use Rattle.machine_nums.specs.Machines.{Admits}
use Rattle.csharp.specs.Trees.{CsExprTree}
use Rattle.csharp.specs.States.{State, value_of}
use Rattle.csharp.specs.Actions as acts
use Rattle.mem_cell_bytes.specs.declared.entry.Entry.{Entry}
use Rattle.mem_cell_bytes.specs.Cells.{Points, number_of, size_of, var_of}
use Rattle.mem_cell_bytes.specs.Contents.{Contents}
use Rattle.mem_cell_bytes.specs.Stands.{Stands, claims}
use Rattle.mem_cell_bytes.proofs.Bytes.{after, has-same}
use Rattle.mem_cell_bytes.proofs.Valuations.{SetTo-with, with_value}
use Rattle.mem_cell_exprs.specs.Known.{StandsFor}
use Rattle.mem_cell_exprs.specs.declared.known.Known.{Known}
use Rattle.mem_cell_exprs.proofs.Acts.{store-is}
use Rattle.mem_cell_loads.specs.declared.content.Content.{Content}
use Rattle.mem_cell_loads.specs.Reads.{IsNumberOfType}
use Rattle.mem_cell_loads.proofs.Behind.{number-typed}
use Rattle.mem_cell_loads.proofs.Leads.{alive-made}
use Rattle.mem_cell_stores.specs.declared.spots.Spot.{Spot}
use Rattle.mem_cell_stores.specs.Changes.{AreForgotten, AreNothing, IsAmong, IsCellFor, IsCellPut, IsContentOf, LeadsTo}
use Rattle.mem_cell_stores.proofs.Blocks.{store-kept}
use Rattle.mem_cell_stores.proofs.Changed.{cell-stored, cleared-stored, forgotten-stored}

pub points-after : (m : ObjectMemory) (c at : ℕ) (u : Value) (made : c < length m.blocks) (set : BaseSet) → Points m set u → Points (after m c at (bytes_of u)) set u
points-after m c at (values.Int t n) made set h = tt
points-after m c at (values.Ptr p) made set h = has-same m c at (bytes_of (values.Ptr p)) made set p.block h
points-after m c at values.Null made set h = h

module _ {D : Type 0} (admits : D → List ℤ → Type 0) (k : Known D) (ty : Scalar) (e f : CsExprTree) (A : List ℤ → Type 0) (grid : List Contents) where
  -- into a cell at a place that is known
  pub put-behind : (spot : Spot) (l : Content) (cell : Entry) → cell.offset < 65536 → LeadsTo admits k e (scalar_size ty) spot → IsContentOf admits k f ty l
      → IsCellFor spot.at ty l cell → IsCellPut k.grid spot.object cell grid
      → ((v w : List ℤ) (n : ℤ) → Admits admits k.nums v → IsNumberOfType ty n → InRange l.range n → IfSome (option_map mexpr_tree l.number) (λ m. machine_value v m ≡ Some n)
      → SetTo (var_of spot.object cell) n v w → A w)
      → (objects : List ObjectTree) (s t : State) → StandsFor admits objects k s → ((u : Value) → value_of f s ≡ Some u → IsOf ty u)
      → acts.store ty e f s ≡ Some t → Stands objects k.types A (claims k.pointers grid) t
  put-behind spot l cell small leads contents fits put law objects s t st typed h =
      let kept = store-kept admits k ty e f objects s t st typed h in
      let r = store-is ty e f s t h in
      let p = r.stores.at in
      let u = r.value in
      let n = scalar_size ty in
      let of = typed u r.given in
      let lead = leads objects s st p (r.is ∙ ap Some r.stores.pointer) r.stores.passes in
      let pass = passing s.memory.blocks p n n false r.stores.passes in
      let made = alive-made s.memory p.block pass.live in
      let content = contents objects s st u r.given of in
      let place_is : place p ≡ cell.offset = lead.1 ∙ sym fits.offset in
      let size : length (bytes_of u) ≡ n = length-value ty u of in
      let long : size_of cell ≡ length (bytes_of u) = fits.size ∙ sym size in
      let m' = after s.memory p.block cell.offset (bytes_of u) in
      let t_is : t ≡ record s { memory = m' } =
      r.after ∙ ap (λ (m : ObjectMemory). record s { memory = m }) (r.stores.after ∙ ap (λ j. after s.memory p.block j (bytes_of u)) place_is) in
      let inside = pass.inside in
      let room : cell.offset + length (bytes_of u) ≤ length (block_at s.memory.blocks p.block).bytes =
      subst (λ j. j + length (bytes_of u) ≤ length (block_at s.memory.blocks p.block).bytes) place_is (omega (arith, inside, size)) in
      subst (Stands objects k.types A (claims k.pointers grid)) (sym t_is)
      (cell-stored objects k.types (Admits admits k.nums) A k.pointers k.grid grid s st spot.object p.block made lead.0 cell (bytes_of u) (number_of u) small long
      (subst (λ (x : State). KeepsObjects objects x.memory) t_is kept) room put
      (fits.meets m' u of (λ set is. points-after s.memory p.block cell.offset u made set (content.points set is)))
      (law st.v (with_value st.v (var_of spot.object cell) (number_of u)) (number_of u) st.admitted (number-typed ty u of) content.range content.number
      (SetTo-with st.v (var_of spot.object cell) (number_of u))))

  -- over bytes of which nothing stays known
  pub forgot-behind : (os : List ℕ) (from n : ℕ) → AreForgotten os from n k.grid grid → ((v : List ℤ) → Admits admits k.nums v → A v)
      → IsAmong admits k e (scalar_size ty) (scalar_size ty) os from n
      → (objects : List ObjectTree) (s t : State) → StandsFor admits objects k s → ((u : Value) → value_of f s ≡ Some u → IsOf ty u)
      → acts.store ty e f s ≡ Some t → Stands objects k.types A (claims k.pointers grid) t
  forgot-behind os from n forgot law among objects s t st typed h =
      let kept = store-kept admits k ty e f objects s t st typed h in
      let r = store-is ty e f s t h in
      let p = r.stores.at in
      let u = r.value in
      let pass = passing s.memory.blocks p (scalar_size ty) (scalar_size ty) false r.stores.passes in
      let made = alive-made s.memory p.block pass.live in
      let there = among objects s st p (r.is ∙ ap Some r.stores.pointer) r.stores.passes in
      let size : length (bytes_of u) ≡ scalar_size ty = length-value ty u (typed u r.given) in
      let t_is : t ≡ record s { memory = after s.memory p.block (place p) (bytes_of u) } =
      r.after ∙ ap (λ (m : ObjectMemory). record s { memory = m }) r.stores.after in
      let inside = pass.inside in let high = there.4 in
      subst (Stands objects k.types A (claims k.pointers grid)) (sym t_is)
      (forgotten-stored objects k.types (Admits admits k.nums) A k.pointers k.grid grid s st there.0 p.block made there.2 os from n (place p) (bytes_of u) law there.1 there.3
      (omega (arith, size, high)) (subst (λ (x : State). KeepsObjects objects x.memory) t_is kept) (omega (arith, size, inside)) forgot)

  -- where nothing stays known of any object
  pub cleared-behind : AreNothing grid → ((v : List ℤ) → Admits admits k.nums v → A v)
      → (objects : List ObjectTree) (s t : State) → StandsFor admits objects k s → ((u : Value) → value_of f s ≡ Some u → IsOf ty u)
      → acts.store ty e f s ≡ Some t → Stands objects k.types A (claims k.pointers grid) t
  cleared-behind clear law objects s t st typed h =
      let kept = store-kept admits k ty e f objects s t st typed h in
      let r = store-is ty e f s t h in
      let p = r.stores.at in
      let u = r.value in
      let pass = passing s.memory.blocks p (scalar_size ty) (scalar_size ty) false r.stores.passes in
      let made = alive-made s.memory p.block pass.live in
      let size : length (bytes_of u) ≡ scalar_size ty = length-value ty u (typed u r.given) in
      let t_is : t ≡ record s { memory = after s.memory p.block (place p) (bytes_of u) } =
      r.after ∙ ap (λ (m : ObjectMemory). record s { memory = m }) r.stores.after in
      let inside = pass.inside in
      subst (Stands objects k.types A (claims k.pointers grid)) (sym t_is)
      (cleared-stored objects k.types (Admits admits k.nums) A k.pointers k.grid grid s st (owner_of s.memory p.block) p.block made (st.kept.lives p.block made pass.live)
      (place p) (bytes_of u) law (subst (λ (x : State). KeepsObjects objects x.memory) t_is kept) (omega (arith, size, inside)) clear)
