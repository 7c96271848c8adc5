-- The state behind a load.
use Rattle.std.proofs.Common.{ℕ, ℤ, ◌≡◌, ◌*◌, ◌<◌, ◌≤◌, List, length, slice_get, slice_set, Option, Some, None, Ok, sym, ap, subst, ◌∙◌, inl, inr}
use Rattle.std.specs.Prelude.{IfSome, option_map, option_and_then}
use Rattle.std.proofs.lemmas.Bool.{cases_eq}
use Rattle.c_syntax.specs.Types.{ObjectTree}
use Rattle.num_api.specs.Ranges.{InRange}
use Rattle.num_api.specs.Valuation.{SetTo}
use Rattle.pointsets.specs.Targets.{BaseSet}
use Rattle.block_mem.specs.declared.types.Scalar.{Scalar}
use Rattle.block_mem.specs.declared.types.Scalar.TheVariants as scalars
use Rattle.block_mem.specs.declared.types.Value.{Value}
use Rattle.block_mem.specs.declared.types.Value.TheVariants as values
use Rattle.block_mem.specs.Blocks.{block_at, bytes_at, load, loaded}
use Rattle.block_mem.specs.Bytes.{IsOf, size_of as scalar_size}
use Rattle.block_mem.specs.Pieces.{get_bytes}
use Rattle.block_mem.specs.Proper.{AreProper, IsMade}
use Rattle.c_values.specs.Places.{ObjectMemory, owner_of}
use Rattle.c_steps_laws.proofs.Loads.{loaded_is}
use Rattle.machine_nums.specs.MExprs.{mexpr_tree}
use Rattle.machine_nums.specs.Machine.{machine_value}
use Rattle.machine_nums.specs.Machines.{Admits}
use Rattle.csharp.specs.Trees.{CsExprTree}
use Rattle.csharp.specs.States.{State, value_of}
use Rattle.csharp.specs.Actions.{loaded_at, put}
use Rattle.csharp.specs.Actions as acts
use Rattle.mem_cell_bytes.specs.Cells.{number_of, temp_var}
use Rattle.mem_cell_bytes.specs.Stands.{Has, Stands, claims}
use Rattle.mem_cell_bytes.proofs.Steps.{Some-same, get-set_other, put-stands, set-is}
use Rattle.mem_cell_bytes.proofs.Valuations.{SetTo-with, with_value}
use Rattle.mem_cell_exprs.specs.Known.{StandsFor}
use Rattle.mem_cell_exprs.specs.declared.known.Known.{Known}
use Rattle.mem_cell_exprs.proofs.Acts.{loads, ok-some}
use Rattle.mem_cell_exprs.proofs.Options.{map-some, then-some}
use Rattle.mem_cell_loads.specs.declared.content.Content.{Content}
use Rattle.mem_cell_loads.specs.declared.reach.Reach.{Reach}
use Rattle.mem_cell_loads.specs.declared.reading.Reading.{Reading}
use Rattle.mem_cell_loads.specs.Found.{IsNumberAt, bytes_from}
use Rattle.mem_cell_loads.specs.Places.{IsReadIn, LeadsThere}
use Rattle.mem_cell_loads.specs.Reads.{IsContentBehind, IsNumberOfType}
use Rattle.mem_cell_loads.proofs.Readings.{if-some}

mapped-some : {X Y : Type 0} (f : X → Y) (o : Option X) (P : Y → Type 0) (Q : X → Type 0) → ((x : X) → Q x → P (f x)) → IfSome o Q → IfSome (option_map f o) P
mapped-some f None P Q h g = tt
mapped-some f (Some x) P Q h g = h x g

-- what is loaded is of its type, and its block was made
value-typed : (m : ObjectMemory) (ty : Scalar) (a u : Value) → AreProper m.blocks → loaded_at m ty a ≡ Some u → IsOf ty u × IsMade (length m.blocks) u
value-typed m ty (values.Ptr p) u proper h = let has = loaded_is m.blocks p ty u proper (ok-some (load m.blocks p ty) u h) in (has.typed, has.made)
value-typed m ty (values.Int t n) u proper h = cc
value-typed m ty values.Null u proper h = cc

pub number-typed : (ty : Scalar) (u : Value) → IsOf ty u → IsNumberOfType ty (number_of u)
number-typed (scalars.Int t) (values.Int i n) h = h.1
number-typed (scalars.Int t) (values.Ptr p) h = absurd h
number-typed (scalars.Int t) values.Null h = absurd h
number-typed scalars.Pointer u h = tt

module _ {D : Type 0} (admits : D → List ℤ → Type 0) (k : Known D) where
  pub found-behind : (e : CsExprTree) (ty : Scalar) (r : Reach) (reading : Reading) (l : Content) → LeadsThere admits k e (scalar_size ty) r
      → IsReadIn admits k r.objects.items r.first r.end r.step ty reading
      → IfSome l.number (λ m. (o i : ℕ) → Has r.objects.items o → r.first ≤ i → i < r.end → IsNumberAt admits k o (i * r.step) ty (mexpr_tree m))
      → l.range ≡ reading.range → l.set ≡ reading.set → IsContentBehind admits k e ty l
  found-behind e ty r reading l leads reads numbers range_is set_is objects s st a u is given =
      let got = loads s.memory ty a u given in
      let n = scalar_size ty in
      let lead = leads objects s st got.at (is ∙ ap Some got.pointer) got.passes in
      let o = owner_of s.memory got.at.block in
      let bytes : bytes_at s.memory.blocks got.at n ≡ bytes_from s.memory got.at.block (lead.index * r.step) n =
      ap (λ j. get_bytes (block_at s.memory.blocks got.at.block).bytes j n) lead.place_is in
      let value : loaded ty (bytes_from s.memory got.at.block (lead.index * r.step) n) ≡ Ok u = subst (λ bs. loaded ty bs ≡ Ok u) bytes got.given in
      let allows = reads o lead.object lead.index lead.first lead.end objects s st got.at.block lead.lives in
      record {
        number = mapped-some mexpr_tree l.number (λ m. machine_value st.v m ≡ Some (number_of u))
            (λ m. (o i : ℕ) → Has r.objects.items o → r.first ≤ i → i < r.end → IsNumberAt admits k o (i * r.step) ty (mexpr_tree m))
            (λ m law. law o lead.index lead.object lead.first lead.end objects s st got.at.block u lead.lives value) numbers;
        range = subst (λ x. InRange x (number_of u)) (sym range_is) (allows.number u value);
        points = λ set h. allows.points u set (sym set_is ∙ h) value;
      }

  pub load-stands : (A : List ℤ → Type 0) (d : ℕ) (ty : Scalar) (e : CsExprTree) (l : Content) (set : Option BaseSet) → slice_get k.types d ≡ Some ty → IfSome set (λ z. l.set ≡ Some z)
      → ((v w : List ℤ) (n : ℤ) → Admits admits k.nums v → IsNumberOfType ty n → InRange l.range n → IfSome (option_map mexpr_tree l.number) (λ m. machine_value v m ≡ Some n)
      → SetTo (temp_var d) n v w → A w)
      → IsContentBehind admits k e ty l → (objects : List ObjectTree) (s t : State) → StandsFor admits objects k s → acts.load d ty e s ≡ Some t
      → Stands objects k.types A (claims (slice_set k.pointers d set) k.grid) t
  load-stands A d ty e l set row set_is law finds objects s t st h =
      let f = map-some (put s d) (option_and_then (loaded_at s.memory ty) (value_of e s)) t h in
      let g = then-some (loaded_at s.memory ty) (value_of e s) f.0 f.1 in
      let u = f.0 in
      let found = finds objects s st g.0 u g.1 g.2 in
      let typed = value-typed s.memory ty g.0 u st.kept.proper g.2 in
      subst (Stands objects k.types A (claims (slice_set k.pointers d set) k.grid)) (sym f.2)
      (put-stands objects k.types (Admits admits k.nums) A (claims k.pointers k.grid) (claims (slice_set k.pointers d set) k.grid) s st d u
      (λ t is. subst (λ (x : Scalar). IsOf x u × IsMade (length s.memory.blocks) u) (Some-same ty t (sym row ∙ is)) typed)
      (λ j z has. elim (cases_eq j d) [
        | inl same ↦
            let here : Some z ≡ set = set-is k.pointers d set (Some z) (ap (slice_get (slice_set k.pointers d set)) (sym same) ∙ has) in
            inr (same, found.points z (if-some (λ y. l.set ≡ Some y) set z (sym here) set_is))
        | inr other ↦ inl (other, sym (get-set_other k.pointers j d set other) ∙ has)
      ])
      (λ o c has. has) (λ o q x has. has)
      (law st.v (with_value st.v (temp_var d) (number_of u)) (number_of u) st.admitted (number-typed ty u typed.0) found.range found.number
      (SetTo-with st.v (temp_var d) (number_of u))))
