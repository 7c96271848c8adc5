-- The state behind a temporary that gets a value.
use Rattle.std.proofs.Common.{ℕ, ℤ, ◌≡◌, List, [], ◌∷◌, length, slice_get, slice_set, Some, None, refl, sym, ap, subst, ◌∙◌, inl, inr}
use Rattle.std.specs.Prelude.{IfSome, option_map}
use Rattle.std.proofs.lemmas.Bool.{cases_eq}
use Rattle.c_syntax_written.specs.declared.int_type.IntType.{IntType}
use Rattle.c_syntax_written.specs.Integer.{HasNumber, wrapped}
use Rattle.c_syntax.specs.Types.{ObjectTree}
use Rattle.num_api.specs.Ranges.{InRange}
use Rattle.num_api.specs.Valuation.{SetTo}
use Rattle.block_mem.specs.declared.types.Scalar.{Scalar}
use Rattle.block_mem.specs.declared.types.Scalar.TheVariants as scalars
use Rattle.block_mem.specs.declared.types.Value.{Value}
use Rattle.block_mem.specs.declared.types.Value.TheVariants as values
use Rattle.block_mem.specs.Bytes.{IsOf}
use Rattle.block_mem.specs.Proper.{IsMade}
use Rattle.c_values.specs.Places.{ObjectMemory}
use Rattle.machine_nums.specs.MExprs.{mexpr_tree}
use Rattle.machine_nums.specs.Machine.{machine_value}
use Rattle.machine_nums.specs.Machines.{Admits}
use Rattle.machine_nums.proofs.Values.{has-wrapped}
use Rattle.csharp.specs.Trees.{CsExprTree}
use Rattle.csharp.specs.States.{State}
use Rattle.csharp.specs.Actions.{put}
use Rattle.csharp.specs.Actions as acts
use Rattle.mem_cell_bytes.specs.Cells.{number_of, temp_var}
use Rattle.mem_cell_bytes.specs.Stands.{Claims, Stands, claims}
use Rattle.mem_cell_bytes.proofs.Steps.{Some-same, get-set_other, put-stands, set-is}
use Rattle.mem_cell_bytes.proofs.Valuations.{SetTo-with, with_value}
use Rattle.mem_cell_exprs.specs.Known.{StandsFor}
use Rattle.mem_cell_exprs.specs.declared.known.Known.{Known}
use Rattle.mem_cell_exprs.proofs.Acts.{set-is as assigned}
use Rattle.mem_cell_loads.specs.declared.content.Content.{Content}
use Rattle.mem_cell_loads.specs.Reads.{IsNumberOfType}
use Rattle.mem_cell_loads.proofs.Behind.{number-typed}
use Rattle.mem_cell_stores.specs.Changes.{IsContentOf}
use Rattle.mem_cell_domain.specs.Lives.{IsTypedIn}

-- ---- inputs

input-is : (d : ℕ) (t : IntType) (temps : List Value) (m : ObjectMemory) (xs : List ℤ) (r : State) → acts.input d t (record { temps = temps; memory = m; inputs = xs }) ≡ Some r
    → (n : ℤ) × (rest : List ℤ) × (r ≡ put (record { temps = temps; memory = m; inputs = rest }) d (values.Int t (wrapped t n)))
input-is d t temps m [] r h = cc
input-is d t temps m (n ∷ rest) r h = (n, rest, cc)

-- no set knows of inputs
other-inputs : (objects : List ObjectTree) (types : List Scalar) (A : List ℤ → Type 0) (k : Claims) (s : State) (xs : List ℤ) → Stands objects types A k s
    → Stands objects types A k (record s { inputs = xs })
other-inputs objects types A k s xs st = record {
  kept = st.kept;
  long = st.long;
  typed = st.typed;
  v = st.v;
  admitted = st.admitted;
  number = st.number;
  points = st.points;
  cell = st.cell;
  byte = st.byte;
}

module _ {D : Type 0} (admits : D → List ℤ → Type 0) (k : Known D) (A : List ℤ → Type 0) (d : ℕ) where
  -- a value of which this is known
  pub set-behind : (ty : Scalar) (e : CsExprTree) (l : Content) → slice_get k.types d ≡ Some ty
      → ((v w : List ℤ) (n : ℤ) → Admits admits k.nums v → IsNumberOfType ty n → InRange l.range n → IfSome (option_map mexpr_tree l.number) (λ m. machine_value v m ≡ Some n)
      → SetTo (temp_var d) n v w → A w)
      → IsContentOf admits k e ty l → (objects : List ObjectTree) (s t : State) → StandsFor admits objects k s → IsTypedIn ty e s → acts.set d e s ≡ Some t
      → Stands objects k.types A (claims (slice_set k.pointers d l.set) k.grid) t
  set-behind ty e l row law told objects s t st typed step =
      let r = assigned d e s t step in
      let u = r.0 in
      let of = typed u r.1 in
      let found = told objects s st u r.1 of.0 in
      subst (Stands objects k.types A (claims (slice_set k.pointers d l.set) k.grid)) (sym r.2)
      (put-stands objects k.types (Admits admits k.nums) A (claims k.pointers k.grid) (claims (slice_set k.pointers d l.set) k.grid) s st d u
      (λ t is. subst (λ (x : Scalar). IsOf x u × IsMade (length s.memory.blocks) u) (Some-same ty t (sym row ∙ is)) of)
      (λ j z has. elim (cases_eq j d) [
        | inl same ↦
            let here : Some z ≡ l.set = set-is k.pointers d l.set (Some z) (ap (slice_get (slice_set k.pointers d l.set)) (sym same) ∙ has) in
            inr (same, found.points z (sym here))
        | inr other ↦ inl (other, sym (get-set_other k.pointers j d l.set other) ∙ has)
      ])
      (λ o c has. has) (λ o q x has. has)
      (law st.v (with_value st.v (temp_var d) (number_of u)) (number_of u) st.admitted (number-typed ty u of.0) found.range found.number
      (SetTo-with st.v (temp_var d) (number_of u))))

  -- an input
  pub input-behind : (t : IntType) → slice_get k.types d ≡ Some (scalars.Int t)
      → ((v w : List ℤ) (n : ℤ) → Admits admits k.nums v → HasNumber t n → SetTo (temp_var d) n v w → A w)
      → (objects : List ObjectTree) (s r : State) → StandsFor admits objects k s → acts.input d t s ≡ Some r
      → Stands objects k.types A (claims (slice_set k.pointers d None) k.grid) r
  input-behind t row law objects s r st step =
      let i = input-is d t s.temps s.memory s.inputs r step in
      let n = wrapped t i.0 in
      let u = values.Int t n in
      let has = has-wrapped t i.0 in
      let s' : State = record s { inputs = i.1 } in
      let st' = other-inputs objects k.types (Admits admits k.nums) (claims k.pointers k.grid) s i.1 st in
      subst (Stands objects k.types A (claims (slice_set k.pointers d None) k.grid)) (sym i.2)
      (put-stands objects k.types (Admits admits k.nums) A (claims k.pointers k.grid) (claims (slice_set k.pointers d None) k.grid) s' st' d u
      (λ ty is. subst (λ (x : Scalar). IsOf x u × IsMade (length s.memory.blocks) u) (Some-same (scalars.Int t) ty (sym row ∙ is)) ((refl, has), tt))
      (λ j z had. elim (cases_eq j d) [
        | inl same ↦
            let here : Some z ≡ None = set-is k.pointers d None (Some z) (ap (slice_get (slice_set k.pointers d None)) (sym same) ∙ had) in cc
        | inr other ↦ inl (other, sym (get-set_other k.pointers j d None other) ∙ had)
      ])
      (λ o c had. had) (λ o q x had. had)
      (law st'.v (with_value st'.v (temp_var d) n) n st'.admitted has (SetTo-with st'.v (temp_var d) n)))
