-- States that a set stands for are typed, and the first one.
use Rattle.std.proofs.Common.{ℕ, ℤ, pos, ◌≡◌, List, [], ◌∷◌, length, replicate, slice_get, Some, None, refl, sym, ap, subst, ◌∙◌}
use Rattle.std.specs.Prelude.{IsSomeAnd}
use Rattle.std.proofs.lemmas.List.Elements.{All-head, All-tail}
use Rattle.c_syntax.specs.Types.{ObjectTree}
use Rattle.ext_int.specs.Valuation.{value_at}
use Rattle.block_mem.specs.declared.types.Scalar.{Scalar}
use Rattle.block_mem.specs.declared.types.Scalar.TheVariants as scalars
use Rattle.block_mem.specs.declared.types.Value.{Value}
use Rattle.block_mem.specs.Bytes.{IsOf}
use Rattle.block_mem.specs.Proper.{IsMade}
use Rattle.c_objects.specs.Kept.{KeepsObjects}
use Rattle.csharp.specs.Trees.{CsExprTree, CsProgramTree, Set, Store}
use Rattle.csharp.specs.States.{State, first, first_value, value_of}
use Rattle.csharp.specs.Formed.{AreOperandsTyped, IsTyped}
use Rattle.csharp_typed_laws.specs.Kept.{ValuesAreTyped}
use Rattle.csharp_typed_laws.specs.TypedStates.{IsTypedState, IsTypedValue}
use Rattle.csharp_typed_laws.proofs.Values.{some_with}
use Rattle.mem_cell_bytes.specs.Cells.{number_of, temp_var}
use Rattle.mem_cell_bytes.specs.Contents.{Contents, nothing}
use Rattle.mem_cell_bytes.specs.Stands.{Stands, claims}
use Rattle.mem_cell_bytes.proofs.Steps.{has-none}
use Rattle.mem_cell_exprs.specs.Known.{StandsFor}
use Rattle.mem_cell_exprs.specs.declared.known.Known.{Known}
use Rattle.mem_cell_domain.specs.Lives.{IsTypedIn}
use Rattle.mem_cell_domain.specs.Starts.{AreBytesOf}
use Rattle.mem_cell_domain.proofs.Items.{map-get, replicated, there-at}

pub typed-state : {D : Type 0} (admits : D → List ℤ → Type 0) (objects : List ObjectTree) (k : Known D) (s : State) (q : CsProgramTree) → objects ≡ q.objects → k.types ≡ q.temps
    → StandsFor admits objects k s → IsTypedState q s
typed-state admits objects k s q objects_are types_are st = record {
  count = st.long ∙ ap length types_are;
  temps = λ d ty is.
      let u = there-at q.temps s.temps d ty (sym (st.long ∙ ap length types_are)) is in
      let t = st.typed d ty u.0 (ap (λ ts. slice_get ts d) types_are ∙ is) u.1 in
      subst (λ o. IsSomeAnd o (IsTypedValue (length s.memory.blocks) ty)) (sym u.1) (record { typed = t.0; of_made = t.1 });
  memory = subst (λ os. KeepsObjects os s.memory) objects_are st.kept;
}

first-number : (ty : Scalar) → number_of (first_value ty) ≡ pos 0
first-number (scalars.Int t) = refl
first-number scalars.Pointer = refl

value-none : (i : ℕ) → value_at [] i ≡ pos 0
value-none i = refl

-- the first state, of which these bytes are known
pub first-stands : (q : CsProgramTree) (inputs : List ℤ) (A : List ℤ → Type 0) (n : ℕ) (grid : List Contents) → IsTypedState q (first q inputs) → A []
    → AreBytesOf grid (first q inputs).memory → Stands q.objects q.temps A (claims (replicate n None) grid) (first q inputs)
first-stands q inputs A n grid typed a known = record {
  kept = typed.memory;
  long = typed.count;
  typed = λ d ty u is at. let t = some_with (IsTypedValue (length (first q inputs).memory.blocks) ty) (slice_get (first q inputs).temps d) u (typed.temps d ty is) at in (t.typed, t.of_made);
  v = [];
  admitted = a;
  number = λ d u at. let t = map-get first_value q.temps d u at in value-none (temp_var d) ∙ sym (ap number_of t.2 ∙ first-number t.0);
  points = λ d set u has at. let clash : Some set ≡ None = replicated n d None (Some set) has in cc;
  cell = λ o e b (c, got, has, low) at. has-none c.cells e (known.cells o c got) has;
  byte = λ o i x b (c, got, is) at. known.bytes o i x c b got is at;
}

-- ---- what statements give

same-type : (types temps : List Scalar) (d : ℕ) (ty t : Scalar) → types ≡ temps → slice_get types d ≡ Some ty → slice_get temps d ≡ Some t → t ≡ ty
same-type types temps d ty t same is at = let e : Some t ≡ Some ty = sym at ∙ ap (λ ts. slice_get ts d) (sym same) ∙ is in cc

module _ {D : Type 0} (admits : D → List ℤ → Type 0) (objects : List ObjectTree) (k : Known D) (q : CsProgramTree) (law : ValuesAreTyped) (objects_are : objects ≡ q.objects)
    (types_are : k.types ≡ q.temps) where
  -- a value that goes into a temporary
  pub set-typed : (d : ℕ) (e : CsExprTree) (ty : Scalar) → IsTyped q (Set d e) → slice_get k.types d ≡ Some ty → (s : State) → StandsFor admits objects k s → IsTypedIn ty e s
  set-typed d e ty typed is s st u given =
      let row = typed.1 in
      let t = law q s row.0 e u (typed-state admits objects k s q objects_are types_are st) (All-head (AreOperandsTyped q) e [] typed.0) row.1 given in
      subst (λ (x : Scalar). IsOf x u × IsMade (length s.memory.blocks) u) (same-type k.types q.temps d ty row.0 types_are is row.2) (t.typed, t.of_made)

  -- a value that is stored
  pub store-typed : (ty : Scalar) (e f : CsExprTree) → IsTyped q (Store ty e f) → (s : State) → StandsFor admits objects k s → (u : Value) → value_of f s ≡ Some u → IsOf ty u
  store-typed ty e f typed s st u given =
      (law q s ty f u (typed-state admits objects k s q objects_are types_are st)
      (All-head (AreOperandsTyped q) f [] (All-tail (AreOperandsTyped q) e (f ∷ []) typed.0)) typed.1.1 given).typed
