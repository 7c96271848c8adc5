-- What is known of a value that is stored, and the cell for it.
use Rattle.std.proofs.Common.{ℤ, ℕ, ◌≡◌, Bool, true, false, List, [], Option, Some, None, refl, sym, ap, subst, ◌∙◌}
use Rattle.std.specs.Prelude.{IfSome, option_map}
use Rattle.c_syntax_written.specs.declared.int_type.IntType.{IntType}
use Rattle.c_syntax_written.specs.declared.int_type.IntType.TheVariants.{Long}
use Rattle.num_api.specs.declared.message.Range.{Range}
use Rattle.num_api.specs.Ranges.{InRange, all_numbers}
use Rattle.pointsets.specs.declared.Base.TheVariants.{Null}
use Rattle.pointsets.specs.Targets.{Among, BaseSet, has_base}
use Rattle.block_mem.specs.declared.types.Scalar.{Scalar}
use Rattle.block_mem.specs.declared.types.Scalar.TheVariants as scalars
use Rattle.block_mem.specs.declared.types.Value.{Value}
use Rattle.block_mem.specs.declared.types.Value.TheVariants as values
use Rattle.block_mem.specs.Bytes.{IsOf, bytes_of}
use Rattle.c_values.specs.Places.{ObjectMemory}
use Rattle.machine_nums.specs.declared.expr.MExpr.{MExpr}
use Rattle.machine_nums.specs.MExprs.{mexpr_tree}
use Rattle.machine_nums.specs.Machine.{machine_value}
use Rattle.csharp.specs.Trees.{CsExprTree}
use Rattle.csharp.specs.States.{State}
use Rattle.mem_cell_bytes.specs.declared.entry.Entry.{Entry}
use Rattle.mem_cell_bytes.specs.Cells.{Meets, Points, number_of, size_of}
use Rattle.mem_cell_bytes.proofs.Bytes.{number-meets, pointer-meets}
use Rattle.mem_cell_exprs.specs.Exprs.{IsNumberFor}
use Rattle.mem_cell_exprs.specs.Known.{HasOffset, IsPlaceFor}
use Rattle.mem_cell_exprs.specs.declared.known.Known.{Known}
use Rattle.mem_cell_exprs.proofs.Moves.{numbered-of}
use Rattle.mem_cell_loads.specs.declared.content.Content.{Content}
use Rattle.mem_cell_stores.specs.Changes.{IsCellFor, IsContentOf}

any-number : (r : Range) (n : ℤ) → r ≡ all_numbers → InRange r n
any-number r n is = subst (λ (x : Range). InRange x n) (sym is) (record { low = tt; high = tt })

no-set : (s : State) (u : Value) (l : Content) (set : BaseSet) → l.set ≡ None → l.set ≡ Some set → Points s.memory set u
no-set s u l set none is = let clash : None ≡ Some set = sym none ∙ is in cc

-- nothing is known
pub nothing-told : {D : Type 0} (admits : D → List ℤ → Type 0) (k : Known D) (e : CsExprTree) (ty : Scalar) (l : Content) → l.number ≡ None → l.range ≡ all_numbers → l.set ≡ None
    → IsContentOf admits k e ty l
nothing-told admits k e ty l number range set objects s st u is of = record {
  number = subst (λ o. IfSome (option_map mexpr_tree o) (λ m. machine_value st.v m ≡ Some (number_of u))) (sym number) tt;
  range = any-number l.range (number_of u) range;
  points = λ x h. no-set s u l x set h;
}

-- an integer
pub number-told : {D : Type 0} (admits : D → List ℤ → Type 0) (k : Known D) (e : CsExprTree) (ty : Scalar) (m : MExpr) (l : Content) → IsNumberFor k.types e (mexpr_tree m)
    → l.number ≡ Some m → l.range ≡ all_numbers → l.set ≡ None → IsContentOf admits k e ty l
number-told admits k e ty m l law number range set objects s st u is of =
    let n = law st.v s (numbered-of admits k objects s st) u is in
    record {
      number = subst (λ o. IfSome (option_map mexpr_tree o) (λ x. machine_value st.v x ≡ Some (number_of u))) (sym number) (n.2 ∙ ap (λ y. Some (number_of y)) (sym n.1));
      range = any-number l.range (number_of u) range;
      points = λ x h. no-set s u l x set h;
    }

offset-told : (v : List ℤ) (o : Option MExpr) (u : Value) → HasOffset v (option_map mexpr_tree o) u → IfSome (option_map mexpr_tree o) (λ m. machine_value v m ≡ Some (number_of u))
offset-told v None u h = tt
offset-told v (Some m) u h = h

-- a pointer
pub pointer-told : {D : Type 0} (admits : D → List ℤ → Type 0) (k : Known D) (e : CsExprTree) (ty : Scalar) (set : BaseSet) (offset : Option MExpr) (l : Content)
    → IsPlaceFor admits k e set (option_map mexpr_tree offset) → l.number ≡ offset → l.range ≡ all_numbers → l.set ≡ Some set → IsContentOf admits k e ty l
pointer-told admits k e ty set offset l law number range points objects s st u is of =
    let p = law objects s st u is in
    record {
      number = subst (λ o. IfSome (option_map mexpr_tree o) (λ x. machine_value st.v x ≡ Some (number_of u))) (sym number) (offset-told st.v offset u p.1);
      range = any-number l.range (number_of u) range;
      points = λ x h. let same : set ≡ x = let e = sym points ∙ h in cc in subst (λ t. Points s.memory t u) same p.0;
    }

-- ---- cells

-- a cell of an integer
pub number-fits : (at : ℕ) (t : IntType) (l : Content) (e : Entry) → e ≡ record { offset = at; ty = t; undef = false; value = true; targets = Among [] false false }
    → IsCellFor at (scalars.Int t) l e
number-fits at t l e is = record {
  offset = ap (λ (x : Entry). x.offset) is;
  size = ap size_of is;
  meets = λ m u of points. subst (λ (x : Entry). Meets m x (bytes_of u) (number_of u)) (sym is) (int m u of);
}
  where
    int : (m : ObjectMemory) (u : Value) → IsOf (scalars.Int t) u → Meets m (record { offset = at; ty = t; undef = false; value = true; targets = Among [] false false }) (bytes_of u) (number_of u)
    int m (values.Int i n) of =
        subst (λ j. Meets m (record { offset = at; ty = t; undef = false; value = true; targets = Among [] false false }) (bytes_of (values.Int j n)) n) (sym of.0)
        (number-meets m (record { offset = at; ty = t; undef = false; value = true; targets = Among [] false false }) t n of.1)
    int m (values.Ptr p) of = absurd of
    int m values.Null of = absurd of

-- a cell of a pointer
pub pointer-fits : (at : ℕ) (l : Content) (set targets : BaseSet) (value : Bool) → l.set ≡ Some set → value ≡ has_base set Null → targets ≡ set
    → IsCellFor at scalars.Pointer l (record { offset = at; ty = Long; undef = false; value = value; targets = targets })
pointer-fits at l set targets value known null same = record {
  offset = refl;
  size = refl;
  meets = λ m u of points.
      let e : Entry = record { offset = at; ty = Long; undef = false; value = false; targets = set } in
      subst (λ b. Meets m (record { offset = at; ty = Long; undef = false; value = b; targets = targets }) (bytes_of u) (number_of u)) (sym null)
      (subst (λ (t : BaseSet). Meets m (record { offset = at; ty = Long; undef = false; value = has_base set Null; targets = t }) (bytes_of u) (number_of u)) (sym same)
      (pointer-meets m e set u of (points set known)));
}
