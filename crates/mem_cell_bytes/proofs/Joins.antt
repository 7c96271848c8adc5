-- Sets that stand for more.
use Rattle.std.proofs.Common.{ℤ, ◌≡◌, List, refl, ap}
use Rattle.c_syntax.specs.Types.{ObjectTree}
use Rattle.ext_int.specs.Valuation.{value_at}
use Rattle.block_mem.specs.declared.types.Scalar.{Scalar}
use Rattle.csharp.specs.States.{State}
use Rattle.mem_cell_bytes.specs.Cells.{var_of}
use Rattle.mem_cell_bytes.specs.Stands.{Claims, Stands}
use Rattle.mem_cell_bytes.specs.Joins.{SaysLess}
use Rattle.mem_cell_bytes.proofs.Wider.{moved, points-wider, same-var}

module _ (objects : List ObjectTree) (types : List Scalar) (A A' : List ℤ → Type 0) (k k' : Claims) (s : State) where
  -- a set all of which follows from what another says stands for each of that one's states
  pub more-stands : SaysLess k k' → ((v : List ℤ) → A v → A' v) → Stands objects types A k s → Stands objects types A' k' s
  more-stands more law st = record {
    kept = st.kept;
    long = st.long;
    typed = st.typed;
    v = st.v;
    admitted = law st.v st.admitted;
    number = st.number;
    points = λ d set u has got. let f = more.pointer d set has in points-wider s.memory f.0 set u f.2 (st.points d f.0 u f.1 got);
    cell = λ o e b has h. let f = more.cell o e has in
        moved s.memory f.0 e b (value_at st.v (var_of o f.0)) (value_at st.v (var_of o e)) f.2 (ap (value_at st.v) (same-var o f.0 e f.2)) (st.cell o f.0 b f.1 h);
    byte = λ o q x b has h. st.byte o q x b (more.byte o q x has) h;
  }

  -- with the same valuation
  pub more-same : (more : SaysLess k k') (law : (v : List ℤ) → A v → A' v) (st : Stands objects types A k s) → (more-stands more law st).v ≡ st.v
  unfolding more-stands
  more-same more law st = refl
