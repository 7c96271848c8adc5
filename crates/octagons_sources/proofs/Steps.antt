-- Steps of drawing bounds into a new matrix.
use Rattle.std.proofs.Common.{inl, inr, ℕ, ℤ, pos, Option, None, Some, ◌≡◌, ◌<◌, ◌≤◌, ◌+◌, ◌*◌, ◌+ℤ◌, refl, ap, sym, subst, ◌∙◌, arith, true, false, Bool, List}
use Rattle.std.specs.Prelude.{◌⊎◌, nat_eq}
use Rattle.std.proofs.lemmas.Int.{ints}
use Rattle.std.proofs.lemmas.Bool.Decides.{nat_tests}
use Rattle.ext_int.specs.Ext.{half, lesser}
use Rattle.ext_int.specs.declared.Ext.{Ext}
use Rattle.ext_int.specs.declared.Ext.TheVariants.{Low, Fin, High}
use Rattle.ext_int.proofs.Ends.{lesser_same}
use Rattle.bound_matrix.specs.Bound.{MatrixView, bound_at, bar, cut, InRange, LowersTo}
use Rattle.bound_matrix.proofs.Places.{nat-either, nat-less_or, bar-twice, bound-mirror}
use Rattle.bound_matrix.proofs.Entries.{cut-same}
use Rattle.bound_matrix.proofs.Storing.{at-places}
use Rattle.octagons_sources.specs.declared.source.Source.{Source}
use Rattle.octagons_sources.specs.Sources.{index_from, most_added}
use Rattle.octagons_sources.specs.Drawn.{between, whole_sum, drawn_whole, IsPartly, KeepsDrawn, DrawsRow, DrawsRows}
use Rattle.octagons_sources.proofs.Reading.{either, other_index, index_from-bar, Parts, parts, drawn-same, drawn-other}

other-twice : (o : Option ℕ) → other_index (other_index o) ≡ o
other-twice None = refl
other-twice (Some i) = ap Some (bar-twice i)

between-mirror : (m : MatrixView) (a b : Option ℕ) → between (bound_at m) (other_index b) (other_index a) ≡ between (bound_at m) a b
between-mirror m None None = refl
between-mirror m None (Some j) = ap (λ (k : ℕ). half (bound_at m (bar j) k)) (bar-twice j)
between-mirror m (Some i) None = ap (λ (k : ℕ). half (bound_at m k (bar i))) (bar-twice i)
between-mirror m (Some i) (Some j) = sym (bound-mirror m i j)

swap-added : (x y z : ℤ) → ((x +ℤ y) +ℤ z) ≡ ((x +ℤ z) +ℤ y)
swap-added x y z = omega (arith, ints)

whole_sum-swap : (a b c : Ext) → whole_sum a b c ≡ whole_sum a c b
whole_sum-swap Low b c = refl
whole_sum-swap High b c = refl
whole_sum-swap (Fin x) Low Low = refl
whole_sum-swap (Fin x) Low (Fin z) = refl
whole_sum-swap (Fin x) Low High = refl
whole_sum-swap (Fin x) (Fin y) Low = refl
whole_sum-swap (Fin x) (Fin y) (Fin z) = ap Fin (swap-added x y z)
whole_sum-swap (Fin x) (Fin y) High = refl
whole_sum-swap (Fin x) High Low = refl
whole_sum-swap (Fin x) High (Fin z) = refl
whole_sum-swap (Fin x) High High = refl

lesser-high : (e : Ext) → lesser High e ≡ e
lesser-high Low = refl
lesser-high (Fin x) = refl
lesser-high High = refl

module _ (from : List Source) (m : MatrixView) where
  -- mirrored places have the same drawn bound
  pub drawn-mirror : (p q : ℕ) → drawn_whole from (bound_at m) (bar q) (bar p) ≡ drawn_whole from (bound_at m) p q
  drawn-mirror p q = nat-either p q
      (λ e. drawn-same from (bound_at m) (bar q) (bar p) (ap bar (sym e)) ∙ sym (drawn-same from (bound_at m) p q e))
      (λ d. drawn-other from (bound_at m) (bar q) (bar p) (λ e. d (sym (sym (bar-twice q) ∙ (ap bar e ∙ bar-twice p))))
      ∙ (ap (λ (e : Ext). whole_sum e (most_added from (bar p)) (most_added from (bar (bar q)))) sources
      ∙ (ap (λ (k : ℕ). whole_sum (between (bound_at m) (index_from from p) (index_from from q)) (most_added from (bar p)) (most_added from k)) (bar-twice q)
      ∙ (whole_sum-swap _ (most_added from (bar p)) (most_added from q) ∙ sym (drawn-other from (bound_at m) p q d)))))
    where
      sources : between (bound_at m) (index_from from (bar q)) (index_from from (bar p)) ≡ between (bound_at m) (index_from from p) (index_from from q)
      sources = ap (λ (o : Option ℕ). between (bound_at m) o (index_from from (bar p))) (index_from-bar from q)
          ∙ (ap (between (bound_at m) (other_index (index_from from q))) (index_from-bar from p) ∙ between-mirror m (index_from from p) (index_from from q))

  -- lowering a place to its drawn bound
  module _ (i j : ℕ) (b : Ext) (w u : ℕ → ℕ → Ext) (l : LowersTo i j b w u) (is : b ≡ drawn_whole from (bound_at m) i j) (range : InRange b) (partly : IsPartly from (bound_at m) w) where
    here : u i j ≡ drawn_whole from (bound_at m) i j
    here = l.here ∙ (ap (lesser (w i j)) (cut-same b range ∙ is)
        ∙ either (partly.partly i j)
        (λ e. ap (λ (x : Ext). lesser x (drawn_whole from (bound_at m) i j)) e ∙ lesser-high (drawn_whole from (bound_at m) i j))
        (λ e. ap (λ (x : Ext). lesser x (drawn_whole from (bound_at m) i j)) e ∙ lesser_same (drawn_whole from (bound_at m) i j)))

    there : u (bar j) (bar i) ≡ drawn_whole from (bound_at m) (bar j) (bar i)
    there = l.mirror ∙ (sym l.here ∙ (here ∙ sym (drawn-mirror i j)))

    step-partly : IsPartly from (bound_at m) u
    step-partly = record {
      partly = at-places i j b w u l (λ p q. (u p q ≡ High) ⊎ (u p q ≡ drawn_whole from (bound_at m) p q)) (inr here) (inr there)
          (λ p q s. either (partly.partly p q) (λ e. inl (s ∙ e)) (λ e. inr (s ∙ e)));
    }

    step-keeps : KeepsDrawn from (bound_at m) w u
    step-keeps = record {
      stays = at-places i j b w u l (λ p q. w p q ≡ drawn_whole from (bound_at m) p q → u p q ≡ drawn_whole from (bound_at m) p q) (λ e. here) (λ e. there)
          (λ p q s e. s ∙ e);
    }

  pub row-step : (i j : ℕ) (b : Ext) (m₀ w u : ℕ → ℕ → Ext) → LowersTo i j b w u → b ≡ drawn_whole from (bound_at m) i j → InRange b → DrawsRow from i j (bound_at m) m₀ w → DrawsRow from i (j + 1) (bound_at m) m₀ u
  row-step i j b m₀ w u l is range d = record {
    partly = λ s. step-partly i j b w u l is range (d.partly s);
    keeps = λ s. record { stays = λ p q e. (step-keeps i j b w u l is range (d.partly s)).stays p q ((d.keeps s).stays p q e) };
    row = λ s q k. nat-either q j
        (λ z. subst (λ (o : ℕ). u i o ≡ drawn_whole from (bound_at m) i o) (sym z) (here i j b w u l is range (d.partly s)))
        (λ z. (step-keeps i j b w u l is range (d.partly s)).stays i q (d.row s q (omega arith)));
  }

pub row-first : (from : List Source) (i : ℕ) (m w : ℕ → ℕ → Ext) → DrawsRow from i 0 m w w
row-first from i m w = record { partly = λ s. s; keeps = λ s. record { stays = λ p q e. e }; row = λ s q l. absurd (omega arith) }

pub rows-first : (from : List Source) (n : ℕ) (m w : ℕ → ℕ → Ext) → ((p q : ℕ) → w p q ≡ High) → DrawsRows from 0 n m w
rows-first from n m w none = record { partly = record { partly = λ p q. inl (none p q) }; rows = λ p q k l. absurd (omega arith) }

pub rows-step : (from : List Source) (i n : ℕ) (m w u : ℕ → ℕ → Ext) → DrawsRow from i n m w u → DrawsRows from i n m w → DrawsRows from (i + 1) n m u
rows-step from i n m w u r d = record {
  partly = r.partly d.partly;
  rows = λ p q k l. nat-either p i
      (λ z. subst (λ (o : ℕ). u o q ≡ drawn_whole from m o q) (sym z) (r.row d.partly q l))
      (λ z. (r.keeps d.partly).stays p q (d.rows p q (omega arith) l));
}
