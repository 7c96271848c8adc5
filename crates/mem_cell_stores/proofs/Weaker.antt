-- What is known of objects once bytes are stored at one of several places, as the code makes it.
use Rattle.std.proofs.Common.{ℕ, ℤ, ◌≡◌, ◌⊎◌, ◌*◌, ◌/◌, ◌%◌, ◌<◌, ◌++◌, Bool, true, false, List, [], ◌∷◌, slice_get, slice_set, Some, None, refl, sym, ap, subst, ◌∙◌, arith, inl, inr}
use Rattle.std.specs.Prelude.{◌||◌}
use Rattle.std.specs.Int.{byte_len}
use Rattle.std.proofs.lemmas.Bool.{cases_eq}
use Rattle.std.proofs.lemmas.Nat.{div-add-mod'}
use Rattle.c_syntax_written.specs.Integer.{std_width}
use Rattle.ext_int.specs.Valuation.{value_at}
use Rattle.num_api.specs.Valuation.{SetTo}
use Rattle.pointsets.proofs.Bases.{joined-left, joined-right}
use Rattle.block_mem.specs.declared.types.Scalar.{Scalar}
use Rattle.block_mem.specs.Bytes.{bytes_of}
use Rattle.mem_cell_bytes.specs.declared.entry.Entry.{Entry}
use Rattle.mem_cell_bytes.specs.Cells.{number_of, size_of, var_of}
use Rattle.mem_cell_bytes.specs.Contents.{Contents}
use Rattle.mem_cell_bytes.specs.Joins.{IsWider}
use Rattle.mem_cell_bytes.specs.Stands.{Has, IsInStretch}
use Rattle.mem_cell_bytes.specs.Stores.{AreBeside, AreBytesLeft, IsChoice}
use Rattle.mem_cell_bytes.specs.Weights.{joined_entry}
use Rattle.mem_cell_bytes.proofs.Steps.{get-set_other, has-push, set-is}
use Rattle.mem_cell_bytes.proofs.Wider.{meets-wider}
use Rattle.mem_cell_grid.proofs.Lists.{has-new, has-old}
use Rattle.mem_cell_loads.specs.declared.content.Content.{Content}
use Rattle.mem_cell_stores.specs.declared.weakly.Bytes.{Bytes}
use Rattle.mem_cell_stores.specs.Changes.{IsCellFor}
use Rattle.mem_cell_stores.specs.Hits.{AreAmong, AreWeakCells, AreWeakened, IsHitCell}
use Rattle.mem_cell_stores.proofs.Kept.{none-has, one-has}

-- ---- cells

or-first : (a b : Bool) → a ≡ true → (a || b) ≡ true
or-first a b h = ap (λ (x : Bool). x || b) h

or-second : (a b : Bool) → b ≡ true → (a || b) ≡ true
or-second true b h = refl
or-second false b h = h

pub joins-first : (d e : Entry) → IsWider d (joined_entry d e)
joins-first d e = record {
  offset = refl;
  ty = refl;
  undef = or-first d.undef e.undef;
  value = or-first d.value e.value;
  targets = joined-left d.targets e.targets;
}

joins-second : (d e : Entry) → d.offset ≡ e.offset → d.ty ≡ e.ty → IsWider e (joined_entry d e)
joins-second d e place ty = record {
  offset = place;
  ty = ty;
  undef = or-second d.undef e.undef;
  value = or-second d.value e.value;
  targets = joined-right d.targets e.targets;
}

-- a cell that was there, joined with that of the value
pub joins-fit : (ty : Scalar) (l : Content) (d e : Entry) → d.ty ≡ e.ty → IsCellFor d.offset ty l e → IsCellFor d.offset ty l (joined_entry d e)
joins-fit ty l d e same fits = record {
  offset = refl;
  size = ap (λ t. byte_len (std_width t)) same ∙ fits.size;
  meets = λ m u of points. meets-wider m e (joined_entry d e) (bytes_of u) (number_of u) (joins-second d e (sym fits.offset) same) (fits.meets m u of points);
}

pub whole-place : (n step : ℕ) → n % step ≡ 0 → n ≡ n / step * step
whole-place n step rest = let all = div-add-mod' n step in omega (arith, rest, all)

wider-twice : (a b c : Entry) → IsWider a b → IsWider b c → IsWider a c
wider-twice a b c f g = record {
  offset = g.offset ∙ f.offset;
  ty = g.ty ∙ f.ty;
  undef = λ h. g.undef (f.undef h);
  value = λ h. g.value (f.value h);
  targets = λ base h. g.targets base (f.targets base h);
}

hit-among : (q step : ℕ) (ty : Scalar) (l : Content) (ys zs : List ℕ) (cells : List Entry) (e : Entry) → AreAmong ys zs → IsHitCell q step ty l ys cells e → IsHitCell q step ty l zs cells e
hit-among q step ty l ys zs cells e more h = record {
  old = h.old;
  was = h.was;
  wider = h.wider;
  fits = h.fits;
  index = h.index;
  place = h.place;
  small = h.small;
  variable = more (var_of q e) h.variable;
}

pub among-push : (ys zs : List ℕ) (y : ℕ) → zs ≡ ys ++ y ∷ [] → AreAmong ys zs
among-push ys zs y is x h = subst (λ l. Has l x) (sym is) (has-old ys y x h)

module _ (o : ℕ) (b : Bytes) (ty : Scalar) (l : Content) (all : List Entry) where
  pub weak-none : (ys : List ℕ) → AreWeakCells o b ty l ys all []
  weak-none ys e h = none-cell e h
    where
      none-cell : {P : Type 0} (e : Entry) → Has [] e → P
      none-cell e (n, g) = cc

  -- a cell beside the bytes
  pub weak-kept : (ys : List ℕ) (old new : List Entry) (e : Entry) → AreWeakCells o b ty l ys all old → Has all e → AreBeside e.offset (size_of e) b.at b.count
      → new ≡ old ++ e ∷ [] → AreWeakCells o b ty l ys all new
  weak-kept ys old new e was has beside is = λ d h.
      has-push {P = (Has all d × AreBeside d.offset (size_of d) b.at b.count) ⊎ IsHitCell o b.step ty l ys all d} old e d (subst (λ xs. Has xs d) is h) (λ g. was d g)
      (λ same. inl (subst (λ (x : Entry). Has all x × AreBeside x.offset (size_of x) b.at b.count) (sym same) (has, beside)))

  -- one that may be hit
  pub weak-hit : (ys zs : List ℕ) (old new : List Entry) (d e : Entry) (x : ℕ) → AreWeakCells o b ty l ys all old → Has all d → IsWider d e → IsCellFor e.offset ty l e
      → e.offset % b.step ≡ 0 → e.offset < 65536 → x ≡ var_of o e → zs ≡ ys ++ x ∷ [] → new ≡ old ++ e ∷ [] → AreWeakCells o b ty l zs all new
  weak-hit ys zs old new d e x was has wider fits rest small var more is = λ c h.
      has-push {P = (Has all c × AreBeside c.offset (size_of c) b.at b.count) ⊎ IsHitCell o b.step ty l zs all c} old e c (subst (λ xs. Has xs c) is h)
      (λ g. elim (was c g) [ inl kept ↦ inl kept | inr hit ↦ inr (hit-among o b.step ty l ys zs all c (among-push ys zs x more) hit) ])
      (λ same. inr (subst (IsHitCell o b.step ty l zs all) (sym same) (record {
        old = d;
        was = has;
        wider = wider;
        fits = fits;
        index = e.offset / b.step;
        place = whole-place e.offset b.step rest;
        small = small;
        variable = subst (λ ws. Has ws (var_of o e)) (sym more) (subst (λ n. Has (ys ++ x ∷ []) n) var (has-new ys x));
      })))

-- ---- objects

module _ (b : Bytes) (ty : Scalar) (l : Content) where
  pub weakened-none : (ys : List ℕ) (grid : List Contents) → AreWeakened [] b ty l ys grid grid
  weakened-none ys grid = λ q c got. (c, got, record { cells = λ e has. inl (has, none-has q); bytes = λ i x has. (has, none-has q) })

  pub weakened-missing : (o : ℕ) (ys : List ℕ) (grid : List Contents) → slice_get grid o ≡ None → AreWeakened (o ∷ []) b ty l ys grid grid
  weakened-missing o ys grid none = λ q c got.
      let clash = λ (among : Has (o ∷ []) q). let no : None ≡ Some c = sym none ∙ sym (ap (slice_get grid) (one-has o q among)) ∙ got in no in (
        c,
        got,
        record {
          cells = λ e has. inl (has, λ among. let no = clash among in cc);
          bytes = λ i x has. (has, λ among. let no = clash among in cc);
        },
      )

  pub weakened-at : (o : ℕ) (ys : List ℕ) (grid new : List Contents) (held h : Contents) → slice_get grid o ≡ Some held → AreWeakCells o b ty l ys held.cells h.cells
      → AreBytesLeft held.stretches b.at b.count h.stretches → new ≡ slice_set grid o h → AreWeakened (o ∷ []) b ty l ys grid new
  weakened-at o ys grid new held h is cells bytes put = λ q c got. elim (cases_eq q o) [
    | inl here ↦
        let same : c ≡ h = set-is grid o h c (sym (ap (λ xs. slice_get xs o) put) ∙ sym (ap (slice_get new) here) ∙ got) in (
          held,
          ap (slice_get grid) here ∙ is,
          record {
            cells = λ e has. elim (cells e (subst (λ (x : Contents). Has x.cells e) same has)) [
              | inl kept ↦ inl (kept.0, λ among. kept.1)
              | inr hit ↦ inr (subst (λ n. IsHitCell n b.step ty l ys held.cells e) (sym here) hit)
            ];
            bytes = λ i x has. let g = bytes i x (subst (λ (y : Contents). IsInStretch y.stretches i x) same has) in (g.0, λ among. g.1);
          },
        )
    | inr other ↦ (
      c,
      sym (ap (λ xs. slice_get xs q) put ∙ get-set_other grid q o h other) ∙ got,
      record {
        cells = λ e has. inl (has, λ among. absurd (other (one-has o q among)));
        bytes = λ i x has. (has, λ among. absurd (other (one-has o q among)));
      },
    )
  ]

  -- one object more
  pub weakened-more : (os : List ℕ) (o : ℕ) (ys zs : List ℕ) (grid mid new : List Contents) → AreAmong ys zs → AreWeakened os b ty l ys grid mid
      → AreWeakened (o ∷ []) b ty l zs mid new → AreWeakened (os ++ o ∷ []) b ty l zs grid new
  weakened-more os o ys zs grid mid new more first then = λ q c got.
      let g = then q c got in let a = first q g.0 g.1 in (
        a.0,
        a.1,
        record {
          cells = λ e has. elim (g.2.cells e has) [
            | inl kept ↦ elim (a.2.cells e kept.0) [
              | inl was ↦ inl (was.0, λ among. has-push os o q among was.1 (λ same. kept.1 (0, ap Some (sym same))))
              | inr hit ↦ inr (hit-among q b.step ty l ys zs a.0.cells e more hit)
            ]
            | inr hit ↦ inr (twice q zs a.0.cells e hit (old-of q a.0.cells g.0.cells ys hit.old (a.2.cells hit.old hit.was)))
          ];
          bytes = λ i x has. let d = g.2.bytes i x has in let f = a.2.bytes i x d.0 in
              (f.0, λ among. has-push os o q among f.1 (λ same. d.1 (0, ap Some (sym same))));
        },
      )
    where
      -- a cell of the middle allows what one of the first allows
      old-of : (q : ℕ) (cells mids : List Entry) (ys : List ℕ) (d : Entry) → (Has cells d × (Has os q → AreBeside d.offset (size_of d) b.at b.count)) ⊎ IsHitCell q b.step ty l ys cells d
          → (f : Entry) × Has cells f × IsWider f d
      old-of q cells mids ys d (inl was) = (d, was.0, record { offset = refl; ty = refl; undef = λ h. h; value = λ h. h; targets = λ base h. h })
      old-of q cells mids ys d (inr hit) = (hit.old, hit.was, hit.wider)

      twice : (q : ℕ) (ws : List ℕ) (cells : List Entry) (e : Entry) {mids : List Entry} (hit : IsHitCell q b.step ty l ws mids e) → (f : Entry) × Has cells f × IsWider f hit.old
          → IsHitCell q b.step ty l ws cells e
      twice q ws cells e hit f = record {
        old = f.0;
        was = f.1;
        wider = wider-twice f.0 hit.old e f.2 hit.wider;
        fits = hit.fits;
        index = hit.index;
        place = hit.place;
        small = hit.small;
        variable = hit.variable;
      }

-- ---- numbers: one variable after another may take the number x

set-self : (v : List ℤ) (y : ℕ) → SetTo y (value_at v y) v v
set-self v y = record { here = refl; others = λ k h. refl }

pub choice-turn : (A A' : List ℤ → Type 0) (ys : List ℕ) (y : ℕ) (x : ℤ) (v : List ℤ) → ((w : List ℤ) → IsChoice ys x v w → A w)
    → ((w z : List ℤ) (n : ℤ) → A w → (n ≡ x) ⊎ (n ≡ value_at w y) → SetTo y n w z → A' z) → (w : List ℤ) → IsChoice (ys ++ y ∷ []) x v w → A' w
choice-turn A A' ys y x v old law w (inl same) = subst A' (sym same) (law v v (value_at v y) (old v (inl refl)) (inr refl) (set-self v y))
choice-turn A A' ys y x v old law w (inr c) = has-push ys y c.0 c.1
    (λ has. law w w (value_at w y) (old w (inr (c.0, has, c.2))) (inr refl) (set-self w y))
    (λ is. law v w x (old v (inl refl)) (inl refl) (subst (λ j. SetTo j x v w) is c.2))

pub no-choice : (x : ℤ) (v w : List ℤ) → IsChoice [] x v w → w ≡ v
no-choice x v w (inl same) = same
no-choice x v w (inr c) = none-has c.0 c.1
