-- Sets that have the states of two.
use Rattle.std.proofs.Common.{ℕ, ◌≡◌, ◌+◌, ◌≤◌, ◌<◌, ◌&&◌, Bool, true, false, List, slice_get, Option, Some, None, refl, sym, ap, subst, ◌∙◌, arith, inl, inr, get_or}
use Rattle.pointsets.specs.Targets.{BaseSet, has_base, joined}
use Rattle.pointsets.proofs.Bases.{covers-has, joined-left, joined-right}
use Rattle.mem_cell_bytes.specs.Contents.{Contents, nothing}
use Rattle.mem_cell_bytes.specs.Joins.{IsWiderSet, SaysLess}
use Rattle.mem_cell_bytes.specs.Stands.{claims}
use Rattle.mem_cell_bytes.specs.Weights.{contents_weight, pointer_weight}
use Rattle.mem_cell_bytes.proofs.Steps.{has-none}
use Rattle.mem_cell_grid.specs.Meetings.{AreContentsMet, AreMet, IsPointerMet}
use Rattle.mem_cell_domain.proofs.Items.{or-cases, there-at}

-- ---- one pointer

same-set : (s t : BaseSet) → s ≡ t → IsWiderSet s t
same-set s t e = λ b h. subst (λ (x : BaseSet). has_base x b ≡ true) e h

first-set : (a b : Option BaseSet) (set : BaseSet) (kept : Bool) → IsPointerMet a b (Some set) kept → (old : BaseSet) × (a ≡ Some old) × IsWiderSet old set
first-set None b set kept h = let no = h.0 in cc
first-set (Some s) None set kept h = let no = h.0 in cc
first-set (Some s) (Some t) set kept (inl h) = (s, refl, same-set s set (let e = h.2 in cc))
first-set (Some s) (Some t) set kept (inr h) = (s, refl, λ b has. same-set (joined s t) set (let e = h.2 in cc) b (joined-left s t b has))

second-set : (a b : Option BaseSet) (set : BaseSet) (kept : Bool) → IsPointerMet a b (Some set) kept → (old : BaseSet) × (b ≡ Some old) × IsWiderSet old set
second-set None b set kept h = let no = h.0 in cc
second-set (Some s) None set kept h = let no = h.0 in cc
second-set (Some s) (Some t) set kept (inl h) = (t, refl, λ b has. same-set s set (let e = h.2 in cc) b (covers-has s t b h.1 has))
second-set (Some s) (Some t) set kept (inr h) = (t, refl, λ b has. same-set (joined s t) set (let e = h.2 in cc) b (joined-right s t b has))

-- where nothing is lost the second side's set is no wider
kept-set : (a b c : Option BaseSet) (set : BaseSet) (kept : Bool) → IsPointerMet a b c kept → kept ≡ true → a ≡ Some set → (old : BaseSet) × (b ≡ Some old) × IsWiderSet old set
kept-set None b c set kept h keeps is = cc
kept-set (Some s) None c set kept h keeps is = let no = h.1 in cc
kept-set (Some s) (Some t) c set kept (inl h) keeps is = (t, refl, λ b has. same-set s set (let e = is in cc) b (covers-has s t b h.1 has))
kept-set (Some s) (Some t) c set kept (inr h) keeps is = let no = h.0 in cc

some-or : (ys : List (Option BaseSet)) (d : ℕ) (set : BaseSet) → get_or ys d None ≡ Some set → slice_get ys d ≡ Some (Some set)
some-or ys d set is = elim (or-cases ys d None) [ inl there ↦ there ∙ ap Some is | inr none ↦ (let clash : None ≡ Some set = sym none ∙ is in cc) ]

-- ---- all that is said

module _ (p q mp : List (Option BaseSet)) (g h mg : List Contents) (pointers_kept objects_kept : Bool)
    (pm : AreMet pointer_weight None IsPointerMet p q mp pointers_kept) (gm : AreMet contents_weight nothing AreContentsMet g h mg objects_kept) where
  pub meet-first : SaysLess (claims p g) (claims mp mg)
  meet-first = record {
    pointer = λ d set has.
        let a = there-at mp p d (Some set) pm.long has in
        let m = pm.each d a.0 (Some set) a.1 has in
        let old = first-set a.0 (get_or q d None) set m.0 m.1 in
        (old.0, a.1 ∙ ap Some old.1, old.2);
    cell = λ o e (c, got, has, low).
        let a = there-at mg g o c gm.long got in
        let m = gm.each o a.0 c a.1 got in
        let d = m.1.cell_first e has in
        (d.0, (a.0, a.1, d.1, subst (λ n. n < 65536) d.2.offset low), d.2);
    byte = λ o i x (c, got, is).
        let a = there-at mg g o c gm.long got in
        let m = gm.each o a.0 c a.1 got in
        (a.0, a.1, m.1.byte_first i x is);
  }

  pub meet-second : SaysLess (claims q h) (claims mp mg)
  meet-second = record {
    pointer = λ d set has.
        let a = there-at mp p d (Some set) pm.long has in
        let m = pm.each d a.0 (Some set) a.1 has in
        let old = second-set a.0 (get_or q d None) set m.0 m.1 in
        (old.0, some-or q d old.0 old.1, old.2);
    cell = λ o e (c, got, has, low).
        let a = there-at mg g o c gm.long got in
        let m = gm.each o a.0 c a.1 got in
        let d = m.1.cell_second e has in
        elim (or-cases h o nothing) [
          | inl there ↦ (d.0, (get_or h o nothing, there, d.1, subst (λ n. n < 65536) d.2.offset low), d.2)
          | inr none ↦ has-none (get_or h o nothing).cells d.0 (ap (λ (y : Contents). y.cells) none) d.1
        ];
    byte = λ o i x (c, got, is).
        let a = there-at mg g o c gm.long got in
        let m = gm.each o a.0 c a.1 got in
        let b = m.1.byte_second i x is in
        elim (or-cases h o nothing) [
          | inl there ↦ (get_or h o nothing, there, b)
          | inr none ↦ has-none (get_or h o nothing).stretches b.stretch (ap (λ (y : Contents). y.stretches) none) b.has
        ];
  }

  -- where nothing is lost the second side says all that the first does
  pub meet-kept : pointers_kept ≡ true → objects_kept ≡ true → SaysLess (claims q h) (claims p g)
  meet-kept first second = record {
    pointer = λ d set has.
        let c = there-at p mp d (Some set) (sym pm.long) has in
        let m = pm.each d (Some set) c.0 has c.1 in
        let old = kept-set (Some set) (get_or q d None) c.0 set m.0 m.1 (m.2 first) refl in
        (old.0, some-or q d old.0 old.1, old.2);
    cell = λ o e (a, got, has, low).
        let c = there-at g mg o a (sym gm.long) got in
        let m = gm.each o a c.0 got c.1 in
        let d = m.1.cells_covered (m.2 second) e has in
        elim (or-cases h o nothing) [
          | inl there ↦ (d.0, (get_or h o nothing, there, d.1, subst (λ n. n < 65536) d.2.offset low), d.2)
          | inr none ↦ has-none (get_or h o nothing).cells d.0 (ap (λ (y : Contents). y.cells) none) d.1
        ];
    byte = λ o i x (a, got, is).
        let c = there-at g mg o a (sym gm.long) got in
        let m = gm.each o a c.0 got c.1 in
        let b = m.1.bytes_covered (m.2 second) i x is in
        elim (or-cases h o nothing) [
          | inl there ↦ (get_or h o nothing, there, b)
          | inr none ↦ has-none (get_or h o nothing).stretches b.stretch (ap (λ (y : Contents). y.stretches) none) b.has
        ];
  }

-- ---- weights

-- where something is lost the sum falls
pub sum-falls : (a b c : Bool) (p p' g g' n n' : ℕ) → p' ≤ p → (a ≡ false → p' < p) → g' ≤ g → (b ≡ false → g' < g) → n' ≤ n → (c ≡ false → n' < n)
    → (a && (b && c)) ≡ false → n' + (p' + g') < n + (p + g)
sum-falls false b c p p' g g' n n' pl pf gl gf nl nf h = let f = pf refl in omega (arith, f, gl, nl)
sum-falls true false c p p' g g' n n' pl pf gl gf nl nf h = let f = gf refl in omega (arith, f, pl, nl)
sum-falls true true false p p' g g' n n' pl pf gl gf nl nf h = let f = nf refl in omega (arith, f, pl, gl)
sum-falls true true true p p' g g' n n' pl pf gl gf nl nf h = cc
