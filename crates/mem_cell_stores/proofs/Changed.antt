-- What a set stands for behind a store.
use Rattle.std.proofs.Common.{ℕ, ℤ, ◌≡◌, ◌⊎◌, ◌+◌, ◌≤◌, ◌<◌, List, length, slice_get, Some, refl, sym, ap, subst, ◌∙◌, arith, inl, inr}
use Rattle.std.proofs.lemmas.Bool.{cases_eq}
use Rattle.c_syntax.specs.Types.{ObjectTree}
use Rattle.ext_int.specs.Valuation.{value_at}
use Rattle.pointsets.specs.Targets.{BaseSet}
use Rattle.block_mem.specs.declared.types.Byte.{Byte}
use Rattle.block_mem.specs.declared.types.Scalar.{Scalar}
use Rattle.block_mem.specs.Blocks.{block_at}
use Rattle.block_mem.proofs.Values.{int_size_le}
use Rattle.c_values.specs.Places.{place_of}
use Rattle.c_objects.specs.Kept.{KeepsObjects}
use Rattle.csharp.specs.States.{State}
use Rattle.std.specs.Prelude.{Option}
use Rattle.mem_cell_bytes.specs.declared.entry.Entry.{Entry}
use Rattle.mem_cell_bytes.specs.Cells.{Meets, place_var, size_of, temp_var, var_of}
use Rattle.mem_cell_bytes.specs.Contents.{Contents}
use Rattle.mem_cell_bytes.specs.Joins.{IsWider}
use Rattle.mem_cell_bytes.specs.Stands.{Has, Stands, claims}
use Rattle.mem_cell_bytes.specs.Stores.{IsFar}
use Rattle.mem_cell_bytes.proofs.Bytes.{after, size-positive}
use Rattle.mem_cell_bytes.proofs.Steps.{has-none}
use Rattle.mem_cell_bytes.proofs.Stores.{stored-stands}
use Rattle.mem_cell_bytes.proofs.Valuations.{with-here, with-others, with_value}
use Rattle.mem_cell_stores.specs.Changes.{AreForgotten, AreNothing, IsCellPut}

-- a cell that has the variable of some bytes has one of them
same-place : (a b k l s t : ℕ) → k < 65536 → l < 65536 → s ≤ 8 → t ≤ 8 → place_var a k s ≡ place_var b l t → (a ≡ b) × (k ≡ l) × (s ≡ t)
same-place a b k l s t hk hl hs ht e = (omega (arith, hk, hl, hs, ht, e), omega (arith, hk, hl, hs, ht, e), omega (arith, hk, hl, hs, ht, e))

pub other-var : (q o : ℕ) (e d : Entry) → IsFar q e o d.offset (size_of d) → e.offset < 65536 → d.offset < 65536 → var_of q e ≡ var_of o d → ⊥
other-var q o e d far small low same =
    let p = same-place q o e.offset d.offset (size_of e) (size_of d) small low (int_size_le e.ty) (int_size_le d.ty) same in
    let some = size-positive d.ty in let size = some.1 in
    elim (far p.0) [ inl h ↦ (let k = p.1 in let n = p.2 in omega (arith, h, k, n, size)) | inr h ↦ (let k = p.1 in let n = p.2 in omega (arith, h, k, n, size)) ]

pub same-cell : (e : Entry) → IsWider e e
same-cell e = record { offset = refl; ty = refl; undef = λ h. h; value = λ h. h; targets = λ b h. h }

module _ (objects : List ObjectTree) (types : List Scalar) (A A' : List ℤ → Type 0) (pointers : List (Option BaseSet)) (grid grid' : List Contents) (s : State)
    (st : Stands objects types A (claims pointers grid) s) (o c : ℕ) (made : c < length s.memory.blocks) (here : place_of s.memory o ≡ Some c) where
  -- a cell was put
  pub cell-stored : (cell : Entry) (new : List Byte) (x : ℤ) → cell.offset < 65536 → size_of cell ≡ length new
      → KeepsObjects objects (after s.memory c cell.offset new) → cell.offset + length new ≤ length (block_at s.memory.blocks c).bytes
      → IsCellPut grid o cell grid' → Meets (after s.memory c cell.offset new) cell new x → A' (with_value st.v (var_of o cell) x)
      → Stands objects types A' (claims pointers grid') (record s { memory = after s.memory c cell.offset new })
  cell-stored cell new x small long kept room put meets a =
      let w = with_value st.v (var_of o cell) x in
      let m' = after s.memory c cell.offset new in
      let number : value_at w (var_of o cell) ≡ x = with-here st.v (var_of o cell) x in
      stored-stands objects types A A' (claims pointers grid) (claims pointers grid') s st o c cell.offset new made here w a
      (λ d. with-others st.v (var_of o cell) x (temp_var d) (λ q. omega (arith, q))) kept room (record {
        pointer = λ d set h. h;
        cell = λ q e (h, got, has, low). elim (cases_eq q o) [
          | inl same ↦
              let p = put.here h (ap (slice_get grid') (sym same) ∙ got) in
              elim (p.2 e has) [
                | inl old ↦
                    let far : IsFar q e o cell.offset (size_of cell) = λ r. old.1 in
                    inl (record {
                      old = e;
                      was = (p.0, ap (slice_get grid) same ∙ p.1, old.0, low);
                      wider = same-cell e;
                      far = subst (IsFar q e o cell.offset) long far;
                      same = with-others st.v (var_of o cell) x (var_of q e) (other-var q o e cell far low small);
                    })
                | inr is ↦ inr (record {
                  object = same;
                  offset = ap (λ (z : Entry). z.offset) is;
                  size = ap size_of is ∙ long;
                  meets = subst (λ (z : Entry). Meets m' z new (value_at w (var_of q z))) (sym is)
                      (subst (Meets m' cell new) (sym (ap (λ n. value_at w (var_of n cell)) same ∙ number)) meets);
                })
              ]
          | inr other ↦
              let far : IsFar q e o cell.offset (size_of cell) = λ r. absurd (other r) in
              inl (record {
                old = e;
                was = (h, sym (put.others q other) ∙ got, has, low);
                wider = same-cell e;
                far = λ r. absurd (other r);
                same = with-others st.v (var_of o cell) x (var_of q e) (other-var q o e cell far low small);
              })
        ];
        byte = λ q i y (h, got, has). elim (cases_eq q o) [
          | inl same ↦
              let p = put.here h (ap (slice_get grid') (sym same) ∙ got) in
              let b = p.3 i y has in
              ((p.0, ap (slice_get grid) same ∙ p.1, b.0), λ r. subst (λ n. (i < cell.offset) ⊎ (cell.offset + n ≤ i)) long b.1)
          | inr other ↦ ((h, sym (put.others q other) ∙ got, has), λ r. absurd (other r))
        ];
      })

  -- what the bytes may meet was forgotten
  pub forgotten-stored : (os : List ℕ) (from n at : ℕ) (new : List Byte) → ((v : List ℤ) → A v → A' v) → Has os o → from ≤ at → at + length new ≤ from + n
      → KeepsObjects objects (after s.memory c at new) → at + length new ≤ length (block_at s.memory.blocks c).bytes → AreForgotten os from n grid grid'
      → Stands objects types A' (claims pointers grid') (record s { memory = after s.memory c at new })
  forgotten-stored os from n at new law among low high kept room forgot =
      stored-stands objects types A A' (claims pointers grid) (claims pointers grid') s st o c at new made here st.v (law st.v st.admitted) (λ d. refl) kept room (record {
        pointer = λ d set h. h;
        cell = λ q e (h, got, has, small).
            let f = forgot q h got in
            let k = f.2.cells e has in
            inl (record {
              old = e;
              was = (f.0, f.1, k.0, small);
              wider = same-cell e;
              far = λ same. elim (k.1 (subst (Has os) (sym same) among)) [ inl b ↦ inl (omega (arith, b, low)) | inr b ↦ inr (omega (arith, b, high)) ];
              same = refl;
            });
        byte = λ q i y (h, got, has).
            let f = forgot q h got in
            let k = f.2.bytes i y has in
            ((f.0, f.1, k.0), λ same. elim (k.1 (subst (Has os) (sym same) among)) [ inl b ↦ inl (omega (arith, b, low)) | inr b ↦ inr (omega (arith, b, high)) ]);
      })

  -- nothing is known of any object
  pub cleared-stored : (at : ℕ) (new : List Byte) → ((v : List ℤ) → A v → A' v) → KeepsObjects objects (after s.memory c at new)
      → at + length new ≤ length (block_at s.memory.blocks c).bytes → AreNothing grid'
      → Stands objects types A' (claims pointers grid') (record s { memory = after s.memory c at new })
  cleared-stored at new law kept room clear =
      stored-stands objects types A A' (claims pointers grid) (claims pointers grid') s st o c at new made here st.v (law st.v st.admitted) (λ d. refl) kept room (record {
        pointer = λ d set h. h;
        cell = λ q e (h, got, has, small). has-none h.cells e (ap (λ (x : Contents). x.cells) (clear q h got)) has;
        byte = λ q i y (h, got, has). has-none h.stretches has.stretch (ap (λ (x : Contents). x.stretches) (clear q h got)) has.has;
      })
