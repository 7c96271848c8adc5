-- The state behind a store at one of several places.
use Rattle.std.proofs.Common.{ℕ, ℤ, zero, suc, ◌≡◌, ◌⊎◌, ◌+◌, ◌-◌, ◌*◌, ◌<◌, ◌≤◌, false, List, [], ◌∷◌, length, slice_get, Option, Some, None, refl, sym, ap, subst, ◌∙◌, arith, inl, inr}
use Rattle.std.proofs.lemmas.Bool.{cases_eq, cases_lt}
use Rattle.std.proofs.Math.Nat.{mul-le-mul_right}
use Rattle.c_syntax.specs.Types.{ObjectTree}
use Rattle.ext_int.specs.Valuation.{value_at}
use Rattle.num_api.specs.declared.message.Range.{Range}
use Rattle.num_api.specs.Ranges.{InRange}
use Rattle.pointsets.specs.Targets.{BaseSet}
use Rattle.block_mem.specs.declared.types.Scalar.{Scalar}
use Rattle.block_mem.specs.declared.types.Value.{Value}
use Rattle.block_mem.specs.Blocks.{block_at, place}
use Rattle.block_mem.specs.Bytes.{IsOf, bytes_of, size_of as scalar_size}
use Rattle.block_mem.proofs.Laws.{length-value}
use Rattle.block_mem.proofs.StoreLaws.{passing}
use Rattle.c_values.specs.Places.{ObjectMemory, owner_of, place_of}
use Rattle.c_objects.specs.Kept.{KeepsObjects}
use Rattle.machine_nums.specs.Machines.{Admits}
use Rattle.csharp.specs.Trees.{CsExprTree}
use Rattle.csharp.specs.States.{State, value_of}
use Rattle.csharp.specs.Actions as acts
use Rattle.mem_cell_bytes.specs.declared.entry.Entry.{Entry}
use Rattle.mem_cell_bytes.specs.Cells.{Meets, Points, number_of, place_var, size_of, temp_var, var_of}
use Rattle.mem_cell_bytes.specs.Contents.{Contents}
use Rattle.mem_cell_bytes.specs.Joins.{IsWider}
use Rattle.mem_cell_bytes.specs.Stands.{Has, Stands, claims}
use Rattle.mem_cell_bytes.specs.Stores.{AreBeside, IsChoice}
use Rattle.mem_cell_bytes.proofs.Bytes.{after}
use Rattle.mem_cell_bytes.proofs.Stores.{stored-stands}
use Rattle.mem_cell_bytes.proofs.Valuations.{SetTo-with, with-here, with-others, with_value}
use Rattle.mem_cell_exprs.specs.Known.{StandsFor}
use Rattle.mem_cell_exprs.specs.declared.known.Known.{Known}
use Rattle.mem_cell_exprs.proofs.Acts.{store-is}
use Rattle.mem_cell_loads.specs.declared.content.Content.{Content}
use Rattle.mem_cell_loads.specs.declared.reach.Reach.{Reach}
use Rattle.mem_cell_loads.specs.Places.{LeadsThere}
use Rattle.mem_cell_loads.proofs.Leads.{alive-made}
use Rattle.mem_cell_stores.specs.declared.weakly.Bytes.{Bytes}
use Rattle.mem_cell_stores.specs.Changes.{IsContentOf}
use Rattle.mem_cell_stores.specs.Hits.{AreWeakened, IsRangeOf}
use Rattle.mem_cell_stores.proofs.Behind.{points-after}
use Rattle.mem_cell_stores.proofs.Blocks.{store-kept}
use Rattle.mem_cell_stores.proofs.Changed.{other-var, same-cell}

no-item : {X : Type 0} {P : Type 0} (x : X) → Has [] x → P
no-item x (n, h) = cc

last-item : {X : Type 0} (F : X → Type 0) (y : X) (xs : List X) → F y → ((x : X) → Has xs x → F x) → (x : X) → Has (y ∷ xs) x → F x
last-item F y xs here rest x (zero, h) = let same : y ≡ x = cc in subst F same here
last-item F y xs here rest x (suc n, h) = rest x (n, h)

-- one of two holds of each item: the first of some item, or the second of all
find : {X : Type 0} (xs : List X) (E F : X → Type 0) → ((x : X) → Has xs x → E x ⊎ F x) → ((x : X) × Has xs x × E x) ⊎ ((x : X) → Has xs x → F x)
find [] E F f = inr (λ x h. no-item x h)
find (y ∷ xs) E F f = elim (f y (0, refl)) [
  | inl is ↦ inl (y, (0, refl), is)
  | inr out ↦ elim (find xs E F (λ x h. f x (suc h.0, h.1))) [
    | inl there ↦ inl (there.0, (suc there.1.0, there.1.1), there.2)
    | inr rest ↦ inr (last-item F y xs out rest)
  ]
]

-- so many bytes at one multiple are beside those at another
multiples : (i j step : ℕ) → (i * step ≡ j * step → ⊥) → AreBeside (i * step) step (j * step) step
multiples i j step apart = elim (cases_lt i j) [
  | inl below ↦ let next : i + 1 ≤ j = omega (arith, below) in let h = mul-le-mul_right step next in inl (omega (arith, h))
  | inr not ↦ elim (cases_lt j i) [
    | inl above ↦ let next : j + 1 ≤ i = omega (arith, above) in let h = mul-le-mul_right step next in inr (omega (arith, h))
    | inr also ↦ absurd (apart (ap (λ n. n * step) (let e : i ≡ j = omega (arith, not, also) in e)))
  ]
]

module _ (objects : List ObjectTree) (types : List Scalar) (A A' : List ℤ → Type 0) (pointers : List (Option BaseSet)) (grid grid' : List Contents) (s : State)
    (st : Stands objects types A (claims pointers grid) s) (o c : ℕ) (made : c < length s.memory.blocks) (here : place_of s.memory o ≡ Some c)
    (os : List ℕ) (b : Bytes) (ty : Scalar) (l : Content) (ys : List ℕ) (weak : AreWeakened os b ty l ys grid grid') (among : Has os o)
    (at i : ℕ) (at_is : at ≡ i * b.step) (step : b.step ≡ scalar_size ty) (low : b.at ≤ at) (high : at + b.step ≤ b.at + b.count) where
  -- a cell of the object beside the bytes that are stored allows what one that was there allows
  record IsBy (h : Contents) (e : Entry) : Type 0 where
    old : Entry
    was : (d : Contents) × (slice_get grid o ≡ Some d) × Has d.cells old
    wider : IsWider old e
    beside : AreBeside e.offset (size_of e) at b.step

  -- one at those bytes
  record IsAt (e : Entry) : Type 0 where
    place : e.offset ≡ at
    size : size_of e ≡ b.step
    small : e.offset < 65536
    variable : Has ys (var_of o e)
    meets : (m : ObjectMemory) (u : Value) → IsOf ty u → ((set : BaseSet) → l.set ≡ Some set → Points m set u) → Meets m e (bytes_of u) (number_of u)

  at-or-by : (h : Contents) → slice_get grid' o ≡ Some h → (e : Entry) → Has h.cells e → IsAt e ⊎ IsBy h e
  at-or-by h got e has =
      let w = weak o h got in
      elim (w.2.cells e has) [
        | inl kept ↦ let beside = kept.1 among in inr (record {
          old = e;
          was = (w.0, w.1, kept.0);
          wider = same-cell e;
          beside = elim beside [ inl below ↦ inl (omega (arith, below, low)) | inr above ↦ inr (omega (arith, above, high)) ];
        })
        | inr hit ↦ elim (cases_eq e.offset at) [
          | inl same ↦ inl (record {
            place = same;
            size = hit.fits.size ∙ sym step;
            small = hit.small;
            variable = hit.variable;
            meets = hit.fits.meets;
          })
          | inr other ↦
              let apart = multiples hit.index i b.step (λ q. other (hit.place ∙ q ∙ sym at_is)) in
              inr (record {
                old = hit.old;
                was = (w.0, w.1, hit.was);
                wider = hit.wider;
                beside = subst (λ n. AreBeside e.offset n at b.step) (sym (hit.fits.size ∙ sym step))
                    (subst (λ n. AreBeside n b.step at b.step) (sym hit.place) (subst (λ n. AreBeside (hit.index * b.step) b.step n b.step) (sym at_is) apart));
              })
        ]
      ]

  -- a cell of another object allows what one that was there allows
  other-was : (q : ℕ) (h : Contents) → slice_get grid' q ≡ Some h → (e : Entry) → Has h.cells e → (old : Entry) × (d : Contents) × (slice_get grid q ≡ Some d) × Has d.cells old × IsWider old e
  other-was q h got e has =
      let w = weak q h got in
      elim (w.2.cells e has) [ inl kept ↦ (e, w.0, w.1, kept.0, same-cell e) | inr hit ↦ (hit.old, w.0, w.1, hit.was, hit.wider) ]

  -- a value is stored, and a valuation has its number for each cell at those bytes
  stored-by : (u : Value) → IsOf ty u → ((set : BaseSet) → l.set ≡ Some set → Points (after s.memory c at (bytes_of u)) set u) → (w : List ℤ) → A' w
      → ((d : ℕ) → value_at w (temp_var d) ≡ value_at st.v (temp_var d))
      → ((q : ℕ) (e : Entry) → e.offset < 65536 → (q ≡ o → AreBeside e.offset (size_of e) at b.step) → value_at w (var_of q e) ≡ value_at st.v (var_of q e))
      → ((h : Contents) → slice_get grid' o ≡ Some h → (e : Entry) → Has h.cells e → (IsAt e × (value_at w (var_of o e) ≡ number_of u)) ⊎ IsBy h e)
      → KeepsObjects objects (after s.memory c at (bytes_of u)) → at + b.step ≤ length (block_at s.memory.blocks c).bytes
      → Stands objects types A' (claims pointers grid') (record s { memory = after s.memory c at (bytes_of u) })
  stored-by u of points w a temps values each kept room =
      let new = bytes_of u in
      let m' = after s.memory c at new in
      let long : b.step ≡ length new = step ∙ sym (length-value ty u of) in
      stored-stands objects types A A' (claims pointers grid) (claims pointers grid') s st o c at new made here w a temps kept (omega (arith, room, long)) (record {
        pointer = λ d set h. h;
        cell = λ q e (h, got, has, small). elim (cases_eq q o) [
          | inl same ↦ elim (each h (sym (ap (slice_get grid') same) ∙ got) e has) [
            | inl hit ↦ inr (record {
              object = same;
              offset = hit.0.place;
              size = hit.0.size ∙ long;
              meets = subst (Meets m' e new) (sym (ap (λ n. value_at w (var_of n e)) same ∙ hit.1)) (hit.0.meets m' u of points);
            })
            | inr by ↦ inl (record {
              old = by.old;
              was = (by.was.0, ap (slice_get grid) same ∙ by.was.1, by.was.2, subst (λ n. n < 65536) by.wider.offset small);
              wider = by.wider;
              far = λ r. subst (AreBeside e.offset (size_of e) at) long by.beside;
              same = values q e small (λ r. by.beside);
            })
          ]
          | inr other ↦ let d = other-was q h got e has in inl (record {
            old = d.0;
            was = (d.1, d.2, d.3, subst (λ n. n < 65536) d.4.offset small);
            wider = d.4;
            far = λ r. absurd (other r);
            same = values q e small (λ r. absurd (other r));
          })
        ];
        byte = λ q j x (h, got, has).
            let g = weak q h got in
            let d = g.2.bytes j x has in
            ((g.0, g.1, d.0), λ same. elim (d.1 (subst (Has os) (sym same) among)) [ inl below ↦ inl (omega (arith, below, low)) | inr above ↦ inr (omega (arith, above, high, long)) ]);
      })

  pub weak-stored : (u : Value) → IsOf ty u → ((set : BaseSet) → l.set ≡ Some set → Points (after s.memory c at (bytes_of u)) set u)
      → ((w : List ℤ) → IsChoice ys (number_of u) st.v w → A' w)
      → KeepsObjects objects (after s.memory c at (bytes_of u)) → at + b.step ≤ length (block_at s.memory.blocks c).bytes
      → Stands objects types A' (claims pointers grid') (record s { memory = after s.memory c at (bytes_of u) })
  weak-stored u of points law kept room = by (slice_get grid' o) refl
    where
      by : (x : Option Contents) → slice_get grid' o ≡ x → Stands objects types A' (claims pointers grid') (record s { memory = after s.memory c at (bytes_of u) })
      by None is = stored-by u of points st.v (law st.v (inl refl)) (λ d. refl) (λ q e small far. refl)
          (λ h got e has. let clash : None ≡ Some h = sym is ∙ got in cc) kept room
      by (Some h) is = elim (find h.cells IsAt (IsBy h) (at-or-by h is)) [
        | inr none ↦ stored-by u of points st.v (law st.v (inl refl)) (λ d. refl) (λ q e small far. refl)
            (λ g got e has. let same : h ≡ g = let two = sym is ∙ got in cc in inr (subst (λ x. IsBy x e) same (none e (subst (λ (x : Contents). Has x.cells e) (sym same) has)))) kept room
        | inl hit ↦
            let d = hit.0 in let i = hit.2 in let y = var_of o d in let n = number_of u in
            let w = with_value st.v y n in
            stored-by u of points w (law w (inr (y, i.variable, SetTo-with st.v y n))) (λ t. with-others st.v y n (temp_var t) (λ q. omega (arith, q)))
            (λ q e small far. with-others st.v y n (var_of q e)
            (other-var q o e d (λ r. subst (λ k. AreBeside e.offset (size_of e) k (size_of d)) (sym i.place) (subst (AreBeside e.offset (size_of e) at) (sym i.size) (far r))) small i.small))
            (λ g got e has. elim (at-or-by g got e has) [
              | inl at_it ↦ inl (at_it, ap (value_at w) (ap (λ k. place_var o k (size_of e)) (at_it.place ∙ sym i.place) ∙ ap (place_var o d.offset) (at_it.size ∙ sym i.size)) ∙ with-here st.v y n)
              | inr beside ↦ inr beside
            ]) kept room
      ]

-- what a set stands for behind a store at one of several places
pub weak-behind : {D : Type 0} (admits : D → List ℤ → Type 0) (k : Known D) (ty : Scalar) (e f : CsExprTree) (A : List ℤ → Type 0) (grid : List Contents)
    (r : Reach) (b : Bytes) (l : Content) (range : Range) (ys : List ℕ) → LeadsThere admits k e (scalar_size ty) r → r.step ≡ scalar_size ty → b.step ≡ r.step → b.at ≡ r.first * r.step
    → b.count ≡ r.end * r.step - r.first * r.step - r.step + scalar_size ty → IsContentOf admits k f ty l → IsRangeOf admits k f ty range
    → AreWeakened r.objects.items b ty l ys k.grid grid → ((v w : List ℤ) (n : ℤ) → Admits admits k.nums v → InRange range n → IsChoice ys n v w → A w)
    → (objects : List ObjectTree) (s t : State) → StandsFor admits objects k s → ((u : Value) → value_of f s ≡ Some u → IsOf ty u)
    → acts.store ty e f s ≡ Some t → Stands objects k.types A (claims k.pointers grid) t
weak-behind admits k ty e f A grid r b l range ys leads step same at_is count contents ranged weak law objects s t st typed h =
    let kept = store-kept admits k ty e f objects s t st typed h in
    let a = store-is ty e f s t h in
    let p = a.stores.at in
    let u = a.value in
    let of = typed u a.given in
    let pass = passing s.memory.blocks p (scalar_size ty) (scalar_size ty) false a.stores.passes in
    let made = alive-made s.memory p.block pass.live in
    let lead = leads objects s st p (a.is ∙ ap Some a.stores.pointer) a.stores.passes in
    let content = contents objects s st u a.given of in
    let t_is : t ≡ record s { memory = after s.memory p.block (place p) (bytes_of u) } =
    a.after ∙ ap (λ (m : ObjectMemory). record s { memory = m }) a.stores.after in
    let inside = pass.inside in let place_is = lead.place_is in let first = lead.first in let end = lead.end in
    let next : lead.index + 1 ≤ r.end = omega (arith, end) in
    let below = mul-le-mul_right r.step first in
    let above = mul-le-mul_right r.step next in
    let long : b.step ≡ scalar_size ty = same ∙ step in
    subst (Stands objects k.types A (claims k.pointers grid)) (sym t_is)
    (weak-stored objects k.types (Admits admits k.nums) A k.pointers k.grid grid s st (owner_of s.memory p.block) p.block made lead.lives r.objects.items b ty l ys weak lead.object
    (place p) lead.index (place_is ∙ ap (λ n. lead.index * n) (sym same)) long (omega (arith, below, place_is, at_is)) (omega (arith, below, above, place_is, at_is, count, step, same))
    u of (λ set is. points-after s.memory p.block (place p) u made set (content.points set is))
    (λ w choice. law st.v w (number_of u) st.admitted (ranged objects s st u a.given of) choice)
    (subst (λ (x : State). KeepsObjects objects x.memory) t_is kept) (omega (arith, inside, long)))
