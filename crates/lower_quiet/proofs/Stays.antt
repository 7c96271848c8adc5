-- A value stays while code of a later depth runs, with calls in it or not.
use Rattle.std.proofs.Common.{◌≡◌, inl, inr, ℕ, ◌*◌, ◌<◌, ◌≤◌, [], ◌∷◌, Some, Bool, refl, sym, ◌∙◌, subst, arith}
use Rattle.std.specs.Prelude.{Contains, slice_get}
use Rattle.c_syntax.specs.declared.program.Plan.{Plan}
use Rattle.c_syntax.specs.Program.{TProgramTree}
use Rattle.block_mem.specs.declared.types.Value.{Value}
use Rattle.c_values.specs.Places.{place_of}
use Rattle.c_objects.proofs.Listed.{by_head, none_in}
use Rattle.c_steps_laws.specs.Fits.{Runs}
use Rattle.csharp.specs.Trees.{CsExprTree, Const, Null, Temp, Address, Unary, Binary, Convert, CsStmtTree}
use Rattle.csharp.specs.States.{State, value_of}
use Rattle.csharp.specs.Outcomes.{Outcome, Normal}
use Rattle.csharp.specs.Meaning.{bounded_exec}
use Rattle.csharp.specs.Formed.{gathered, temps_of}
use Rattle.csharp_laws.specs.LeftAlone.{IsBehind, May, Itself, ByCall, calls_of, temps_within}
use Rattle.csharp_laws.proofs.Stays.{temps_stay, places_stay}
use Rattle.lower_trees.specs.LowerProgram.{lower}
use Rattle.lower_formed.specs.Every.{Every}
use Rattle.lower_formed.proofs.Depths.{From}
use Rattle.lower_formed.proofs.Placing.{Bodied, callee}
use Rattle.lower_quiet.specs.Quiet.{Puts, Below}
use Rattle.lower_quiet.proofs.Puts.{sets_in, calls_in}
use Rattle.lower_quiet.proofs.Callees.{Called, base, top, called_low, set_below}

-- an expression has its value where objects are where they were, and the temporaries that it reads have their values
pub stable : (lo hi : ℕ) (e : CsExprTree) (s t : State) → From lo e → Below hi e → ((x : ℕ) → place_of t.memory x ≡ place_of s.memory x)
    → ((i : ℕ) → lo ≤ i → i < hi → slice_get t.temps i ≡ slice_get s.temps i) → value_of e t ≡ value_of e s
stable lo hi (Const t k) s u f b m h = refl
stable lo hi Null s u f b m h = refl
stable lo hi (Temp i) s u f b m h = h i f b
stable lo hi (Address x) s u f b m h = rw (m x) refl
stable lo hi (Unary op a) s u f b m h = rw (stable lo hi a s u f b m h) refl
stable lo hi (Binary op a c) s u f b m h = rw (stable lo hi a s u f.0 b.0 m h) (rw (stable lo hi c s u f.1 b.1 m h) refl)
stable lo hi (Convert t a) s u f b m h = rw (stable lo hi a s u f b m h) refl

module _ (over : ℕ → Bool) (p : TProgramTree) (plan : Plan) (runs : Runs p plan) (n f : ℕ) (b : Bodied p f) where
  -- code of this function that begins at a later depth may not set what stands before it in the function's rows
  not_set : (hi m y : ℕ) (a : CsStmtTree) → Every (Puts (12 * hi) (12 * m) (Called p f)) a → 12 * base p plan runs f b ≤ y → y < 12 * hi
      → May (lower p plan) temps_within y (gathered temps_of a) (gathered calls_of a) → ⊥
  not_set hi m y a puts le lt (Itself _ _ k) = let own = (sets_in (12 * hi) (12 * m) (Called p f) a puts y k).0 in omega (arith, own, lt)
  not_set hi m y a puts le lt (ByCall _ _ g function k is more) =
      let call = calls_in (12 * hi) (12 * m) (Called p f) a puts g k in
      let low = called_low p plan runs f b g call in
      let c = callee p plan runs f (record { pos = call.0; callee = g }) call.1 in
      let deep = set_below p plan runs y (base p plan runs f b) [] (g ∷ []) (ByCall [] (g ∷ []) g function (0, omega arith, refl) is more) (λ x z. absurd (let w = z.1 in omega (arith, w)))
      (λ h z. only h z c low) in
      omega (arith, deep, le) where
        only : (h : ℕ) → Contains (g ∷ []) h → Bodied p g → top p plan runs g ≤ base p plan runs f b → Bodied p h × (top p plan runs h ≤ base p plan runs f b)
        only h z c low = elim (by_head g h [] z) [ inl e ↦ subst (λ x. Bodied p x × (top p plan runs x ≤ base p plan runs f b)) e (c, low) | inr w ↦ absurd (none_in h w) ]

  pub values_stay : (hi m : ℕ) (e : CsExprTree) (a : CsStmtTree) (l t : State) (v : Value) → Every (Puts (12 * hi) (12 * m) (Called p f)) a → From (12 * base p plan runs f b) e → Below (12 * hi) e
      → bounded_exec over (lower p plan) n a l ≡ Normal t → value_of e l ≡ Some v → value_of e t ≡ Some v
  values_stay hi m e a l t v puts from below is has =
      let behind = subst (λ (o : Outcome). IsBehind o t) (sym is) refl in
      stable (12 * base p plan runs f b) (12 * hi) e l t from below (λ x. places_stay over (lower p plan) n a l t x behind)
      (λ i le lt. temps_stay over (lower p plan) n a l t i behind (not_set hi m i a puts le lt)) ∙ has
