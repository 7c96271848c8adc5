-- No scope lives that the code of an expression may enter, where the expression is next on the machine.
use Rattle.std.proofs.Common.{◌≡◌, ◌⊎◌, inl, inr, ℕ, ◌*◌, List, [], ◌∷◌, ◌++◌, Option, Some, None, refl, sym, ap, ◌∙◌, subst, arith}
use Rattle.std.specs.Prelude.{All, Contains, IsSome, IsSomeAnd, option_map, unwrap_or}
use Rattle.std.proofs.lemmas.List.Elements.{All-contains, Contains-append_cases, Contains-push_cases}
use Rattle.c_syntax_written.specs.declared.place.Pos.{Pos}
use Rattle.c_syntax.specs.declared.program.Plan.{Plan}
use Rattle.c_syntax.specs.TypedExpr as c
use Rattle.c_syntax.specs.TypedExpr.{TExprTree, TLvalueTree, TExprTrees}
use Rattle.c_syntax.specs.Program.{TProgramTree}
use Rattle.c_layout.specs.Calls.{PlacedCall, calls_of, calls_at, calls_among, function_calls}
use Rattle.c_layout.specs.Jumps.{listed_of}
use Rattle.c_layout.specs.WellTyped.{listed_by}
use Rattle.c_objects.proofs.Listed.{none_in}
use Rattle.c_values.specs.Places.{place_of}
use Rattle.c_steps.specs.States.{Held, state}
use Rattle.c_steps.specs.Work.{Item, Eval}
use Rattle.c_steps_laws.specs.Fits.{Fits, Runs}
use Rattle.c_steps_laws.specs.Opens.{Use, Object, Opens, OpensPlace, OpensAmong, OpensCall}
use Rattle.c_steps_laws.proofs.Orders.{lead_here, some_is, use_on}
use Rattle.csharp.specs.Formed.{Around, Each, gathered, in_block, nothing_around, objects_of}
use Rattle.csharp.specs.Meaning.{exec, never}
use Rattle.csharp.specs.Outcomes.{Clash}
use Rattle.csharp.specs.States as low
use Rattle.csharp.specs.Trees as code
use Rattle.csharp.specs.Trees.{CsFunctionTree, CsProgramTree, CsStmtTree}
use Rattle.csharp_laws.specs.LeftAlone as left
use Rattle.csharp_laws.specs.LeftAlone.{May, Itself, ByCall}
use Rattle.csharp_laws.specs.Separate.{IsScopeApart, objects_within}
use Rattle.csharp_laws.proofs.Clash.{no_clash}
use Rattle.csharp_laws.proofs.Separated.{formed_is_separate}
use Rattle.lower_trees.specs.LowerExpr.{lower_expr}
use Rattle.lower_trees.specs.LowerProgram.{param_temps, lower}
use Rattle.lower_formed.proofs.Bodied.{body_objects}
use Rattle.lower_formed.proofs.Flat.{Flat, flat_expr, no_objects}
use Rattle.lower_formed.proofs.Placing as placing
use Rattle.lower_formed.proofs.Placing.{Bodied, callee}
use Rattle.lower_formed.proofs.Whole.{lowered_is_formed}
use Rattle.lower_quiet.proofs.Callees.{Called, base, top, body_puts}
use Rattle.lower_quiet.proofs.Exprs.{quiet_expr}
use Rattle.lower_quiet.proofs.Puts.{calls_in}

-- code without scopes
flat_apart : (q : CsProgramTree) (around : Around) (a : CsStmtTree) → Flat a → Each (IsScopeApart q) around a
flat_apart q around (code.Sequence a b) h = (tt, flat_apart q around a h.0, flat_apart q around b h.1)
flat_apart q around (code.If e a b) h = (tt, flat_apart q around a h.0, flat_apart q around b h.1)
flat_apart q around (code.Block a) h = (tt, flat_apart q (in_block around) a h)
flat_apart q around (code.Loop at a) h = absurd h
flat_apart q around (code.Scope xs items) h = absurd h
flat_apart q around (code.Switch e xs items) h = absurd h
flat_apart q around a h = tt

no_call : (k : PlacedCall) → Contains [] k → ⊥
no_call k m = let lt = m.1 in omega (arith, lt)

two : (xs ys : List PlacedCall) (k : PlacedCall) (A B : Type 0) → Contains (xs ++ ys) k → (Contains xs k → A) → (Contains ys k → B) → A ⊎ B
two xs ys k A B m f g = elim (Contains-append_cases xs ys k m) [ inl x ↦ inl (f x) | inr y ↦ inr (g y) ]

module _ (p : TProgramTree) (k : PlacedCall) (u : Use) (opens : OpensCall p k.callee u) where
  last_call : (call : PlacedCall) → call ≡ k → OpensCall p call.callee u
  last_call call e = subst (λ (z : PlacedCall). OpensCall p z.callee u) (sym e) opens

  mutual
    unfolding calls_of

    -- a call in an expression opens what its function opens
    opens_in : (e : TExprTree) → Contains (calls_of e) k → Opens (OpensCall p) e u
    opens_in (c.Const at t n) m = absurd (no_call k m)
    opens_in (c.Null at ty) m = absurd (no_call k m)
    opens_in (c.Load at x) m = opens_at x m
    opens_in (c.AddressOf at x) m = opens_at x m
    opens_in (c.Decay at x) m = opens_at x m
    opens_in (c.Whole at x) m = opens_at x m
    opens_in (c.Unary at op a) m = opens_in a m
    opens_in (c.Binary at op a b) m = two (calls_of a) (calls_of b) k (Opens (OpensCall p) a u) (Opens (OpensCall p) b u) m (λ x. opens_in a x) (λ x. opens_in b x)
    opens_in (c.Convert at ty a) m = opens_in a m
    opens_in (c.Assign at x a) m = two (calls_at x) (calls_of a) k (OpensPlace (OpensCall p) x u) (Opens (OpensCall p) a u) m (λ y. opens_at x y) (λ y. opens_in a y)
    opens_in (c.AssignStruct at extent x a) m = two (calls_at x) (calls_of a) k (OpensPlace (OpensCall p) x u) (Opens (OpensCall p) a u) m (λ y. opens_at x y) (λ y. opens_in a y)
    opens_in (c.Compound at op x a) m = two (calls_at x) (calls_of a) k (OpensPlace (OpensCall p) x u) (Opens (OpensCall p) a u) m (λ y. opens_at x y) (λ y. opens_in a y)
    opens_in (c.Step at time way stride x) m = opens_at x m
    opens_in (c.And at a b) m = two (calls_of a) (calls_of b) k (Opens (OpensCall p) a u) (Opens (OpensCall p) b u) m (λ x. opens_in a x) (λ x. opens_in b x)
    opens_in (c.Or at a b) m = two (calls_of a) (calls_of b) k (Opens (OpensCall p) a u) (Opens (OpensCall p) b u) m (λ x. opens_in a x) (λ x. opens_in b x)
    opens_in (c.Cond at ty t a b) m = elim (Contains-append_cases (calls_of t ++ calls_of a) (calls_of b) k m) [
      | inl x ↦ elim (Contains-append_cases (calls_of t) (calls_of a) k x) [ inl y ↦ inl (opens_in t y) | inr y ↦ inr (inl (opens_in a y)) ]
      | inr x ↦ inr (inr (opens_in b x))
    ]
    opens_in (c.Comma at a b) m = two (calls_of a) (calls_of b) k (Opens (OpensCall p) a u) (Opens (OpensCall p) b u) m (λ x. opens_in a x) (λ x. opens_in b x)
    opens_in (c.Call at f ty used args) m = elim (Contains-push_cases (calls_among args) (record { pos = at; callee = f }) k m) [
      | inl x ↦ inl (opens_among args x)
      | inr e ↦ inr (last_call (record { pos = at; callee = f }) e)
    ]
    opens_in (c.Any at t) m = absurd (no_call k m)
    opens_in (c.Assume at a) m = opens_in a m
    opens_in (c.Assert at a) m = opens_in a m

    opens_at : (x : TLvalueTree) → Contains (calls_at x) k → OpensPlace (OpensCall p) x u
    opens_at (c.Var at x ty is_const) m = absurd (no_call k m)
    opens_at (c.Deref at kind ty is_const e) m = opens_in e m
    opens_at (c.Member at j offset ty is_const x) m = opens_at x m

    opens_among : (args : TExprTrees) → Contains (calls_among args) k → OpensAmong (OpensCall p) args u
    opens_among c.none m = absurd (no_call k m)
    opens_among (c.more e rest) m = two (calls_of e) (calls_among rest) k (Opens (OpensCall p) e u) (OpensAmong (OpensCall p) rest u) m (λ x. opens_in e x) (λ x. opens_among rest x)

module _ (p : TProgramTree) (plan : Plan) (runs : Runs p plan) where
  abbrev q : CsProgramTree
  q = lower p plan

  -- the objects of a function's code are those that it lists
  own_objects : (g : ℕ) (b : Bodied p g) (y : ℕ) → Contains (gathered objects_of (placing.code p plan runs g b)) y → OpensCall p g (Object y)
  own_objects g b y m =
      let listed : listed_by b.function ≡ b.function.params ++ listed_of b.body = ap (λ o. b.function.params ++ unwrap_or (option_map listed_of o) []) b.has in
      let same = body_objects p g (placing.stands_at p plan runs g b).base b.function.params b.body in
      (g, lead_here p g, subst (λ o. IsSomeAnd o (λ other. Contains (listed_by other) y)) (sym b.found) (subst (λ xs. Contains xs y) (same ∙ sym listed) m))

  own_calls : (g : ℕ) (b : Bodied p g) (h : ℕ) → Contains (gathered left.calls_of (placing.code p plan runs g b)) h → Called p g h
  own_calls g b h m = calls_in (12 * base p plan runs g b) (12 * top p plan runs g) (Called p g) (placing.code p plan runs g b) (body_puts p plan runs g b) h m

  abbrev as_low : (g : ℕ) → Bodied p g → CsFunctionTree
  as_low g b = record { params = param_temps p (placing.stands_at p plan runs g b).base b.function.params; body = placing.code p plan runs g b }

  -- what a call may open in the lowered program, it may open in the program
  opens_low : (x g : ℕ) (own calls : List ℕ) → May q objects_within x own calls → Bodied p g → ((y : ℕ) → Contains own y → OpensCall p g (Object y)) → ((h : ℕ) → Contains calls h → Called p g h)
      → OpensCall p g (Object x)
  opens_low x g own calls (Itself _ _ m) b objects called = objects x m
  opens_low x g own calls (ByCall _ _ h function m is more) b objects called =
      let call = called h m in
      let made : PlacedCall = record { pos = call.0; callee = h } in
      let b' = callee p plan runs g made call.1 in
      let same : as_low h b' ≡ function = some_is (sym (placing.low_at p plan runs h b') ∙ is) in
      use_on p g made (Object x) call.1
      (opens_low x h (objects_within function) (gathered left.calls_of function.body) more b'
      (subst (λ (z : CsFunctionTree). (y : ℕ) → Contains (objects_within z) y → OpensCall p h (Object y)) same (own_objects h b'))
      (subst (λ (z : CsFunctionTree). (i : ℕ) → Contains (gathered left.calls_of z.body) i → Called p h i) same (own_calls h b')))

  place_case : (o : Option ℕ) → (IsSome o → ⊥) → o ≡ None
  place_case None h = refl
  place_case (Some b) h = absurd (h refl)

  module _ (f : ℕ) (e : TExprTree) (d : ℕ) (made : All (Contains (function_calls p f)) (calls_of e)) (w : List Item) (s : List Held) (l : low.State) (fits : Fits p (state (Eval e ∷ w) s l.memory l.inputs)) where
    -- a call in the expression
    abbrev Within : ℕ → Type 0
    Within g = (at : Pos) × Contains (calls_of e) (record { pos = at; callee = g })

    within : (g : ℕ) → Contains (gathered left.calls_of (lower_expr p d e).value.before) g → Within g
    within g m =
        let a = (lower_expr p d e).value in
        calls_in (12 * d) (12 * a.top) Within a.before (quiet_expr Within p e d (λ k z. (k.pos, z))).value.before g m

    not_live : (x : ℕ) → Opens (OpensCall p) e (Object x) → place_of l.memory x ≡ None
    not_live x opens = place_case (place_of l.memory x) (λ is. (fits.parted.0 (Object x) opens).1 (fits.live.1 x is))

    is_free : (x : ℕ) (own calls : List ℕ) → May q objects_within x own calls → own ≡ [] → ((g : ℕ) → Contains calls g → Within g) → place_of l.memory x ≡ None
    is_free x own calls (Itself _ _ m) none called = absurd (none_in x (subst (λ xs. Contains xs x) none m))
    is_free x own calls (ByCall _ _ g function m is more) none called =
        let call = called g m in
        let here : PlacedCall = record { pos = call.0; callee = g } in
        let b = callee p plan runs f here (All-contains (Contains (function_calls p f)) (calls_of e) here made call.1) in
        let same : as_low g b ≡ function = some_is (sym (placing.low_at p plan runs g b) ∙ is) in
        not_live x (opens_in p here (Object x)
        (opens_low x g (objects_within function) (gathered left.calls_of function.body) more b
        (subst (λ (z : CsFunctionTree). (y : ℕ) → Contains (objects_within z) y → OpensCall p g (Object y)) same (own_objects g b))
        (subst (λ (z : CsFunctionTree). (i : ℕ) → Contains (gathered left.calls_of z.body) i → Called p g i) same (own_calls g b))) e call.1)

    pub values_never_clash : (n : ℕ) → exec q n (lower_expr p d e).value.before l ≡ Clash → ⊥
    values_never_clash n is =
        let a = (lower_expr p d e).value.before in
        let flat = (flat_expr p e d).value in
        no_clash never q n a l (formed_is_separate q (lowered_is_formed p plan runs)) (flat_apart q nothing_around a flat)
        (λ x may. is_free x (gathered objects_of a) (gathered left.calls_of a) may (no_objects a flat) (λ g m. within g m)) is
