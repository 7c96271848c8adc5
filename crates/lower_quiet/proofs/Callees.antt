-- What a call of a lowered function may set lies below its last row.
use Rattle.std.proofs.Common.{◌≡◌, inl, inr, ℕ, ◌+◌, ◌*◌, ◌<◌, ◌≤◌, List, [], ◌++◌, length, Option, Some, None, refl, sym, ◌∙◌, subst, arith}
use Rattle.std.specs.Prelude.{Contains, option_map, slice_get}
use Rattle.std.proofs.Math.Nat.{le-max_left, le-max_right}
use Rattle.std.proofs.lemmas.List.Elements.{All-contains, Contains-append_cases}
use Rattle.c_syntax_written.specs.declared.place.Pos.{Pos}
use Rattle.c_syntax.specs.declared.program.Plan.{Plan}
use Rattle.c_syntax.specs.TypedStmt.{TStmtTree}
use Rattle.c_syntax.specs.Program.{TFunctionTree, TProgramTree}
use Rattle.c_layout.specs.Calls.{function_calls}
use Rattle.c_objects.proofs.Listed.{none_in}
use Rattle.c_steps_laws.specs.Fits.{Runs}
use Rattle.c_steps_laws.proofs.Orders.{body_of, some_is}
use Rattle.csharp.specs.Trees.{CsFunctionTree}
use Rattle.csharp.specs.Formed.{gathered, temps_of}
use Rattle.csharp_laws.specs.LeftAlone.{May, Itself, ByCall, calls_of, temps_within}
use Rattle.lower_trees.specs.LowerStmt.{InLoop, lower_stmt}
use Rattle.lower_trees.specs.LowerProgram.{param_temps, no_function, top_in, function_in, lower}
use Rattle.lower_formed.specs.Every.{Every}
use Rattle.lower_formed.proofs.Bodied.{body_every, params_below}
use Rattle.lower_formed.proofs.Each.{function_at}
use Rattle.lower_formed.proofs.Placing.{Bodied, all, bodiless, callee, code, low_at, stands_at}
use Rattle.lower_quiet.specs.Quiet.{Puts}
use Rattle.lower_quiet.specs.Laws.{CallsSetBelow}
use Rattle.lower_quiet.proofs.Puts.{sets_in, calls_in, wider}
use Rattle.lower_quiet.proofs.Stmts.{quiet_stmt}

-- a function that another calls somewhere
abbrev pub Called : TProgramTree → ℕ → ℕ → Type 0
Called p f g = (at : Pos) × Contains (function_calls p f) (record { pos = at; callee = g })

module _ (p : TProgramTree) (plan : Plan) (runs : Runs p plan) where
  abbrev pub base : (f : ℕ) → Bodied p f → ℕ
  base f b = (stands_at p plan runs f b).base

  abbrev pub top : ℕ → ℕ
  top f = top_in (all p plan runs) f

  pub own_top : (f : ℕ) (b : Bodied p f) → (base f b + length b.function.params ≤ top f) × ((lower_stmt p (base f b) InLoop b.body).top ≤ top f)
  own_top f b =
      let own = (stands_at p plan runs f b).own in
      let l = le-max_left (base f b + length b.function.params) (lower_stmt p (base f b) InLoop b.body).top in
      let r = le-max_right (base f b + length b.function.params) (lower_stmt p (base f b) InLoop b.body).top in
      (omega (arith, own, l), omega (arith, own, r))

  -- the body sets its own rows, and calls what the function calls
  pub body_puts : (f : ℕ) (b : Bodied p f) → Every (Puts (12 * base f b) (12 * top f) (Called p f)) (code p plan runs f b)
  body_puts f b =
      let d = base f b in
      let body = lower_stmt p d InLoop b.body in
      let here = body_of p f b.function b.body b.found b.has in
      let rows = own_top f b in
      body_every (Puts (12 * d) (12 * top f) (Called p f)) (λ ty e g. tt) (λ x y. tt) (λ e. tt) p f d b.function.params b.body tt
      (wider (Called p f) d body.top d (top f) (omega arith) rows.1 body.code
      (quiet_stmt (Called p f) p b.body d InLoop (λ k m. (k.pos, subst (λ ks. Contains ks k) (sym here) m))).code)

  -- a callee's rows lie below
  pub called_low : (f : ℕ) (b : Bodied p f) (g : ℕ) → Called p f g → top g ≤ base f b
  called_low f b g (at, m) = (stands_at p plan runs f b).below (record { pos = at; callee = g }) m

  within_below : (f : ℕ) (b : Bodied p f) (x : ℕ) → Contains (param_temps p (base f b) b.function.params ++ gathered temps_of (code p plan runs f b)) x → x < 12 * top f
  within_below f b x m = elim (Contains-append_cases (param_temps p (base f b) b.function.params) (gathered temps_of (code p plan runs f b)) x m) [
    | inl k ↦ All-contains (λ t. t < 12 * top f) (param_temps p (base f b) b.function.params) x (params_below p b.function.params (base f b) (top f) (own_top f b).0) k
    | inr k ↦ (sets_in (12 * base f b) (12 * top f) (Called p f) (code p plan runs f b) (body_puts f b) x k).1
  ]

  -- whatever sets a number: these, or the rows of what is called
  pub set_below : (y m : ℕ) (own calls : List ℕ) → May (lower p plan) temps_within y own calls → ((x : ℕ) → Contains own x → x < 12 * m)
      → ((g : ℕ) → Contains calls g → Bodied p g × (top g ≤ m)) → y < 12 * m
  set_below y m own calls (Itself _ _ k) sets low = sets y k
  set_below y m own calls (ByCall _ _ g function k is more) sets low =
      let b = (low g k).0 in
      let le = (low g k).1 in
      let same : record { params = param_temps p (base g b) b.function.params; body = code p plan runs g b } ≡ function = some_is (sym (low_at p plan runs g b) ∙ is) in
      let deep = set_below y (top g) (temps_within function) (gathered calls_of function.body) more
      (subst (λ (z : CsFunctionTree). (x : ℕ) → Contains (temps_within z) x → x < 12 * top g) same (within_below g b))
      (subst (λ (z : CsFunctionTree). (h : ℕ) → Contains (gathered calls_of z.body) h → Bodied p h × (top h ≤ top g)) same
      (λ h c.
      let call = calls_in (12 * base g b) (12 * top g) (Called p g) (code p plan runs g b) (body_puts g b) h c in
      let low' = called_low g b h call in
      let rows = (own_top g b).0 in
      (callee p plan runs g (record { pos = call.0; callee = h }) call.1, omega (arith, low', rows)))) in
      omega (arith, deep, le)

  law_case : (f : ℕ) (function : CsFunctionTree) (low : TFunctionTree) (o : Option TStmtTree) → slice_get p.functions f ≡ Some low → low.body ≡ o → function_in (all p plan runs) f ≡ function
      → (d : ℕ) → May (lower p plan) temps_within d (temps_within function) (gathered calls_of function.body) → d < 12 * top f
  law_case f function low None e g is d may =
      let same : no_function ≡ function = sym (bodiless p plan runs f low e g) ∙ is in
      absurd (nothing d (subst (λ (z : CsFunctionTree). May (lower p plan) temps_within d (temps_within z) (gathered calls_of z.body)) (sym same) may)) where
        nothing : (d : ℕ) → May (lower p plan) temps_within d [] [] → ⊥
        nothing d (Itself _ _ k) = none_in d k
        nothing d (ByCall _ _ g function k is more) = none_in g k
  law_case f function low (Some body) e g is d may =
      let b : Bodied p f = record { function = low; body = body; found = e; has = g } in
      let same : record { params = param_temps p (base f b) low.params; body = code p plan runs f b } ≡ function = sym (stands_at p plan runs f b).is ∙ is in
      set_below d (top f) (temps_within function) (gathered calls_of function.body) may
      (subst (λ (z : CsFunctionTree). (x : ℕ) → Contains (temps_within z) x → x < 12 * top f) same (within_below f b))
      (subst (λ (z : CsFunctionTree). (h : ℕ) → Contains (gathered calls_of z.body) h → Bodied p h × (top h ≤ top f)) same
      (λ h c.
      let call = calls_in (12 * base f b) (12 * top f) (Called p f) (code p plan runs f b) (body_puts f b) h c in
      let low' = called_low f b h call in
      let rows = (own_top f b).0 in
      (callee p plan runs f (record { pos = call.0; callee = h }) call.1, omega (arith, low', rows))))

  law_at : (f : ℕ) (function : CsFunctionTree) (o : Option TFunctionTree) → slice_get p.functions f ≡ o → option_map (λ x. function_in (all p plan runs) f) o ≡ Some function
      → (d : ℕ) → May (lower p plan) temps_within d (temps_within function) (gathered calls_of function.body) → d < 12 * top f
  law_at f function None e is = absurd (cc)
  law_at f function (Some low) e is = law_case f function low low.body e refl (some_is is)

pub calls_set_below : CallsSetBelow
calls_set_below p plan runs f function is = law_at p plan runs f function (slice_get p.functions f) refl (sym (function_at (all p plan runs) p.functions f) ∙ is)
