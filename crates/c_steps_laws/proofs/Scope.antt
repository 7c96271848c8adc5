-- What is around the work names the program, and objects that live; the rows of places.
use Rattle.std.proofs.Common.{◌≡◌, ◌⊎◌, inl, inr, ℕ, ℤ, pos, Bool, true, false, List, ◌∷◌, length, Option, Some, None, refl, ap, subst}
use Rattle.std.specs.Prelude.{IsTrue, IsSome, IsSomeAnd, Contains, slice_get, option_map}
use Rattle.std.proofs.lemmas.List.Elements.{Contains-append_cases, Contains-append_left}
use Rattle.c_syntax.specs.Types.{CTypeTree, ObjectTree}
use Rattle.c_syntax.specs.TypedExpr.{TLvalueTree, Var, Deref, Member}
use Rattle.c_syntax.specs.TypedStmt.{TStmtTrees}
use Rattle.c_syntax.specs.Program.{TProgramTree}
use Rattle.c_layout.specs.WellTyped.{IsStaticObject}
use Rattle.c_layout.specs.TypedNodes.{Standing, VarRow, IsTypedExpr, IsTypedPlace}
use Rattle.block_mem.specs.declared.types.Value.TheVariants as values
use Rattle.block_mem.specs.declared.types.Scalar.TheVariants as scalars
use Rattle.c_values.specs.Places.{ObjectMemory, place_of}
use Rattle.c_objects.proofs.Listed.{none_in}
use Rattle.c_steps.specs.Work.{Item, Close}
use Rattle.c_steps.specs.States.{Held, goes, held, with_some}
use Rattle.c_steps.specs.Expressions.{addr_step}
use Rattle.c_steps_laws.specs.Wants.{Want, Of, want_of, is_value, Stacked, on_top}
use Rattle.c_steps_laws.specs.Surroundings.{Around, in_items, ends_switch, around, scope_at}
use Rattle.c_steps_laws.specs.Takes.{LivesAt, Takes, eval, addr, load, store, named, copy, modify, step_at, un, bin, convert, to_void, move, and_then, or_else, truth_of, pick, choose, keep, sure, drop, enter, leave, reach, does, close, begin, turn, again, select, switch_end, fill, fill_copy, rest, finish}
use Rattle.c_steps_laws.specs.Opens.{Use, OpensPlace, OpensCall}
use Rattle.c_steps_laws.specs.Fits.{Closes, Lives, AreLive, IsReady, Parted}
use Rattle.c_steps_laws.proofs.Rules.{On, fit, as_top}
use Rattle.c_steps_laws.proofs.Kept.{KeepsIn}

-- what is around names the program, the function's result, and objects that the work will end; those of the innermost block among them
pub record Scoped (p : TProgramTree) (r : CTypeTree) (w : List Item) (standing : Standing) : Type 0 where
  pub result : standing.result ≡ r
  pub program : standing.scope.program ≡ p
  pub lives : (y : ℕ) → Contains standing.scope.live y → Closes w y
  pub block : (y : ℕ) → Contains standing.block y → Contains standing.scope.live y

more_lives : (p : TProgramTree) (r : CTypeTree) (w : List Item) (xs : List ℕ) (items : TStmtTrees) (c : Around) → Scoped p r w c.standing → (y : ℕ)
    → Contains xs y ⊎ Contains c.standing.scope.live y → Closes (Close xs items ∷ w) y
more_lives p r w xs items c h y (inl g) = inl g
more_lives p r w xs items c h y (inr g) = inr (h.lives y g)

one_more : (p : TProgramTree) (r : CTypeTree) (w : List Item) (z : Bool) (xs : List ℕ) (items : TStmtTrees) (c : Around) → Scoped p r w c.standing
    → Scoped p r (Close xs items ∷ w) (in_items z xs items c).standing
one_more p r w false xs items c h = record {
  result = h.result;
  program = h.program;
  lives = λ y g. more_lives p r w xs items c h y (Contains-append_cases xs c.standing.scope.live y g);
  block = λ y g. Contains-append_left xs c.standing.scope.live y g;
}
one_more p r w true xs items c h = record {
  result = h.result;
  program = h.program;
  lives = λ y g. more_lives p r w xs items c h y (Contains-append_cases xs c.standing.scope.live y g);
  block = λ y g. Contains-append_left xs c.standing.scope.live y g;
}

pub scoped : {p : TProgramTree} {r : CTypeTree} {w : List Item} {ts : List Want} → Takes p r w ts → Scoped p r w (around p r w).standing
scoped (eval a b k) = let h = scoped k in record { result = h.result; program = h.program; lives = h.lives; block = h.block }
scoped (addr a k) = let h = scoped k in record { result = h.result; program = h.program; lives = h.lives; block = h.block }
scoped (load k) = let h = scoped k in record { result = h.result; program = h.program; lives = h.lives; block = h.block }
scoped (store k) = let h = scoped k in record { result = h.result; program = h.program; lives = h.lives; block = h.block }
scoped (named k) = let h = scoped k in record { result = h.result; program = h.program; lives = h.lives; block = h.block }
scoped (copy k) = let h = scoped k in record { result = h.result; program = h.program; lives = h.lives; block = h.block }
scoped (modify a k) = let h = scoped k in record { result = h.result; program = h.program; lives = h.lives; block = h.block }
scoped (step_at a b k) = let h = scoped k in record { result = h.result; program = h.program; lives = h.lives; block = h.block }
scoped (un a k) = let h = scoped k in record { result = h.result; program = h.program; lives = h.lives; block = h.block }
scoped (bin a k) = let h = scoped k in record { result = h.result; program = h.program; lives = h.lives; block = h.block }
scoped (convert a k) = let h = scoped k in record { result = h.result; program = h.program; lives = h.lives; block = h.block }
scoped (to_void k) = let h = scoped k in record { result = h.result; program = h.program; lives = h.lives; block = h.block }
scoped (move k) = let h = scoped k in record { result = h.result; program = h.program; lives = h.lives; block = h.block }
scoped (and_then a b k) = let h = scoped k in record { result = h.result; program = h.program; lives = h.lives; block = h.block }
scoped (or_else a b k) = let h = scoped k in record { result = h.result; program = h.program; lives = h.lives; block = h.block }
scoped (truth_of k) = let h = scoped k in record { result = h.result; program = h.program; lives = h.lives; block = h.block }
scoped (pick a b c k) = let h = scoped k in record { result = h.result; program = h.program; lives = h.lives; block = h.block }
scoped (choose a b c k) = let h = scoped k in record { result = h.result; program = h.program; lives = h.lives; block = h.block }
scoped (keep k) = let h = scoped k in record { result = h.result; program = h.program; lives = h.lives; block = h.block }
scoped (sure k) = let h = scoped k in record { result = h.result; program = h.program; lives = h.lives; block = h.block }
scoped (drop k) = let h = scoped k in record { result = h.result; program = h.program; lives = h.lives; block = h.block }
scoped (enter a b c k) = let h = scoped k in record { result = h.result; program = h.program; lives = h.lives; block = h.block }
scoped (leave a k) = let h = scoped k in record { result = h.result; program = h.program; lives = h.lives; block = h.block }
scoped (does a b k) = let h = scoped k in record { result = h.result; program = h.program; lives = h.lives; block = h.block }
scoped (begin a b k) = let h = scoped k in record { result = h.result; program = h.program; lives = h.lives; block = h.block }
scoped (turn a b c k) = let h = scoped k in record { result = h.result; program = h.program; lives = h.lives; block = h.block }
scoped (again a b k) = let h = scoped k in record { result = h.result; program = h.program; lives = h.lives; block = h.block }
scoped (select a b k) = let h = scoped k in record { result = h.result; program = h.program; lives = h.lives; block = h.block }
scoped (switch_end a k) = let h = scoped k in record { result = h.result; program = h.program; lives = h.lives; block = h.block }
scoped (fill a b c k) = let h = scoped k in record { result = h.result; program = h.program; lives = h.lives; block = h.block }
scoped (fill_copy a b c k) = let h = scoped k in record { result = h.result; program = h.program; lives = h.lives; block = h.block }
scoped (rest a k) = let h = scoped k in record { result = h.result; program = h.program; lives = h.lives; block = h.block }
scoped (reach a k) = record { result = refl; program = refl; lives = λ y h. absurd (none_in y h); block = λ y h. absurd (none_in y h) }
scoped (close {r = r} {objects = xs} {items = items} {w = w} a b k) = one_more _ r w (ends_switch w) xs items (around _ r w) (scoped k)
scoped finish = record { result = refl; program = refl; lives = λ y h. absurd (none_in y h); block = λ y h. absurd (none_in y h) }

static_at : (p : TProgramTree) (x : ℕ) (object : ObjectTree) → slice_get p.objects x ≡ Some object → IsTrue object.is_static → IsStaticObject p x
static_at p x object e g = rw e g

lives_by : (p : TProgramTree) (r : CTypeTree) (w : List Item) (standing : Standing) (x : ℕ) (object : ObjectTree) → Scoped p r w standing
    → slice_get standing.scope.program.objects x ≡ Some object → IsTrue object.is_static ⊎ Contains standing.scope.live x → Lives p w x
lives_by p r w standing x object h e (inr g) = inr (h.lives x g)
lives_by p r w standing x object h e (inl g) = inl (static_at p x object (subst (λ (q : TProgramTree). slice_get q.objects x ≡ Some object) h.program e) g)

pub lives_case : (p : TProgramTree) (r : CTypeTree) (w : List Item) (standing : Standing) (x : ℕ) (ty : CTypeTree) (c : Bool) → Scoped p r w standing → (o : Option ObjectTree)
    → slice_get standing.scope.program.objects x ≡ o → IsSomeAnd o (λ object. VarRow standing.scope object x ty c) → Lives p w x
lives_case p r w standing x ty c h None e g = absurd g
lives_case p r w standing x ty c h (Some object) e g = lives_by p r w standing x object h e g.lives

-- an object of the innermost scope lives
pub lives_here : {p : TProgramTree} {r : CTypeTree} {w : List Item} {ts : List Want} → Takes p r w ts → (x : ℕ) → LivesAt p r w x → Lives p w x
lives_here k x g = inr ((scoped k).lives x g)

module _ (p : TProgramTree) where
  var_row : (r : CTypeTree) (w : List Item) (s : List Held) (m : ObjectMemory) (i : List ℤ) (ts : List Want) (x : ℕ) (o : Option ℕ) → place_of m x ≡ o → IsSome o
      → Takes p r w (Of scalars.Pointer ∷ ts) → Stacked (length m.blocks) ts s → Parted (OpensCall p) p w → AreLive p w m → KeepsIn p m
      → On p (with_some (option_map (λ b. values.Ptr (record { block = b; offset = pos 0 })) o) (λ v. goes w (held v ∷ s) m i))
  var_row r w s m i ts x None e b k d q l h = absurd (cc)
  var_row r w s m i ts x (Some c) e b k d q l h = fit p r w _ m i _ k (on_top (is_value tt (h.placed x c e).made) d) q l h

  pub addr_row : (x : TLvalueTree) (r : CTypeTree) (w : List Item) (ts : List Want) → IsTypedPlace (scope_at p r w) x → Takes p r w (Of scalars.Pointer ∷ ts)
      → (s : List Held) (m : ObjectMemory) (i : List ℤ) → Stacked (length m.blocks) ts s → ((y : Use) → OpensPlace (OpensCall p) x y → IsReady p w y)
      → Parted (OpensCall p) p w → AreLive p w m → KeepsIn p m → On p (addr_step x w s m i)
  unfolding IsTypedExpr
  addr_row (Var at x ty c) r w ts t k s m i d f q l h =
      let lives = lives_case p r w (around p r w).standing x ty c (scoped k) (slice_get (scope_at p r w).program.objects x) refl t in
      var_row r w s m i ts x (place_of m x) refl (l.0 x lives) k d q l h
  addr_row (Deref at kind ty c e) r w ts (t, row) k s m i d f q l h =
      fit p r _ s m i _ (eval true t (as_top p r _ _ _ _ (ap want_of row.target) k)) d (f, tt, q) l h
  addr_row (Member at n offset ty c x) r w ts (t, row) k s m i d f q l h =
      fit p r _ s m i _ (addr t (move k)) d (f, tt, ((λ y o. absurd o), tt, q)) l h
