-- What is typed leaves the cases as they were, part by part.
use Rattle.std.proofs.Common.{◌≡◌, refl, sym, subst, ◌∙◌}
use Rattle.std.specs.Prelude.{Bool, true, false, if◌then◌else◌, Option, None, Some}
use Rattle.c_syntax_written.specs.declared.place.Pos.{Pos}
use Rattle.c_typing.specs.World.{World, Refusal, Outcome, Typed, Refused, Then, goes_on, stops, Is, unless}
use Rattle.c_typing.specs.Names.{opened, closed, unless_declared}
use Rattle.c_typing.proofs.Changes.{Changes, Constants, Names, Any, within}
use Rattle.c_typing.proofs.Reaches.{Reaches, stays, after, named, literal, struct, new_struct, enumeration, tag_changed, body, opens, scoped, object, counted, sized, initial, linked, defined, retyped, parameters, function, function_changed, labelled, cased, in_body, Goes, typed, refused}
use Rattle.c_check_stmts.specs.CaseLaws.{HasCasesOf}

pub same_cases : {w : World} → HasCasesOf w w
same_cases = record { cases = refl; default = refl }

pub cases_then : {u v w : World} → HasCasesOf u v → HasCasesOf v w → HasCasesOf u w
cases_then f g = record { cases = g.cases ∙ f.cases; default = g.default ∙ f.default }

-- ---- the changes of names and literals leave them

-- a change that statements and declarations make may be any
abbrev Leaves : Changes → World → World → Type 0
Leaves Constants w v = HasCasesOf w v
Leaves Names w v = HasCasesOf w v
Leaves Any w v = Unit {0}

leaves_same : (may : Changes) (w v : World) → v.cases ≡ w.cases → v.default ≡ w.default → Leaves may w v
leaves_same Constants w v c d = record { cases = c; default = d }
leaves_same Names w v c d = record { cases = c; default = d }
leaves_same Any w v c d = tt

leaves_then : (may : Changes) (u v w : World) → Leaves may u v → Leaves may v w → Leaves may u w
leaves_then Constants u v w f g = cases_then f g
leaves_then Names u v w f g = cases_then f g
leaves_then Any u v w f g = tt

leaves_scope : (may : Changes) (u v : World) → Leaves (within may) (opened u) v → Leaves may u (closed u v)
leaves_scope Constants u v q = record { cases = q.cases; default = q.default }
leaves_scope Names u v q = record { cases = q.cases; default = q.default }
leaves_scope Any u v q = tt

leaves : (may : Changes) (w v : World) → Reaches may w v → Leaves may w v
leaves may w v (stays _) = leaves_same may w w refl refl
leaves may w v (after _ u _ r s) = leaves_then may w u v (leaves may w u r) (leaves may u v s)
leaves may w v (named _ at name meaning f h) = leaves_same may w _ refl refl
leaves may w v (literal _ at bytes small) = leaves_same may w _ refl refl
leaves may w v (struct _ tag) = leaves_same may w _ refl refl
leaves may w v (new_struct _ tag d) = leaves_same may w _ refl refl
leaves may w v (enumeration _ tag d) = leaves_same may w _ refl refl
leaves may w v (tag_changed _ tag at m f) = leaves_same may w _ refl refl
leaves may w v (body _ u x n members r begun s are sound) = leaves_then may w u _ (leaves may w u r) (leaves_then may u x _ (leaves may u x s) (leaves_same may x _ refl refl))
leaves may w v (opens _) = leaves_same may w _ refl refl
leaves may w v (scoped _ u r) = leaves_scope may w u (leaves (within may) (opened w) u r)
leaves may w v (object _ x) = tt
leaves may w v (counted _ size) = tt
leaves may w v (sized _ n ty size h) = tt
leaves may w v (initial _ n bytes) = tt
leaves may w v (linked _ x meaning d f) = tt
leaves may w v (defined _ name now) = tt
leaves may w v (retyped _ name ty c) = tt
leaves may w v (parameters _ params) = tt
leaves may w v (function _ told types f e none) = tt
leaves may w v (function_changed _ n change f) = tt
leaves may w v (labelled _ labels) = tt
leaves may w v (cased _ cases default) = tt
leaves may w v (in_body _ u x first names tags r aside f s) = tt

-- ---- outcomes

-- where the outcome is typed, its world has the cases of this one
pub data Keeps {A : Type 0} (w : World) : Outcome A → Type 0 where
  keeps : {a : A} {v : World} → HasCasesOf w v → Keeps w (Typed a v)
  stopped : {r : Refusal} → Keeps w (Refused r)

pub kept : {A : Type 0} {w v : World} {a : A} → Keeps w (Typed a v) → HasCasesOf w v
kept (keeps h) = h

pub keeps_all : {A : Type 0} {w : World} {a : A} → Keeps w (Typed a w)
keeps_all = keeps same_cases

keeps_after : {A : Type 0} {u v : World} {o : Outcome A} → HasCasesOf u v → Keeps v o → Keeps u o
keeps_after h (keeps g) = keeps (cases_then h g)
keeps_after h stopped = stopped

pub by_goes : {A : Type 0} {w : World} {o : Outcome A} → Goes Constants w o → Keeps w o
by_goes {w = w} (typed {v = v} r) = keeps (leaves Constants w v r)
by_goes refused = stopped

pub keeps_if : {A : Type 0} {w : World} (b : Bool) {x y : Outcome A} → Keeps w x → Keeps w y → Keeps w (if b then x else y)
keeps_if true p q = p
keeps_if false p q = q

pub keeps_unless : {A : Type 0} {w : World} (b : Bool) (r : Refusal) {x : Outcome A} → Keeps w x → Keeps w (unless b r x)
keeps_unless true r p = stopped
keeps_unless false r p = p

pub keeps_declared : {A : Type 0} {w : World} (at : Pos) (first : Option Pos) {o : Outcome A} → Keeps w o → Keeps w (unless_declared at first o)
keeps_declared at None p = p
keeps_declared at (Some first) p = stopped

-- ---- kinds of outcomes

abbrev pub AllKeep : {A : Type 0} → World → (Outcome A → Type 0) → Type 0
AllKeep {A} w kind = (o : Outcome A) → kind o → Keeps w o

pub then_keeps : {A B : Type 0} {w : World} {first : Outcome A → Type 0} {next : A → World → Outcome B → Type 0}
    → AllKeep w first → ((a : A) (v : World) → AllKeep v (next a v)) → AllKeep w (Then first next)
then_keeps f g o (goes_on {a = a} {w = v} p s) = keeps_after (kept (f _ p)) (g a v o s)
then_keeps f g _ (stops p) = stopped

pub is_keeps : {A : Type 0} {w : World} {x : Outcome A} → Keeps w x → AllKeep w (Is x)
is_keeps {w = w} p o e = subst (λ z. Keeps w z) (sym e) p

pub is_goes : {A : Type 0} {w : World} {x : Outcome A} → Goes Constants w x → AllKeep w (Is x)
is_goes p = is_keeps (by_goes p)

-- a part in a scope of its own, which is closed then
pub scope_keeps : {A B : Type 0} {w : World} {first : Outcome A → Type 0} {made : A → World → B}
    → AllKeep (opened w) first → AllKeep w (Then first (λ a v. Is (Typed (made a v) (closed w v))))
scope_keeps {w = w} f o (goes_on {a = a} {w = v} p e) =
    let inner = kept (f _ p) in subst (λ z. Keeps w z) (sym e) (keeps (record { cases = inner.cases; default = inner.default }))
scope_keeps f _ (stops p) = stopped
