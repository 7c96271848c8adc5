-- What is typed has a property.
use Rattle.std.proofs.Common.{◌≡◌, refl, sym, subst}
use Rattle.std.specs.Prelude.{ℕ, Bool, true, false, if◌then◌else◌, Option, None, Some, nat_lt, ◌+◌}
use Rattle.c_syntax_written.specs.declared.place.Pos.{Pos}
use Rattle.c_typing.specs.World.{World, Refusal, ObjectTooLarge, TotalTooLarge, Outcome, Typed, Refused, Then, goes_on, stops, Is, unless}
use Rattle.c_typing.specs.Names.{unless_declared, within_limits, object_limit, total_limit}
use Rattle.c_typing.specs.Declarators.{if_sized}

-- where the outcome is typed, it has the property
pub data TypedAs {A : Type 0} (P : A → World → Type 0) : Outcome A → Type 0 where
  typed_as : {a : A} {v : World} → P a v → TypedAs P (Typed a v)
  refused_as : {r : Refusal} → TypedAs P (Refused r)

pub typed_from : {A : Type 0} {P : A → World → Type 0} {a : A} {v : World} → TypedAs P (Typed a v) → P a v
typed_from (typed_as p) = p

-- so it is of every outcome of this kind
abbrev pub AllTyped : {A : Type 0} → (A → World → Type 0) → (Outcome A → Type 0) → Type 0
AllTyped {A} P kind = (o : Outcome A) → kind o → TypedAs P o

pub as_it_is : {A : Type 0} (kind : Outcome A → Type 0) → AllTyped (λ a v. kind (Typed a v)) kind
as_it_is kind (Typed a v) p = typed_as p
as_it_is kind (Refused r) p = refused_as

pub then_as :
    {A B : Type 0} {P : A → World → Type 0} {Q : B → World → Type 0} {first : Outcome A → Type 0} {next : A → World → Outcome B → Type 0}
    → AllTyped P first → ((a : A) (u : World) → P a u → AllTyped Q (next a u)) → AllTyped Q (Then first next)
then_as f g o (goes_on {a = a} {w = u} p q) = g a u (typed_from (f (Typed a u) p)) o q
then_as f g _ (stops p) = refused_as

pub is_as : {A : Type 0} {P : A → World → Type 0} {x : Outcome A} → TypedAs P x → AllTyped P (Is x)
is_as {P = P} h o e = subst (λ z. TypedAs P z) (sym e) h

-- what has the one property has the other
pub as_made : {A : Type 0} {P Q : A → World → Type 0} {o : Outcome A} → ((a : A) (v : World) → P a v → Q a v) → TypedAs P o → TypedAs Q o
as_made f (typed_as {a = a} {v = v} p) = typed_as (f a v p)
as_made f refused_as = refused_as

-- this is the outcome, and it has the property
pub record IsSo {A : Type 0} (x : Outcome A) (P : A → World → Type 0) (a : A) (v : World) : Type 0 where
  pub so : Typed a v ≡ x
  pub has : P a v

pub is_so : {A : Type 0} {P : A → World → Type 0} {x : Outcome A} → TypedAs P x → AllTyped (IsSo x P) (Is x)
is_so {P = P} h (Typed a v) e = typed_as (record { so = e; has = typed_from (subst (λ z. TypedAs P z) (sym e) h) })
is_so h (Refused r) e = refused_as

-- it is of this kind, and has the property
pub record IsKind {A : Type 0} (kind : Outcome A → Type 0) (P : A → World → Type 0) (a : A) (v : World) : Type 0 where
  pub is : kind (Typed a v)
  pub has : P a v

pub is_kind : {A : Type 0} {P : A → World → Type 0} {kind : Outcome A → Type 0} → AllTyped P kind → AllTyped (IsKind kind P) kind
is_kind f (Typed a v) p = typed_as (record { is = p; has = typed_from (f (Typed a v) p) })
is_kind f (Refused r) p = refused_as

-- ---- choices

pub as_if : {A : Type 0} {P : A → World → Type 0} (b : Bool) {x y : Outcome A} → (b ≡ true → TypedAs P x) → (b ≡ false → TypedAs P y) → TypedAs P (if b then x else y)
as_if true f g = f refl
as_if false f g = g refl

pub as_unless : {A : Type 0} {P : A → World → Type 0} (b : Bool) (r : Refusal) {o : Outcome A} → (b ≡ false → TypedAs P o) → TypedAs P (unless b r o)
as_unless true r f = refused_as
as_unless false r f = f refl

pub as_declared : {A : Type 0} {P : A → World → Type 0} (at : Pos) (first : Option Pos) {o : Outcome A} → (first ≡ None → TypedAs P o) → TypedAs P (unless_declared at first o)
as_declared at None f = f refl
as_declared at (Some p) f = refused_as

pub as_size :
    {A : Type 0} {P : A → World → Type 0} (r : Refusal) (outcome : ℕ → Outcome A) (size : Option ℕ) → ((n : ℕ) → size ≡ Some n → TypedAs P (outcome n))
    → TypedAs P (if_sized r outcome size)
as_size r outcome None f = refused_as
as_size r outcome (Some n) f = f n refl

pub as_limits : {A : Type 0} {P : A → World → Type 0} (at : Pos) (size : ℕ) (w : World) {o : Outcome A} → TypedAs P o → TypedAs P (within_limits at size w o)
as_limits at size w p =
    as_unless (nat_lt object_limit size) (ObjectTooLarge at size) (λ e.
    as_unless (nat_lt total_limit (w.total + size)) (TotalTooLarge at (w.total + size)) (λ d. p))
