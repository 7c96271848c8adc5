-- A call behind what is kept is found where no call stood at its place before.
use Rattle.std.proofs.Common.{◌≡◌, ◌==◌, ◌&&◌, ◌∙◌, ℕ, Bool, true, false, cond, [], ◌∷◌, Option, Some, None, refl, sym, ap, subst}
use Rattle.std.specs.Prelude.{is_some, if◌then◌else◌}
use Rattle.std.specs.Option.{option_or}
use Rattle.std.specs.HashMap.{HashMap}
use Rattle.std.proofs.lemmas.Bool.{true≢false}
use Rattle.std.proofs.lemmas.Bool.Decides.{Decides-eqb}
use Rattle.c_syntax_written.specs.declared.place.Pos.{Pos}
use Rattle.c_layout.specs.Calls.{PlacedCall}
use Rattle.report_alarms.specs.Found.{callee_in, found, is_key, key_of, Key}

both : (a b : Bool) → (a && b) ≡ true → (a ≡ true) × (b ≡ true)
both true b e = (refl, e)
both false b e = absurd (true≢false (sym e))

equal : (a b : ℕ) → (a == b) ≡ true → a ≡ b
equal a b e = (Decides-eqb a b).0 e

-- a key that is found to be that of a place is
same_key : (f g : ℕ) (at place : Pos) → is_key f at (key_of g place) ≡ true → key_of g place ≡ key_of f at
same_key f g at place e =
    let (e4, e6) = both ((f == g) && (at.file == place.file) && (at.line == place.line)) (at.col == place.col) e in
    let (e2, e5) = both ((f == g) && (at.file == place.file)) (at.line == place.line) e4 in
    let (e1, e3) = both (f == g) (at.file == place.file) e2 in
    let caller = sym (equal f g e1) in
    let file = sym (equal at.file place.file e3) in
    let line = sym (equal at.line place.line e5) in
    let col = sym (equal at.col place.col e6) in
    λ i. (caller i, file i, line i, col i)

by_all : (a b c d : Bool) (n : ℕ) → (if a then (if b && (c && d) then Some n else None) else None) ≡ cond (a && b && c && d) (Some n) None
by_all true true true true n = refl
by_all true true true false n = refl
by_all true true false d n = refl
by_all true false c d n = refl
by_all false b c d n = refl

-- the one call of a function is found by its key
one_call : (f : ℕ) (call : PlacedCall) (g : ℕ) (at : Pos) → callee_in f (call ∷ []) g at ≡ cond (is_key f call.pos (key_of g at)) (Some call.callee) None
one_call f call g at = by_all (f == g) (call.pos.file == at.file) (call.pos.line == at.line) (call.pos.col == at.col) call.callee

abbrev pub place_of : Key → Pos
place_of k = record { file = k.1; line = k.2; col = k.3 }

keep_first : (b : Bool) (o : Option ℕ) (n : ℕ) → (b ≡ true → is_some o ≡ true) → o ≡ option_or o (cond b (Some n) None)
keep_first true None n h = absurd (true≢false (sym (h refl)))
keep_first true (Some m) n h = refl
keep_first false None n h = refl
keep_first false (Some m) n h = refl

put_last : (b : Bool) (o : Option ℕ) (n : ℕ) → (b ≡ true → is_some o ≡ false) → cond b (Some n) o ≡ option_or o (cond b (Some n) None)
put_last true None n h = refl
put_last true (Some m) n h = absurd (true≢false (h refl))
put_last false None n h = refl
put_last false (Some m) n h = refl

-- what is found where a call is put in at a place that had none
pub new_call : {S : Type 0} (m : HashMap Key ℕ S) (f : ℕ) (call : PlacedCall) → is_some (found m f call.pos) ≡ false → (g : ℕ) (at : Pos)
    → cond (is_key f call.pos (key_of g at)) (Some call.callee) (found m g at) ≡ option_or (found m g at) (callee_in f (call ∷ []) g at)
new_call m f call h g at =
    put_last (is_key f call.pos (key_of g at)) (found m g at) call.callee
    (λ e. subst (λ k. is_some (found m k.0 (place_of k)) ≡ false) (sym (same_key f g call.pos at e)) h)
    ∙ ap (option_or (found m g at)) (sym (one_call f call g at))

-- one that has one keeps it
pub old_call : {S : Type 0} (m : HashMap Key ℕ S) (f : ℕ) (call : PlacedCall) → is_some (found m f call.pos) ≡ true → (g : ℕ) (at : Pos)
    → found m g at ≡ option_or (found m g at) (callee_in f (call ∷ []) g at)
old_call m f call h g at =
    keep_first (is_key f call.pos (key_of g at)) (found m g at) call.callee
    (λ e. subst (λ k. is_some (found m k.0 (place_of k)) ≡ true) (sym (same_key f g call.pos at e)) h)
    ∙ ap (option_or (found m g at)) (sym (one_call f call g at))
