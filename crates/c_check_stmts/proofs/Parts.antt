-- A part and then what depends on it, taken apart and put together.
use Rattle.std.proofs.Common.{◌≡◌, refl, ap, ◌∙◌, subst}
use Rattle.c_typing.specs.World.{World, Outcome, Typed, Refused, Then, goes_on, stops, Is}

-- what is typed, and then what depends on it
then_typed : {A B : Type 0} {x : A} {w : World} {last : A → World → Outcome B → Type 0} {o : Outcome B} → Then (Is (Typed x w)) last o → last x w o
then_typed {x = x} {w = w} {last = last} {o = o} (goes_on {a = a} {w = v} e q) =
    let a_is : a ≡ x = cc in
    let v_is : v ≡ w = cc in
    subst (λ u. last x u o) v_is (subst (λ y. last y v o) a_is q)
then_typed (stops e) = cc

-- a part of a part
two_then : {A B C : Type 0} {first : Outcome A → Type 0} {next : A → World → Outcome B → Type 0} {last : B → World → Outcome C → Type 0}
    {next2 : A → World → Outcome C → Type 0} {o : Outcome C}
    → ((x : A) (w : World) → Then (next x w) last o → next2 x w o) → Then (Then first next) last o → Then first next2 o
two_then f (goes_on (goes_on p q) r) = goes_on p (f _ _ (goes_on q r))
two_then f (stops (goes_on p q)) = goes_on p (f _ _ (stops q))
two_then f (stops (stops p)) = stops p

-- a part, what is made of it, and then what depends on that
pub then_made : {A B C : Type 0} {first : Outcome A → Type 0} {made : A → World → B} {last : B → World → Outcome C → Type 0} {o : Outcome C}
    → Then (Then first (λ x w. Is (Typed (made x w) w))) last o → Then first (λ x w. last (made x w) w) o
then_made {made = made} {last = last} {o = o} = two_then (λ x w. then_typed {x = made x w} {w = w} {last = last} {o = o})

-- a part of a part, apart
pub apart : {A B C : Type 0} {first : Outcome A → Type 0} {next : A → World → Outcome B → Type 0} {last : B → World → Outcome C → Type 0} {o : Outcome C}
    → Then (Then first next) last o → Then first (λ x w. Then (next x w) last) o
apart (goes_on (goes_on p q) r) = goes_on p (goes_on q r)
apart (stops (goes_on p q)) = goes_on p (stops q)
apart (stops (stops p)) = stops p

-- and together again
pub together : {A B C : Type 0} {first : Outcome A → Type 0} {next : A → World → Outcome B → Type 0} {last : B → World → Outcome C → Type 0} {o : Outcome C}
    → Then first (λ x w. Then (next x w) last) o → Then (Then first next) last o
together (goes_on p (goes_on q r)) = goes_on (goes_on p q) r
together (goes_on p (stops q)) = stops (goes_on p q)
together (stops p) = stops (stops p)

-- what depends on a part is another thing
pub then_so : {A B : Type 0} {first : Outcome A → Type 0} {next other : A → World → Outcome B → Type 0} {o : Outcome B}
    → ((x : A) (w : World) → next x w o → other x w o) → Then first next o → Then first other o
then_so f (goes_on p q) = goes_on p (f _ _ q)
then_so f (stops p) = stops p

-- what is typed is made into another thing, and the program that it leaves into another program
abbrev pub turned : {A B : Type 0} → (A → B) → (World → World) → Outcome A → Outcome B
turned f g (Typed a w) = Typed (f a) (g w)
turned f g (Refused r) = Refused r

pub then_turned : {A B C : Type 0} {first : Outcome A → Type 0} {made : A → B} (f : B → C) (g : World → World) (o : Outcome B)
    → Then first (λ x w. Is (Typed (made x) w)) o → Then first (λ x w. Is (Typed (f (made x)) (g w))) (turned f g o)
then_turned f g o (goes_on p e) = goes_on p (ap (turned f g) e)
then_turned f g _ (stops p) = stops p

-- what is made of a part in a scope of its own, and then made into another thing
pub remade : {A B C : Type 0} {first : Outcome A → Type 0} {made : A → B} {inner outer : World → World} (f : B → C) (o : Outcome C)
    → Then (Then first (λ x w. Is (Typed (made x) (inner w)))) (λ y w. Is (Typed (f y) (outer w))) o
    → Then (Then first (λ x w. Is (Typed (f (made x)) (inner w)))) (λ z w. Is (Typed z (outer w))) o
remade {outer = outer} f o (goes_on (goes_on p e) q) = goes_on (goes_on p refl) (q ∙ ap (turned f outer) e)
remade f o (stops (goes_on p e)) = cc
remade f o (stops (stops p)) = stops (stops p)
