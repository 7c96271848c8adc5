-- What was given of the open file, before and after a read.
use Rattle.std.proofs.Common.{arith, refl, sym, ◌∙◌, ap, ◌≡◌, ◌≤◌, ◌<◌, ◌+◌, ◌-◌, ◌++◌, ℕ, List, Option, Some, None, Result, Ok, Err, length, take, drop, min, IfOk, option_map}
use Rattle.std.specs.Option.{option_and_then, MatchOption}
use Rattle.std.proofs.Math.Seq.{take-add}
use Rattle.std.proofs.lemmas.List.{take-append-drop, take_at, take_all, length-take-le, length-drop}
use Rattle.outside_io.specs.Io.{IsFront}
use Rattle.outside_io.specs.Memory.{HeldFiles, OpenName, told_of, given_of, rest_of, moved, IsOpenIn}

-- what is given, where the open name and its bytes are known
given_is : (current : Option OpenName) (told : List ℕ → Option (List ℕ)) (g : List ℕ)
    → option_and_then (λ o. option_map (λ bytes. take o.given bytes) (told o.name)) current ≡ Some g
    → (o : OpenName) × (b : List ℕ) × (current ≡ Some o) × (told o.name ≡ Some b) × (g ≡ take o.given b)
given_is None told g e = cc
given_is (Some o) told g e = by_bytes (told o.name) refl e
  where
    by_bytes : (t : Option (List ℕ)) → told o.name ≡ t → option_map (λ bytes. take o.given bytes) t ≡ Some g
        → (o' : OpenName) × (b : List ℕ) × (Some o ≡ Some o') × (told o'.name ≡ Some b) × (g ≡ take o'.given b)
    by_bytes None is h = cc
    by_bytes (Some b) is h = (o, b, refl, is, cc)

-- the name that is open
opened : (current : Option OpenName) (n : List ℕ) → MatchOption current ⊥ (λ o. o.name ≡ n) → (o : OpenName) × (current ≡ Some o) × (o.name ≡ n)
opened None n h = absurd h
opened (Some o) n h = (o, refl, h)

-- the front of a piece that a read filled
filled : (k : ℕ) (rest before : List ℕ) → k ≤ length rest → take k (take k rest ++ drop k before) ≡ take k rest
filled k rest before h = take_at (take k rest) (drop k before) k (length-take-le k rest h)

rest_known : (held : HeldFiles) (o : OpenName) (b : List ℕ) → held.current ≡ Some o → told_of held o.name ≡ Some b → rest_of held ≡ drop o.given b
rest_known held o b current told = rw (current, told) refl

given_known : (held : HeldFiles) (o : OpenName) (b : List ℕ) → held.current ≡ Some o → told_of held o.name ≡ Some b → given_of held ≡ Some (take o.given b)
given_known held o b current told = rw (current, told) refl

moved_known : (k : ℕ) (o : OpenName) (before after : Option OpenName) → after ≡ moved k before → before ≡ Some o → after ≡ Some (record { name = o.name; given = o.given + k })
moved_known k o before after e is = e ∙ rw is refl

same_some : (a b : List ℕ) → Some a ≡ Some b → a ≡ b
same_some a b e = cc

-- a read that gave k bytes adds them to what was given
pub gives_more : (old new : HeldFiles) (k : ℕ) (before after : List ℕ) → ((n : List ℕ) → told_of new n ≡ told_of old n) → k ≡ min (length before) (length (rest_of old))
    → after ≡ take k (rest_of old) ++ drop k before → new.current ≡ moved k old.current
    → (g : List ℕ) → given_of old ≡ Some g → given_of new ≡ Some (g ++ take k after)
gives_more old new k before after told count bytes moves g given =
    let (o, b, current, bytes_of, front) = given_is old.current (told_of old) g given in
    let rest = rest_known old o b current bytes_of in
    let now = moved_known k o old.current new.current moves current in
    let within : k ≤ length (rest_of old) = omega arith in
    let piece : take k after ≡ take k (drop o.given b) = ap (take k) bytes ∙ (filled k (rest_of old) before within ∙ ap (take k) rest) in
    given_known new (record { name = o.name; given = o.given + k }) b now (told o.name ∙ bytes_of)
    ∙ ap (λ (x : List ℕ). Some x) (take-add o.given k b ∙ sym (ap (λ x. x ++ take k after) front ∙ ap (λ x. take o.given b ++ x) piece))

-- what is given of an open name is a front of its bytes
pub given_front : (held : HeldFiles) (n b g : List ℕ) → IsOpenIn held n → told_of held n ≡ Some b → given_of held ≡ Some g → IsFront g b
given_front held n b g is_open told given =
    let (o, current, name) = opened held.current n is_open in
    let known = given_known held o b current (ap (told_of held) name ∙ told) in
    (drop o.given b, sym (ap (λ x. x ++ drop o.given b) (same_some _ _ (sym given ∙ known)) ∙ take-append-drop o.given b))

-- at the end of a file all of its bytes were given
pub given_all : (old new : HeldFiles) (k : ℕ) (before : List ℕ) → ((n : List ℕ) → told_of new n ≡ told_of old n) → k ≡ min (length before) (length (rest_of old))
    → new.current ≡ moved k old.current → k ≡ 0 → 0 < length before
    → (n b g : List ℕ) → IsOpenIn old n → told_of old n ≡ Some b → given_of new ≡ Some g → g ≡ b
given_all old new k before told count moves none some n b g is_open known given =
    let (o, current, name) = opened old.current n is_open in
    let bytes_of = ap (told_of old) name ∙ known in
    let rest = rest_known old o b current bytes_of in
    let now = moved_known k o old.current new.current moves current in
    let all_given = given_known new (record { name = o.name; given = o.given + k }) b now (told o.name ∙ bytes_of) in
    let left : length (rest_of old) ≡ length b - o.given = ap length rest ∙ length-drop o.given b in
    same_some _ _ (sym given ∙ all_given) ∙ take_all (o.given + k) b (omega arith)

-- what follows from three facts of a result follows under Ok
pub if_ok_from : {T E : Type 0} {P Q R S : T → Type 0} (r : Result T E) → ((x : T) → P x → Q x → R x → S x) → IfOk r P → IfOk r Q → IfOk r R → IfOk r S
if_ok_from (Ok x) follows p q s = follows x p q s
if_ok_from (Err e) follows p q s = p
