-- How it is shown that behind each part of a production nothing may follow that continues the part.
use Rattle.std.proofs.Common.{◌≡◌, sym, ◌∙◌, subst, ℕ, ◌≤◌, Bool, true, false, not, List, [], ◌∷◌, true≢false}
use Rattle.c_syntax_written.specs.declared.token.Placed.{Placed}
use Rattle.c_syntax_written.specs.declared.token.Token.{Token}
use Rattle.c_syntax_written.specs.declared.token.Token.TheVariants as kinds
use Rattle.c_grammar.specs.Parts.{Scene, Part, Value}
use Rattle.c_grammar.specs.declared.class.Class.{Class}
use Rattle.c_grammar.specs.Classes.{Fits}
use Rattle.c_grammar.specs.Process.{Process, give, token, part, only}
use Rattle.c_grammar.specs.Refused.{is_bracket, may_be_empty}
use Rattle.c_grammar.proofs.Table.{Leads, leads_token, leads_part, leads_behind, leads_only, Quiet, Lower, WellFollowed, well_give, well_token, well_part}
use Rattle.c_grammar.proofs.Sets.{class_of, same_class, covers, fits_misses, apart, apart_not, inside, inside_not}
use Rattle.c_grammar.proofs.Firsts.{firsts, nexts, begins, continues, by_token}
use Rattle.c_grammar.proofs.Spelled.{reads, no_spelling, spelled}
use Rattle.c_grammar.proofs.Own.{never}

-- what is left of a production begins outside of the set
abbrev pub Avoids : {A : Type 0} → Scene → (Class → Bool) → Process A → Type 0
Avoids w f (give v) = Unit {0}
Avoids w f (token n c k) = covers (λ c. not (f c)) c ≡ true
Avoids w f (part n s i k) = (s.types ≡ w.types) × (apart (firsts i) f ≡ true) × ((a : Value i) → may_be_empty i ≡ true → Avoids w f (k a))
Avoids w f (only g q) = Avoids w f q

-- the first token is not of the set
abbrev pub Misses : Scene → (Class → Bool) → List Placed → Type 0
Misses w f [] = Unit {0}
Misses w f (t ∷ ts) = f (class_of w t.token) ≡ false

avoids : {w : Scene} {p : Part} {q : Process (Value p)} {ts : List Placed} → Leads begins w p q ts → (f : Class → Bool) → Avoids w f q → Misses w f ts
avoids (leads_token {w} {c} {t} fits) f h = fits_misses w c t.token f fits h
avoids (leads_part {w} {s} {i} {t} e) f h = subst (λ c. f c ≡ false) (same_class s w t.token h.0) (apart_not (firsts i) f h.1 (class_of s t.token) e)
avoids (leads_behind a e l) f h = avoids l f (h.2 a e)
avoids (leads_only e l) f h = avoids l f h

-- a set missed in one scene is missed in another with the same typedef names
elsewhere : (w s : Scene) (f : Class → Bool) (ts : List Placed) → s.types ≡ w.types → Misses w f ts → Misses s f ts
elsewhere w s f [] e h = tt
elsewhere w s f (t ∷ ts) e h = subst (λ c. f c ≡ false) (sym (same_class s w t.token e)) h

smaller : (w : Scene) (f g : Class → Bool) (ts : List Placed) → inside f g ≡ true → Misses w g ts → Misses w f ts
smaller w f g [] e h = tt
smaller w f g (t ∷ ts) e h = inside_not f g e (class_of w t.token) h

to_quiet : (s : Scene) (i : Part) (a : Value i) (ts : List Placed) → Misses s (nexts i a) ts → Quiet continues s i a ts
to_quiet s i a [] h = tt
to_quiet s i a (t ∷ ts) h = h

of_quiet : (s : Scene) (i : Part) (a : Value i) (ts : List Placed) → Quiet continues s i a ts → Misses s (nexts i a) ts
of_quiet s i a [] h = tt
of_quiet s i a (t ∷ ts) h = h

pub behind_leads : (w s : Scene) (p i : Part) (a : Value i) (q : Process (Value p)) → s.types ≡ w.types → Avoids w (nexts i a) q → (ts : List Placed) → Leads begins w p q ts → Quiet continues s i a ts
behind_leads w s p i a q e h ts l = to_quiet s i a ts (elsewhere w s (nexts i a) ts e (avoids l (nexts i a) h))

pub behind_whole : (w s : Scene) (p i : Part) (a : Value i) (v : Value p) (ts : List Placed) → s.types ≡ w.types → inside (nexts i a) (nexts p v) ≡ true → Quiet continues w p v ts → Quiet continues s i a ts
behind_whole w s p i a v ts e h quiet = to_quiet s i a ts (elsewhere w s (nexts i a) ts e (smaller w (nexts i a) (nexts p v) ts h (of_quiet w p v ts quiet)))

-- a part before something that has a token
pub ahead : {w s : Scene} {p i : Part} {n : ℕ} {k : Value i → Process (Value p)} → s.types ≡ w.types → ((a : Value i) → Avoids w (nexts i a) (k a)) → ((a : Value i) → reads (k a) ≡ true) → ((a : Value i) → Lower n (k a)) → ((a : Value i) → WellFollowed begins continues w p (k a)) → WellFollowed begins continues w p (part n s i k)
ahead {w} {s} {p} {i} {n} {k} e h r low rest = well_part (λ a. (behind_leads w s p i a (k a) e (h a), λ ts v spells quiet. no_spelling (r a) spells)) low rest

-- a part before something that may have no token, where what continues the part continues the whole
pub between : {w s : Scene} {p i : Part} {n : ℕ} {k : Value i → Process (Value p)} → s.types ≡ w.types → ((a : Value i) → Avoids w (nexts i a) (k a)) → ((a : Value i) (v : Value p) → inside (nexts i a) (nexts p v) ≡ true) → ((a : Value i) → Lower n (k a)) → ((a : Value i) → WellFollowed begins continues w p (k a)) → WellFollowed begins continues w p (part n s i k)
between {w} {s} {p} {i} {n} {k} e h r low rest = well_part (λ a. (behind_leads w s p i a (k a) e (h a), λ ts v spells quiet. behind_whole w s p i a v ts e (r a v) quiet)) low rest

all_quiet : (s : Scene) (i : Part) (a : Value i) (ts : List Placed) → ((c : Class) → nexts i a c ≡ false) → Quiet continues s i a ts
all_quiet s i a [] h = tt
all_quiet s i a (t ∷ ts) h = h (class_of s t.token)

-- a part that nothing continues
pub silent : {w s : Scene} {p i : Part} {n : ℕ} {k : Value i → Process (Value p)} → ((a : Value i) (c : Class) → nexts i a c ≡ false) → ((a : Value i) → Lower n (k a)) → ((a : Value i) → WellFollowed begins continues w p (k a)) → WellFollowed begins continues w p (part n s i k)
silent {w} {s} {p} {i} {n} {k} h low rest = well_part (λ a. (λ ts l. all_quiet s i a ts (h a), λ ts v spells quiet. all_quiet s i a ts (h a))) low rest

-- the last part, where what continues it continues the whole
pub last : {w s : Scene} {p i : Part} {n : ℕ} {make : Value i → Value p} → s.types ≡ w.types → ((a : Value i) → inside (nexts i a) (nexts p (make a)) ≡ true) → WellFollowed begins continues w p (part n s i (λ a. give (make a)))
last {w} {s} {p} {i} {n} {make} e h =
    well_part (λ a. (behind_leads w s p i a (give (make a)) e tt, λ ts v spells quiet. behind_whole w s p i a (make a) ts e (h a) (subst (λ v. Quiet continues w p v ts) (sym (spelled spells)) quiet))) (λ a. tt) (λ a. well_give)

-- the last part, where nothing continues it
pub closed : {w s : Scene} {p i : Part} {n : ℕ} {make : Value i → Value p} → ((a : Value i) (c : Class) → nexts i a c ≡ false) → WellFollowed begins continues w p (part n s i (λ a. give (make a)))
closed h = silent h (λ a. tt) (λ a. well_give)

bracket_class : (w : Scene) (t : Token) → is_bracket t ≡ true → by_token is_bracket (class_of w t) ≡ true
bracket_class w (kinds.Punctuator p) h = h
bracket_class w _ h = never h

-- a token that is no bracket
pub plain : {w : Scene} {p : Part} {n : ℕ} {c : Class} {k : Placed → Process (Value p)} → covers (λ c. not (by_token is_bracket c)) c ≡ true → ((t : Placed) → Fits w c t.token → WellFollowed begins continues w p (k t)) → WellFollowed begins continues w p (token n c k)
plain {w} {p} {n} {c} {k} h rest = well_token (λ t fits b. absurd (true≢false (sym (bracket_class w t.token b) ∙ fits_misses w c t.token (by_token is_bracket) fits h))) rest

-- a token at which a form is unfinished
pub nested : {w : Scene} {p : Part} {n : ℕ} {c : Class} {k : Placed → Process (Value p)} → 1 ≤ n → ((t : Placed) → Fits w c t.token → WellFollowed begins continues w p (k t)) → WellFollowed begins continues w p (token n c k)
nested h rest = well_token (λ t fits b. h) rest
