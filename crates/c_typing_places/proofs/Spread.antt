-- Sites that stand at places of their own.
use Rattle.std.proofs.Common.{◌≡◌, List, [], ◌∷◌, ◌++◌, refl, sym, ap, subst, ◌∙◌}
use Rattle.c_syntax_written.specs.declared.place.Pos.{Pos}
use Rattle.c_sites.specs.Sites.{Subject, OneOperand, Site, site}
use Rattle.c_sites.proofs.InLists.{IsIn, here, there, EitherIn, in_first, in_second, in_left, in_right, in_either, Within, Distinct, distinct_right, distinct_apart, distinct_first}

-- the sites stand at these places, and those at one place look at the same
pub record Among (ps : List Pos) (xs : List Site) : Type 0 where
  pub stand : (s : Site) → IsIn s xs → IsIn s.pos ps
  pub agree : (s t : Site) → IsIn s xs → IsIn t xs → s.pos ≡ t.pos → s ≡ t

pub among_none : {ps : List Pos} → Among ps []
among_none = record { stand = λ s i. elim i [ ]; agree = λ s t i j e. elim i [ ] }

-- fewer sites, at more places
pub among_within : {ps qs : List Pos} {xs ys : List Site} → Among ps xs → Within ys xs → Within ps qs → Among qs ys
among_within a f g = record { stand = λ s i. g.each s.pos (a.stand s (f.each s i)); agree = λ s t i j e. a.agree s t (f.each s i) (f.each t j) e }

-- the sites are those of two lists, and what a node at this place looks at
pub data From (at : Pos) (own : Subject) (xs ys : List Site) (s : Site) : Type 0 where
  is_own : s ≡ site at own → From at own xs ys s
  of_first : IsIn s xs → From at own xs ys s
  of_second : IsIn s ys → From at own xs ys s

pub record MadeOf (at : Pos) (xs ys zs : List Site) : Type 0 where
  pub own : Subject
  pub from : (s : Site) → IsIn s zs → From at own xs ys s

stands_from : {at : Pos} {own : Subject} {ps qs : List Pos} {xs ys : List Site} (s : Site) → Among ps xs → Among qs ys → From at own xs ys s → IsIn s.pos (ps ++ at ∷ qs)
stands_from {at} {ps = ps} {qs = qs} s a b (is_own e) = subst (λ p. IsIn p (ps ++ at ∷ qs)) (sym (ap (λ (x : Site). x.pos) e)) (in_right ps here)
stands_from {at} {qs = qs} s a b (of_first i) = in_left (at ∷ qs) (a.stand s i)
stands_from {ps = ps} s a b (of_second i) = in_right ps (there (b.stand s i))

at_place : {at : Pos} {own : Subject} (ps : List Pos) (s : Site) → s ≡ site at own → IsIn s.pos ps → IsIn at ps
at_place ps s e i = subst (λ p. IsIn p ps) (ap (λ (x : Site). x.pos) e) i

moved : {p q : Pos} (ps : List Pos) → p ≡ q → IsIn p ps → IsIn q ps
moved ps e i = subst (λ p. IsIn p ps) e i

agree_from :
    {at : Pos} {own : Subject} {ps qs : List Pos} {xs ys : List Site} (s t : Site) → Distinct (ps ++ at ∷ qs) → Among ps xs → Among qs ys → From at own xs ys s → From at own xs ys t
    → s.pos ≡ t.pos → s ≡ t
agree_from s t d a b (is_own e) (is_own f) g = e ∙ sym f
agree_from {at} {ps = ps} {qs = qs} s t d a b (is_own e) (of_first j) g = absurd (distinct_apart ps (at ∷ qs) d (at_place ps s e (moved ps (sym g) (a.stand t j))) here)
agree_from {at} {ps = ps} {qs = qs} s t d a b (is_own e) (of_second j) g = absurd (distinct_first at qs (distinct_right ps (at ∷ qs) d) (at_place qs s e (moved qs (sym g) (b.stand t j))))
agree_from {at} {ps = ps} {qs = qs} s t d a b (of_first i) (is_own f) g = absurd (distinct_apart ps (at ∷ qs) d (at_place ps t f (moved ps g (a.stand s i))) here)
agree_from s t d a b (of_first i) (of_first j) g = a.agree s t i j g
agree_from {at} {ps = ps} {qs = qs} s t d a b (of_first i) (of_second j) g = absurd (distinct_apart ps (at ∷ qs) d (moved ps g (a.stand s i)) (there (b.stand t j)))
agree_from {at} {ps = ps} {qs = qs} s t d a b (of_second i) (is_own f) g = absurd (distinct_first at qs (distinct_right ps (at ∷ qs) d) (at_place qs t f (moved qs g (b.stand s i))))
agree_from {at} {ps = ps} {qs = qs} s t d a b (of_second i) (of_first j) g = absurd (distinct_apart ps (at ∷ qs) d (moved ps (sym g) (a.stand t j)) (there (b.stand s i)))
agree_from s t d a b (of_second i) (of_second j) g = b.agree s t i j g

-- a node between what it is made of
pub among_made : (at : Pos) (ps qs : List Pos) {xs ys zs : List Site} → Distinct (ps ++ at ∷ qs) → Among ps xs → Among qs ys → MadeOf at xs ys zs → Among (ps ++ at ∷ qs) zs
among_made at ps qs d a b m = record { stand = λ s i. stands_from s a b (m.from s i); agree = λ s t i j e. agree_from s t d a b (m.from s i) (m.from t j) e }

-- two parts of the text
both_stand : {ps qs : List Pos} {xs ys : List Site} (s : Site) → Among ps xs → Among qs ys → EitherIn s xs ys → IsIn s.pos (ps ++ qs)
both_stand {qs = qs} s a b (in_first i) = in_left qs (a.stand s i)
both_stand {ps = ps} s a b (in_second i) = in_right ps (b.stand s i)

both_agree : {ps qs : List Pos} {xs ys : List Site} (s t : Site) → Distinct (ps ++ qs) → Among ps xs → Among qs ys → EitherIn s xs ys → EitherIn t xs ys → s.pos ≡ t.pos → s ≡ t
both_agree s t d a b (in_first i) (in_first j) g = a.agree s t i j g
both_agree {ps = ps} {qs = qs} s t d a b (in_first i) (in_second j) g = absurd (distinct_apart ps qs d (moved ps g (a.stand s i)) (b.stand t j))
both_agree {ps = ps} {qs = qs} s t d a b (in_second i) (in_first j) g = absurd (distinct_apart ps qs d (moved ps (sym g) (a.stand t j)) (b.stand s i))
both_agree s t d a b (in_second i) (in_second j) g = b.agree s t i j g

pub among_both : (ps qs : List Pos) (xs ys : List Site) → Distinct (ps ++ qs) → Among ps xs → Among qs ys → Among (ps ++ qs) (xs ++ ys)
among_both ps qs xs ys d a b =
    record { stand = λ s i. both_stand s a b (in_either xs ys i); agree = λ s t i j e. both_agree s t d a b (in_either xs ys i) (in_either xs ys j) e }

-- ---- what a node is made of

pub made_nothing : {at : Pos} {xs ys : List Site} → MadeOf at xs ys []
made_nothing = record { own = OneOperand; from = λ s i. elim i [ ] }

first_from : {at : Pos} {own : Subject} {xs ys us vs : List Site} {s : Site} → Within us xs → Within vs ys → EitherIn s us vs → From at own xs ys s
first_from {s = s} f g (in_first i) = of_first (f.each s i)
first_from {s = s} f g (in_second i) = of_second (g.each s i)

-- nothing of its own
pub made_both : {at : Pos} {xs ys us vs : List Site} → Within us xs → Within vs ys → MadeOf at xs ys (us ++ vs)
made_both {us = us} {vs = vs} f g = record { own = OneOperand; from = λ s i. first_from f g (in_either us vs i) }

pub made_first : {at : Pos} {xs ys zs : List Site} → Within zs xs → MadeOf at xs ys zs
made_first f = record { own = OneOperand; from = λ s i. of_first (f.each s i) }

pub made_second : {at : Pos} {xs ys zs : List Site} → Within zs ys → MadeOf at xs ys zs
made_second f = record { own = OneOperand; from = λ s i. of_second (f.each s i) }

own_from : {at : Pos} {own : Subject} {xs ys zs : List Site} {s : Site} → ((t : Site) → IsIn t zs → From at own xs ys t) → IsIn s (site at own ∷ zs) → From at own xs ys s
own_from f here = is_own refl
own_from {s = s} f (there i) = f s i

-- a site of its own, beside two parts
pub own_both : {at : Pos} {xs ys us vs : List Site} (own : Subject) → Within us xs → Within vs ys → MadeOf at xs ys (site at own ∷ (us ++ vs))
own_both {us = us} {vs = vs} own f g = record { own = own; from = λ s i. own_from (λ t j. first_from f g (in_either us vs j)) i }

pub own_first : {at : Pos} {xs ys zs : List Site} (own : Subject) → Within zs xs → MadeOf at xs ys (site at own ∷ zs)
own_first own f = record { own = own; from = λ s i. own_from (λ t j. of_first (f.each t j)) i }

pub own_second : {at : Pos} {xs ys zs : List Site} (own : Subject) → Within zs ys → MadeOf at xs ys (site at own ∷ zs)
own_second own f = record { own = own; from = λ s i. own_from (λ t j. of_second (f.each t j)) i }

-- the same site twice
twice_from : {at : Pos} {own : Subject} {xs ys zs : List Site} {s : Site} → ((t : Site) → IsIn t zs → From at own xs ys t) → IsIn s (site at own ∷ site at own ∷ zs) → From at own xs ys s
twice_from f here = is_own refl
twice_from f (there i) = own_from f i

pub twice_both : {at : Pos} {xs ys us vs : List Site} (own : Subject) → Within us xs → Within vs ys → MadeOf at xs ys (site at own ∷ site at own ∷ (us ++ vs))
twice_both {us = us} {vs = vs} own f g = record { own = own; from = λ s i. twice_from (λ t j. first_from f g (in_either us vs j)) i }

pub twice_first : {at : Pos} {xs ys zs : List Site} (own : Subject) → Within zs xs → MadeOf at xs ys (site at own ∷ site at own ∷ zs)
twice_first own f = record { own = own; from = λ s i. twice_from (λ t j. of_first (f.each t j)) i }
