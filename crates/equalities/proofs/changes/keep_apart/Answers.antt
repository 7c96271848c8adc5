use Rattle.std.proofs.Common.{rules, ◌≡◌, ℕ, List, [], ◌∷◌, Bool, true, false, refl, ap, ◌∙◌}
use Rattle.std.specs.Prelude.{not, cond, filter, if◌then◌else◌}
use Rattle.std.proofs.lemmas.Fn.{filter_same}
use Rattle.equalities.specs.declared.pairs.Equation.{Equation}
use Rattle.equalities.specs.Pairs.{Equality, equality, equalities_of, touches, apart_from}
use Rattle.equalities.proofs.changes.keep_apart.Goals as goal

drops : (b : Bool) (p : Equation) (ps : List Equation) (qs : List Equality) → equalities_of ps ≡ qs → equalities_of (cond (not b) (p ∷ ps) ps) ≡ (if b then qs else equality p ∷ qs)
drops true p ps qs e = e
drops false p ps qs e = ap (λ (l : List Equality). equality p ∷ l) e

kept : (x : ℕ) (ps : List Equation) → equalities_of (filter (λ p. not (touches x (equality p))) ps) ≡ apart_from x (equalities_of ps)
kept x [] = refl
kept x (p ∷ ps) = drops (touches x (equality p)) p (filter (λ q. not (touches x (equality q))) ps) (apart_from x (equalities_of ps)) (kept x ps)

pub returns : goal.returns
returns c =
    ap equalities_of (filter_same _ (λ p. not (touches c.args.x.0 (equality p))) _ (λ p b f' t. search rules) c.args.pairs.now.items c.retain.new.self.items c.retain.ensures.filtered) ∙ kept c.args.x.0 c.args.pairs.now.items
