use Rattle.std.proofs.Common.{rules, ◌≡◌, List, [], ◌∷◌, Bool, true, false, refl, ap, ◌∙◌}
use Rattle.std.specs.Prelude.{cond, filter, if◌then◌else◌}
use Rattle.std.proofs.lemmas.Fn.{filter_same}
use Rattle.equalities.specs.declared.pairs.Equation.{Equation}
use Rattle.equalities.specs.Pairs.{Equality, equality, equalities_of, is_among, shared}
use Rattle.equalities.proofs.changes.keep_shared.Goals as goal

keeps : (b : Bool) (p : Equation) (ps : List Equation) (qs : List Equality) → equalities_of ps ≡ qs → equalities_of (cond b (p ∷ ps) ps) ≡ (if b then equality p ∷ qs else qs)
keeps true p ps qs e = ap (λ (l : List Equality). equality p ∷ l) e
keeps false p ps qs e = e

kept : (qs : List Equality) (ps : List Equation) → equalities_of (filter (λ p. is_among qs (equality p)) ps) ≡ shared (equalities_of ps) qs
kept qs [] = refl
kept qs (p ∷ ps) = keeps (is_among qs (equality p)) p (filter (λ q. is_among qs (equality q)) ps) (shared (equalities_of ps) qs) (kept qs ps)

pub returns : goal.returns
returns c =
    ap equalities_of (filter_same _ (λ p. is_among (equalities_of c.args.others.now) (equality p)) _ (λ p b f' t. search rules) c.args.pairs.now.items c.retain.new.self.items c.retain.ensures.filtered) ∙ kept (equalities_of c.args.others.now) c.args.pairs.now.items
