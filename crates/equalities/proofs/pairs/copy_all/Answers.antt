use Rattle.std.proofs.Common.{rules, arith, suc, ◌≡◌, ℕ, ◌+◌, List, [], ◌∷◌, ◌++◌, refl, sym, subst, ap, ◌∙◌, drop}
use Rattle.std.proofs.lemmas.List.{append_assoc}
use Rattle.std.proofs.Math.Seq.{drop-cons}
use Rattle.num_api.specs.declared.expr.NExpr.{NExpr}
use Rattle.num_api.specs.Exprs.{nexpr_tree}
use Rattle.equalities.specs.declared.pairs.Equation.{Equation}
use Rattle.equalities.specs.Pairs.{Equality, equality, equalities_of, pair_of}
use Rattle.equalities.proofs.pairs.copy_all.Goals as goal

at_end : (ps : List Equation) (p : Equation) → equalities_of (ps ++ p ∷ []) ≡ equalities_of ps ++ (equality p ∷ [])
at_end [] p = refl
at_end (q ∷ ps) p = ap (λ (l : List Equality). equality q ∷ l) (at_end ps p)

one_more : (all : List Equality) (new more rest left : List Equation) (p q : Equation) → all ≡ equalities_of new ++ equalities_of left → left ≡ p ∷ rest → more ≡ new ++ q ∷ [] → equality p ≡ equality q → all ≡ equalities_of more ++ equalities_of rest
one_more all new more rest left p q e l m f =
    e ∙ ap (λ (k : List Equation). equalities_of new ++ equalities_of k) l
    ∙ ap (λ (k : Equality). equalities_of new ++ (k ∷ equalities_of rest)) f
    ∙ sym (append_assoc (equalities_of new) (equality q ∷ []) (equalities_of rest))
    ∙ ap (λ (k : List Equality). k ++ equalities_of rest) (sym (at_end new q))
    ∙ ap (λ (k : List Equation). equalities_of k ++ equalities_of rest) (sym m)

pub loop-p-preserved : goal.loop-p-preserved
loop-p-preserved c =
    let next : suc c.loop-p.p-index ≡ c.loop-p.p-index + 1 = omega arith in
    let left : drop c.loop-p.p-index c.args.pairs.now ≡ c.p-item.result ∷ drop (c.loop-p.p-index + 1) c.args.pairs.now =
    subst (λ (n : ℕ). drop c.loop-p.p-index c.args.pairs.now ≡ c.p-item.result ∷ drop n c.args.pairs.now) next
    (drop-cons c.args.pairs.now c.loop-p.p-index c.p-item.result (search rules) ∙ ap (λ (q : Equation). q ∷ drop (suc c.loop-p.p-index) c.args.pairs.now) (search rules)) in
    one_more _ c.loop-p.new.items c.push.new.self.items _ _ c.p-item.result (record { x = c.p-item.result.x; e = c.in_ok-e.e }) c.loop-p.invariant left (search rules) (ap (λ (e : NExpr). pair_of c.p-item.result.x.0 (nexpr_tree e)) (sym c.in_ok-e.ensures.cases))
