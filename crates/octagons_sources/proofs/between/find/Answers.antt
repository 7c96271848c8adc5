use Rattle.std.proofs.Common.{ap, sym, ◌∙◌, ◌≡◌, ◌/◌, ℕ, arith}
use Rattle.std.proofs.lemmas.Bool.Decides.{nat_tests}
use Rattle.bound_matrix.specs.Bound.{bound_at, bar}
use Rattle.ext_int.specs.declared.Ext.{Ext}
use Rattle.octagons_sources.specs.declared.source.Source.{Source}
use Rattle.octagons_sources.specs.Sources.{source_at, most_of, most_added, index_from, place_index}
use Rattle.octagons_sources.specs.Drawn.{between}
use Rattle.octagons_sources.proofs.Reading.{drawn-is, whole-is, most_added-bar}
use Rattle.octagons_sources.proofs.between.find.Goals as goal

-- the parts of the sum are those of the drawn bound
record IsFound (c : goal.After-sum_of) : Type 0 where
  other : c.args.p ≡ c.args.q → ⊥
  bound : c.between-bound.result ≡ between (bound_at c.args.m.now) (index_from c.args.from.now c.args.p) (index_from c.args.from.now c.args.q)
  added : c.most_of.result ≡ most_added c.args.from.now c.args.q
  taken : c.most_of-2.result ≡ most_added c.args.from.now (bar c.args.p)

found : (c : goal.After-sum_of) → IsFound c
found c =
    let d = c.if-p-q.false in
    let first : c.index_from.result ≡ index_from c.args.from.now c.args.p = c.index_from.ensures ∙ ap (λ (s : Source). place_index s.place s.negated c.args.p) c.source_at-first.ensures in
    let second : c.index_from-2.result ≡ index_from c.args.from.now c.args.q = c.index_from-2.ensures ∙ ap (λ (s : Source). place_index s.place s.negated c.args.q) c.source_at-second.ensures in
    record {
      other = grind (arith, nat_tests);
      bound = c.between-bound.ensures ∙ cc;
      added = c.most_of.ensures ∙ ap (λ (s : Source). most_of s c.args.q) c.source_at-second.ensures;
      taken = c.most_of-2.ensures ∙ (ap (λ (s : Source). most_of s c.partner.result) c.source_at-first.ensures
          ∙ (ap (most_of (source_at c.args.from.now (c.args.p / 2))) c.partner.ensures ∙ most_added-bar c.args.from.now c.args.p));
    }

pub returns-clause-value : goal.returns-clause-value
returns-clause-value c = let f = found c in
    c.sum_of.ensures.value ∙ drawn-is c.args.from.now (bound_at c.args.m.now) c.args.p c.args.q _ _ _ f.other f.bound f.added f.taken

pub returns-clause-exact : goal.returns-clause-exact
returns-clause-exact c = λ t. let f = found c in let e = c.sum_of.ensures.exact t in
    (e.0 ∙ whole-is c.args.from.now (bound_at c.args.m.now) c.args.p c.args.q _ _ _ f.other f.bound f.added f.taken, e.1)
