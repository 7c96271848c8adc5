use Rattle.std.proofs.Common.{subst, sym, ◌∙◌, ◌≡◌, List, length, rules}
use Rattle.std.specs.Vec.{with_items}
use Rattle.std.proofs.lemmas.List.{with_items_is}
use Rattle.ext_int.specs.declared.Ext.{Ext}
use Rattle.bound_matrix.specs.Bound.{entry, bound_at, MatrixView, RaisesTo}
use Rattle.bound_matrix.proofs.halves.Half.raise.Goals as goal

pub returns-clause-raised : goal.returns-clause-raised
returns-clause-raised g c =
    let n = c.self.inside.vars in let new = c.raise_kept.new.kept in
    let same : length new ≡ length c.self.inside.kept.items = search (rules, c.deref_mut.ensures, c.raise_kept.auto) in
    let q : (with_items c.self.inside.kept new).items ≡ new = with_items_is c.self.inside.kept new (same ∙ sym c.self.inside.kept.ok.0) in
    subst (λ (m : MatrixView). RaisesTo c.args.i c.args.j c.args.bound (bound_at m) (entry n (with_items c.self.inside.kept new).items)) c.self.view_is
    (subst (λ (l : List Ext). RaisesTo c.args.i c.args.j c.args.bound (entry n c.self.inside.kept.items) (entry n l)) (sym q)
    (subst (λ (l : List Ext). RaisesTo c.args.i c.args.j c.args.bound (entry n l) (entry n new)) c.deref_mut.ensures.value c.raise_kept.ensures.raised))
