use Rattle.std.proofs.Common.{ℕ, List, subst, sym, ◌≤◌, length}
use Rattle.std.proofs.lemmas.Result.{IfOk-weaker}
use Rattle.octagons_changes.proofs.Packing.{brought-length}
use Rattle.octagons_changes.proofs.relations.Relations.two_first.Goals as goal

pub returns : goal.returns
returns c = IfOk-weaker c.brought-2.result _ _ (λ p e. subst (λ (l : List ℕ). length l ≤ 24) (sym e) (brought-length c.args.x _)) c.brought-2.ensures
