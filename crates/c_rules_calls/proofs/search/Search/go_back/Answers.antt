use Rattle.std.proofs.Common.{◌≡◌, ◌<◌, length, set, refl, sym, subst, ap, ◌∙◌}
use Rattle.c_layout.specs.Calls.{chain_end}
use Rattle.c_rules_calls.specs.Search.{AreOrdered, IsDone, IsUnderWay, NoneIsOpen}
use Rattle.c_rules_calls.proofs.Ways.{goes_back, ends_here, ends}
use Rattle.c_rules_calls.proofs.Steps.{falls_after, inside, keeps_after, last_split, ordered_after}
use Rattle.std.proofs.lemmas.List.{get_or-set_same}
use Rattle.c_rules_calls.specs.declared.search.Progress.TheVariants.{New, Done}
use Rattle.c_rules_calls.proofs.search.Search.go_back.Goals as goal

pub returns-then-is_empty-clause-turn : goal.returns-then-is_empty-clause-turn
returns-then-is_empty-clause-turn c =
    let s = c.args.self.now in
    let p = s.progress.items in
    let graph = c.args.graph.now in
    let root = c.requires.function ∙ ap (chain_end s.root) c.if-is_empty.ensures in
    let within = inside p c.args.function _ c.requires.all in record {
      ordered = subst (AreOrdered graph _) (sym c.in_ok-push.ensures.items)
          (ordered_after graph p s.order.items s.root s.made c.requires.way c.requires.ordered c.args.function c.requires.function c.requires.all);
      none_open = subst (λ f. NoneIsOpen (set p f Done)) (sym root)
          (ends_here graph p s.root (subst (IsUnderWay graph p s.root) c.if-is_empty.ensures c.requires.way) (subst (λ f. f < length p) root within));
      none_made = c.if-is_empty.ensures;
      keeps = keeps_after graph p s.order.items s.root s.made c.requires.way c.requires.ordered c.args.function c.requires.function c.requires.all;
      done = subst (IsDone (set p c.args.function Done)) root (get_or-set_same p c.args.function Done New within);
    }

pub returns-clause-turn : goal.returns-clause-turn
returns-clause-turn c =
    let s = c.args.self.now in
    let p = s.progress.items in
    let graph = c.args.graph.now in
    let split = last_split s.made c.if-is_empty.ensures in
    let callee : split.1.callee ≡ c.args.function =
    sym (ends s.root split.0 split.1) ∙ ap (chain_end s.root) (sym split.2) ∙ sym c.requires.function in
    let within = inside p c.args.function _ c.requires.all in record {
      ordered = subst (AreOrdered graph _) (sym c.in_ok-push.ensures.items)
          (ordered_after graph p s.order.items s.root s.made c.requires.way c.requires.ordered c.args.function c.requires.function c.requires.all);
      way = subst (IsUnderWay graph (set p c.args.function Done) s.root) (sym (c.pop.ensures split.0 split.1 split.2))
          (subst (λ f. IsUnderWay graph (set p f Done) s.root split.0) callee
          (goes_back graph p s.root split.0 split.1 (subst (IsUnderWay graph p s.root) split.2 c.requires.way) (subst (λ f. f < length p) (sym callee) within)));
      falls = falls_after graph p s.order.items s.root s.made c.requires.way c.requires.ordered c.args.function c.requires.function c.requires.all;
      keeps = keeps_after graph p s.order.items s.root s.made c.requires.way c.requires.ordered c.args.function c.requires.function c.requires.all;
      root = refl;
    }
