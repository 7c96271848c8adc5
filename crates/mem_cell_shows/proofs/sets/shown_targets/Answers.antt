use Rattle.std.proofs.Common.{◌≡◌, ◌∙◌, ap, sym, subst}
use Rattle.std.specs.Prelude.{All, ◌<◌, List, ℕ}
use Rattle.pointsets.specs.Targets.{Any, names_of}
use Rattle.mem_cell_shows.specs.Shows.{ShowsTargets, pointers_of}
use Rattle.mem_cell_shows.proofs.Spots.{named-shown}
use Rattle.mem_cell_shows.proofs.sets.shown_targets.Goals as goal

pub returns-then-is_all : goal.returns-then-is_all
returns-then-is_all c = c.everywhere.ensures c.args.count c.args.set.now

pub returns-then-not-are_below : goal.returns-then-not-are_below
returns-then-not-are_below c = c.everywhere-then-not-are_below.ensures c.args.count c.args.set.now

pub returns : goal.returns
returns c =
    let set = c.args.set.now in let ends = c.args.ends in
    let some : set ≡ Any → ⊥ = λ e. let yes = c.is_all.ensures.1 (c.to_targets-targets.ensures ∙ e) in let no = c.if-is_all.false in cc in
    let own : c.to_targets-targets.result ≡ set = c.to_targets-targets.ensures in
    let names : c.from_vec.result ≡ names_of set = c.from_vec.ensures ∙ c.in_ok-names.ensures.items ∙ c.names-2.ensures.names ∙ ap names_of own in
    let below : All (λ o. o < c.args.count) (names_of set) =
    subst (All (λ o. o < c.args.count)) (c.names.ensures.names ∙ ap names_of own) (c.are_below.ensures c.if-not-are_below.false) in
    let is : c.of_names.result ≡ pointers_of set (names_of set) ends =
    c.of_names.ensures ∙ ap (λ (ns : List ℕ). pointers_of c.to_targets-targets.result ns ends) names ∙ ap (λ s. pointers_of s (names_of set) ends) own in
    subst (ShowsTargets c.args.count set ends) (sym is) (named-shown c.args.count set ends some below c.requires)
