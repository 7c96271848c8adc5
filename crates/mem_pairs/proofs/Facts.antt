-- Facts that two sides put out in turn.
use Rattle.std.proofs.Common.{sym, subst, ap, ◌∙◌, List, ◌++◌, length, All}
use Rattle.std.specs.Prelude.{Contains}
use Rattle.std.proofs.lemmas.List.{append_assoc}
use Rattle.std.proofs.lemmas.List.Elements.{All-append, Contains-append_left}
use Rattle.c_syntax.specs.declared.alarm.Fact.{Fact}
use Rattle.c_syntax.specs.declared.alarm.Fact.TheVariants as facts
use Rattle.c_values.specs.Places.{ObjectMemory}
use Rattle.csharp.specs.Trees.{CsProgramTree}
use Rattle.csharp.specs.States.{State}
use Rattle.mem_api.specs.FactsOf.{Adds, HoldsIn, NamesFactObjects, TellsWhole, whole_cell}

-- the fact names objects of the program, and holds in each state of the set
abbrev pub IsTold : CsProgramTree → (State → Type 0) → Fact → Type 0
IsTold q stands f = NamesFactObjects (length q.objects) f × ((s : State) → stands s → HoldsIn q s.memory f)

pub all_along : (P Q : Fact → Type 0) (told : List Fact) → ((f : Fact) → P f → Q f) → All P told → All Q told
all_along P Q told h k = λ i d l. h _ (k i d l)

pub adds_both : (a b c : List Fact) (P Q R : Fact → Type 0) → ((f : Fact) → P f → R f) → ((f : Fact) → Q f → R f) → Adds a b P → Adds b c Q → Adds a c R
adds_both a b c P Q R p q (m, e, h) (n, f, k) =
    (m ++ n, f ∙ ap (λ (l : List Fact). l ++ n) e ∙ append_assoc a m n, All-append R m n (all_along P R m p h) (all_along Q R n q k))

-- what was told is told still
pub tells_more : (q : CsProgramTree) (m : ObjectMemory) (b c : List Fact) (P : Fact → Type 0) → Adds b c P → TellsWhole q m b → TellsWhole q m c
tells_more q m b c P (more, e, k) h = λ x ty n i cell.
    let fact = facts.Between (whole_cell x ty) n n in
    subst (λ (l : List Fact). Contains l fact) (sym e) (Contains-append_left b more fact (h x ty n i cell))
