use Rattle.std.proofs.Common.{◌<◌, ◌∙◌, [], ap, length, map, slice_get, subst, sym}
use Rattle.std.proofs.lemmas.List.Elements.{All-head}
use Rattle.csharp.specs.Trees.{csexpr_tree}
use Rattle.mem_cell_domain.proofs.Typed.{set-typed}
use Rattle.std.proofs.lemmas.Result.{on_ok_weaker}
use Rattle.c_syntax.specs.Types.{object_tree}
use Rattle.mem_cell_domain.proofs.Items.{on-ok}
use Rattle.mem_cell_domain.proofs.states.CellStatesMemDomain.set.Goals as goal

pub type_at-ty-requires : goal.type_at-ty-requires
type_at-ty-requires g c =
    subst (λ ts. c.args.temp < length ts) (sym (c.as_slice.ensures ∙ c.requires.1.1)) (All-head (λ d. d < length c.requires.0.temps) c.args.temp [] c.requires.2.numbers.1)

pub set-requires : goal.set-requires
set-requires g c = ap (λ ts. slice_get ts c.args.temp) (sym c.as_slice.ensures) ∙ c.type_at-ty.ensures

pub returns : goal.returns
returns g c =
    let m = c.args.self.now in
    let os = map object_tree m.objects in
    record {
      is_for = λ q f. (f.0, c.set.ensures.types ∙ f.1);
      stands = on_ok_weaker c.set.result (λ law s t st step. law os s t st
          (set-typed g.D.Oracle.admits os m.known c.requires.0 c.values_are_typed.ensures c.requires.1.0 c.requires.1.1 c.args.temp (csexpr_tree c.args.value.now)
          c.type_at-ty.result c.requires.2.typed (ap (λ ts. slice_get ts c.args.temp) (sym c.as_slice.ensures) ∙ c.type_at-ty.ensures) s st) step) c.set.ensures.stands;
      sharp = on-ok c.set.result (λ s t no step. absurd no);
      plain = on-ok c.set.result (λ q p r f no step. absurd no);
    }
