use Rattle.c_syntax.specs.Program.{tprogram_tree}
use Rattle.lowering.proofs.Kept.{lowers, part}
use Rattle.lowering.proofs.program.lowered.Goals as goal

pub returns : goal.returns
returns c =
    let p = tprogram_tree c.args.program.now in
    let plan = c.args.plan.now in
    let r = c.lower.result in
    let kept = lowers c.lowering_is_right.ensures p plan c.requires r c.lower.ensures in
    record {
      tree = c.lower.ensures;
      formed = part p plan r _ (λ q h. h.formed) kept;
      structs = part p plan r _ (λ q h. h.structs) kept;
      objects = part p plan r _ (λ q h. h.objects) kept;
      made = part p plan r _ (λ q h. h.made) kept;
      leads_forward = part p plan r _ (λ q h. h.forward) kept;
      misses_none = part p plan r _ (λ q h inputs. (h.keeps inputs).misses_none) kept;
      fails_alone = part p plan r _ (λ q h inputs. (h.keeps inputs).fails_alone) kept;
      ends = part p plan r _ (λ q h inputs. (h.keeps inputs).ends) kept;
      waits = part p plan r _ (λ q h inputs. (h.keeps inputs).waits) kept;
      stops = part p plan r _ (λ q h inputs. (h.keeps inputs).stops) kept;
      turns = part p plan r _ (λ q h inputs. (h.keeps inputs).turns) kept;
      finishes = (c.lowering_is_right.ensures p plan c.requires).finishes;
    }
