use Rattle.std.proofs.Common.{map, refl, subst, sym}
use Rattle.std.proofs.lemmas.Result.{on_ok_weaker}
use Rattle.c_syntax.specs.Types.{object_tree}
use Rattle.machine_nums.specs.Machines.{Admits}
use Rattle.csharp.specs.Actions as acts
use Rattle.mem_cell_bytes.specs.Stands.{Stands, claims}
use Rattle.mem_cell_domain.proofs.Begun.{begun-stands}
use Rattle.mem_cell_domain.proofs.lives.enter.Goals as goal

pub returns : goal.returns
returns g c =
    let known = c.args.known.now in
    let os = map object_tree c.args.objects.now in
    let A = Admits g.D.Oracle.admits known.nums in
    record {
      types = refl;
      stands = on_ok_weaker c.blank_all.result (λ grid s there free st.
          subst (λ h. Stands os known.types A (claims known.pointers h) (acts.enter os c.args.names.now s)) (sym grid)
          (begun-stands os known.types A known.pointers known.grid c.args.names.now s there free st)) c.blank_all.ensures;
    }
