use Rattle.std.proofs.Common.{subst, sym, ◌∙◌}
use Rattle.c_objects.specs.Statics.{AreEightBits, opened_statics, with_initials}
use Rattle.csharp.specs.States.{first}
use Rattle.csharp.specs.Trees.{csprogram_tree}
use Rattle.mem_cell_exprs.specs.Known.{StandsFor}
use Rattle.mem_cell_domain.specs.Starts.{AreBytesOf, AreLong}
use Rattle.mem_cell_domain.proofs.FirstBytes.{initials-long, nothing-bytes, opened-places}
use Rattle.mem_cell_domain.proofs.states.CellStatesMemDomain.start.Goals as goal

pub returns : goal.returns
returns g c =
    let q = csprogram_tree c.args.program.now in
    let k = c.in_ok-known.known in
    let is = c.as_slice-initials in
    let bits = subst AreEightBits is.ensures c.initials_have_eight_bits.ensures in
    let opened = opened_statics q.objects in
    let long = subst (AreLong q.objects) (sym is.ensures) (initials-long q c.requires.objects.initial) in
    let bytes = subst (λ xs. AreBytesOf c.put_initials.new.grid (with_initials opened xs)) is.ensures
    (c.in_ok-put_initials.ensures q.objects opened (opened-places q.objects) long (nothing-bytes _ c.in_ok-grid.grid opened c.in_ok-grid.ensures)) in
    record {
      is_for = (c.in_ok-objects.ensures, c.in_ok-known.ensures.types ∙ c.as_slice-temps.ensures);
      stands = λ inputs. subst (λ os. StandsFor g.D.Oracle.admits os k (first q inputs)) (sym c.in_ok-objects.ensures)
          (c.in_ok-known.ensures.stands q inputs c.as_slice-temps.ensures (c.first_states_are_typed.ensures q inputs c.requires bits) bytes);
      sharp = λ no. cc;
      plain = λ no. cc;
    }
