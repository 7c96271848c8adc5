use Rattle.std.proofs.Common.{◌≡◌, map, length, arith, sym, ap, ◌∙◌, subst, List, Some}
use Rattle.std.specs.Prelude.{All, option_map, slice_get}
use Rattle.c_syntax.specs.Types.{ObjectTree, object_tree}
use Rattle.c_syntax.specs.declared.program.InitByte.{InitByte}
use Rattle.c_objects.specs.Statics.{HasBlock, opened_statics}
use Rattle.csharp_exec.proofs.Begun.{fits_block}
use Rattle.csharp_exec.proofs.first.fits.Goals as goal

pub returns-then-bytes-size-clause-fits : goal.returns-then-bytes-size-clause-fits
returns-then-bytes-size-clause-fits c = λ yes.
    let few = ap length c.as_slice-bytes.ensures in
    let size : Some c.in-Some.size ≡ option_map (λ (o : ObjectTree). o.size) (slice_get (map object_tree c.args.objects.now) c.args.initial.now.object) =
    sym c.in-Some.is ∙ c.size_of.ensures in (
      fits_block (map object_tree c.args.objects.now) c.args.initial.now.object (length c.args.initial.now.bytes) c.in-Some.size size
          (omega (arith, few, c.if-bytes-size.true)),
      subst (λ (bs : List InitByte). All (λ (byte : InitByte). HasBlock (opened_statics (map object_tree c.args.objects.now)).places byte) bs)
          c.as_slice-bytes.ensures (c.have_blocks.ensures.have yes),
    )
