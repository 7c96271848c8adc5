use Rattle.std.proofs.Common.{◌≡◌, map, drop}
use Rattle.std.specs.Prelude.{All}
use Rattle.c_syntax.specs.Types.{object_tree}
use Rattle.c_syntax.specs.declared.program.InitByte.{InitByte}
use Rattle.c_objects.specs.Statics.{HasBlock, opened_statics}
use Rattle.csharp_exec.specs.Beginning.{are_placed}
use Rattle.csharp_exec.proofs.first.have_blocks.Given as goal

-- the bytes that are left decide for all
abbrev pub invariant-loop-byte : goal.invariant-loop-byte
invariant-loop-byte l = record {
  test : are_placed (map object_tree l.objects) (drop l.byte-index l.bytes) ≡ are_placed (map object_tree l.objects) l.bytes;
  have : All (λ (byte : InitByte). HasBlock (opened_statics (map object_tree l.objects)).places byte) (drop l.byte-index l.bytes)
      → All (λ (byte : InitByte). HasBlock (opened_statics (map object_tree l.objects)).places byte) l.bytes;
}
