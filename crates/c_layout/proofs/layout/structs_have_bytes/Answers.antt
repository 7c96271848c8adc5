use Rattle.c_layout.proofs.StructSizes.{struct_size}
use Rattle.c_layout.proofs.layout.structs_have_bytes.Goals as goal

pub returns : goal.returns
returns c = struct_size
