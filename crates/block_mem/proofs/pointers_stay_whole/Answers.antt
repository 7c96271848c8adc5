use Rattle.block_mem.specs.Blocks.{block_at}
use Rattle.block_mem.specs.Bytes.{size_of}
use Rattle.block_mem.proofs.StoreLaws.{inside_access}
use Rattle.std.proofs.Common.{false, length}
use Rattle.block_mem.proofs.Whole.{whole_set, whole_more, whole-undefined, whole-empty, whole-store, whole-copy}
use Rattle.block_mem.proofs.pointers_stay_whole.Goals as goal

pub returns-clause-none : goal.returns-clause-none
returns-clause-none c = λ b. whole-empty

pub returns-clause-made : goal.returns-clause-made
returns-clause-made c = λ m size read_only all. whole_more m _ all (whole-undefined size)

pub returns-clause-ended : goal.returns-clause-ended
returns-clause-ended c = λ m b made all. whole_set m b _ made all (all b)

pub returns-clause-undefined : goal.returns-clause-undefined
returns-clause-undefined c = λ m b made all. whole_set m b _ made all (whole-undefined (length (block_at m b).bytes))

pub returns-clause-put : goal.returns-clause-put
returns-clause-put c = λ m at ty v made of passes all. (whole-store m at ty v made of (inside_access (block_at m at.block) at.offset (size_of ty) 1 false passes)).whole all

pub returns-clause-copied : goal.returns-clause-copied
returns-clause-copied c = λ m to from n made target source all. (whole-copy m to from n made target source).whole all
