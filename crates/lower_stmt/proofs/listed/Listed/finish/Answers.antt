use Rattle.std.proofs.Common.{sym}
use Rattle.csharp.specs.Trees.{csstmts_from}
use Rattle.lower_stmt.proofs.Items.{joined_none, same_items}
use Rattle.lower_stmt.proofs.listed.Listed.finish.Goals as goal

pub returns : goal.returns
returns c = same_items _ _ _ _ (sym (joined_none (csstmts_from c.args.self.items.items))) c.max-top.ensures
