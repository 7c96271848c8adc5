use Rattle.std.proofs.Common.{ap, ◌∙◌}
use Rattle.csharp.specs.Trees.{csstmts_from}
use Rattle.lower_stmt.proofs.Items.{last_push}
use Rattle.lower_stmt.proofs.listed.Listed.put_last.Goals as goal

pub returns-clause-items : goal.returns-clause-items
returns-clause-items c = ap csstmts_from c.in_ok-push.ensures.items ∙ last_push c.args.self.now.items.items c.args.code
