use Rattle.std.proofs.Common.{ap, ◌∙◌}
use Rattle.std.specs.Prelude.{is_some}
use Rattle.c_typing.specs.Context.{has_name}
use Rattle.c_check_jumps.specs.declared.name_set.TextName.{TextName}
use Rattle.c_check_jumps.proofs.Finding.{is_lent, has_seen}
use Rattle.c_check_jumps.proofs.name_set.NameSet.has.Goals as goal

pub returns : goal.returns
returns c =
    c.is_some.ensures ∙ is_lent c.first_from.result ∙ ap is_some c.first_from.ensures
    ∙ has_seen (λ (n : TextName). n.name) c.args.name.now _ ∙ ap (λ names. has_name names c.args.name.now) c.self.view_is
