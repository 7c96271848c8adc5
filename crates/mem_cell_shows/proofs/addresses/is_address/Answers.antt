use Rattle.std.proofs.Common.{◌∙◌, ap, subst, sym}
use Rattle.csharp.specs.Trees.{csexpr_tree}
use Rattle.csharp.proofs.CodeTrees.{csexpr_temp}
use Rattle.mem_cell_shows.specs.Addresses.{IsAddressFor}
use Rattle.mem_cell_shows.proofs.Pointing.{temp-address}
use Rattle.mem_cell_shows.proofs.addresses.is_address.Goals as goal

pub returns-in-Temp : goal.returns-in-Temp
returns-in-Temp c = λ yes. subst (IsAddressFor c.args.types.now) (sym (ap csexpr_tree c.in-Temp.is ∙ csexpr_temp c.in-Temp.temp))
    (temp-address c.args.types.now c.in-Temp.temp (c.is_pointer.ensures yes))
