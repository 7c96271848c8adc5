-- Addresses of the code as typing speaks of them.
use Rattle.std.specs.Prelude.{pos}
use Rattle.c_typing.specs.Constants as constants
use Rattle.c_check_nodes.specs.declared.moves.Address.{Address}
use Rattle.c_check_nodes.specs.declared.moves.Address.TheVariants as addresses

abbrev pub address_of : Address → constants.Address
address_of addresses.Nowhere = constants.Nowhere
address_of (addresses.Inside object offset) = constants.Inside object (pos offset)
