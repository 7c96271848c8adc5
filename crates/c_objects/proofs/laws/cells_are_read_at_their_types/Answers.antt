use Rattle.c_objects.proofs.Reading.{number_found, number_typed, number_loaded, number_one, spot_loads, pointer_size}
use Rattle.c_objects.proofs.OneScalar.{found_at}
use Rattle.c_objects.proofs.laws.cells_are_read_at_their_types.Goals as goal

pub returns-clause-found : goal.returns-clause-found
returns-clause-found c = λ structs objects m cell object found n e f. number_found structs objects m cell object found n e f

pub returns-clause-typed : goal.returns-clause-typed
returns-clause-typed c = λ structs objects m cell t n table h. number_typed structs objects m cell t n table.laid_out h

pub returns-clause-stands : goal.returns-clause-stands
returns-clause-stands c = λ structs whole ty offset size table h. found_at structs table.laid_out whole offset size ty h

pub returns-clause-loaded : goal.returns-clause-loaded
returns-clause-loaded c = λ structs objects m cell t v h proper l. number_loaded structs objects m cell t v h proper l

pub returns-clause-one : goal.returns-clause-one
returns-clause-one c = λ structs objects m cell n k a b. number_one structs objects m cell n k a b

pub returns-clause-spot : goal.returns-clause-spot
returns-clause-spot c = λ m cell v h. spot_loads m cell v h

pub returns-clause-wide : goal.returns-clause-wide
returns-clause-wide c = λ structs objects cell to is_const h. pointer_size structs objects cell to is_const h
