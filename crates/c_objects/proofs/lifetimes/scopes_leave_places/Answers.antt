use Rattle.c_objects.proofs.Places as places
use Rattle.c_objects.proofs.lifetimes.scopes_leave_places.Goals as goal

pub returns : goal.returns
returns c = places.scopes_leave
