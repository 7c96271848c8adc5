use Rattle.c_typing_laws.proofs.FileObjects as lemmas
use Rattle.c_typing_laws.proofs.object_laws.file_objects_are_typed.Goals as goal

pub returns : goal.returns
returns c = lemmas.objects_are_typed
