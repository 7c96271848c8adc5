-- What memory keeps in a run of a program.
use Rattle.c_syntax.specs.Program.{TProgramTree}
use Rattle.c_values.specs.Places.{ObjectMemory}
use Rattle.c_objects.specs.Statics.{AreWholeInitials}
use Rattle.c_objects.proofs.Keeping.{Keeps}

-- its pointers are whole where those of the program's initial values are
abbrev pub KeepsIn : TProgramTree → ObjectMemory → Type 0
KeepsIn p m = Keeps (AreWholeInitials p.initial) p.objects m
