-- What declarators declare, as typing speaks of it.
use Rattle.c_syntax.specs.Types.{ctype_tree}
use Rattle.c_typing.specs.Decls as decls
use Rattle.c_check_decls.specs.declared.declares.ObjectNow.{ObjectNow}
use Rattle.c_check_decls.specs.declared.declares.Declares.{Declares}
use Rattle.c_check_decls.specs.declared.declares.Declares.TheVariants as variants
use Rattle.c_check_decls.specs.declared.declares.FileObject.{FileObject}

abbrev pub now_tree : ObjectNow → decls.ObjectNow
now_tree now = record {
  number = now.number;
  pos = now.pos;
  ty = ctype_tree now.ty;
  is_static = now.is_static;
  in_block = now.in_block;
  measured = now.measured;
}

abbrev pub declares_tree : Declares → decls.Declares
declares_tree (variants.AnObject now) = decls.AnObject (now_tree now)
declares_tree variants.NoObject = decls.NoObject

abbrev pub how_tree : FileObject → decls.FileObject
how_tree how = record { has_init = how.has_init; defines = how.defines; is_there = how.is_there; in_block = how.in_block }
