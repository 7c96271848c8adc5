use Rattle.std.proofs.Common.{◌≡◌, drop, map}
use Rattle.std.specs.Prelude.{fold}
use Rattle.c_syntax.specs.Types.{object_tree}
use Rattle.c_syntax.specs.TypedStmt.{tinit_tree}
use Rattle.c_typing.specs.Inits.{static_bytes, with_item}
use Rattle.c_check_fills.proofs.all_bytes.static_bytes.Given as goal

-- what is left makes the whole
abbrev pub invariant-each : goal.invariant-each
invariant-each l = fold (with_item (map object_tree l.objects)) l.bytes.items (map tinit_tree (drop l.item-index l.items))
    ≡ static_bytes (map object_tree l.fn.objects) l.fn.size (map tinit_tree l.fn.items)
