use Rattle.std.proofs.Common.{map}
use Rattle.c_syntax.specs.Types.{object_tree}
use Rattle.c_objects.proofs.Starting.{opened_by_code, own_bits, begins_kept, begins_whole}
use Rattle.c_objects.proofs.memory.ObjectMemory.start.Goals as goal

pub returns-clause-bits : goal.returns-clause-bits
returns-clause-bits c = λ program w os is.
    let opened = opened_by_code object_tree c.args.objects.now _ _ c.in_ok-open_statics.ensures c.in_ok-memory.ensures in
    own_bits program (map object_tree c.args.objects.now) c.args.initials.now _ c.put_initials.new.self opened c.put_initials.ensures.put
    c.put_initials.ensures.bits w os is

pub returns-clause-kept : goal.returns-clause-kept
returns-clause-kept c = λ program w os is.
    let opened = opened_by_code object_tree c.args.objects.now _ _ c.in_ok-open_statics.ensures c.in_ok-memory.ensures in
    begins_kept program (map object_tree c.args.objects.now) c.args.initials.now _ c.put_initials.new.self opened c.put_initials.ensures.put
    c.put_initials.ensures.bits w os is

pub returns-clause-whole : goal.returns-clause-whole
returns-clause-whole c = λ program w os is b.
    let opened = opened_by_code object_tree c.args.objects.now _ _ c.in_ok-open_statics.ensures c.in_ok-memory.ensures in
    begins_whole program (map object_tree c.args.objects.now) c.args.initials.now _ c.put_initials.new.self opened c.put_initials.ensures.put
    c.put_initials.ensures.bits w os is b
