use Rattle.std.proofs.Common.{◌∙◌, refl}
use Rattle.csharp.proofs.CodeTrees.{csstmts_nil}
use Rattle.csharp.specs.Meaning.{AtDefault, has}
use Rattle.csharp.specs.Trees.{csstmts_from}
use Rattle.std.proofs.Common.{◌≡◌, false}
use Rattle.walk_owes.proofs.Entering.{nil_of}
use Rattle.walk_kept.proofs.marks.has_default.Goals as goal

pub returns : goal.returns
returns c =
    let none : false ≡ has AtDefault (csstmts_from c.loop-item.rest.now) = rw (nil_of c.loop-item.rest.now c.in_default.ensures.cases, csstmts_nil) refl in
    none ∙ c.loop-item.invariant.same
