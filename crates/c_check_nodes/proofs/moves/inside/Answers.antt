use Rattle.std.proofs.Common.{◌≡◌, ◌&&◌, ℕ, ◌+ℤ◌, pos, map, refl, ap, sym, ◌∙◌}
use Rattle.std.specs.Prelude.{Option, Some, None, if◌then◌else◌, int_le, option_map, option_and_then, slice_get}
use Rattle.c_syntax.specs.Types.{ObjectTree, object_tree}
use Rattle.c_typing.specs.Constants.{Inside}
use Rattle.c_check_nodes.proofs.moves.inside.Goals as goal

-- what depends on a part of a thing that may be missing
part_then : {A B C : Type 0} (part : A → B) (f : B → Option C) (m : Option A) → option_and_then f (option_map part m) ≡ option_and_then (λ a. f (part a)) m
part_then part f None = refl
part_then part f (Some a) = refl

pub returns-in-None : goal.returns-in-None
returns-in-None c d h =
    let offset = pos c.args.offset +ℤ d in
    let address = λ (size : ℕ). if int_le (pos 0) offset && int_le offset (pos size) then Some (Inside c.args.n offset) else None in
    ap (option_and_then address) (sym c.in-None.is ∙ c.size_of.ensures)
    ∙ part_then (λ (object : ObjectTree). object.size) address (slice_get (map object_tree c.args.objects.now) c.args.n)

pub returns-in-Some : goal.returns-in-Some
returns-in-Some c d h =
    let offset = pos c.args.offset +ℤ d in
    let address = λ (size : ℕ). if int_le (pos 0) offset && int_le offset (pos size) then Some (Inside c.args.n offset) else None in
    c.inside_object.ensures d h ∙ ap (option_and_then address) (sym c.in-Some.is ∙ c.size_of.ensures)
    ∙ part_then (λ (object : ObjectTree). object.size) address (slice_get (map object_tree c.args.objects.now) c.args.n)
