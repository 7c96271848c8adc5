use Rattle.std.proofs.Common.{◌≡◌, ℕ, ap, sym, ◌∙◌, subst, ◌+◌, length}
use Rattle.std.specs.Prelude.{IfSome, false}
use Rattle.std.proofs.lemmas.List.{length-map}
use Rattle.std.proofs.lemmas.Option.{IfSome_then}
use Rattle.c_syntax.specs.Types.{object_tree}
use Rattle.c_syntax.specs.TypedExpr.{Var}
use Rattle.c_typing.specs.World.{Typed, Refused}
use Rattle.c_typing.specs.Operands.{OperandTree, Place}
use Rattle.c_typing.specs.Names.{literal_type, with_literal}
use Rattle.c_typing.specs.Nodes.{literal}
use Rattle.c_check_names.specs.Worlds.{world_of}
use Rattle.c_check_names.specs.Worlds as names
use Rattle.c_check_exprs.proofs.Limits.{limits_typed, limits_refused, limits_given}
use Rattle.c_check_exprs.proofs.words.literal.Goals as goal

pub returns-in-Err : goal.returns-in-Err
returns-in-Err c =
    let w = world_of c.args.world.now in
    let bytes = c.args.bytes.now in
    let place : OperandTree = Place (Var c.args.pos (length w.objects) (literal_type (length bytes + 1)) false) in
    subst (λ o. IfSome o (λ r. Refused r ≡ literal w c.args.pos bytes)) (sym c.refused_by.ensures)
    (IfSome_then (names.refusal_of c.in-Err.error) c.in-Err.ensures
    (λ r p. sym (limits_refused c.args.pos (length bytes + 1) w (with_literal w c.args.pos bytes) r (length c.args.world.now.objects.items) place p)))

pub returns-in_ok-place-in-Ok : goal.returns-in_ok-place-in-Ok
returns-in_ok-place-in-Ok c =
    let w = world_of c.args.world.now in
    let bytes = c.args.bytes.now in
    let after = world_of c.add_literal.new.self in
    let place : ℕ → OperandTree = λ n. Place (Var c.args.pos n (literal_type (length bytes + 1)) false) in
    let number = limits_given c.args.pos (length bytes + 1) w (with_literal w c.args.pos bytes) after (length c.args.world.now.objects.items) c.in-Ok.number c.in-Ok.ensures in
    ap (λ p. Typed (Place p) after) c.in_ok-place-in-Ok.ensures ∙ ap (λ n. Typed (place n) after) (sym number ∙ sym (length-map c.args.world.now.objects.items object_tree))
    ∙ sym (limits_typed c.args.pos (length bytes + 1) w (with_literal w c.args.pos bytes) after (length c.args.world.now.objects.items) c.in-Ok.number (place (length w.objects)) c.in-Ok.ensures)
