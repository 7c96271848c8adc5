use Rattle.std.proofs.Common.{◌≡◌, FitsSigned, rules, ap, ◌∙◌}
use Rattle.std.specs.Int.{w128}
use Rattle.std.proofs.lemmas.Int.{to_z-of_z}
use Rattle.std.specs.Prelude.{ℤ, Option}
use Rattle.std.proofs.lemmas.Option.{IfSome_then}
use Rattle.c_syntax_written.specs.declared.place.Pos.{Pos}
use Rattle.c_syntax_written.specs.Written.{expr_tree}
use Rattle.c_syntax_written.specs.WrittenParts.{expr_pos}
use Rattle.c_syntax.specs.TypedStmt.{TStmtTree, Case}
use Rattle.c_typing.specs.Stmts.{case_of}
use Rattle.c_typing.specs.World.{Outcome, Typed, goes_on, stops}
use Rattle.c_check_names.specs.Views.{refusal_of}
use Rattle.c_check_names.specs.Worlds.{world_of}
use Rattle.c_check_stmts.proofs.prefix_parts.case_at.Goals as goal

pub returns-in-Err : goal.returns-in-Err
returns-in-Err c = IfSome_then (refusal_of c.in-Err.error) c.in-Err.ensures (λ r p. stops p)

pub returns-in-Err-case_of : goal.returns-in-Err-case_of
returns-in-Err-case_of c =
    let w = world_of c.value.new.world in
    let at = c.args.at in
    IfSome_then (refusal_of c.in-Err-case_of.error) c.in-Err-case_of.ensures (λ r p. goes_on c.in-Ok.ensures (stops (p
    ∙ ap (λ (place : Pos). case_of w at place c.args.switch c.in_ok-n.n) c.pos.ensures
    ∙ ap (λ (n : Option ℤ). case_of w at (expr_pos (expr_tree c.args.e.now)) c.args.switch n) c.in_ok-n.ensures)))

pub returns : goal.returns
returns c =
    let fits : FitsSigned w128 c.in-Ok-case_of.got = search rules in
    let w = world_of c.value.new.world in
    let at = c.args.at in
    goes_on c.in-Ok.ensures (goes_on (c.in-Ok-case_of.ensures
    ∙ ap (λ (place : Pos). case_of w at place c.args.switch c.in_ok-n.n) c.pos.ensures
    ∙ ap (λ (n : Option ℤ). case_of w at (expr_pos (expr_tree c.args.e.now)) c.args.switch n) c.in_ok-n.ensures)
    (ap (λ (s : TStmtTree). Typed s (world_of c.case_of.new.world)) (c.case_node.ensures ∙ ap (Case at) (to_z-of_z w128 c.in-Ok-case_of.got fits))))
