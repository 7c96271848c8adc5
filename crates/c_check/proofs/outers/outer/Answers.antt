use Rattle.std.proofs.Common.{refl, sym, ap, ◌∙◌, subst}
use Rattle.std.proofs.lemmas.Option.{IfSome_then}
use Rattle.c_syntax_written.specs.WrittenDecl.{decl_tree}
use Rattle.c_syntax_written.specs.Written.{declarator_tree, specs_tree}
use Rattle.c_syntax_written.specs.WrittenFile as written
use Rattle.c_syntax_written.specs.WrittenFile.{blockitems_tree, outer_tree}
use Rattle.c_syntax_written.proofs.WrittenFileTrees.{outer_declared, outer_function}
use Rattle.c_typing.specs.World.{Typed, Refused, goes_on, stops}
use Rattle.c_typing.specs.File.{TypesOuter}
use Rattle.c_check_jumps.specs.ContextViews.{context_tree}
use Rattle.c_check_names.specs.Views.{Answers, refusal_of}
use Rattle.c_check_names.specs.Worlds.{world_of}
use Rattle.c_check.proofs.Lines.{declared_line}
use Rattle.c_check.proofs.outers.outer.Goals as goal

pub returns-in-Err : goal.returns-in-Err
returns-in-Err c =
    IfSome_then (refusal_of c.in-Err.error) c.in-Err.ensures (λ r p.
    declared_line (world_of c.args.world.now) (context_tree c.args.around) (outer_tree c.args.item.now) (decl_tree c.in-Declared.decl) (Refused r)
    (ap outer_tree c.in-Declared.is ∙ outer_declared c.in-Declared.decl) (stops p))

pub returns-in-Declared : goal.returns-in-Declared
returns-in-Declared c =
    declared_line (world_of c.args.world.now) (context_tree c.args.around) (outer_tree c.args.item.now) (decl_tree c.in-Declared.decl)
    (Typed tt (world_of c.declaration.new.world)) (ap outer_tree c.in-Declared.is ∙ outer_declared c.in-Declared.decl) (goes_on c.in-Ok.ensures refl)

pub returns : goal.returns
returns c =
    let at = c.in-Function.pos in
    let words = specs_tree c.in-Function.specs in
    let body = blockitems_tree c.in-Function.body in
    let whole = ap outer_tree c.in-Function.is ∙ outer_function at c.in-Function.specs c.in-Function.declarator c.in-Function.brace c.in-Function.body
    ∙ ap (λ d. written.Function at words (declarator_tree d) c.in-Function.brace body) (sym c.deref.ensures) in
    subst (λ t. Answers (TypesOuter (world_of c.args.world.now) (context_tree c.args.around) t) (λ _. tt) (world_of c.function.new.world) c.function.result)
    (sym whole) c.function.ensures
