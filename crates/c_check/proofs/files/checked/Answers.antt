use Rattle.std.proofs.Common.{refl, ap, subst, map}
use Rattle.std.proofs.lemmas.Option.{IfSome_then}
use Rattle.c_syntax_written.specs.WrittenFile.{file_tree, outer_tree}
use Rattle.c_typing.specs.Context as contexts
use Rattle.c_typing.specs.World.{World, Typed, Refused}
use Rattle.c_typing.specs.File.{TypesOuters, Program}
use Rattle.c_check_jumps.specs.ContextViews.{context_tree}
use Rattle.c_check_names.specs.Views.{refusal_of}
use Rattle.c_check_names.specs.Worlds.{world_of}
use Rattle.c_check.proofs.files.checked.Goals as goal

pub returns-in-Err : goal.returns-in-Err
returns-in-Err c =
    let file = file_tree c.args.file in
    let around = c.of_file-around.ensures file c.in_ok-names.ensures.objects c.in_ok-names.ensures.functions in
    IfSome_then (refusal_of c.in-Err.error) c.in-Err.ensures (λ r p. record {
      last = Refused r;
      types = subst (λ (w : World). TypesOuters w (contexts.file_context file) file.outers (Refused r)) c.new-world.ensures
          (subst (λ (a : contexts.Context). TypesOuters (world_of c.new-world.result) a file.outers (Refused r)) around
          (subst (λ items. TypesOuters (world_of c.new-world.result) (context_tree c.of_file-around.result) (map outer_tree items) (Refused r)) c.into_vec.ensures p));
      is = refl;
    })

pub returns : goal.returns
returns c =
    let file = file_tree c.args.file in
    let around = c.of_file-around.ensures file c.in_ok-names.ensures.objects c.in_ok-names.ensures.functions in
    let last = Typed tt (world_of c.outers.new.world) in
    record {
      last = last;
      types = subst (λ (w : World). TypesOuters w (contexts.file_context file) file.outers last) c.new-world.ensures
          (subst (λ (a : contexts.Context). TypesOuters (world_of c.new-world.result) a file.outers last) around
          (subst (λ items. TypesOuters (world_of c.new-world.result) (context_tree c.of_file-around.result) (map outer_tree items) last) c.into_vec.ensures c.in-Ok.ensures));
      is = ap Program c.in_ok-program.ensures;
    }
