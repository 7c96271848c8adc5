use Rattle.c_syntax.specs.Program.{TProgramTree, tprogram_tree}
use Rattle.headline.proofs.ReadLemmas.{one_read, ready}
use Rattle.headline.proofs.program.planned.Goals as goal

pub returns : goal.returns
returns c =
    let p : TProgramTree = tprogram_tree c.args.program in
    λ bytes small typed. (
      one_read c.one_program.ensures c.program_nor_refused.ensures bytes p small (typed, c.requires.admitted),
      ready c.typed_is_well_typed.ensures c.sites_of_texts_agree.ensures bytes p c.args.plan typed c.requires.plan,
    )
