use Rattle.std.proofs.Common.{rules, ◌++◌}
use Rattle.num_api.proofs.PutOut.{adds_two, tells_two}
use Rattle.channels.proofs.delivery.put_out.Goals as goal

pub returns-clause-kept : goal.returns-clause-kept
returns-clause-kept c =
    adds_two c.args.out.now (c.args.out.now ++ c.args.first) c.from_vec.result c.args.first c.args.second (search rules) (search rules) c.requires.first c.requires.second

pub returns-clause-told : goal.returns-clause-told
returns-clause-told c = λ v h k.
    tells_two v c.args.out.now (c.args.out.now ++ c.args.first) c.from_vec.result c.args.first c.args.second (search rules) (search rules) h k
