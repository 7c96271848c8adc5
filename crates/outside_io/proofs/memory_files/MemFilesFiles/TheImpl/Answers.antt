-- What the files in memory say of a read gives what all files say of one.
use Rattle.std.proofs.Common.{rules, ◌∙◌, ℕ, List}
use Rattle.outside_io.specs.Memory.{IsOpenIn}
use Rattle.outside_io.proofs.GivenBytes.{gives_more, given_front, given_all, if_ok_from}
use Rattle.outside_io.proofs.memory_files.MemFilesFiles.TheImpl.Goals as goal

pub read-tells : goal.read-tells
read-tells c =
    let stays : (n : List ℕ) → IsOpenIn c.args.self.now n → IsOpenIn c.new.self.now n = search rules in
    record {
      told = c.ensures.told;
      later = c.ensures.later;
      «open» = stays;
      count = search rules;
      given = if_ok_from c.result (λ k count bytes moves. gives_more c.args.self.now c.new.self.now k _ _ c.ensures.told count bytes moves) c.ensures.count c.ensures.bytes c.ensures.moved;
      kept = search rules;
      there = search rules;
      front = λ n b g is_open known given. given_front c.new.self.now n b g (stays n is_open) (c.ensures.told n ∙ known) given;
      end = if_ok_from c.result (λ k count bytes moves none some n b g. given_all c.args.self.now c.new.self.now k _ c.ensures.told count moves none some n b g) c.ensures.count c.ensures.bytes c.ensures.moved;
      failed = search rules;
    }
