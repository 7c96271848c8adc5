use Rattle.std.proofs.Common.{rules, arith, ◌≡◌, true}
use Rattle.std.specs.List.{list_all}
use Rattle.headline_words.specs.Command.{is_digit}
use Rattle.headline_words.proofs.NumberLemmas.{none_number}
use Rattle.headline_words.proofs.numbers.number.Goals as goal

pub returns-in_default : goal.returns-in_default
returns-in_default c =
    let all : list_all is_digit c.args.text.now ≡ true = search rules in
    none_number c.args.most c.args.text.now (omega (arith, c.ranges.most.fits)) all c.in_default.ensures.value.0
