use Rattle.std.proofs.Common.{ap, sym, ◌∙◌}
use Rattle.std.specs.Prelude.{slice_get}
use Rattle.std.specs.Option.{option_copied}
use Rattle.c_check_names.proofs.Places.{got}
use Rattle.c_check_names.proofs.Members.{place_told}
use Rattle.c_check_names.proofs.structs.Structs.place_of.Goals as goal

pub returns-in-Some : goal.returns-in-Some
returns-in-Some c =
    let structs = c.args.self.now in
    let there = sym (ap option_copied c.in-Some.is) ∙ got c.deref.result.now c.args.n c.get.result c.get.ensures.lookup.3 ∙ ap (λ items. slice_get items c.args.n) (c.deref.ensures.value ∙ structs.indexed) in
    c.first_from.ensures ∙ place_told c.args.name.now structs.defs c.args.n c.in-Some.index.now there
