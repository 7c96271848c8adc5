use Rattle.std.proofs.Common.{ap, sym, ◌∙◌}
use Rattle.std.specs.Prelude.{position}
use Rattle.std.specs.Str.{bytes_eq}
use Rattle.c_check_jumps.proofs.Finding.{place_is}
use Rattle.c_check_jumps.proofs.name_set.NameSet.place.Goals as goal

pub returns-in-None : goal.returns-in-None
returns-in-None c =
    sym c.in-None.is ∙ c.place_from.ensures.place ∙ place_is c.args.name.now _ ∙ ap (position (λ n. bytes_eq n c.args.name.now)) c.self.view_is

pub returns-in-Some : goal.returns-in-Some
returns-in-Some c =
    sym c.in-Some.is ∙ c.place_from.ensures.place ∙ place_is c.args.name.now _ ∙ ap (position (λ n. bytes_eq n c.args.name.now)) c.self.view_is
