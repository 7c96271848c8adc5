use Rattle.mem_temps.proofs.Showed.{shows_number}
use Rattle.mem_temps.proofs.shows.shown_number.Goals as goal

pub returns : goal.returns
returns c = shows_number c.args.r c.lower_end.result c.upper_end.result c.lower_end.ensures.moderate c.upper_end.ensures.moderate c.lower_end.ensures.kept
    c.upper_end.ensures.kept c.lower_end.ensures.below c.upper_end.ensures.above c.lower_end.ensures.least c.upper_end.ensures.greatest
