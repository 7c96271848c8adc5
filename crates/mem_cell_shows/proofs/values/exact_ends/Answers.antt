use Rattle.mem_cell_shows.proofs.values.exact_ends.Goals as goal

pub returns : goal.returns
returns g c = record {
  holds = λ v n a h. let r = c.in_ok-range.ensures.holds v n a h in c.of.ensures.holds n r.0 r.1;
  proper = c.of.ensures.proper;
}
