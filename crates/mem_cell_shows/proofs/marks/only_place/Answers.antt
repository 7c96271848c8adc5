use Rattle.mem_cell_shows.proofs.marks.only_place.Goals as goal
