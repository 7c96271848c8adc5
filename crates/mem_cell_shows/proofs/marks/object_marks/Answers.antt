use Rattle.mem_cell_shows.proofs.marks.object_marks.Goals as goal
