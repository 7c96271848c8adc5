use Rattle.c_typing_laws.proofs.FilePieces as lemmas
use Rattle.c_typing_laws.proofs.piece_laws.pieces_are_static.Goals as goal

pub returns : goal.returns
returns c = lemmas.pieces_are_static
