use Rattle.sessions.proofs.Pieces.{runs_in_pieces_lem}
use Rattle.sessions.proofs.laws.runs_in_pieces.Goals as goal

pub returns : goal.returns
returns c = runs_in_pieces_lem
