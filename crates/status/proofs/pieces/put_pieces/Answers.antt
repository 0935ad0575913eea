use Rattle.status.specs.Pieces.{piece_text}
use Rattle.status.proofs.Loops.{prefix_at, whole_at}
use Rattle.status.proofs.Parts.{on_err}
use Rattle.status.proofs.pieces.put_pieces.Goals as goal

pub returns-in_err-put_piece-clause-prefix : goal.returns-in_err-put_piece-clause-prefix
returns-in_err-put_piece-clause-prefix g c =
    let contents = g.W.Write.contents in
    on_err c.from_residual.result (
    prefix_at (contents c.args.out.now) (contents c.loop-piece.out) (contents c.put_piece.new.out)
    piece_text c.args.pieces.now c.loop-piece.piece-index _ c.loop-piece-test.true
    c.loop-piece.invariant c.in_err-put_piece.ensures.prefix)

pub loop-piece-preserved : goal.loop-piece-preserved
loop-piece-preserved g c =
    let contents = g.W.Write.contents in
    whole_at (contents c.args.out.now) (contents c.loop-piece.out) (contents c.put_piece.new.out)
    piece_text c.args.pieces.now c.loop-piece.piece-index _ c.loop-piece-test.true
    c.loop-piece.invariant c.in_ok-put_piece.ensures.whole
