use Rattle.flusher.proofs.post.Post.end.Goals as goal

-- what is let go is as it was handed back
pub invariant_of-stray : goal.invariant_of-stray
invariant_of-stray g c =
    let side = c.in-Err-Stranger.stray.tape.side in
    record { role = side.role; last = side.last; ledger = side.ledger; owner = side.owner }
