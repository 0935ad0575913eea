-- What comes of closing a post, and what is handed back with one that was not closed.
use Rattle.std.specs.Prelude.{◌≡◌, ◌<◌, ◌+◌, List, length, map, take}
use Rattle.std.specs.List.{All}
use Rattle.disk_model.specs.declared.Disk.{Ghosts}
use Rattle.flusher.specs.Post.{View, sums_in, total}
use Rattle.flusher.specs.Shares.{FeederCount, IntakeCount}
use Rattle.flusher.specs.declared.closing.CloseFault.{CloseFault}
use Rattle.flusher.specs.declared.closing.CloseFault.TheVariants.{NoMemory, Stranger}
use Rattle.flusher.specs.declared.closing.ClosedPeer.{ClosedPeer}
use Rattle.flusher.specs.declared.closing.ClosedPost.{ClosedPost}
use Rattle.flusher.specs.declared.naming.Naming.{Ghosts as NamingGhosts}
use Rattle.flusher.specs.declared.stray.Stray.{Stray}
use Rattle.note_queue.specs.Folds.{Folds}

module _ {D : Type 0} {g : Ghosts D} where
  -- A post is closed with the shares of all its workers: by what these have counted, and by nothing else, the counts of
  -- its stations have risen since it was made.
  pub record IsClosed (post : View) (intake : IntakeCount) (first second third : FeederCount)
      (closed : ClosedPost D g) : Type 0 where
    pub taken : (total (map sums_in closed.peers.items)).taken ≡ (total post.opened).taken + intake.taken
    pub answered : (total (map sums_in closed.peers.items)).answered
        ≡ (total post.opened).answered + (first.answered + second.answered + third.answered)
    pub dropped : (total (map sums_in closed.peers.items)).dropped
        ≡ (total post.opened).dropped + (first.dropped + second.dropped + third.dropped)
    pub sums : (closed.sums.taken ≡ intake.taken)
        × (closed.sums.answered ≡ first.answered + second.answered + third.answered)
        × (closed.sums.dropped ≡ first.dropped + second.dropped + third.dropped)
    pub names : (map (λ (p : ClosedPeer D g). p.name) closed.peers.items ≡ post.names)
        × (map (λ (p : ClosedPeer D g). p.opened) closed.peers.items ≡ post.opened)
    -- of each peer the tape's ledger, followed by the notes on their way to it, has the shape of the front's
    pub folds : All (λ (p : ClosedPeer D g). Folds p.ends) closed.peers.items

module _ {D : Type 0} {g : Ghosts D} {N : Type 0} {n : NamingGhosts N} where
  -- A peer of the post is not closed, because its locks held another peer's front or tape. Those before it are closed.
  pub record ClosesUpTo (post : View) (closed : List (ClosedPeer D g)) (stray : Stray D N g n) : Type 0 where
    pub mismatch : (stray.front.seat.place ≡ stray.place) × (stray.tape.place ≡ stray.place) → ⊥
    pub within : stray.place < length post.names
    pub names : map (λ (p : ClosedPeer D g). p.name) closed ≡ take stray.place post.names
    pub opened : map (λ (p : ClosedPeer D g). p.opened) closed ≡ take stray.place post.opened
    pub folds : All (λ (p : ClosedPeer D g). Folds p.ends) closed

  -- if memory was refused, the post and the four shares are as they were given
  abbrev pub HandsBack : View → IntakeCount → (first second third : FeederCount) → CloseFault D N g n → Type 0
  HandsBack post intake first second third (NoMemory all) =
      (all.post ≡ post) × (all.intake ≡ intake) × (all.first ≡ first) × (all.second ≡ second) × (all.third ≡ third)
  HandsBack post intake first second third (Stranger closed stray) = ClosesUpTo post closed.items stray
