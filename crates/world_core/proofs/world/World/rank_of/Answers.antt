-- The names of the peers are those in the life that the world stands for.
use Rattle.std.proofs.Common.{List, ℕ, map, sym, ap, ◌∙◌}
use Rattle.world_core.specs.Turn.{names_at}
use Rattle.world_core.specs.declared.peer.StoppedPeer.{StoppedPeer}
use Rattle.world_core.proofs.NamesOverRuns.{names_stage}
use Rattle.world_core.proofs.PeerRanks.{open_rank, past_rank, rank_in, stopped_rank}
use Rattle.world_core.proofs.world.World.rank_of.Goals as goal

pub returns-in-Running : goal.returns-in-Running
returns-in-Running c = λ life stands.
    let name = c.args.name.now in
    c.rank_of.ensures ∙ open_rank c.in-Running.stations.peers.items name
    ∙ ap (λ (names : List (List ℕ)). rank_in names name)
    (sym (ap names_at c.in-Running.is) ∙ names_stage c.args.self.now life stands)
    ∙ sym (past_rank life.past name)

pub returns-in-Stopped : goal.returns-in-Stopped
returns-in-Stopped c = λ life stands.
    let name = c.args.name.now in
    c.rank_among.ensures ∙ stopped_rank c.deref.result.now name
    ∙ ap (λ (peers : List StoppedPeer). rank_in (map (λ (peer : StoppedPeer). peer.conf.name) peers) name)
    c.deref.ensures.value
    ∙ ap (λ (names : List (List ℕ)). rank_in names name)
    (sym (ap names_at c.in-Stopped.is) ∙ names_stage c.args.self.now life stands)
    ∙ sym (past_rank life.past name)
